-- Lists of a handle's map in the arrays of a caller.
use Rattle.std.specs.Prelude.{◌≡◌, List, Option, Result, Ok, Err, MatchOption, length, take, drop}
use Rattle.std.specs.Prelude.{◌++◌, ℕ, map, option_map}
use Rattle.std.specs.declared.alloc.Global.{Global}
use Rattle.std.specs.declared.borrow.CowStr.{CowStr}
use Rattle.std.specs.Cow.{cow_str_bytes}
use Rattle.std.specs.List.{AllZip}
use Rattle.oxc_sourcemap_parts.specs.Record.{Text, MapRecord}
use Rattle.oxc_sourcemap_c.specs.declared.numbers.call_error.CallError.{CallError}
use Rattle.oxc_sourcemap_c.specs.declared.numbers.call_error.CallError.TheVariants.{NullHandle}
use Rattle.oxc_sourcemap_c.specs.declared.numbers.call_error.CallError.TheVariants.{NoEntry}
use Rattle.oxc_sourcemap_c.specs.declared.holding.held.Held.{Held}
use Rattle.oxc_sourcemap_c.specs.Holding.{held_map}

-- an array, with as many entries of a list at its beginning as there is room for
abbrev pub filled : {A : Type 0} → List A → List A → List A
filled list old = take (length old) list ++ drop (length list) old

-- the same, where the entries are known by a relation alone
pub record AreFilled {A B : Type 0} (Is : A → B → Type 0) (list : List B) (old new : List A) : Type 0 where
  pub entries : AllZip Is (take (length list) new) (take (length old) list)
  pub others : drop (length list) new ≡ drop (length list) old

-- a list of a handle's map is written, and the number of its entries told; nothing is written without a map
abbrev pub IsListed : {A : Type 0} → Result ℕ CallError → Option Held → (MapRecord → List A) → List A → List A → Type 0
IsListed answer held list old new =
    MatchOption (held_map held) ((answer ≡ Err NullHandle) × (new ≡ old)) (λ m. (answer ≡ Ok (length (list m))) × (new ≡ filled (list m) old))

-- the same, where the entries are known by a relation alone
abbrev pub IsListedBy : {A B : Type 0} → (A → B → Type 0) → Result ℕ CallError → Option Held → (MapRecord → List B) → List A → List A → Type 0
IsListedBy Is answer held list old new =
    MatchOption (held_map held) ((answer ≡ Err NullHandle) × (new ≡ old)) (λ m. (answer ≡ Ok (length (list m))) × AreFilled Is (list m) old new)

-- the same for a list that a map may lack
abbrev pub IsOptionListed : {A : Type 0} → Result ℕ CallError → Option Held → (MapRecord → Option (List A)) → List A → List A → Type 0
IsOptionListed answer held list old new =
    MatchOption (held_map held) ((answer ≡ Err NullHandle) × (new ≡ old))
    (λ m. MatchOption (list m) ((answer ≡ Err NoEntry) × (new ≡ old)) (λ xs. (answer ≡ Ok (length xs)) × (new ≡ filled xs old)))

-- contents, as they are stored
abbrev pub cow_options : List (Option (CowStr Global)) → List (Option Text)
cow_options contents = map (option_map cow_str_bytes) contents
