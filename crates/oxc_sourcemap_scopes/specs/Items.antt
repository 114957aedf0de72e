-- What each item of a `scopes` text adds to what was read before it.
use Rattle.std.specs.Prelude.{◌≡◌, ℕ, ◌+◌, ◌-◌, ◌/◌, ◌%◌, ◌<◌, ◌==◌, nat_lt, min, Bool, false}
use Rattle.std.specs.Prelude.{List, [], ◌∷◌, ◌++◌, length, set, slice_get, get_or, Option, Some}
use Rattle.std.specs.Prelude.{drop, true}
use Rattle.std.specs.Prelude.{None, unwrap_or}
use Rattle.std.specs.Prelude.{Result, Ok, Err, IfSome, if◌then◌else◌, is_some}
use Rattle.oxc_sourcemap_tokens.specs.declared.position.Position.{Position}
use Rattle.oxc_sourcemap_scopes.specs.declared.errors.ScopesError.{ScopesError}
use Rattle.oxc_sourcemap_scopes.specs.declared.errors.ScopesFaultKind.TheVariants.{TooLarge}
use Rattle.oxc_sourcemap_scopes.specs.declared.errors.ScopesFaultKind.TheVariants.{MissingNumber}
use Rattle.oxc_sourcemap_scopes.specs.declared.errors.ScopesFaultKind.TheVariants.{BadIndex}
use Rattle.oxc_sourcemap_scopes.specs.declared.errors.ScopesFaultKind.TheVariants.{NothingOpen}
use Rattle.oxc_sourcemap_scopes.specs.declared.errors.ScopesFaultKind.TheVariants.{NotClosed}
use Rattle.oxc_sourcemap_scopes.specs.declared.errors.ScopesFaultKind.TheVariants.{TooDeep}
use Rattle.oxc_sourcemap_scopes.specs.declared.errors.ScopesFaultKind.TheVariants.{SplitTwice}
use Rattle.oxc_sourcemap_scopes.specs.declared.scopes.ScopeInfo.{ScopeInfo}
use Rattle.oxc_sourcemap_scopes.specs.declared.scopes.RangeInfo.{RangeInfo}
use Rattle.oxc_sourcemap_scopes.specs.declared.scopes.Value.{Value}
use Rattle.oxc_sourcemap_scopes.specs.declared.scopes.ValuePiece.{ValuePiece}
use Rattle.oxc_sourcemap_scopes.specs.Faults.{error_at, ◌>>=◌}
use Rattle.oxc_sourcemap_scopes.specs.Numbers.{before_others}
use Rattle.oxc_sourcemap_scopes.specs.Trees.{Grown, nothing_grown, started, ended, at_next_source}
use Rattle.oxc_sourcemap_scopes.specs.Trees.{span_at}

-- What the items so far say, and the name, the kind, the variable and the definition that the next ones are relative to.
pub record State : Type 0 where
  pub scopes : Grown
  pub scope_infos : List ScopeInfo
  pub variables : List (List ℕ)
  pub ranges : Grown
  pub range_infos : List RangeInfo
  pub values : List (List Value)
  pub pieces : List (List ValuePiece)
  pub name : ℕ
  pub kind : ℕ
  pub variable : ℕ
  pub definition : ℕ

-- before the first item
abbrev pub nothing_read : State
nothing_read = record { scopes = nothing_grown; scope_infos = []; variables = []; ranges = nothing_grown; range_infos = []; values = []; pieces = []; name = 0; kind = 0; variable = 0; definition = 0 }

-- a definition leads to one of so many scopes
abbrev pub IsDefined : ℕ → RangeInfo → Type 0
IsDefined count info = IfSome info.definition (λ i. i < count)

-- Each scope and each range is told of once, and has a list of variables or of values; and definitions lead to scopes.
pub record IsState (s : State) : Type 0 where
  pub scopes : length s.scope_infos ≡ length s.scopes.spans
  pub variables : length s.variables ≡ length s.scopes.spans
  pub ranges : length s.range_infos ≡ length s.ranges.spans
  pub values : length s.values ≡ length s.ranges.spans
  pub pieces : length s.pieces ≡ length s.ranges.spans
  pub definitions : (i : ℕ) → (info : RangeInfo) → slice_get s.range_infos i ≡ Some info → IsDefined (length s.scopes.spans) info

-- a number of an item, which begins at this byte, by its index
abbrev pub number_at : ℕ → List ℕ → ℕ → Result ℕ ScopesError
number_at at ns k = elim (slice_get ns k) [ Some n ↦ Ok n | None ↦ Err (error_at MissingNumber at) ]

-- a number of an item where it has one by its flags, else 0
abbrev pub number_if : Bool → ℕ → List ℕ → ℕ → Result ℕ ScopesError
number_if is_there at ns k = if is_there then number_at at ns k else Ok 0

-- A position moved: to a later line, where the column counts from 0, or by columns on its line.
abbrev pub moved : ℕ → Position → ℕ → ℕ → Result Position ScopesError
moved at p line column =
    let here : Position = record { line = p.line + line; column = if line == 0 then p.column + column else column } in
    if nat_lt 4294967295 here.line then Err (error_at TooLarge at)
    else if nat_lt 4294967295 here.column then Err (error_at TooLarge at)
    else Ok here

-- An index moved by a signed number: forward by its half, or back if it is odd. It has to be below the count, and at most 4294967294.
abbrev pub index_moved : ℕ → ℕ → ℕ → ℕ → Result ℕ ScopesError
index_moved at last raw count =
    let by = raw / 2 in
    if raw % 2 == 1 then (if nat_lt last by then Err (error_at BadIndex at) else if nat_lt (last - by) (min count 4294967295) then Ok (last - by) else Err (error_at BadIndex at))
    else (if nat_lt (last + by) (min count 4294967295) then Ok (last + by) else Err (error_at BadIndex at))

-- the index that an item has by its flags, relative to the last one
abbrev pub index_if : Bool → ℕ → List ℕ → ℕ → ℕ → ℕ → Result (Option ℕ) ScopesError
index_if is_there at ns k last count =
    if is_there then (number_at at ns k >>= λ raw. index_moved at last raw count >>= λ i. Ok (Some i)) else Ok None

-- how many spans are open, where one more may be
abbrev pub room_in : ℕ → Grown → Result ℕ ScopesError
room_in at t = if nat_lt t.depth 1024 then Ok t.depth else Err (error_at TooDeep at)

-- flags of an item by their weights
abbrev pub has_flag : ℕ → ℕ → Bool
has_flag flags weight = flags / weight % 2 == 1

-- `B` FLAGS LINE COLUMN [NAME] [KIND]: a scope starts, within the innermost that is open
unfoldable pub scope_started : ℕ → ℕ → State → List ℕ → Result State ScopesError
scope_started names at s ns = do
  flags ← number_at at ns 1
  line ← number_at at ns 2
  column ← number_at at ns 3
  here ← moved at s.scopes.position line column
  name ← index_if (has_flag flags 1) at ns 4 s.name names
  kind ← index_if (has_flag flags 2) at ns (if has_flag flags 1 then 5 else 4) s.kind names
  room ← room_in at s.scopes
  Ok (record s {
    scopes = started s.scopes here;
    scope_infos = s.scope_infos ++ record { name = name; kind = kind; is_stack_frame = has_flag flags 4 } ∷ [];
    variables = s.variables ++ [] ∷ [];
    name = unwrap_or name s.name;
    kind = unwrap_or kind s.kind;
  })

-- after a scope, the next source begins if no scope is open
abbrev pub next_if_closed : ℕ → State → Result State ScopesError
next_if_closed at s =
    if is_some s.scopes.current then Ok s
    else if s.scopes.source == 4294967295 then Err (error_at TooLarge at)
    else Ok (record s { scopes = at_next_source s.scopes })

-- `A`: a source without scopes
unfoldable pub source_passed : ℕ → State → Result State ScopesError
source_passed at s = if is_some s.scopes.current then Err (error_at NotClosed at) else next_if_closed at s

-- `C` LINE COLUMN: the innermost scope that is open ends
unfoldable pub scope_ended : ℕ → State → List ℕ → Result State ScopesError
scope_ended at s ns = do
  line ← number_at at ns 1
  column ← number_at at ns 2
  here ← moved at s.scopes.position line column
  elim s.scopes.current [
    | None ↦ Err (error_at NothingOpen at)
    | Some i ↦ next_if_closed at (record s { scopes = ended s.scopes i here })
  ]

-- the indices to which signed numbers lead, each moved from the one before, the first from the last one
abbrev pub indices_moved : ℕ → ℕ → ℕ → List ℕ → Result (List ℕ) ScopesError
indices_moved at last count [] = Ok []
indices_moved at last count (raw ∷ more) = index_moved at last raw count >>= λ i. before_others i (indices_moved at i count more)

-- the last of these, else the one before them
abbrev pub last_of : ℕ → List ℕ → ℕ
last_of before [] = before
last_of before (i ∷ more) = last_of i more

-- a list with the indices that were read behind it, and the last one
abbrev pub with_indices : List ℕ → ℕ → Result (List ℕ) ScopesError → Result (List ℕ × ℕ) ScopesError
with_indices list before (Ok found) = Ok (list ++ found, last_of before found)
with_indices list before (Err e) = Err e

-- `D` NAME ..: variables of the innermost scope that is open
unfoldable pub variables_read : ℕ → ℕ → State → List ℕ → Result State ScopesError
variables_read names at s ns = elim s.scopes.current [
  | None ↦ Err (error_at NothingOpen at)
  | Some i ↦ (with_indices (get_or s.variables i []) s.variable (indices_moved at s.variable names (drop 1 ns)) >>= λ found.
      Ok (record s { variables = set s.variables i found.0; variable = found.1 }))
]

-- a value: none, or the expression that the name has whose index is one less
abbrev pub value_read : ℕ → ℕ → ℕ → Result Value ScopesError
value_read at count raw =
    if raw == 0 then Ok (record { expression = None; is_split = false })
    else if nat_lt (raw - 1) (min count 4294967295) then Ok (record { expression = Some (raw - 1); is_split = false })
    else Err (error_at BadIndex at)

-- the values that numbers stand for
abbrev pub all_values : ℕ → ℕ → List ℕ → Result (List Value) ScopesError
all_values at count [] = Ok []
all_values at count (raw ∷ more) = value_read at count raw >>= λ value. all_values at count more >>= λ values. Ok (value ∷ values)

-- a list with what was read behind it
abbrev pub with_others : {A : Type 0} → List A → Result (List A) ScopesError → Result (List A) ScopesError
with_others list (Ok found) = Ok (list ++ found)
with_others list (Err e) = Err e

-- `G` VALUE ..: values in the innermost range that is open, of the variables of its scope in their order
unfoldable pub values_read : ℕ → ℕ → State → List ℕ → Result State ScopesError
values_read names at s ns = elim s.ranges.current [
  | None ↦ Err (error_at NothingOpen at)
  | Some i ↦ (with_others (get_or s.values i []) (all_values at names (drop 1 ns)) >>= λ found. Ok (record s { values = set s.values i found }))
]

-- a value that has no sub-ranges yet
abbrev pub value_to_split : ℕ → List Value → ℕ → Result Value ScopesError
value_to_split at values k = elim (slice_get values k) [
  | None ↦ Err (error_at BadIndex at)
  | Some value ↦ if value.is_split then Err (error_at SplitTwice at) else Ok value
]

-- the piece of a variable's value that three numbers stand for, the piece before it or the range starting at this position
abbrev pub piece_read : ℕ → ℕ → Position → ℕ → ℕ → ℕ → ℕ → Result ValuePiece ScopesError
piece_read at variable from count line column raw =
    moved at from line column >>= λ here. value_read at count raw >>= λ value. Ok (record { variable = variable; start = here; expression = value.expression })

-- the piece that the first three of these numbers stand for
abbrev pub first_piece : ℕ → ℕ → Position → ℕ → List ℕ → Result ValuePiece ScopesError
first_piece at variable from count ns =
    number_at at ns 0 >>= λ line. number_at at ns 1 >>= λ column. number_at at ns 2 >>= λ raw. piece_read at variable from count line column raw

-- the pieces that numbers stand for, three each
abbrev pub all_pieces : ℕ → ℕ → Position → ℕ → List ℕ → Result (List ValuePiece) ScopesError
all_pieces at variable from count [] = Ok []
all_pieces at variable from count (line ∷ []) = Err (error_at MissingNumber at)
all_pieces at variable from count (line ∷ column ∷ []) = Err (error_at MissingNumber at)
all_pieces at variable from count (line ∷ column ∷ raw ∷ more) =
    piece_read at variable from count line column raw >>= λ piece. all_pieces at variable piece.start count more >>= λ pieces. Ok (piece ∷ pieces)

-- `H` VARIABLE [LINE COLUMN VALUE] ..: the value of a variable in the innermost range that is open is another from each of these
-- positions on
unfoldable pub sub_ranges_read : ℕ → ℕ → State → List ℕ → Result State ScopesError
sub_ranges_read names at s ns = elim s.ranges.current [
  | None ↦ Err (error_at NothingOpen at)
  | Some i ↦ (number_at at ns 1 >>= λ k. value_to_split at (get_or s.values i []) k >>= λ value.
      with_others (get_or s.pieces i []) (all_pieces at k (span_at s.ranges.spans i).start names (drop 2 ns)) >>= λ pieces.
      Ok (record s { values = set s.values i (set (get_or s.values i []) k (record value { is_split = true })); pieces = set s.pieces i pieces }))
]

-- `E` FLAGS [LINE] COLUMN [DEFINITION]: a range starts, within the innermost that is open
unfoldable pub range_started : ℕ → State → List ℕ → Result State ScopesError
range_started at s ns = do
  flags ← number_at at ns 1
  line ← number_if (has_flag flags 1) at ns 2
  column ← number_at at ns (if has_flag flags 1 then 3 else 2)
  here ← moved at s.ranges.position line column
  definition ← index_if (has_flag flags 2) at ns (if has_flag flags 1 then 4 else 3) s.definition (length s.scopes.spans)
  room ← room_in at s.ranges
  Ok (record s {
    ranges = started s.ranges here;
    range_infos = s.range_infos ++ record { definition = definition; is_stack_frame = has_flag flags 4; is_hidden = has_flag flags 8; call_site = None } ∷ [];
    values = s.values ++ [] ∷ [];
    pieces = s.pieces ++ [] ∷ [];
    definition = unwrap_or definition s.definition;
  })

-- where a range ends: in its column, or on a later line
unfoldable pub range_end : ℕ → Position → List ℕ → Result Position ScopesError
range_end at p ns = number_at at ns 1 >>= λ first.
    elim (slice_get ns 2) [ Some column ↦ moved at p first column | None ↦ moved at p 0 first ]

-- `F` [LINE] COLUMN: the innermost range that is open ends
unfoldable pub range_ended : ℕ → State → List ℕ → Result State ScopesError
range_ended at s ns = do
  here ← range_end at s.ranges.position ns
  elim s.ranges.current [
    | None ↦ Err (error_at NothingOpen at)
    | Some i ↦ Ok (record s { ranges = ended s.ranges i here })
  ]

-- what stands for a range past the end
abbrev pub no_range : RangeInfo
no_range = record { definition = None; is_stack_frame = false; is_hidden = false; call_site = None }

-- a number of 32 bits
abbrev pub small_at : ℕ → List ℕ → ℕ → Result ℕ ScopesError
small_at at ns k = number_at at ns k >>= λ n. if nat_lt 4294967295 n then Err (error_at TooLarge at) else Ok n

-- an index of a source, at most 4294967294
abbrev pub source_at : ℕ → List ℕ → ℕ → Result ℕ ScopesError
source_at at ns k = number_at at ns k >>= λ n. if nat_lt 4294967294 n then Err (error_at TooLarge at) else Ok n

-- `I` SOURCE LINE COLUMN: the innermost range that is open is the body of a call there
unfoldable pub call_site_read : ℕ → State → List ℕ → Result State ScopesError
call_site_read at s ns = do
  source ← source_at at ns 1
  line ← small_at at ns 2
  column ← small_at at ns 3
  elim s.ranges.current [
    | None ↦ Err (error_at NothingOpen at)
    | Some i ↦ Ok (record s { range_infos = set s.range_infos i (record (get_or s.range_infos i no_range) { call_site = Some (record { source = source; line = line; column = column }) }) })
  ]

-- What an item of these numbers adds, by its tag. Those of other tags are passed over.
unfoldable pub item_read : ℕ → ℕ → State → List ℕ → Result State ScopesError
item_read names at s ns = number_at at ns 0 >>= λ tag.
    if tag == 0 then source_passed at s
    else if tag == 1 then scope_started names at s ns
    else if tag == 2 then scope_ended at s ns
    else if tag == 3 then variables_read names at s ns
    else if tag == 4 then range_started at s ns
    else if tag == 5 then range_ended at s ns
    else if tag == 6 then values_read names at s ns
    else if tag == 7 then sub_ranges_read names at s ns
    else if tag == 8 then call_site_read at s ns
    else Ok s
