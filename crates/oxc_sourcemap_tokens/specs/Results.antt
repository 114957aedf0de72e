-- The words of clauses about calls that may fail, and about what is borrowed. `result` is what a call returned; `defined` is what
-- a definition makes of the same input: a value, or the first error.
use Rattle.std.specs.Prelude.{◌≡◌, ◌≢◌, ◌++◌, ℕ, List, map, Option, option_map, Some, Result, Ok}
use Rattle.std.specs.Prelude.{Err, IfOk, IfErr, OnOk, String, string_bytes}
use Rattle.std.specs.Borrow.{Bor}
use Rattle.std.specs.declared.alloc.Global.{Global}
use Rattle.oxc_sourcemap_tokens.specs.declared.errors.error.Error.{Error}
use Rattle.oxc_sourcemap_tokens.specs.declared.errors.error.Error.TheVariants.{OutOfMemory}

-- The call gives what is defined: its value is the defined one, as `view` sees it, and its error is the defined one.
abbrev pub Gives : {A B E : Type 0} → (A → B) → Result A E → Result B E → Type 0
Gives view result defined = IfOk result (λ x. defined ≡ Ok (view x)) × IfErr result (λ e. defined ≡ Err e)

-- The call gives what is defined, or fails with this other error.
abbrev pub GivesBut : {A B E : Type 0} → E → (A → B) → Result A E → Result B E → Type 0
GivesBut other view result defined =
    IfOk result (λ x. defined ≡ Ok (view x)) × IfErr result (λ e. (e ≢ other) → defined ≡ Err e)

-- The call gives what is defined, or lacks memory.
abbrev pub Answers : {A B : Type 0} → (A → B) → Result A Error → Result B Error → Type 0
Answers view result defined = GivesBut OutOfMemory view result defined

-- If the call fails, it is for want of memory.
abbrev pub OnlyMemory : {A : Type 0} → Result A Error → Type 0
OnlyMemory result = IfErr result (λ e. e ≡ OutOfMemory)

-- If the call fails, it is with this fault or for want of memory.
abbrev pub FailsBy : {A : Type 0} → Option Error → Result A Error → Type 0
FailsBy fault result = IfErr result (λ e. (e ≢ OutOfMemory) → fault ≡ Some e)

-- Where there is a fault, the call fails with it.
abbrev pub Reports : {A : Type 0} → Option Error → Result A Error → Type 0
Reports fault result = (e : Error) → fault ≡ Some e → result ≡ Err e

-- Where the call succeeds, it has appended this text.
abbrev pub Pushes : {A E : Type 0} → Result A E → String Global → String Global → List ℕ → Type 0
Pushes result old new text = OnOk result (string_bytes new ≡ string_bytes old ++ text)

-- the items behind borrows
abbrev pub lent_items : {A : Type 0} → List (Bor A) → List A
lent_items items = map (λ item. item.now) items

-- the item behind a borrow that may be there
abbrev pub lent_item : {A : Type 0} → Option (Bor A) → Option A
lent_item item = option_map (λ found. found.now) item
