-- The token that a lookup finds is that of the index that it finds.
use Rattle.std.proofs.Common.{◌≡◌, ℕ, suc, ◌+◌, Bool, true, false, List, [], ◌∷◌, map, filter}
use Rattle.std.proofs.Common.{slice_get, nat_le, ◌==◌}
use Rattle.std.proofs.Common.{Option, Some, None, option_map, IfSome, refl, sym, ap, ◌∙◌, arith}
use Rattle.std.proofs.Common.{if◌then◌else◌}
use Rattle.std.specs.Option.{option_and_then, option_or}
use Rattle.std.specs.List.{last_or}
use Rattle.oxc_sourcemap_tokens.specs.Token.{TokenRecord, last}
use Rattle.oxc_sourcemap_parts.specs.Sorted.{token_line, token_column}
use Rattle.oxc_sourcemap_lookup.specs.Lookup.{on_line, at, clamped_at, at_or_after, first, greatest}
use Rattle.oxc_sourcemap_lookup.specs.Lookup.{least, not_past, not_before, numbered, numbered_from}
use Rattle.oxc_sourcemap_lookup.specs.Lookup.{numbered_line, numbered_column}
use Rattle.oxc_sourcemap_lookup.specs.Lookup.{token_for, clamped_token_for, token_after, index_for}
use Rattle.oxc_sourcemap_lookup.specs.Lookup.{clamped_index_for, index_after}
use Rattle.oxc_sourcemap_lookup.specs.Biased.{index_by, token_by}
use Rattle.oxc_sourcemap_lookup.specs.declared.bias.Bias.{Bias}
use Rattle.oxc_sourcemap_lookup.specs.declared.bias.Bias.TheVariants.{Before, Clamped, After}
use Rattle.oxc_sourcemap_lookup.proofs.Picks.{at-map, clamped_at-map, at_or_after-map}

-- all items are like this
abbrev pub AreAll : {A : Type 0} → (A → Type 0) → List A → Type 0
AreAll P [] = Unit {0}
AreAll P (x ∷ xs) = P x × AreAll P xs

filter-all-by : {A : Type 0} (P : A → Type 0) (f : A → Bool) (x : A) (xs : List A) (b : Bool) → f x ≡ b → P x → AreAll P (filter f xs) → AreAll P (filter f (x ∷ xs))
filter-all-by P f x xs true e is more = rw e (is, more)
filter-all-by P f x xs false e is more = rw e more

filter-all : {A : Type 0} (P : A → Type 0) (f : A → Bool) (xs : List A) → AreAll P xs → AreAll P (filter f xs)
filter-all P f [] are = tt
filter-all P f (x ∷ xs) are = filter-all-by P f x xs (f x) refl are.0 (filter-all P f xs are.1)

first-all : {A : Type 0} (P : A → Type 0) (xs : List A) → AreAll P xs → IfSome (first xs) P
first-all P [] are = tt
first-all P (x ∷ xs) are = are.0

last_or-all : {A : Type 0} (P : A → Type 0) (o : Option A) (xs : List A) → IfSome o P → AreAll P xs → IfSome (last_or o xs) P
last_or-all P o [] is are = is
last_or-all P o (x ∷ xs) is are = last_or-all P (Some x) xs are.0 are.1

last-all : {A : Type 0} (P : A → Type 0) (xs : List A) → AreAll P xs → IfSome (last xs) P
last-all P xs are = last_or-all P None xs tt are

chosen-all : {A : Type 0} (P : A → Type 0) (b : Bool) (o p : Option A) → IfSome o P → IfSome p P → IfSome (if b then o else p) P
chosen-all P true o p x y = x
chosen-all P false o p x y = y

or-all : {A : Type 0} (P : A → Type 0) (o p : Option A) → IfSome o P → IfSome p P → IfSome (option_or o p) P
or-all P None p x y = y
or-all P (Some a) p x y = x

at-all : {A : Type 0} (P : A → Type 0) (column : A → ℕ) (xs : List A) (col : ℕ) → AreAll P xs → IfSome (at column xs col) P
at-all P column xs col are =
    let near = filter-all P (λ x. column x == greatest column (not_past column col xs)) (not_past column col xs) (filter-all P (λ x. nat_le (column x) col) xs are) in
    chosen-all P (greatest column (not_past column col xs) == col) _ _ (first-all P _ near) (last-all P _ near)

clamped-all : {A : Type 0} (P : A → Type 0) (column : A → ℕ) (xs : List A) (col : ℕ) → AreAll P xs → IfSome (clamped_at column xs col) P
clamped-all P column xs col are = or-all P (at column xs col) (first xs) (at-all P column xs col are) (first-all P xs are)

after-all : {A : Type 0} (P : A → Type 0) (column : A → ℕ) (xs : List A) (col : ℕ) → AreAll P xs → IfSome (at_or_after column xs col) P
after-all P column xs col are =
    let near = filter-all P (λ x. column x == least column (not_before column col xs)) (not_before column col xs) (filter-all P (λ x. nat_le col (column x)) xs are) in
    chosen-all P (least column (not_before column col xs) == col) _ _ (last-all P _ near) (first-all P _ near)

-- a numbered token stands at its number
abbrev StandsAt : List TokenRecord → ℕ × TokenRecord → Type 0
StandsAt ts p = slice_get ts p.0 ≡ Some p.1

stand-shifted : (t : TokenRecord) (ts : List TokenRecord) (i : ℕ) (us : List TokenRecord) → AreAll (StandsAt ts) (numbered_from i us) → AreAll (StandsAt (t ∷ ts)) (numbered_from (i + 1) us)
stand-shifted t ts i [] are = tt
stand-shifted t ts i (u ∷ us) are =
    let next : i + 1 ≡ suc i = omega arith in
    (ap (slice_get (t ∷ ts)) next ∙ are.0, stand-shifted t ts (i + 1) us are.1)

stand : (ts : List TokenRecord) → AreAll (StandsAt ts) (numbered ts)
stand [] = tt
stand (t ∷ ts) = (refl, stand-shifted t ts 0 ts (stand ts))

on_line-by : (b : Bool) (n i : ℕ) (t : TokenRecord) (ts : List TokenRecord) → (t.dst_line == n) ≡ b → on_line token_line n ts ≡ map (λ (p : ℕ × TokenRecord). p.1) (on_line numbered_line n (numbered_from (i + 1) ts))
    → on_line token_line n (t ∷ ts) ≡ map (λ (p : ℕ × TokenRecord). p.1) (on_line numbered_line n (numbered_from i (t ∷ ts)))
on_line-by true n i t ts e more = rw e (ap (λ xs. t ∷ xs) more)
on_line-by false n i t ts e more = rw e more

on_line-numbers : (n i : ℕ) (ts : List TokenRecord) → on_line token_line n ts ≡ map (λ (p : ℕ × TokenRecord). p.1) (on_line numbered_line n (numbered_from i ts))
on_line-numbers n i [] = refl
on_line-numbers n i (t ∷ ts) = on_line-by (t.dst_line == n) n i t ts refl (on_line-numbers n (i + 1) ts)

-- what is found by number is what stands there
by-number : (ts : List TokenRecord) (o : Option (ℕ × TokenRecord)) → IfSome o (StandsAt ts)
    → option_map (λ (p : ℕ × TokenRecord). p.1) o ≡ option_and_then (slice_get ts) (option_map (λ (p : ℕ × TokenRecord). p.0) o)
by-number ts None is = refl
by-number ts (Some p) is = sym is

pub found-token : (ts : List TokenRecord) (n col : ℕ) → token_for ts n col ≡ option_and_then (slice_get ts) (index_for ts n col)
found-token ts n col =
    let xs = on_line numbered_line n (numbered ts) in
    ap (λ us. at token_column us col) (on_line-numbers n 0 ts) ∙ at-map (λ (p : ℕ × TokenRecord). p.1) token_column xs col
    ∙ by-number ts (at numbered_column xs col) (at-all (StandsAt ts) numbered_column xs col (filter-all (StandsAt ts) (λ p. numbered_line p == n) (numbered ts) (stand ts)))

pub found-token-clamped : (ts : List TokenRecord) (n col : ℕ) → clamped_token_for ts n col ≡ option_and_then (slice_get ts) (clamped_index_for ts n col)
found-token-clamped ts n col =
    let xs = on_line numbered_line n (numbered ts) in
    ap (λ us. clamped_at token_column us col) (on_line-numbers n 0 ts) ∙ clamped_at-map (λ (p : ℕ × TokenRecord). p.1) token_column xs col
    ∙ by-number ts (clamped_at numbered_column xs col) (clamped-all (StandsAt ts) numbered_column xs col (filter-all (StandsAt ts) (λ p. numbered_line p == n) (numbered ts) (stand ts)))

pub found-token-after : (ts : List TokenRecord) (n col : ℕ) → token_after ts n col ≡ option_and_then (slice_get ts) (index_after ts n col)
found-token-after ts n col =
    let xs = on_line numbered_line n (numbered ts) in
    ap (λ us. at_or_after token_column us col) (on_line-numbers n 0 ts) ∙ at_or_after-map (λ (p : ℕ × TokenRecord). p.1) token_column xs col
    ∙ by-number ts (at_or_after numbered_column xs col) (after-all (StandsAt ts) numbered_column xs col (filter-all (StandsAt ts) (λ p. numbered_line p == n) (numbered ts) (stand ts)))

pub found-token-by : (bias : Bias) (ts : List TokenRecord) (n col : ℕ) → token_by bias ts n col ≡ option_and_then (slice_get ts) (index_by bias ts n col)
found-token-by Before ts n col = found-token ts n col
found-token-by Clamped ts n col = found-token-clamped ts n col
found-token-by After ts n col = found-token-after ts n col
