-- What lookups find is among the items, and so an index that is found belongs to the token that is.
use Rattle.std.proofs.Common.{◌≡◌, refl, sym, ap, ◌∙◌, ℕ, suc, ◌+◌, Bool, true, false, cond, List}
use Rattle.std.proofs.Common.{[], ◌∷◌, map, slice_get, Option, Some, None, option_map, nat_le, ◌==◌}
use Rattle.std.proofs.Common.{arith, if◌then◌else◌}
use Rattle.std.specs.List.{filter, last_or, AllByRecursion}
use Rattle.std.specs.Option.{option_or, option_and_then}
use Rattle.oxc_sourcemap_tokens.specs.Token.{TokenRecord}
use Rattle.oxc_sourcemap_parts.specs.Sorted.{token_line, token_column}
use Rattle.oxc_sourcemap_lookup.specs.Lookup.{first, at, clamped_at, at_or_after, greatest, least}
use Rattle.oxc_sourcemap_lookup.specs.Lookup.{not_past, not_before, in_column, on_line, token_after}
use Rattle.oxc_sourcemap_lookup.specs.Lookup.{pick, clamped_pick, pick_after, numbered_from}
use Rattle.oxc_sourcemap_lookup.specs.Lookup.{numbered, numbered_line, numbered_column, index_for}
use Rattle.oxc_sourcemap_lookup.specs.Lookup.{token_for, clamped_index_for, clamped_token_for}
use Rattle.oxc_sourcemap_lookup.specs.Lookup.{index_after, index_at_or_after, clamped_index_at}
use Rattle.oxc_sourcemap_lookup.specs.Biased.{index_by, token_by}
use Rattle.oxc_sourcemap_lookup.specs.declared.bias.Bias.{Bias}
use Rattle.oxc_sourcemap_lookup.specs.declared.bias.Bias.TheVariants.{Before, Clamped, After}
use Rattle.oxc_sourcemap_lookup.proofs.Picks.{pick-map, clamped_pick-map, pick_after-map}
use Rattle.oxc_sourcemap_lookup.proofs.Picks.{clamped_at-map, at_or_after-map}

module _ {A : Type 0} (P : A → Type 0) where
  -- an item that is found has the property
  abbrev pub Holds : Option A → Type 0
  Holds None = Unit {0}
  Holds (Some x) = P x

  all-kept-by : (b : Bool) (x : A) (xs : List A) → P x → AllByRecursion P xs → AllByRecursion P (cond b (x ∷ xs) xs)
  all-kept-by true x xs h all = (h, all)
  all-kept-by false x xs h all = all

  all-kept : (p : A → Bool) (xs : List A) → AllByRecursion P xs → AllByRecursion P (filter p xs)
  all-kept p [] all = tt
  all-kept p (x ∷ xs) all = all-kept-by (p x) x (filter p xs) all.0 (all-kept p xs all.1)

  holds-first : (xs : List A) → AllByRecursion P xs → Holds (first xs)
  holds-first [] all = tt
  holds-first (x ∷ xs) all = all.0

  holds-last_or : (o : Option A) (xs : List A) → Holds o → AllByRecursion P xs → Holds (last_or o xs)
  holds-last_or o [] h all = h
  holds-last_or o (x ∷ xs) h all = holds-last_or (Some x) xs all.0 all.1

  holds-either : (b : Bool) (o p : Option A) → Holds o → Holds p → Holds (if b then o else p)
  holds-either true o p h k = h
  holds-either false o p h k = k

  holds-or : (o p : Option A) → Holds o → Holds p → Holds (option_or o p)
  holds-or None p h k = k
  holds-or (Some x) p h k = h

  pub holds-at : (column : A → ℕ) (xs : List A) (col : ℕ) → AllByRecursion P xs → Holds (at column xs col)
  holds-at column xs col all =
      let rest = not_past column col xs in
      let best = greatest column rest in
      let near = all-kept (λ x. column x == best) rest (all-kept (λ x. nat_le (column x) col) xs all) in
      holds-either (best == col) _ _ (holds-first (in_column column best rest) near) (holds-last_or None (in_column column best rest) tt near)

  pub holds-clamped_at : (column : A → ℕ) (xs : List A) (col : ℕ) → AllByRecursion P xs → Holds (clamped_at column xs col)
  holds-clamped_at column xs col all = holds-or (at column xs col) (first xs) (holds-at column xs col all) (holds-first xs all)

  pub holds-after : (column : A → ℕ) (xs : List A) (col : ℕ) → AllByRecursion P xs → Holds (at_or_after column xs col)
  holds-after column xs col all =
      let rest = not_before column col xs in
      let best = least column rest in
      let near = all-kept (λ x. column x == best) rest (all-kept (λ x. nat_le col (column x)) xs all) in
      holds-either (best == col) _ _ (holds-last_or None (in_column column best rest) tt near) (holds-first (in_column column best rest) near)

  pub holds-on : (line : A → ℕ) (n : ℕ) (xs : List A) → AllByRecursion P xs → AllByRecursion P (on_line line n xs)
  holds-on line n xs all = all-kept (λ x. line x == n) xs all

-- a numbered token has the index of the token
abbrev pub IsNumbered : List TokenRecord → ℕ × TokenRecord → Type 0
IsNumbered ts p = slice_get ts p.0 ≡ Some p.1

numbered-all-from : (all : List TokenRecord) (i : ℕ) (ts : List TokenRecord) → ((k : ℕ) → slice_get all (i + k) ≡ slice_get ts k) → AllByRecursion (IsNumbered all) (numbered_from i ts)
numbered-all-from all i [] h = tt
numbered-all-from all i (t ∷ ts) h =
    let here : i ≡ i + 0 = omega arith in (
      ap (slice_get all) here ∙ h 0,
      numbered-all-from all (i + 1) ts (λ k. let next : i + 1 + k ≡ i + suc k = omega arith in ap (slice_get all) next ∙ h (suc k)),
    )

pub numbered-all : (ts : List TokenRecord) → AllByRecursion (IsNumbered ts) (numbered ts)
numbered-all ts = numbered-all-from ts 0 ts (λ k. let same : 0 + k ≡ k = omega arith in ap (slice_get ts) same)

pub numbered-tokens : (i : ℕ) (ts : List TokenRecord) → map (λ p. p.1) (numbered_from i ts) ≡ ts
numbered-tokens i [] = refl
numbered-tokens i (t ∷ ts) = ap (λ us. t ∷ us) (numbered-tokens (i + 1) ts)

token-at : (ts : List TokenRecord) (o : Option (ℕ × TokenRecord)) → Holds (IsNumbered ts) o → option_and_then (slice_get ts) (option_map (λ p. p.0) o) ≡ option_map (λ p. p.1) o
token-at ts None h = refl
token-at ts (Some p) h = h

-- the token at an index that is looked up is the token that is looked up
pub token_of-index_for : (ts : List TokenRecord) (line col : ℕ) → option_and_then (slice_get ts) (index_for ts line col) ≡ token_for ts line col
token_of-index_for ts line col =
    let on = holds-on (IsNumbered ts) numbered_line line (numbered ts) (numbered-all ts) in
    token-at ts _ (holds-at (IsNumbered ts) numbered_column (on_line numbered_line line (numbered ts)) col on)
    ∙ sym (pick-map (λ p. p.1) token_line token_column (numbered ts) line col) ∙ ap (λ us. pick token_line token_column us line col) (numbered-tokens 0 ts)

pub token_of-clamped_index_for : (ts : List TokenRecord) (line col : ℕ) → option_and_then (slice_get ts) (clamped_index_for ts line col) ≡ clamped_token_for ts line col
token_of-clamped_index_for ts line col =
    let on = holds-on (IsNumbered ts) numbered_line line (numbered ts) (numbered-all ts) in
    token-at ts _ (holds-clamped_at (IsNumbered ts) numbered_column (on_line numbered_line line (numbered ts)) col on)
    ∙ sym (clamped_pick-map (λ p. p.1) token_line token_column (numbered ts) line col) ∙ ap (λ us. clamped_pick token_line token_column us line col) (numbered-tokens 0 ts)

pub token_of-index_after : (ts : List TokenRecord) (line col : ℕ) → option_and_then (slice_get ts) (index_after ts line col) ≡ token_after ts line col
token_of-index_after ts line col =
    let on = holds-on (IsNumbered ts) numbered_line line (numbered ts) (numbered-all ts) in
    token-at ts _ (holds-after (IsNumbered ts) numbered_column (on_line numbered_line line (numbered ts)) col on)
    ∙ sym (pick_after-map (λ p. p.1) token_line token_column (numbered ts) line col) ∙ ap (λ us. pick_after token_line token_column us line col) (numbered-tokens 0 ts)

pub token_of-index_by : (bias : Bias) (ts : List TokenRecord) (line col : ℕ) → option_and_then (slice_get ts) (index_by bias ts line col) ≡ token_by bias ts line col
token_of-index_by Before ts line col = token_of-index_for ts line col
token_of-index_by Clamped ts line col = token_of-clamped_index_for ts line col
token_of-index_by After ts line col = token_of-index_after ts line col

pub token_of-index_at_or_after : (ts : List TokenRecord) (col : ℕ) → option_and_then (slice_get ts) (index_at_or_after ts col) ≡ at_or_after token_column ts col
token_of-index_at_or_after ts col =
    token-at ts _ (holds-after (IsNumbered ts) numbered_column (numbered ts) col (numbered-all ts))
    ∙ sym (at_or_after-map (λ p. p.1) token_column (numbered ts) col) ∙ ap (λ us. at_or_after token_column us col) (numbered-tokens 0 ts)

pub token_of-clamped_index_at : (ts : List TokenRecord) (col : ℕ) → option_and_then (slice_get ts) (clamped_index_at ts col) ≡ clamped_at token_column ts col
token_of-clamped_index_at ts col =
    token-at ts _ (holds-clamped_at (IsNumbered ts) numbered_column (numbered ts) col (numbered-all ts))
    ∙ sym (clamped_at-map (λ p. p.1) token_column (numbered ts) col) ∙ ap (λ us. clamped_at token_column us col) (numbered-tokens 0 ts)
