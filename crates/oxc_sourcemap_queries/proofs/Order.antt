-- The order of places in sorted tokens, and which of them lie on lines before a line.
use Rattle.std.proofs.Common.{◌≡◌, ℕ, zero, suc, ◌+◌, ◌<◌, ◌≤◌, nat_lt, Bool, true, false, List, []}
use Rattle.std.proofs.Common.{◌∷◌, length, get_or, refl, sym, subst, arith}
use Rattle.std.proofs.lemmas.Bool.Decides.{nat_tests}
use Rattle.std.proofs.lemmas.List.Sorted.{IsNonDecreasingBy-from_all_adjacent}
use Rattle.std.specs.List.Sorted.{IsNonDecreasingBy}
use Rattle.oxc_sourcemap_tokens.specs.Token.{TokenRecord, AreInBounds}
use Rattle.oxc_sourcemap_parts.specs.Sorted.{are_tokens_sorted, token_line, token_column}
use Rattle.oxc_sourcemap_parts.specs.Sorted.{may_precede}
use Rattle.oxc_sourcemap_parts.proofs.Order.{sorted-head}
use Rattle.oxc_sourcemap_lookup.specs.LineSpans.{count_before_line}
use Rattle.oxc_sourcemap_lookup.proofs.LineStarts.{counts-one, none-before}
use Rattle.oxc_sourcemap_lookup.proofs.Tables.{IsFrom}
use Rattle.oxc_sourcemap_queries.specs.Cuts.{token_position}

precede-place : (x y : TokenRecord) → may_precede token_line token_column x y ≡ true → x.dst_col < 4294967296 → token_position x ≤ token_position y
precede-place x y h fits =
    elim (nat_lt x.dst_line y.dst_line) as (λ b. nat_lt x.dst_line y.dst_line ≡ b → token_position x ≤ token_position y) [
      | true ↦ (λ e. let lt : x.dst_line < y.dst_line = grind (arith, nat_tests, e) in omega (arith, lt, fits))
      | false ↦ (λ e.
          let same : x.dst_line ≡ y.dst_line = grind (arith, nat_tests, e, h) in
          let le : x.dst_col ≤ y.dst_col = grind (arith, nat_tests, e, h) in
          omega (arith, same, le))
    ] refl

next-place : (ts : List TokenRecord) (k : ℕ) (d : TokenRecord) → are_tokens_sorted ts ≡ true → (get_or ts k d).dst_col < 4294967296 → k + 1 < length ts → token_position (get_or ts k d) ≤ token_position (get_or ts (k + 1) d)
next-place [] k d sorted fits h = absurd (omega (arith, h))
next-place (x ∷ []) k d sorted fits h = absurd (omega (arith, h))
next-place (x ∷ y ∷ ts) zero d sorted fits h = precede-place x y (sorted-head x y ts sorted).0 fits
next-place (x ∷ y ∷ ts) (suc k) d sorted fits h =
    let same : suc k + 1 ≡ suc (k + 1) = omega arith in
    subst (λ i. token_position (get_or (y ∷ ts) k d) ≤ token_position (get_or (x ∷ y ∷ ts) i d)) (sym same) (next-place (y ∷ ts) k d (sorted-head x y ts sorted).1 fits (omega (arith, h)))

-- places do not fall
pub places-rise : (ts : List TokenRecord) → are_tokens_sorted ts ≡ true → AreInBounds ts → IsNonDecreasingBy token_position ts
places-rise ts sorted bounds = IsNonDecreasingBy-from_all_adjacent token_position ts (λ k d h. next-place ts k d sorted (bounds k d (omega (arith, h))).dst_col h)

below-by : (b : Bool) (n i : ℕ) (t : TokenRecord) (ts : List TokenRecord) (d : TokenRecord) → nat_lt t.dst_line n ≡ b → IsFrom t.dst_line ts → i < count_before_line n (t ∷ ts)
    → ((j : ℕ) → j < count_before_line n ts → token_line (get_or ts j d) < n) → token_line (get_or (t ∷ ts) i d) < n
below-by true n zero t ts d e p h more = grind (arith, nat_tests, e)
below-by true n (suc i) t ts d e p h more =
    let lt : t.dst_line < n = grind (arith, nat_tests, e) in
    more i (omega (arith, h, counts-one n t ts lt))
below-by false n i t ts d e p h more =
    let le : n ≤ t.dst_line = grind (arith, nat_tests, e) in
    absurd (omega (arith, h, none-before n (t ∷ ts) (le, p)))

-- the first tokens lie on lines before a line, as many as do
pub below : (n from i : ℕ) (ts : List TokenRecord) (d : TokenRecord) → IsFrom from ts → i < count_before_line n ts → token_line (get_or ts i d) < n
below n from i [] d p h = absurd (omega (arith, h))
below n from i (t ∷ ts) d p h = below-by (nat_lt t.dst_line n) n i t ts d refl p.1 h (λ j g. below n t.dst_line j ts d p.1 g)

from-least : (from j : ℕ) (ts : List TokenRecord) (d : TokenRecord) → IsFrom from ts → j < length ts → from ≤ token_line (get_or ts j d)
from-least from j [] d p h = absurd (omega (arith, h))
from-least from zero (t ∷ ts) d p h = p.0
from-least from (suc j) (t ∷ ts) d p h = omega (arith, p.0, from-least t.dst_line j ts d p.1 (omega (arith, h)))

above-by : (b : Bool) (n i : ℕ) (t : TokenRecord) (ts : List TokenRecord) (d : TokenRecord) → nat_lt t.dst_line n ≡ b → IsFrom t.dst_line ts → count_before_line n (t ∷ ts) ≤ i → i < length (t ∷ ts)
    → ((j : ℕ) → count_before_line n ts ≤ j → j < length ts → n ≤ token_line (get_or ts j d)) → n ≤ token_line (get_or (t ∷ ts) i d)
above-by true n zero t ts d e p h l more =
    let lt : t.dst_line < n = grind (arith, nat_tests, e) in
    absurd (omega (arith, h, counts-one n t ts lt))
above-by true n (suc i) t ts d e p h l more =
    let lt : t.dst_line < n = grind (arith, nat_tests, e) in
    more i (omega (arith, h, counts-one n t ts lt)) (omega (arith, l))
above-by false n i t ts d e p h l more =
    let le : n ≤ t.dst_line = grind (arith, nat_tests, e) in
    from-least n i (t ∷ ts) d (le, p) l

-- and the others do not
pub above : (n from i : ℕ) (ts : List TokenRecord) (d : TokenRecord) → IsFrom from ts → count_before_line n ts ≤ i → i < length ts → n ≤ token_line (get_or ts i d)
above n from i [] d p h l = absurd (omega (arith, l))
above n from i (t ∷ ts) d p h l = above-by (nat_lt t.dst_line n) n i t ts d refl p.1 h l (λ j g k. above n t.dst_line j ts d p.1 g k)
