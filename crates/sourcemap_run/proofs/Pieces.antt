-- A text that is cut.
use Rattle.std.proofs.Common.{◌≡◌, ◌⊎◌, inl, inr, ℕ, List, ◌≤◌, ◌<◌, take, drop, length, sym, ap}
use Rattle.std.proofs.Common.{subst, arith, slice_index}
use Rattle.std.proofs.lemmas.Bool.{cases_order}
use Rattle.std.specs.Str.{IsCharBoundary}
use Rattle.std.proofs.lemmas.List.{take-take, length-take-le, get_or-take}
use Rattle.sourcemap_run.specs.Frames.{between, IsCutAt}

-- what is ahead of both cuts, or between them, in the front of a text
pub cut_twice : (text : List ℕ) (from start end : ℕ) → start ≤ end → drop from (take start (take end text)) ≡ between text from start
cut_twice text from start end le = ap (drop from) (take-take start end text le)

-- characters begin at the same bytes of the front of a text
pub boundary_in_front : (text : List ℕ) (n i : ℕ) → n ≤ length text → i ≤ n → IsCharBoundary text i → IsCharBoundary (take n text) i
boundary_in_front text n i le within b =
    let same : length (take n text) ≡ n = length-take-le n text le in (
      omega (arith, same, within),
      λ lt high. (let inside : i < n = omega (arith, same, lt) in
          let byte : slice_index (take n text) i ≡ slice_index text i = get_or-take n text i 0 inside in
          subst (λ b. 192 ≤ b) (sym byte) (b.1 (omega (arith, inside, le)) (subst (λ b. 128 ≤ b) byte high))),
    )

by_order : (text : List ℕ) (n i : ℕ) → IsCharBoundary text n → IsCharBoundary (take n text) i → i ≤ n → (i ≡ n) ⊎ ((i < n) ⊎ (n < i)) → IsCharBoundary text i
by_order text n i whole b within (inl e) = subst (IsCharBoundary text) (sym e) whole
by_order text n i whole b within (inr (inl lt)) =
    let same : length (take n text) ≡ n = length-take-le n text whole.0 in
    let byte : slice_index (take n text) i ≡ slice_index text i = get_or-take n text i 0 lt in
    let end = whole.0 in
    (omega (arith, within, end), λ _ high. subst (λ b. 192 ≤ b) byte (b.1 (omega (arith, same, lt)) (subst (λ b. 128 ≤ b) (sym byte) high)))
by_order text n i whole b within (inr (inr gt)) = absurd (omega (arith, within, gt))

-- and characters that begin in the front, begin there in the text
pub boundary_of_front : (text : List ℕ) (n i : ℕ) → IsCharBoundary text n → IsCharBoundary (take n text) i → IsCutAt text i n
boundary_of_front text n i whole b =
    let same : length (take n text) ≡ n = length-take-le n text whole.0 in
    let front = b.0 in
    let within : i ≤ n = omega (arith, same, front) in
    (within, by_order text n i whole b within (cases_order i n), whole)
