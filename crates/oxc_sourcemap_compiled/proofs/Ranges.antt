-- Lists made from the numbers below a count.
use Rattle.std.proofs.Common.{◌≡◌, ◌≢◌, ℕ, ◌+◌, ◌<◌, ◌≤◌, map, slice_get, Some, None, sym, ◌∙◌}
use Rattle.std.proofs.Common.{arith}
use Rattle.std.specs.List.{range_with_len, Contains}
use Rattle.std.proofs.lemmas.Option.{slice_get_read, slice_get_past}
use Rattle.std.proofs.lemmas.List.FromFn.{get_or-map-range_with_len, length-map-range_with_len}

pub made-get : {A : Type 0} (f : ℕ → A) (a n i j : ℕ) → i < n → a + i ≡ j → slice_get (map f (range_with_len a n)) i ≡ Some (f j)
made-get f a n i j h e =
    slice_get_read (map f (range_with_len a n)) n i (f j) (sym (length-map-range_with_len f a n)) h (sym (get_or-map-range_with_len f a n i j (f j) h e))

pub made-past : {A : Type 0} (f : ℕ → A) (n i : ℕ) → n ≤ i → slice_get (map f (range_with_len 0 n)) i ≡ None
made-past f n i h = slice_get_past (map f (range_with_len 0 n)) i (omega (arith, length-map-range_with_len f 0 n, h))

pub contains-made : (f : ℕ → ℕ) (n i x : ℕ) → i < n → f i ≡ x → Contains (map f (range_with_len 0 n)) x
contains-made f n i x h e =
    (i, omega (arith, length-map-range_with_len f 0 n, h), get_or-map-range_with_len f 0 n i i x h (omega arith) ∙ e)

pub made-contains : (f : ℕ → ℕ) (n x : ℕ) → Contains (map f (range_with_len 0 n)) x → ((k : ℕ) → k < n → f k ≢ x) → ⊥
made-contains f n x has none =
    let h : has.0 < n = omega (arith, has.1, length-map-range_with_len f 0 n) in
    none has.0 h (sym (get_or-map-range_with_len f 0 n has.0 has.0 x h (omega arith)) ∙ has.2)
