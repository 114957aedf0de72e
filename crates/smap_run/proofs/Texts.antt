-- The line feed at the end of a text.
use Rattle.std.proofs.Common.{◌≡◌, ◌≢◌, ℕ, ◌+◌, ◌-◌, true, false, cond, nat_lt, ◌==◌, List, [], ◌∷◌}
use Rattle.std.proofs.Common.{◌++◌, length, take, get_or, Option, Some, None, arith, refl, sym, ap}
use Rattle.std.proofs.Common.{◌∙◌}
use Rattle.std.specs.Borrow.{Bor}
use Rattle.std.specs.Option.{unwrap_or, MatchOption}
use Rattle.std.specs.Io.BufRead.{strip_last}
use Rattle.std.proofs.lemmas.Bool.Decides.{nat_tests}
use Rattle.std.proofs.lemmas.List.{take_at, get_or_at, length-append}
use Rattle.smap_run.specs.Answer.{without_line_feed}

strip_last-push : (xs : List ℕ) → strip_last 10 (xs ++ 10 ∷ []) ≡ xs
strip_last-push xs =
    let l : length (xs ++ 10 ∷ []) ≡ length xs + 1 = length-append xs (10 ∷ []) in
    let m : length xs + 1 - 1 ≡ length xs = omega arith in
    let t : nat_lt 0 (length xs + 1) ≡ true = grind (arith, nat_tests) in
    rw (l, m, t, get_or_at xs 10 [] 0 (length xs) refl) (take_at xs (10 ∷ []) (length xs) refl)

last-of : (b : ℕ) (bs : List ℕ) → (front : List ℕ) × (b ∷ bs ≡ front ++ get_or (b ∷ bs) (length bs) 0 ∷ [])
last-of b [] = ([], refl)
last-of b (c ∷ bs) = let (front, e) = last-of c bs in (b ∷ front, ap (λ xs. b ∷ xs) e)

strip_last-none : (bs : List ℕ) → ((front : List ℕ) → bs ≢ front ++ 10 ∷ []) → strip_last 10 bs ≡ bs
strip_last-none [] h = refl
strip_last-none (b ∷ bs) h =
    let (front, e) = last-of b bs in
    let m : length (b ∷ bs) - 1 ≡ length bs = omega arith in
    let t : nat_lt 0 (length (b ∷ bs)) ≡ true = grind (arith, nat_tests) in
    rw (t, m) (elim (get_or (b ∷ bs) (length bs) 0 == 10) as (λ v. (get_or (b ∷ bs) (length bs) 0 == 10) ≡ v → cond v (take (length bs) (b ∷ bs)) (b ∷ bs) ≡ b ∷ bs) [
      | true ↦ (λ t. let ten : get_or (b ∷ bs) (length bs) 0 ≡ 10 = grind (arith, nat_tests) in absurd (h front (e ∙ ap (λ x. front ++ x ∷ []) ten)))
      | false ↦ (λ t. refl)
    ] refl)

pub stripped : (bs : List ℕ) (r : Option (Bor (List ℕ))) (whole : Bor (List ℕ)) → whole.now ≡ bs → MatchOption r ((front : List ℕ) → bs ≢ front ++ 10 ∷ []) (λ x. bs ≡ x.now ++ 10 ∷ []) → (unwrap_or r whole).now ≡ without_line_feed bs
stripped bs None whole e h = e ∙ sym (strip_last-none bs h)
stripped bs (Some x) whole e h = sym (ap (strip_last 10) h ∙ strip_last-push x.now)
