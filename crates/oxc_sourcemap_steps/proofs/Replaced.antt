-- A list whose items are replaced one by one, from the first on.
use Rattle.std.proofs.Common.{◌≡◌, ℕ, ◌+◌, ◌<◌, ◌++◌, ◌∷◌, [], List, length, take, drop, get_or}
use Rattle.std.proofs.Common.{slice_set, arith, sym, ap, ◌∙◌}
use Rattle.std.proofs.lemmas.List.{drop_more, take_more, length-drop, take-append-drop}
use Rattle.std.proofs.lemmas.List.{take_more_set, drop-set-lt}

module _ {X : Type 0} (now old : List X) (i : ℕ) (d : X) (left : drop i now ≡ drop i old) (within : i < length now) where
  within-old : i < length old
  within-old = omega (arith, length-drop i now, length-drop i old, ap length left, within)

  both : get_or now i d ∷ drop (i + 1) now ≡ get_or old i d ∷ drop (i + 1) old
  both = sym (drop_more now i d within) ∙ left ∙ drop_more old i d within-old

  same-item : get_or old i d ≡ get_or now i d
  same-item = sym (ap (λ xs. get_or xs 0 d) both)

  -- the items replaced so far, and those left, with one more replaced
  pub replaced-next : (x : X) → take (i + 1) (slice_set now i x) ≡ take i now ++ x ∷ []
  replaced-next x = take_more_set now i x within

  pub left-next : (x : X) → drop (i + 1) (slice_set now i x) ≡ drop (i + 1) old
  left-next x = drop-set-lt (i + 1) now i x (omega arith) ∙ ap (drop 1) both

  -- the items that were there, with this one
  pub taken-next : take (i + 1) old ≡ take i old ++ get_or now i d ∷ []
  taken-next = take_more old i d within-old ∙ ap (λ x. take i old ++ x ∷ []) same-item

  pub all-there : take i old ++ get_or now i d ∷ drop (i + 1) old ≡ old
  all-there = ap (λ x. take i old ++ x ∷ drop (i + 1) old) (sym same-item) ∙ ap (λ xs. take i old ++ xs) (sym (drop_more old i d within-old)) ∙ take-append-drop i old
