-- The table of near deltas is compared with the definition at each of its 1,024 deltas, by computing.
use Rattle.std.proofs.Common.{◌≡◌, ℕ, zero, suc, ◌+◌, ◌/◌, ◌<◌, ◌≤◌, Bool, true, ◌&&◌, nat_le, List}
use Rattle.std.proofs.Common.{[], ◌∷◌, ◌++◌, length, get_or, take, refl, ap, ◌∙◌, subst, arith}
use Rattle.std.proofs.Common.{bytes_eq}
use Rattle.std.specs.Int.{w32, to_le_bytes}
use Rattle.std.proofs.lemmas.Bool.{leb-true}
use Rattle.std.proofs.lemmas.Slice.Eq.{bytes_eq-Decides}
use borrow.Rule.Slice.PartMut.{put_mid}
use Rattle.oxc_sourcemap_tokens.proofs.Fits.{andb}
use Rattle.oxc_sourcemap_mappings.specs.Canonical.{vlq_text}
use Rattle.oxc_sourcemap_mappings.specs.Encoding.{raw_at}
use Rattle.oxc_sourcemap_mappings.proofs.Placing.{mid-placed}

-- An entry has at most three characters, and they are those of its delta: its lowest bytes, as many as its highest tells.
abbrev pub is_right : ℕ → ℕ → Bool
is_right rank entry =
    nat_le (entry / 16777216) 3 && bytes_eq (take (entry / 16777216) (to_le_bytes w32 entry)) (vlq_text (raw_at rank))

unfoldable pub are_right : ℕ → List ℕ → Bool
are_right rank [] = true
are_right rank (e ∷ es) = is_right rank e && are_right (suc rank) es

right-from : (start : ℕ) (es : List ℕ) → are_right start es ≡ true → (rank k : ℕ) → rank ≡ start + k → k < length es → is_right rank (get_or es k 0) ≡ true
unfolding are_right
right-from start [] h rank k e l = absurd (omega arith)
right-from start (x ∷ es) h rank zero e l =
    let same : start ≡ rank = omega (arith, e) in
    subst (λ r. is_right r x ≡ true) same (andb (is_right start x) (are_right (suc start) es) h).0
right-from start (x ∷ es) h rank (suc k) e l =
    right-from (suc start) es (andb (is_right start x) (are_right (suc start) es) h).1 rank k (omega (arith, e)) (omega arith)

pub right-at : (table : List ℕ) → are_right 0 table ≡ true → (rank : ℕ) → rank < length table → is_right rank (get_or table rank 0) ≡ true
right-at table h rank l = right-from 0 table h rank rank (omega arith) l

-- the characters of an entry, as the first of its four bytes
module _ (rank entry : ℕ) (right : is_right rank entry ≡ true) where
  pub entry-short : entry / 16777216 ≤ 3
  entry-short = leb-true _ _ (andb _ _ right).0

  pub entry-placed : (b new : List ℕ) (at k end : ℕ) → at ≤ length b → new ≡ to_le_bytes w32 entry → end ≡ at + entry / 16777216 → take end (put_mid at k b new) ≡ take at b ++ vlq_text (raw_at rank)
  entry-placed b new at k end h e f =
      let four : length (to_le_bytes w32 entry) ≡ 4 = refl in
      mid-placed b new at k (entry / 16777216) end f h (omega (arith, entry-short, ap length e, four))
      ∙ ap (λ xs. take at b ++ xs) (ap (take (entry / 16777216)) e ∙ (bytes_eq-Decides _ _).0 (andb _ _ right).1)
