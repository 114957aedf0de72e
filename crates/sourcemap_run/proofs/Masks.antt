-- Texts that have NUL in place of some bytes of a line.
use Rattle.std.proofs.Common.{◌≡◌, ℕ, List, [], ◌∷◌, ◌++◌, drop, length, refl, sym, subst, ap, ◌∙◌}
use Rattle.std.proofs.Common.{append_assoc, append-nil}
use Rattle.std.proofs.lemmas.List.{nil_from_length}
use Rattle.std.specs.List.{repeat}
use Rattle.std.specs.Str.{IsUtf8}
use Rattle.std.specs.Str.Lossy.{utf8_valid_len, utf8_invalid_len}
use Rattle.sourcemap_run.specs.RawLines.{IsMasked}

-- what makes the rest of a line a text makes the whole line one, with this text before it
abbrev pub GoesOn : List ℕ → List ℕ → List ℕ → Type 0
GoesOn line text rest = (more : List ℕ) → IsMasked rest more → IsMasked line (text ++ more)

pub at_first : (line text rest : List ℕ) → text ≡ [] → rest ≡ line → GoesOn line text rest
at_first line text rest none all more h =
    subst (λ t. IsMasked line (t ++ more)) (sym none) (subst (λ l. IsMasked l more) all h)

-- a chunk of the line: its text stays, and what is no text becomes NUL
pub one_more_chunk : (line text left valid invalid rest mid zeros new : List ℕ) → GoesOn line text left
    → left ≡ valid ++ (invalid ++ rest) → length valid ≡ utf8_valid_len left → length invalid ≡ utf8_invalid_len (drop (utf8_valid_len left) left)
    → mid ≡ text ++ valid → zeros ≡ repeat (length invalid) (0 ∷ []) → new ≡ mid ++ zeros → GoesOn line new rest
one_more_chunk line text left valid invalid rest mid zeros new so_far cuts longest sequence front nul all more h =
    let made = ap (λ t. t ++ more) (all ∙ ap (λ t. t ++ zeros) front ∙ ap (λ t. (text ++ valid) ++ t) nul)
    ∙ append_assoc (text ++ valid) (repeat (length invalid) (0 ∷ [])) more ∙ append_assoc text valid (repeat (length invalid) (0 ∷ []) ++ more) in
    subst (IsMasked line) (sym made)
    (so_far (valid ++ (repeat (length invalid) (0 ∷ []) ++ more)) (IsMasked.cut left valid invalid rest more cuts longest sequence h))

no_text : IsUtf8 []
no_text = ([], (refl, refl))

-- at the end of the line
pub at_last : (line text rest : List ℕ) → GoesOn line text rest → length rest ≡ 0 → IsMasked line text
at_last line text rest so_far none =
    subst (IsMasked line) (append-nil text)
    (so_far [] (subst (λ l. IsMasked l []) (sym (nil_from_length rest none)) (IsMasked.whole [] no_text)))
