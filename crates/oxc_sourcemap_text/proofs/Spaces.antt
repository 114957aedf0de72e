-- The white space at the end of a text.
use Rattle.std.proofs.Common.{◌≡◌, ℕ, ◌&&◌, true, false, List, [], ◌∷◌, ◌++◌, ◌==◌}
use Rattle.std.proofs.Common.{length, refl, sym, ap}
use Rattle.std.proofs.Common.{◌∙◌, if◌then◌else◌}
use lib.Utf8.{encodes, scalar, scalars}
use Rattle.std.specs.Char.{is_whitespace}
use Rattle.std.specs.Str.{chars, IsUtf8, drop_trailing_whitespace}
use Rattle.std.proofs.lemmas.Bool.{and_parts}
use Rattle.std.proofs.lemmas.Str.{encodes-append, encodes-chars, scalars-chars}

trailing : (cs : List ℕ) → (ws : List ℕ) × (cs ≡ drop_trailing_whitespace cs ++ ws)
trailing [] = ([], refl)
trailing (c ∷ cs) =
    let rest = trailing cs in
    elim (is_whitespace c && length (drop_trailing_whitespace cs) == 0) as (λ v. (ws : List ℕ) × (c ∷ cs ≡ (if v then [] else c ∷ drop_trailing_whitespace cs) ++ ws)) [
      | true ↦ (c ∷ cs, refl)
      | false ↦ (rest.0, ap (λ l. c ∷ l) rest.1)
    ]

scalars-back : (xs ys : List ℕ) → scalars (xs ++ ys) ≡ true → scalars ys ≡ true
scalars-back [] ys h = h
scalars-back (x ∷ xs) ys h = scalars-back xs ys ((and_parts (scalar x) (scalars (xs ++ ys)) h).1)

-- A text is its front and white space.
pub record IsTrimmed (text front : List ℕ) : Type 0 where
  pub space : List ℕ
  pub split : text ≡ front ++ space
  pub utf8 : IsUtf8 space

pub trimmed : (text front : List ℕ) → IsUtf8 text → IsUtf8 front → chars front ≡ drop_trailing_whitespace (chars text) → IsTrimmed text front
trimmed text front utf8 front_utf8 e =
    let end = trailing (chars text) in
    let spelt : chars text ≡ chars front ++ end.0 = end.1 ∙ ap (λ l. l ++ end.0) (sym e) in
    record {
      space = encodes end.0;
      split = sym (encodes-chars text utf8) ∙ ap encodes spelt ∙ encodes-append (chars front) end.0
          ∙ ap (λ l. l ++ encodes end.0) (encodes-chars front front_utf8);
      utf8 = (end.0, (scalars-back (chars front) end.0 (ap scalars (sym spelt) ∙ scalars-chars text utf8), refl));
    }
