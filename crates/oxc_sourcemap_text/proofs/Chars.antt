-- The characters of a text, one at a time.
use Rattle.std.proofs.Common.{◌≡◌, ◌≢◌, ℕ, Bool, true, false, List, [], ◌∷◌, ◌++◌, ◌||◌, ◌==◌}
use Rattle.std.proofs.Common.{nat_eq, take, drop, codes, get_or, ◌<◌, arith, refl, sym, ap}
use Rattle.std.proofs.Common.{◌∙◌, inl, inr}
use lib.Utf8.{encode, encodes}
use lib.Pointwise.{pointwise}
use Rattle.std.specs.List.{list_any, starts_with}
use Rattle.std.specs.Str.{chars, IsUtf8}
use Rattle.std.proofs.lemmas.Bool.{and_parts, eqb-true, cases_Bool}
use Rattle.std.proofs.lemmas.Bool.Decides.{nat_tests}
use Rattle.std.proofs.lemmas.List.{take-append-drop}
use Rattle.std.proofs.lemmas.Str.{chars-append, chars-IsAscii, chars_past_char, encodes-append}
use Rattle.std.proofs.lemmas.Str.{encodes-chars, encodes-IsAscii, IsUtf8-from_ascii}

-- a test of the characters of a text, past the first one
pub list_any-next : (p : ℕ → Bool) (s t : List ℕ) (c : ℕ) → IsUtf8 s → s ≡ encode c ++ t → list_any p (chars s) ≡ (p c || list_any p (chars t))
list_any-next p s t c utf8 e = ap (list_any p) (chars_past_char s t c utf8 e)

abbrev pub key : List ℕ
key = codes "sourceMappingURL="

key-ascii : (i : ℕ) → get_or key i 0 < 128
key-ascii i = grind (arith, nat_tests)

pub chars-key : (rest : List ℕ) → chars (key ++ rest) ≡ key ++ chars rest
chars-key rest =
    chars-append key rest (IsUtf8-from_ascii key key-ascii) ∙ ap (λ l. l ++ chars rest) (chars-IsAscii key key-ascii)

same : (xs ys : List ℕ) → pointwise nat_eq xs ys ≡ true → xs ≡ ys
same [] [] h = refl
same [] (y ∷ ys) h = cc
same (x ∷ xs) [] h = cc
same (x ∷ xs) (y ∷ ys) h =
    let parts = and_parts (x == y) (pointwise nat_eq xs ys) h in
    let first = eqb-true x y parts.0 in
    let rest = same xs ys parts.1 in
    cc

-- a text that lacks the key has not its characters either
pub no-key : (s : List ℕ) → IsUtf8 s → ((rest : List ℕ) → s ≢ key ++ rest) → starts_with nat_eq (chars s) key ≡ false
no-key s utf8 lacks =
    elim (cases_Bool (starts_with nat_eq (chars s) key)) [
      | inl is ↦ (let front = same key (take 17 (chars s)) is in
          let spelt : chars s ≡ key ++ drop 17 (chars s) = sym (take-append-drop 17 (chars s)) ∙ ap (λ l. l ++ drop 17 (chars s)) (sym front) in
          absurd (lacks (encodes (drop 17 (chars s)))
          (sym (encodes-chars s utf8) ∙ ap encodes spelt ∙ encodes-append key (drop 17 (chars s)) ∙ ap (λ l. l ++ encodes (drop 17 (chars s))) (encodes-IsAscii key key-ascii))))
      | inr is ↦ is
    ]
