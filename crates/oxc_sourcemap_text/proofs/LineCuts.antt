-- The first line of a text, one character at a time.
use Rattle.std.proofs.Common.{◌≡◌, ℕ, ◌-◌, true, false, List, [], ◌∷◌, ◌++◌, length, take, drop}
use Rattle.std.proofs.Common.{refl, ap, ◌∙◌, sym, subst, arith}
use lib.Utf8.{encode, scalar, scalars}
use Rattle.std.specs.Str.{chars, IsUtf8, IsCharBoundary}
use Rattle.std.specs.Char.{IsScalar}
use Rattle.std.proofs.lemmas.Bool.{and_parts}
use Rattle.std.proofs.lemmas.List.{append-nil, append_assoc, take_at, drop_at, length-append}
use Rattle.std.proofs.lemmas.List.{nil_from_length}
use Rattle.std.proofs.lemmas.Str.{chars-append, chars_past_char, chars-nil, IsUtf8-encode}
use Rattle.std.proofs.lemmas.Str.{IsUtf8-append, IsUtf8-nil, IsUtf8-past_char, cons_from_encodes}
use Rattle.std.proofs.lemmas.Str.{IsCharBoundary-at_seam}
use Rattle.oxc_sourcemap_text.specs.TextLines.{ends_line, lines_of, onto_first}
use Rattle.oxc_sourcemap_text.specs.TextLines.{begins_with_line_feed}
use Rattle.oxc_sourcemap_text.specs.MappingUrls.{begins_with}

pub begins_with-line_feed : (cs : List ℕ) → begins_with_line_feed cs ≡ begins_with 10 cs
begins_with-line_feed [] = refl
begins_with-line_feed (c ∷ cs) = refl

-- these lines, with characters put before the first
abbrev pub onto_all : List ℕ → List (List ℕ) → List (List ℕ)
onto_all [] lines = lines
onto_all (c ∷ cs) lines = onto_first c (onto_all cs lines)

pub onto_all-push : (front : List ℕ) (c : ℕ) (lines : List (List ℕ)) → onto_all (front ++ c ∷ []) lines ≡ onto_all front (onto_first c lines)
onto_all-push [] c lines = refl
onto_all-push (d ∷ front) c lines = ap (onto_first d) (onto_all-push front c lines)

pub onto_all-line : (front line : List ℕ) (lines : List (List ℕ)) → onto_all front (line ∷ lines) ≡ (front ++ line) ∷ lines
onto_all-line [] line lines = refl
onto_all-line (c ∷ front) line lines = ap (onto_first c) (onto_all-line front line lines)

-- The front of a text is passed: its lines are those of the rest, with the front before the first.
pub record IsPassed (text rest front : List ℕ) : Type 0 where
  pub split : text ≡ front ++ rest
  pub utf8 : IsUtf8 front
  pub rest_utf8 : IsUtf8 rest
  pub lines : lines_of (chars text) ≡ onto_all (chars front) (lines_of (chars rest))

chars-encode : (c : ℕ) → IsScalar c → chars (encode c) ≡ c ∷ []
chars-encode c scalar =
    chars_past_char (encode c) [] c (IsUtf8-encode c scalar) (sym (append-nil (encode c))) ∙ ap (λ l. c ∷ l) chars-nil

pub chars-front : (front : List ℕ) (c : ℕ) → IsUtf8 front → IsScalar c → chars (front ++ encode c) ≡ chars front ++ c ∷ []
chars-front front c utf8 scalar = chars-append front (encode c) utf8 ∙ ap (λ l. chars front ++ l) (chars-encode c scalar)

-- at first nothing is passed
pub start : (text rest : List ℕ) → IsUtf8 text → rest ≡ text → IsPassed text rest []
start text rest utf8 e = record {
  split = sym e;
  utf8 = IsUtf8-nil;
  rest_utf8 = subst IsUtf8 (sym e) utf8;
  lines = ap (λ l. lines_of (chars l)) (sym e) ∙ ap (λ l. onto_all l (lines_of (chars rest))) (sym chars-nil);
}

pub scalar-first : (s t : List ℕ) (c : ℕ) → IsUtf8 s → s ≡ encode c ++ t → IsScalar c
scalar-first s t c utf8 e =
    let found = cons_from_encodes utf8.0 t c (utf8.1.1 ∙ e) in
    let all : scalars (c ∷ found.0) ≡ true = ap scalars (sym found.1) ∙ utf8.1.0 in
    (and_parts (scalar c) (scalars found.0) all).0

module _ (text rest front after : List ℕ) (c : ℕ) (passed : IsPassed text rest front) (step : rest ≡ encode c ++ after) where
  is_scalar : IsScalar c
  is_scalar = scalar-first rest after c passed.rest_utf8 step

  split : text ≡ (front ++ encode c) ++ after
  split = passed.split ∙ ap (λ l. front ++ l) step ∙ sym (append_assoc front (encode c) after)

  after_utf8 : IsUtf8 after
  after_utf8 = IsUtf8-past_char rest after c passed.rest_utf8 step

  here : lines_of (chars text) ≡ onto_all (chars front) (lines_of (c ∷ chars after))
  here = passed.lines ∙ ap (λ l. onto_all (chars front) (lines_of l)) (chars_past_char rest after c passed.rest_utf8 step)

  spelt : chars front ++ c ∷ [] ≡ chars (front ++ encode c)
  spelt = sym (chars-front front c passed.utf8 is_scalar)

  size : length text - length after ≡ length (front ++ encode c)
  size = omega (arith, ap length split, length-append (front ++ encode c) after)

  -- one more character, after which no line ends
  pub pass : ends_line c (chars after) ≡ false → IsPassed text after (front ++ encode c)
  unfolding lines_of
  pass on = record {
    split = split;
    utf8 = IsUtf8-append front (encode c) passed.utf8 (IsUtf8-encode c is_scalar);
    rest_utf8 = after_utf8;
    lines = here ∙ rw on (sym (onto_all-push (chars front) c (lines_of (chars after))) ∙ ap (λ l. onto_all l (lines_of (chars after))) spelt);
  }

  -- the text may be cut behind it
  pub cut-boundary : IsCharBoundary text (length text - length after)
  cut-boundary = rw size (IsCharBoundary-at_seam text (front ++ encode c) after split after_utf8)

  behind-cut : drop (length text - length after) text ≡ after
  behind-cut =
      ap (drop (length text - length after)) split ∙ drop_at (front ++ encode c) after (length text - length after) (sym size)

  pub cut-utf8 : IsUtf8 (drop (length text - length after) text)
  cut-utf8 = subst IsUtf8 (sym behind-cut) after_utf8

  -- a character after which the first line ends
  pub cut-lines : ends_line c (chars after) ≡ true
      → lines_of (chars text) ≡ chars (take (length text - length after) text) ∷ lines_of (chars (drop (length text - length after) text))
  unfolding lines_of
  cut-lines over =
      let front_is : take (length text - length after) text ≡ front ++ encode c =
      ap (take (length text - length after)) split ∙ take_at (front ++ encode c) after (length text - length after) (sym size) in
      here ∙ rw over (onto_all-line (chars front) (c ∷ []) (lines_of (chars after)) ∙ ap (λ l. l ∷ lines_of (chars after)) spelt)
      ∙ ap (λ l. chars l ∷ lines_of (chars after)) (sym front_is) ∙ ap (λ l. chars (take (length text - length after) text) ∷ lines_of (chars l)) (sym behind-cut)

-- no line ends
pub one-line : (text rest front : List ℕ) → IsPassed text rest front → length rest ≡ 0 → lines_of (chars text) ≡ chars text ∷ []
unfolding lines_of
one-line text rest front passed none =
    let nothing : rest ≡ [] = nil_from_length rest none in
    let whole : text ≡ front = passed.split ∙ ap (λ l. front ++ l) nothing ∙ append-nil front in
    passed.lines ∙ ap (λ l. onto_all (chars front) (lines_of (chars l))) nothing
    ∙ ap (λ l. onto_all (chars front) (lines_of l)) chars-nil ∙ onto_all-line (chars front) [] []
    ∙ ap (λ l. l ∷ []) (append-nil (chars front)) ∙ ap (λ l. chars l ∷ []) (sym whole)
