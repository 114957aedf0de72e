-- The place of a comment that names a URL.
use Rattle.std.proofs.Common.{◌≡◌, ℕ, Bool, true, List, [], ◌∷◌, ◌++◌, refl, sym, ap, ◌∙◌, subst}
use Rattle.std.proofs.Common.{arith, Option, Some, None, IfSome, inl, inr, get_or, ◌<◌, ◌⊎◌, ◌+◌}
use Rattle.std.proofs.Common.{◌-◌, length, take, drop, fold, if◌then◌else◌}
use Rattle.std.specs.Option.{option_or}
use lib.Utf8.{encode}
use Rattle.std.specs.Str.{chars, IsUtf8, drop_trailing_whitespace}
use Rattle.std.proofs.lemmas.List.{append_assoc, take_at, drop_at, length-append}
use Rattle.std.proofs.lemmas.Bool.Decides.{nat_tests}
use Rattle.std.proofs.lemmas.Str.{chars-append, chars-IsAscii, encode_ascii, IsUtf8-append}
use Rattle.std.proofs.lemmas.Str.{IsUtf8-from_ascii, IsUtf8-take, IsCharBoundary-at_seam}
use Rattle.oxc_sourcemap_text.specs.TextLines.{lines_of}
use Rattle.oxc_sourcemap_text.specs.declared.url.comment.Place.{Place}
use Rattle.oxc_sourcemap_text.specs.declared.url.comment.Naming.{Naming}
use Rattle.oxc_sourcemap_text.specs.MappingUrls.{IsNamingText, IsOutside, all_pieces, AreQuiet}
use Rattle.oxc_sourcemap_text.specs.MappingUrls.{url_known, known_after, named_url}
use Rattle.oxc_sourcemap_text.proofs.LinesKept.{lines-kept}
use Rattle.oxc_sourcemap_text.specs.Comments.{IsKnownAfter, IsPlaced, IsOnOneLine}

-- what is known after a comment stands in the code, if what was known does, and the comment where it names a URL
pub placed-after : (slashes : Bool) (code : List ℕ) (known result : Option Naming) (text : List ℕ) (place : Place)
    → IfSome result (IsKnownAfter known text place)
    → IfSome known (IsPlaced slashes code)
    → ((new : Naming) → new.place ≡ place → IsNamingText text (chars new.url.now) → IsPlaced slashes code new)
    → IfSome result (IsPlaced slashes code)
placed-after s code known None text place after before here = tt
placed-after s code known (Some new) text place after before here =
    elim after [
      | inl same ↦ subst (λ k. IfSome k (IsPlaced s code)) same.0 before
      | inr found ↦ here new found.0 found.1
    ]

-- one more character of a line is passed
pub passed-next : (line passed rest after : List ℕ) (c : ℕ) → line ≡ passed ++ rest → rest ≡ encode c ++ after
    → line ≡ (passed ++ encode c) ++ after
passed-next line passed rest after c e f = e ∙ ap (λ l. passed ++ l) f ∙ sym (append_assoc passed (encode c) after)

-- what is left of a line begins with a comment
pub spelt : (rest inner text : List ℕ) (c second : ℕ) → rest ≡ encode c ++ inner → c ≡ 47 → second < 128 → inner ≡ encode second ++ text
    → rest ≡ 47 ∷ second ∷ text
spelt rest inner text c second step is low next =
    step ∙ ap (λ d. encode d ++ inner) is ∙ ap (λ l. l ++ inner) (encode_ascii 47 (omega arith)) ∙ ap (λ l. 47 ∷ l) next
    ∙ ap (λ l. 47 ∷ l ++ text) (encode_ascii second low)

-- the code, cut before a comment
pub around : (code front line after passed rest inner text : List ℕ) (c second : ℕ) → code ≡ front ++ line ++ after
    → line ≡ passed ++ rest → rest ≡ encode c ++ inner → c ≡ 47 → second < 128 → inner ≡ encode second ++ text
    → code ≡ (front ++ passed) ++ 47 ∷ second ∷ text ++ after
around code front line after passed rest inner text c second whole split step is low next =
    whole ∙ ap (λ l. (front ++ l) ++ after) (split ∙ ap (λ l. passed ++ l) (spelt rest inner text c second step is low next))
    ∙ ap (λ l. l ++ after) (sym (append_assoc front passed (47 ∷ second ∷ text)))

-- a comment that `*/` ends is passed
pub past-comment : (line passed rest inner text comment behind after : List ℕ) (c : ℕ) → line ≡ passed ++ rest
    → rest ≡ encode c ++ inner → c ≡ 47 → inner ≡ encode 42 ++ text → text ≡ comment ++ 42 ∷ 47 ∷ behind → after ≡ behind
    → line ≡ (passed ++ 47 ∷ 42 ∷ comment ++ 42 ∷ 47 ∷ []) ++ after
past-comment line passed rest inner text comment behind after c split step is next whole e =
    split ∙ ap (λ l. passed ++ l) (spelt rest inner text c 42 step is (omega arith) next ∙ ap (λ l. 47 ∷ 42 ∷ l) whole)
    ∙ sym (append_assoc passed (47 ∷ 42 ∷ comment) (42 ∷ 47 ∷ behind))
    ∙ sym (append_assoc (passed ++ 47 ∷ 42 ∷ comment) (42 ∷ 47 ∷ []) behind)
    ∙ ap (λ l. (passed ++ 47 ∷ 42 ∷ comment ++ 42 ∷ 47 ∷ []) ++ l) (sym e)

-- from here on there are a comment with this text, and then what is behind it
abbrev pub IsComing : Bool → ℕ → Place → List ℕ → Type 0
IsComing slashes second place text =
    all_pieces slashes (chars (47 ∷ second ∷ place.text.now ++ place.after.now)) ≡ Some text ∷ all_pieces slashes (chars (place.rest.now ++ place.after.now))

-- a comment that ends with its line
pub line-placed : (slashes : Bool) (code front after : List ℕ) (new : Naming) (place : Place) (inner : List ℕ)
    → code ≡ front ++ 47 ∷ 47 ∷ place.text.now ++ place.after.now → slashes ≡ true
    → place.text.now ≡ inner ++ place.rest.now → chars inner ≡ drop_trailing_whitespace (chars place.text.now)
    → IsUtf8 inner → IsUtf8 place.rest.now → IsUtf8 place.after.now
    → IsOutside slashes (chars front) (chars (47 ∷ 47 ∷ place.text.now ++ place.after.now))
    → IsComing slashes 47 place (chars place.text.now)
    → IsOnOneLine (47 ∷ 47 ∷ chars inner) (chars (place.rest.now ++ place.after.now))
    → new.place ≡ place → IsNamingText (chars place.text.now) (chars new.url.now) → IsPlaced slashes code new
line-placed slashes code front after new place inner split on cut trim utf8 rest_utf8 after_utf8 outside coming one e names = record {
  front = front;
  second = 47;
  is_second = inl refl;
  comment = inner;
  split = split ∙ ap (λ (p : Place). front ++ 47 ∷ 47 ∷ p.text.now ++ p.after.now) (sym e);
  cut = ap (λ (p : Place). p.text.now) e ∙ cut ∙ ap (λ (p : Place). inner ++ p.rest.now) (sym e);
  comment_utf8 = utf8;
  back_utf8 = subst (λ (p : Place). IsUtf8 (p.rest.now ++ p.after.now)) (sym e)
      (IsUtf8-append place.rest.now place.after.now rest_utf8 after_utf8);
  outside = subst (λ (p : Place). IsOutside slashes (chars front) (chars (47 ∷ 47 ∷ p.text.now ++ p.after.now))) (sym e) outside;
  names = inl (on, chars place.text.now, ap (λ l. 47 ∷ 47 ∷ l) trim, names);
  alone = (chars place.text.now, names, subst (λ (p : Place). IsComing slashes 47 p (chars place.text.now)) (sym e) coming);
  on_one_line = subst (λ (p : Place). IsOnOneLine (47 ∷ 47 ∷ chars inner) (chars (p.rest.now ++ p.after.now))) (sym e) one;
}

chars-end : (b : List ℕ) → IsUtf8 b → chars (b ++ 42 ∷ 47 ∷ []) ≡ chars b ++ 42 ∷ 47 ∷ []
chars-end b utf8 =
    let marks : List ℕ = 42 ∷ 47 ∷ [] in
    let ascii : (i : ℕ) → get_or marks i 0 < 128 = λ i. grind (arith, nat_tests) in
    chars-append b marks utf8 ∙ ap (λ l. chars b ++ l) (chars-IsAscii marks ascii)

-- a comment that `*/` ends
pub block-placed : (slashes : Bool) (code front : List ℕ) (new : Naming) (place : Place) (text : List ℕ)
    → code ≡ front ++ 47 ∷ 42 ∷ place.text.now ++ place.after.now
    → place.text.now ≡ text ++ 42 ∷ 47 ∷ place.rest.now
    → IsUtf8 text → IsUtf8 place.rest.now → IsUtf8 place.after.now
    → IsOutside slashes (chars front) (chars (47 ∷ 42 ∷ place.text.now ++ place.after.now))
    → IsComing slashes 42 place (chars text)
    → IsOnOneLine (47 ∷ 42 ∷ (chars text ++ 42 ∷ 47 ∷ [])) (chars (place.rest.now ++ place.after.now))
    → new.place ≡ place → IsNamingText (chars text) (chars new.url.now) → IsPlaced slashes code new
block-placed slashes code front new place text split cut utf8 rest_utf8 after_utf8 outside coming one e names = record {
  front = front;
  second = 42;
  is_second = inr refl;
  comment = text ++ 42 ∷ 47 ∷ [];
  split = split ∙ ap (λ (p : Place). front ++ 47 ∷ 42 ∷ p.text.now ++ p.after.now) (sym e);
  cut = ap (λ (p : Place). p.text.now) e ∙ cut ∙ sym (append_assoc text (42 ∷ 47 ∷ []) place.rest.now)
      ∙ ap (λ (p : Place). (text ++ 42 ∷ 47 ∷ []) ++ p.rest.now) (sym e);
  comment_utf8 = IsUtf8-append text (42 ∷ 47 ∷ []) utf8 (IsUtf8-from_ascii (42 ∷ 47 ∷ []) (λ i. grind (arith, nat_tests)));
  back_utf8 = subst (λ (p : Place). IsUtf8 (p.rest.now ++ p.after.now)) (sym e)
      (IsUtf8-append place.rest.now place.after.now rest_utf8 after_utf8);
  outside = subst (λ (p : Place). IsOutside slashes (chars front) (chars (47 ∷ 42 ∷ p.text.now ++ p.after.now))) (sym e) outside;
  names = inr (chars text, ap (λ l. 47 ∷ 42 ∷ l) (chars-end text utf8), names);
  alone = (chars text, names, subst (λ (p : Place). IsComing slashes 42 p (chars text)) (sym e) coming);
  on_one_line = subst (λ (p : Place). IsOnOneLine (47 ∷ 42 ∷ chars (text ++ 42 ∷ 47 ∷ [])) (chars (p.rest.now ++ p.after.now))) (sym e)
      (subst (λ l. IsOnOneLine (47 ∷ 42 ∷ l) (chars (place.rest.now ++ place.after.now))) (sym (chars-end text utf8)) one);
}

-- ---- the code, cut where a comment stands

marks-utf8 : (second : ℕ) → (second ≡ 47) ⊎ (second ≡ 42) → IsUtf8 (47 ∷ second ∷ [])
marks-utf8 second is =
    elim is [
      | inl e ↦ subst (λ s. IsUtf8 (47 ∷ s ∷ [])) (sym e) (IsUtf8-from_ascii (47 ∷ 47 ∷ []) (λ i. grind (arith, nat_tests)))
      | inr e ↦ subst (λ s. IsUtf8 (47 ∷ s ∷ [])) (sym e) (IsUtf8-from_ascii (47 ∷ 42 ∷ []) (λ i. grind (arith, nat_tests)))
    ]

two : (second : ℕ) (b : List ℕ) → ((i : ℕ) → get_or (47 ∷ second ∷ []) i 0 < 128) → chars (47 ∷ second ∷ b) ≡ 47 ∷ second ∷ chars b
two second b ascii =
    let marks : List ℕ = 47 ∷ second ∷ [] in
    chars-append marks b (IsUtf8-from_ascii marks ascii) ∙ ap (λ l. l ++ chars b) (chars-IsAscii marks ascii)

pub chars-begun : (second : ℕ) (b : List ℕ) → (second ≡ 47) ⊎ (second ≡ 42) → chars (47 ∷ second ∷ b) ≡ 47 ∷ second ∷ chars b
chars-begun second b is =
    elim is [
      | inl e ↦ subst (λ s. chars (47 ∷ s ∷ b) ≡ 47 ∷ s ∷ chars b) (sym e) (two 47 b (λ i. grind (arith, nat_tests)))
      | inr e ↦ subst (λ s. chars (47 ∷ s ∷ b) ≡ 47 ∷ s ∷ chars b) (sym e) (two 42 b (λ i. grind (arith, nat_tests)))
    ]

module _ (slashes : Bool) (code : List ℕ) (known : Naming) (p : IsPlaced slashes code known) where
  pub comment-size : 2 + (length known.place.text.now - length known.place.rest.now) ≡ length (47 ∷ p.second ∷ p.comment)
  comment-size = omega (arith, ap length p.cut, length-append p.comment known.place.rest.now)

  abbrev begun : List ℕ
  begun = 47 ∷ p.second ∷ known.place.text.now

  whole : code ≡ p.front ++ (begun ++ known.place.after.now)
  whole = p.split ∙ append_assoc p.front begun known.place.after.now

  front-size : length p.front ≡ length code - length known.place.after.now - length known.place.text.now - 2
  front-size = omega (arith, ap length whole, length-append p.front (begun ++ known.place.after.now), length-append begun known.place.after.now)

  pub from-comment : drop (length code - length known.place.after.now - length known.place.text.now - 2) code
      ≡ (47 ∷ p.second ∷ p.comment) ++ (known.place.rest.now ++ known.place.after.now)
  from-comment =
      ap (drop (length code - length known.place.after.now - length known.place.text.now - 2)) whole
      ∙ drop_at p.front (begun ++ known.place.after.now) (length code - length known.place.after.now - length known.place.text.now - 2) front-size
      ∙ ap (λ l. (47 ∷ p.second ∷ l) ++ known.place.after.now) p.cut
      ∙ append_assoc (47 ∷ p.second ∷ p.comment) known.place.rest.now known.place.after.now

  pub before-comment : take (length code - length known.place.after.now - length known.place.text.now - 2) code ≡ p.front
  before-comment =
      ap (take (length code - length known.place.after.now - length known.place.text.now - 2)) whole
      ∙ take_at p.front (begun ++ known.place.after.now) (length code - length known.place.after.now - length known.place.text.now - 2) front-size

  abbrev own : List ℕ
  own = 47 ∷ p.second ∷ p.comment

  abbrev behind : List ℕ
  behind = known.place.rest.now ++ known.place.after.now

  -- what the comment begins, cut where it ends
  module _ (from : List ℕ) (is : from ≡ drop (length code - length known.place.after.now - length known.place.text.now - 2) code) where
    pub take-comment : take (2 + (length known.place.text.now - length known.place.rest.now)) from ≡ own
    take-comment =
        ap (take (2 + (length known.place.text.now - length known.place.rest.now))) (is ∙ from-comment)
        ∙ take_at own behind (2 + (length known.place.text.now - length known.place.rest.now)) (sym comment-size)

    pub drop-comment : drop (2 + (length known.place.text.now - length known.place.rest.now)) from ≡ behind
    drop-comment =
        ap (drop (2 + (length known.place.text.now - length known.place.rest.now))) (is ∙ from-comment)
        ∙ drop_at own behind (2 + (length known.place.text.now - length known.place.rest.now)) (sym comment-size)

  parts : begun ++ known.place.after.now ≡ own ++ behind
  parts = ap (λ l. (47 ∷ p.second ∷ l) ++ known.place.after.now) p.cut ∙ append_assoc own known.place.rest.now known.place.after.now

  own-utf8 : IsUtf8 own
  own-utf8 = IsUtf8-append (47 ∷ p.second ∷ []) p.comment (marks-utf8 p.second p.is_second) p.comment_utf8

  spelt-from : chars (begun ++ known.place.after.now) ≡ chars own ++ chars behind
  spelt-from = ap chars parts ∙ chars-append own behind own-utf8

  -- the comment and what is behind it begin outside of the comments before it
  pub begins-outside : IsOutside slashes (chars p.front) (chars own ++ chars behind)
  begins-outside = subst (λ l. IsOutside slashes (chars p.front) l) spelt-from p.outside

  spelt-whole : IsUtf8 code → chars code ≡ chars p.front ++ (chars own ++ chars behind)
  spelt-whole utf8 =
      let rest = begun ++ known.place.after.now in
      let rest_utf8 : IsUtf8 rest = subst IsUtf8 (sym parts) (IsUtf8-append own behind own-utf8 p.back_utf8) in
      let front : take (length p.front) code ≡ p.front = ap (take (length p.front)) whole ∙ take_at p.front rest (length p.front) refl in
      let front_utf8 = subst IsUtf8 front (IsUtf8-take code (length p.front) utf8 (IsCharBoundary-at_seam code p.front rest whole rest_utf8)) in
      ap chars whole ∙ chars-append p.front rest front_utf8 ∙ ap (λ l. chars p.front ++ l) spelt-from

  -- a space in place of the comment leaves as many lines
  pub as-many-lines : IsUtf8 code → length (lines_of (chars p.front ++ 32 ∷ chars behind)) ≡ length (lines_of (chars code))
  as-many-lines utf8 =
      let spelt = chars-begun p.second p.comment p.is_second in
      let one = subst (λ l. IsOnOneLine l (chars behind)) (sym spelt) p.on_one_line in
      lines-kept (chars p.front) (chars own) (p.second ∷ chars p.comment) (chars behind) spelt one ∙ ap (λ l. length (lines_of l)) (sym (spelt-whole utf8))

  -- they name the URL by themselves, where what is behind the comment is quiet
  pub names-alone : AreQuiet (all_pieces slashes (chars behind)) → url_known slashes (chars own ++ chars behind) ≡ Some (chars known.url.now)
  unfolding url_known
  names-alone quiet =
      let first = p.alone in
      ap (fold known_after None) (ap (all_pieces slashes) (sym spelt-from) ∙ first.2) ∙ quiet (known_after None (Some first.0))
      ∙ ap (λ b. if b then None else option_or (named_url first.0) None) first.1.0 ∙ ap (λ o. option_or o None) first.1.1
