-- A code without the comment by which it names its map.
use Rattle.std.proofs.Common.{◌≡◌, ℕ, Bool, true, false, List, [], ◌∷◌, ◌++◌, ◌==◌, ◌&&◌, ◌||◌}
use Rattle.std.proofs.Common.{refl, sym, ap, ◌∙◌, subst, Option, Some, None, fold, flat_map}
use Rattle.std.proofs.Common.{append_assoc, inl, inr}
use Rattle.std.proofs.lemmas.Bool.{eqb-true}
use Rattle.std.proofs.lemmas.List.{append-nil, append_cancel_left}
use Rattle.std.proofs.lemmas.List.Sums.{fold-append}
use Rattle.std.proofs.lemmas.Grind.{flat_map-append}
use Rattle.std.specs.Str.{drop_trailing_whitespace}
use Rattle.oxc_sourcemap_text.specs.TextLines.{ends_line, begins_with_line_feed, lines_of}
use Rattle.oxc_sourcemap_text.specs.TextLines.{onto_first}
use Rattle.oxc_sourcemap_text.specs.declared.url.language.Language.{Language}
use Rattle.oxc_sourcemap_text.specs.MappingUrls.{Piece, pieces, known_after, all_pieces, url_known}
use Rattle.oxc_sourcemap_text.specs.MappingUrls.{begins_with, mapping_url, has_line_comments}
use Rattle.oxc_sourcemap_text.specs.MappingUrls.{AreQuiet, IsQuiet, IsMappingComment}
use Rattle.oxc_sourcemap_text.specs.MappingUrls.{BeginsOutside}
use Rattle.oxc_sourcemap_text.proofs.Cuts.{before_first, before-none, lines-end, lines-no_end}
use Rattle.oxc_sourcemap_plan.specs.CutLaws.{IsAtLineStart}
use Rattle.oxc_sourcemap_plan.proofs.PieceCuts.{pieces-none, pieces-white, pieces-star, cut-at}
use Rattle.oxc_sourcemap_plan.proofs.LineFeeds.{pieces-fed}

-- ---- lines of a text that is cut

-- a text that is cut, where no line feed follows: its last line goes on
record Seam (front : List ℕ) : Type 0 where
  lines : List (List ℕ)
  line : List ℕ
  is : (rest : List ℕ) → begins_with_line_feed rest ≡ false → lines_of (front ++ rest) ≡ lines ++ before_first line (lines_of rest)
  alone : lines_of front ≡ lines ++ line ∷ []

ends-alone : (c : ℕ) (front rest : List ℕ) → begins_with_line_feed rest ≡ false → ends_line c (front ++ rest) ≡ ends_line c front
ends-alone c [] rest h = rw h refl
ends-alone c (d ∷ front) rest h = refl

onto-before : (c : ℕ) (line : List ℕ) (ls : List (List ℕ)) → onto_first c (before_first line ls) ≡ before_first (c ∷ line) ls
onto-before c line [] = refl
onto-before c line (l ∷ ls) = refl

seam-none : Seam []
unfolding lines_of
seam-none = record { lines = []; line = []; is = λ rest h. sym (before-none rest); alone = refl }

seam-end : (c : ℕ) (front : List ℕ) → ends_line c front ≡ true → Seam front → Seam (c ∷ front)
seam-end c front e m = record {
  lines = (c ∷ []) ∷ m.lines;
  line = m.line;
  is = λ rest h. lines-end c (front ++ rest) (ends-alone c front rest h ∙ e) ∙ ap (λ ls. (c ∷ []) ∷ ls) (m.is rest h);
  alone = lines-end c front e ∙ ap (λ ls. (c ∷ []) ∷ ls) m.alone;
}

seam-onto : (c : ℕ) (front line : List ℕ) (lines : List (List ℕ)) → ends_line c front ≡ false
    → ((rest : List ℕ) → begins_with_line_feed rest ≡ false → lines_of (front ++ rest) ≡ lines ++ before_first line (lines_of rest))
    → lines_of front ≡ lines ++ line ∷ [] → Seam (c ∷ front)
seam-onto c front line [] e is alone = record {
  lines = [];
  line = c ∷ line;
  is = λ rest h. lines-no_end c (front ++ rest) (ends-alone c front rest h ∙ e) ∙ ap (onto_first c) (is rest h) ∙ onto-before c line (lines_of rest);
  alone = lines-no_end c front e ∙ ap (onto_first c) alone;
}
seam-onto c front line (l ∷ lines) e is alone = record {
  lines = (c ∷ l) ∷ lines;
  line = line;
  is = λ rest h. lines-no_end c (front ++ rest) (ends-alone c front rest h ∙ e) ∙ ap (onto_first c) (is rest h);
  alone = lines-no_end c front e ∙ ap (onto_first c) alone;
}

seam : (front : List ℕ) → Seam front
seam [] = seam-none
seam (c ∷ front) =
    let m = seam front in
    elim (ends_line c front) as (λ v. ends_line c front ≡ v → Seam (c ∷ front)) [
      | true ↦ (λ e. seam-end c front e m)
      | false ↦ (λ e. seam-onto c front m.line m.lines e m.is m.alone)
    ] refl

-- the first line of a text begins as the text does
record FirstLine (text : List ℕ) : Type 0 where
  line : List ℕ
  others : List (List ℕ)
  is : lines_of text ≡ line ∷ others
  begins : (k : ℕ) → begins_with k line ≡ begins_with k text

first-none : FirstLine []
unfolding lines_of
first-none = record { line = []; others = []; is = refl; begins = λ k. refl }

first-line : (text : List ℕ) → FirstLine text
first-line [] = first-none
first-line (c ∷ text) =
    let rest = first-line text in
    elim (ends_line c text) as (λ v. ends_line c text ≡ v → FirstLine (c ∷ text)) [
      | true ↦ (λ e. record { line = c ∷ []; others = lines_of text; is = lines-end c text e; begins = λ k. refl })
      | false ↦ (λ e. record { line = c ∷ rest.line; others = rest.others; is = lines-no_end c text e ∙ ap (onto_first c) rest.is; begins = λ k. refl })
    ] refl

-- a text that is cut before a line feed, behind which a line begins; a carriage return before it may have ended one
record FeedSeam (front : List ℕ) : Type 0 where
  lines : List (List ℕ)
  line : List ℕ
  blank : List (List ℕ)
  is : (after : List ℕ) → lines_of (front ++ 10 ∷ after) ≡ lines ++ (line ++ 10 ∷ []) ∷ lines_of after
  alone : lines_of front ≡ lines ++ line ∷ blank
  is_blank : (s : Bool) → flat_map (pieces s None) blank ≡ []

ends-fed : (a b c d : Bool) → (a || b || c || (d && false)) ≡ true → (a || b || c || (d && true)) ≡ true
ends-fed true b c d h = refl
ends-fed false true c d h = refl
ends-fed false false true d h = refl
ends-fed false false false true h = cc
ends-fed false false false false h = cc

feed-none : FeedSeam []
unfolding lines_of
feed-none = record { lines = []; line = []; blank = []; is = λ after. lines-end 10 after refl; alone = refl; is_blank = λ s. refl }

feed-behind : (c : ℕ) → ends_line c (10 ∷ []) ≡ true → FeedSeam (c ∷ [])
unfolding lines_of
feed-behind c e = record {
  lines = (c ∷ []) ∷ [];
  line = [];
  blank = [];
  is = λ after. lines-end c (10 ∷ after) e ∙ ap (λ ls. (c ∷ []) ∷ ls) (lines-end 10 after refl);
  alone = lines-end c [] (ends-fed (c == 10) (c == 0x2028) (c == 0x2029) (c == 13) e);
  is_blank = λ s. refl;
}

feed-return : (c : ℕ) → ends_line c (10 ∷ []) ≡ false → ends_line c [] ≡ true → FeedSeam (c ∷ [])
unfolding lines_of
feed-return c e f = record {
  lines = [];
  line = c ∷ [];
  blank = [] ∷ [];
  is = λ after. lines-no_end c (10 ∷ after) e ∙ ap (onto_first c) (lines-end 10 after refl);
  alone = lines-end c [] f;
  is_blank = λ s. ap (λ ps. ps ++ []) (pieces-none s);
}

feed-within : (c : ℕ) → ends_line c (10 ∷ []) ≡ false → ends_line c [] ≡ false → FeedSeam (c ∷ [])
unfolding lines_of
feed-within c e f = record {
  lines = [];
  line = c ∷ [];
  blank = [];
  is = λ after. lines-no_end c (10 ∷ after) e ∙ ap (onto_first c) (lines-end 10 after refl);
  alone = lines-no_end c [] f;
  is_blank = λ s. refl;
}

feed-one : (c : ℕ) → FeedSeam (c ∷ [])
feed-one c =
    elim (ends_line c (10 ∷ [])) as (λ v. ends_line c (10 ∷ []) ≡ v → FeedSeam (c ∷ [])) [
      | true ↦ (λ e. feed-behind c e)
      | false ↦ (λ e. elim (ends_line c []) as (λ v. ends_line c [] ≡ v → FeedSeam (c ∷ [])) [
        | true ↦ (λ f. feed-return c e f)
        | false ↦ (λ f. feed-within c e f)
      ] refl)
    ] refl

feed-onto : (c d : ℕ) (front line : List ℕ) (lines blank : List (List ℕ)) → ends_line c (d ∷ front) ≡ false
    → ((after : List ℕ) → lines_of (d ∷ front ++ 10 ∷ after) ≡ lines ++ (line ++ 10 ∷ []) ∷ lines_of after)
    → lines_of (d ∷ front) ≡ lines ++ line ∷ blank → ((s : Bool) → flat_map (pieces s None) blank ≡ []) → FeedSeam (c ∷ d ∷ front)
feed-onto c d front line [] blank e is alone is_blank = record {
  lines = [];
  line = c ∷ line;
  blank = blank;
  is = λ after. lines-no_end c (d ∷ front ++ 10 ∷ after) e ∙ ap (onto_first c) (is after);
  alone = lines-no_end c (d ∷ front) e ∙ ap (onto_first c) alone;
  is_blank = is_blank;
}
feed-onto c d front line (l ∷ lines) blank e is alone is_blank = record {
  lines = (c ∷ l) ∷ lines;
  line = line;
  blank = blank;
  is = λ after. lines-no_end c (d ∷ front ++ 10 ∷ after) e ∙ ap (onto_first c) (is after);
  alone = lines-no_end c (d ∷ front) e ∙ ap (onto_first c) alone;
  is_blank = is_blank;
}

feed-seam : (front : List ℕ) → FeedSeam front
feed-seam [] = feed-none
feed-seam (c ∷ []) = feed-one c
feed-seam (c ∷ d ∷ front) =
    let m = feed-seam (d ∷ front) in
    elim (ends_line c (d ∷ front)) as (λ v. ends_line c (d ∷ front) ≡ v → FeedSeam (c ∷ d ∷ front)) [
      | true ↦ (λ e. record {
        lines = (c ∷ []) ∷ m.lines;
        line = m.line;
        blank = m.blank;
        is = λ after. lines-end c (d ∷ front ++ 10 ∷ after) e ∙ ap (λ ls. (c ∷ []) ∷ ls) (m.is after);
        alone = lines-end c (d ∷ front) e ∙ ap (λ ls. (c ∷ []) ∷ ls) m.alone;
        is_blank = m.is_blank;
      })
      | false ↦ (λ e. feed-onto c d front m.line m.lines m.blank e m.is m.alone m.is_blank)
    ] refl

module _ (s : Bool) where
  abbrev of_lines : List (List ℕ) → List Piece
  of_lines lines = flat_map (pieces s None) lines

  abbrev known_from : Option (List ℕ) → List Piece → Option (List ℕ)
  known_from known ps = fold known_after known ps

  -- ---- behind the front a line feed

  known-lines : (lines others : List (List ℕ)) (line : List ℕ)
      → known_from None (of_lines (lines ++ line ∷ others)) ≡ known_from (known_from (known_from None (of_lines lines)) (pieces s None line)) (of_lines others)
  known-lines lines others line =
      ap (known_from None) (flat_map-append (pieces s None) lines (line ∷ others)) ∙ fold-append known_after None (of_lines lines) (pieces s None line ++ of_lines others)
      ∙ fold-append known_after (known_from None (of_lines lines)) (pieces s None line) (of_lines others)

  feed-pieces : (after : List ℕ) → all_pieces s (10 ∷ after) ≡ all_pieces s after
  unfolding pieces
  feed-pieces after = ap of_lines (lines-end 10 after refl)

  before-feed : (front after : List ℕ) → AreQuiet (all_pieces s (10 ∷ after)) → url_known s (front ++ 10 ∷ after) ≡ url_known s front
  unfolding url_known
  before-feed front after quiet =
      let m = feed-seam front in
      let known = known_from None (of_lines m.lines) in
      ap (λ ls. known_from None (of_lines ls)) (m.is after) ∙ known-lines m.lines (lines_of after) (m.line ++ 10 ∷ [])
      ∙ ap (known_from (known_from known (pieces s None (m.line ++ 10 ∷ [])))) (sym (feed-pieces after))
      ∙ quiet (known_from known (pieces s None (m.line ++ 10 ∷ [])))
      ∙ pieces-fed s known None m.line
      ∙ sym (ap (known_from (known_from known (pieces s None m.line))) (m.is_blank s))
      ∙ sym (known-lines m.lines m.blank m.line) ∙ sym (ap (λ ls. known_from None (of_lines ls)) m.alone)

  -- ---- behind the front anything else

  seam-whole : (front rest : List ℕ) (m : Seam front) (first : FirstLine rest) → begins_with_line_feed rest ≡ false
      → all_pieces s (front ++ rest) ≡ of_lines m.lines ++ (pieces s None (m.line ++ first.line) ++ of_lines first.others)
  seam-whole front rest m first no_feed =
      ap of_lines (m.is rest no_feed) ∙ ap (λ ls. of_lines (m.lines ++ before_first m.line ls)) first.is
      ∙ flat_map-append (pieces s None) m.lines ((m.line ++ first.line) ∷ first.others)

  seam-parts : (front rest : List ℕ) (m : Seam front) (first : FirstLine rest)
      → all_pieces s front ++ all_pieces s rest ≡ of_lines m.lines ++ (pieces s None m.line ++ (pieces s None first.line ++ of_lines first.others))
  seam-parts front rest m first =
      ap (λ ls. of_lines ls ++ all_pieces s rest) m.alone ∙ ap (λ ps. ps ++ all_pieces s rest) (flat_map-append (pieces s None) m.lines (m.line ∷ []))
      ∙ ap (λ ps. (of_lines m.lines ++ ps) ++ all_pieces s rest) (append-nil (pieces s None m.line))
      ∙ ap (λ ls. (of_lines m.lines ++ pieces s None m.line) ++ of_lines ls) first.is
      ∙ append_assoc (of_lines m.lines) (pieces s None m.line) (pieces s None first.line ++ of_lines first.others)

  seam-split : (front rest : List ℕ) (m : Seam front) (first : FirstLine rest) → begins_with_line_feed rest ≡ false
      → pieces s None (m.line ++ first.line) ≡ pieces s None m.line ++ pieces s None first.line
      → all_pieces s (front ++ rest) ≡ all_pieces s front ++ all_pieces s rest
  seam-split front rest m first no_feed e =
      seam-whole front rest m first no_feed ∙ ap (λ ps. of_lines m.lines ++ (ps ++ of_lines first.others)) e
      ∙ ap (λ ps. of_lines m.lines ++ ps) (append_assoc (pieces s None m.line) (pieces s None first.line) (of_lines first.others))
      ∙ sym (seam-parts front rest m first)

  -- the first line of what begins with a slash
  first-slash : (r : List ℕ) → FirstLine (47 ∷ r)
  first-slash r =
      let rest = first-line r in
      record { line = 47 ∷ rest.line; others = rest.others; is = lines-no_end 47 r refl ∙ ap (onto_first 47) rest.is; begins = λ k. refl }

  before-other : (front r back : List ℕ) → all_pieces s (front ++ 47 ∷ r) ≡ all_pieces s front ++ all_pieces s (47 ∷ r)
      → begins_with_line_feed back ≡ false → begins_with 42 back ≡ false → all_pieces s (front ++ back) ≡ all_pieces s front ++ all_pieces s back
  unfolding first-slash
  before-other front r back h no_feed no_star =
      let m = seam front in
      let opened = first-line r in
      let first = first-line back in
      let whole = sym (seam-whole front (47 ∷ r) m (first-slash r) refl) ∙ h ∙ seam-parts front (47 ∷ r) m (first-slash r) in
      let here = append_cancel_left (of_lines m.lines) (pieces s None (m.line ++ 47 ∷ opened.line) ++ of_lines opened.others)
      (pieces s None m.line ++ (pieces s None (47 ∷ opened.line) ++ of_lines opened.others)) whole in
      seam-split front back m first no_feed (cut-at s (of_lines opened.others) opened.line first.line (first.begins 42 ∙ no_star) None m.line here)

  -- what is quiet begins with no star
  code-loud : (ps : List Piece) → AreQuiet (None ∷ ps) → ⊥
  code-loud ps quiet =
      let some : known_from None ps ≡ Some [] = quiet (Some []) in
      let none : known_from None ps ≡ None = quiet None in
      let same : Some [] ≡ None = sym some ∙ none in
      cc

  star-loud : (back : List ℕ) → AreQuiet (all_pieces s (42 ∷ back)) → ⊥
  star-loud back quiet =
      let rest = first-line back in
      let is : all_pieces s (42 ∷ back) ≡ None ∷ (pieces s None rest.line ++ of_lines rest.others) =
      ap of_lines (lines-no_end 42 back refl ∙ ap (onto_first 42) rest.is) ∙ ap (λ ps. ps ++ of_lines rest.others) (pieces-star s rest.line) in
      code-loud (pieces s None rest.line ++ of_lines rest.others) (subst AreQuiet is quiet)

  no-star : (back : List ℕ) → AreQuiet (all_pieces s back) → begins_with 42 back ≡ false
  no-star [] quiet = refl
  no-star (c ∷ back) quiet =
      elim (c == 42) as (λ v. (c == 42) ≡ v → v ≡ false) [
        | true ↦ (λ e. absurd (star-loud back (subst (λ x. AreQuiet (all_pieces s (x ∷ back))) (eqb-true c 42 e) quiet)))
        | false ↦ (λ e. refl)
      ] refl

  no-feed : (c : ℕ) (front r back : List ℕ) → all_pieces s (front ++ 47 ∷ r) ≡ all_pieces s front ++ all_pieces s (47 ∷ r)
      → AreQuiet (all_pieces s (c ∷ back)) → (c == 10) ≡ false → url_known s (front ++ c ∷ back) ≡ url_known s front
  unfolding url_known
  no-feed c front r back h quiet e =
      ap (known_from None) (before-other front r (c ∷ back) h e (no-star (c ∷ back) quiet))
      ∙ fold-append known_after None (all_pieces s front) (all_pieces s (c ∷ back)) ∙ quiet (known_from None (all_pieces s front))

  cut : (front r back : List ℕ) → all_pieces s (front ++ 47 ∷ r) ≡ all_pieces s front ++ all_pieces s (47 ∷ r)
      → AreQuiet (all_pieces s back) → url_known s (front ++ back) ≡ url_known s front
  cut front r [] h quiet = ap (url_known s) (append-nil front)
  cut front r (c ∷ back) h quiet =
      elim (c == 10) as (λ v. (c == 10) ≡ v → url_known s (front ++ c ∷ back) ≡ url_known s front) [
        | true ↦ (λ e.
            let feed = eqb-true c 10 e in
            ap (λ x. url_known s (front ++ x ∷ back)) feed ∙ before-feed front back (subst (λ x. AreQuiet (all_pieces s (x ∷ back))) feed quiet))
        | false ↦ (λ e. no-feed c front r back h quiet e)
      ] refl

  -- a space changes nothing
  space-pieces : (back : List ℕ) → all_pieces s (32 ∷ back) ≡ all_pieces s back
  space-pieces back =
      let rest = first-line back in
      ap of_lines (lines-no_end 32 back refl ∙ ap (onto_first 32) rest.is) ∙ ap (λ ps. ps ++ of_lines rest.others) (pieces-white s 32 rest.line refl)
      ∙ sym (ap of_lines rest.is)

  apart : (front r back : List ℕ) → all_pieces s (front ++ 47 ∷ r) ≡ all_pieces s front ++ all_pieces s (47 ∷ r)
      → AreQuiet (all_pieces s back) → url_known s (front ++ 32 ∷ back) ≡ url_known s front
  apart front r back h quiet = cut front r (32 ∷ back) h (subst AreQuiet (sym (space-pieces back)) quiet)

  -- ---- a front that ends with a line

  last-same : (xs ys : List (List ℕ)) (x y : List ℕ) → xs ++ x ∷ [] ≡ ys ++ y ∷ [] → x ≡ y
  last-same [] [] x y e = cc
  last-same [] (b ∷ []) x y e = cc
  last-same [] (b ∷ c ∷ ys) x y e = cc
  last-same (a ∷ []) [] x y e = cc
  last-same (a ∷ c ∷ xs) [] x y e = cc
  last-same (a ∷ xs) (b ∷ ys) x y e =
      let rest : xs ++ x ∷ [] ≡ ys ++ y ∷ [] = cc in
      last-same xs ys x y rest

  at-line : (front r : List ℕ) → IsAtLineStart front → all_pieces s (front ++ 47 ∷ r) ≡ all_pieces s front ++ all_pieces s (47 ∷ r)
  at-line front r ends =
      let m = seam front in
      let first = first-slash r in
      let none : m.line ≡ [] = last-same m.lines ends.0 m.line [] (sym m.alone ∙ ends.1) in
      let here : pieces s None (m.line ++ first.line) ≡ pieces s None m.line ++ pieces s None first.line =
      ap (λ l. pieces s None (l ++ first.line)) none ∙ ap (λ ps. ps ++ pieces s None first.line) (sym (ap (pieces s None) none ∙ pieces-none s)) in
      seam-split front (47 ∷ r) m first refl here

-- ---- comments

-- a comment begins with a slash
record Slash (comment : List ℕ) : Type 0 where
  rest : List ℕ
  is : comment ≡ 47 ∷ rest

slash : (language : Language) (comment url : List ℕ) → IsMappingComment language comment url → Slash comment
slash language comment url is =
    elim is [
      | inl line ↦ record { rest = 47 ∷ drop_trailing_whitespace line.1; is = line.2 }
      | inr block ↦ record { rest = 42 ∷ block.0 ++ 42 ∷ 47 ∷ []; is = block.1 }
    ]

pub comment-cut : (language : Language) (front comment back url : List ℕ) → IsMappingComment language comment url
    → BeginsOutside language front (comment ++ back) → IsQuiet language back → mapping_url language (front ++ back) ≡ mapping_url language front
comment-cut language front comment back url is outside quiet =
    let begun = slash language comment url is in
    let there = subst (λ c. BeginsOutside language front (c ++ back)) begun.is outside in
    cut (has_line_comments language) front (begun.rest ++ back) back there quiet

pub comment-apart : (language : Language) (front comment back url : List ℕ) → IsMappingComment language comment url
    → BeginsOutside language front (comment ++ back) → IsQuiet language back → mapping_url language (front ++ 32 ∷ back) ≡ mapping_url language front
comment-apart language front comment back url is outside quiet =
    let begun = slash language comment url is in
    let there = subst (λ c. BeginsOutside language front (c ++ back)) begun.is outside in
    apart (has_line_comments language) front (begun.rest ++ back) back there quiet

pub line-outside : (language : Language) (front comment back url : List ℕ) → IsMappingComment language comment url → IsAtLineStart front
    → BeginsOutside language front (comment ++ back)
line-outside language front comment back url is ends =
    let begun = slash language comment url is in
    subst (λ c. BeginsOutside language front (c ++ back)) (sym begun.is) (at-line (has_line_comments language) front (begun.rest ++ back) ends)
