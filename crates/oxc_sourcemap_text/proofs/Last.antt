-- What is behind the comment that names a URL changes nothing.
use Rattle.std.proofs.Common.{◌≡◌, ℕ, Bool, true, false, List, [], ◌∷◌, ◌++◌, ◌==◌, ◌&&◌, refl, sym}
use Rattle.std.proofs.Common.{subst}
use Rattle.std.proofs.Common.{ap, ◌∙◌, Option, Some, None, if◌then◌else◌, fold, flat_map, inl, inr}
use Rattle.std.proofs.Common.{IfSome, length}
use Rattle.std.specs.Option.{option_or}
use Rattle.std.specs.Char.{is_whitespace}
use Rattle.std.specs.Str.{chars, IsUtf8, drop_trailing_whitespace}
use Rattle.std.proofs.lemmas.Bool.{and_parts, eqb-true}
use Rattle.std.proofs.lemmas.Str.{chars-append}
use Rattle.std.proofs.lemmas.List.{append-nil, append_assoc, nil_from_length}
use Rattle.std.proofs.lemmas.List.Sums.{fold-append}
use Rattle.oxc_sourcemap_text.specs.TextLines.{ends_line, onto_first, lines_of}
use Rattle.oxc_sourcemap_text.specs.declared.url.comment.Place.{Place}
use Rattle.oxc_sourcemap_text.specs.declared.url.comment.Naming.{Naming}
use Rattle.oxc_sourcemap_text.specs.MappingUrls.{Piece, pieces, known_after, all_pieces, AreQuiet}
use Rattle.oxc_sourcemap_text.specs.MappingUrls.{named_url}
use Rattle.oxc_sourcemap_text.specs.MappingUrls.{around_block_end}
use Rattle.oxc_sourcemap_text.specs.Comments.{IsKnownAfter, IsQuietText, IsLastUpTo, IsLineOf}
use Rattle.oxc_sourcemap_text.specs.Comments.{pieces_left}
use Rattle.oxc_sourcemap_text.proofs.Cuts.{lines-end, lines-no_end}
use Rattle.oxc_sourcemap_text.proofs.Blocks.{chars-end}
use Rattle.oxc_sourcemap_text.proofs.Pieces.{pieces-nil, pieces-space, pieces-line, pieces-block}

-- ---- quiet pieces

quiet-nothing : AreQuiet []
quiet-nothing = λ known. refl

quiet-more : (read : List Piece) (text : List ℕ) → AreQuiet read → IsQuietText text → AreQuiet (read ++ Some text ∷ [])
quiet-more read text quiet is = λ known.
    fold-append known_after known read (Some text ∷ []) ∙ ap (λ b. if b then None else option_or (named_url text) (fold known_after known read)) is.0
    ∙ ap (λ o. option_or o (fold known_after known read)) is.1 ∙ quiet known

-- what is known after a comment is the last, if what was known was the last up to it, and the comment is where it names a URL
pub last-after : (s : Bool) (known result : Option Naming) (text : List ℕ) (place : Place) (left : List Piece) → IfSome result (IsKnownAfter known text place)
    → IfSome known (IsLastUpTo s (Some text ∷ left)) → ((new : Naming) → new.place ≡ place → IsLastUpTo s left new) → IfSome result (IsLastUpTo s left)
last-after s known None text place left after before here = tt
last-after s known (Some new) text place left after before here =
    elim after [
      | inl same ↦ (let was = subst (λ k. IfSome k (IsLastUpTo s (Some text ∷ left))) same.0 before in record {
        read = was.read ++ Some text ∷ [];
        quiet = quiet-more was.read text was.quiet same.1;
        behind = was.behind ∙ sym (append_assoc was.read (Some text ∷ []) left);
      })
      | inr found ↦ here new found.0
    ]

-- ---- lines

nothing-left : (xs ys : List ℕ) → xs ++ ys ≡ [] → ys ≡ []
nothing-left [] ys e = e
nothing-left (x ∷ xs) ys e = cc

onto-some : (c : ℕ) (ls : List (List ℕ)) → onto_first c ls ≡ [] → ⊥
onto-some c [] e = cc
onto-some c (l ∷ ls) e = cc

pub lines-some : (xs : List ℕ) → lines_of xs ≡ [] → ⊥
unfolding lines_of
lines-some [] e = cc
lines-some (x ∷ xs) e =
    elim (ends_line x xs) as (λ v. (if v then (x ∷ []) ∷ lines_of xs else onto_first x (lines_of xs)) ≡ [] → ⊥) [
      | true ↦ (λ f. cc)
      | false ↦ (λ f. onto-some x (lines_of xs) f)
    ] e

pub onto-parts : (c : ℕ) (ls : List (List ℕ)) (line : List ℕ) (others : List (List ℕ)) → (ls ≡ [] → ⊥) → onto_first c ls ≡ (c ∷ line) ∷ others → ls ≡ line ∷ others
onto-parts c [] line others some e = absurd (some refl)
onto-parts c (l ∷ ls) line others some e = cc

pub shorter : (c : ℕ) (line after : List ℕ) (others : List (List ℕ)) → (line ≡ [] → ⊥) → lines_of (c ∷ line ++ after) ≡ (c ∷ line) ∷ others
    → lines_of (line ++ after) ≡ line ∷ others
shorter c line after others some e =
    elim (ends_line c (line ++ after)) as (λ v. ends_line c (line ++ after) ≡ v → lines_of (line ++ after) ≡ line ∷ others) [
      | true ↦ (λ h.
          let cut : (c ∷ []) ∷ lines_of (line ++ after) ≡ (c ∷ line) ∷ others = sym (lines-end c (line ++ after) h) ∙ e in
          let same : line ≡ [] = cc in
          absurd (some same))
      | false ↦ (λ h. onto-parts c (lines_of (line ++ after)) line others (lines-some (line ++ after)) (sym (lines-no_end c (line ++ after) h) ∙ e))
    ] refl

pub suffix : (front rest after : List ℕ) (others : List (List ℕ)) → (rest ≡ [] → ⊥) → lines_of ((front ++ rest) ++ after) ≡ (front ++ rest) ∷ others
    → lines_of (rest ++ after) ≡ rest ∷ others
suffix [] rest after others some e = e
suffix (c ∷ front) rest after others some e =
    suffix front rest after others some (shorter c (front ++ rest) after others (λ h. some (nothing-left front rest h)) e)

-- the pieces of the end of a line, and of what is behind the line
pub end-pieces : (s : Bool) (line front rest after : List ℕ) → IsLineOf s line after → line ≡ front ++ rest
    → all_pieces s (rest ++ after) ≡ pieces_left s rest after
end-pieces s line front [] after is e = ap (λ ps. ps ++ all_pieces s after) (sym (pieces-nil s))
end-pieces s line front (r ∷ rest) after is e =
    let cut : lines_of ((front ++ r ∷ rest) ++ after) ≡ (front ++ r ∷ rest) ∷ is.others = subst (λ l. lines_of (l ++ after) ≡ l ∷ is.others) e is.cut in
    ap (λ ls. flat_map (pieces s None) ls) (suffix front (r ∷ rest) after is.others (λ h. cc) cut) ∙ ap (λ ps. pieces s None (r ∷ rest) ++ ps) is.pieces_are

-- ---- white space at the end

blank-pieces : (s : Bool) (ws : List ℕ) → drop_trailing_whitespace ws ≡ [] → pieces s None ws ≡ []
blank-pieces s [] e = pieces-nil s
blank-pieces s (w ∷ ws) e =
    elim (is_whitespace w && length (drop_trailing_whitespace ws) == 0) as (λ v. (is_whitespace w && length (drop_trailing_whitespace ws) == 0) ≡ v
    → (if v then [] else w ∷ drop_trailing_whitespace ws) ≡ [] → pieces s None (w ∷ ws) ≡ []) [
      | true ↦ (λ h f.
          let parts = and_parts (is_whitespace w) (length (drop_trailing_whitespace ws) == 0) h in
          let rest : drop_trailing_whitespace ws ≡ [] = nil_from_length (drop_trailing_whitespace ws) (eqb-true (length (drop_trailing_whitespace ws)) 0 parts.1) in
          pieces-space s w ws parts.0 ∙ blank-pieces s ws rest)
      | false ↦ (λ h f. cc)
    ] refl e

blank-end : (cs ws : List ℕ) → cs ≡ drop_trailing_whitespace cs ++ ws → drop_trailing_whitespace ws ≡ []
blank-end [] ws e = ap drop_trailing_whitespace (sym e)
blank-end (c ∷ cs) ws e =
    elim (is_whitespace c && length (drop_trailing_whitespace cs) == 0) as (λ v. (is_whitespace c && length (drop_trailing_whitespace cs) == 0) ≡ v
    → c ∷ cs ≡ (if v then [] else c ∷ drop_trailing_whitespace cs) ++ ws → drop_trailing_whitespace ws ≡ []) [
      | true ↦ (λ h f. ap drop_trailing_whitespace (sym f) ∙ rw h refl)
      | false ↦ (λ h f. let rest : cs ≡ drop_trailing_whitespace cs ++ ws = cc in blank-end cs ws rest)
    ] refl e

-- the white space at the end of a comment has no pieces
pub space-pieces : (s : Bool) (text inner rest : List ℕ) → text ≡ inner ++ rest → IsUtf8 inner → chars inner ≡ drop_trailing_whitespace (chars text)
    → pieces s None (chars rest) ≡ []
space-pieces s text inner rest cut utf8 trim =
    let spelt : chars text ≡ drop_trailing_whitespace (chars text) ++ chars rest =
    ap chars cut ∙ chars-append inner rest utf8 ∙ ap (λ l. l ++ chars rest) trim in
    blank-pieces s (chars rest) (blank-end (chars text) (chars rest) spelt)

-- ---- a comment that names a URL is the last

pub last-here : (s : Bool) (line front : List ℕ) (new : Naming) (place : Place) → IsLineOf s line (chars place.after.now) → line ≡ front ++ chars place.rest.now
    → IsUtf8 place.rest.now → new.place ≡ place → IsLastUpTo s (pieces_left s (chars place.rest.now) (chars place.after.now)) new
last-here s line front new place is cut utf8 e = record {
  read = [];
  quiet = quiet-nothing;
  behind = ap (λ (p : Place). all_pieces s (chars (p.rest.now ++ p.after.now))) e
      ∙ ap (all_pieces s) (chars-append place.rest.now place.after.now utf8) ∙ end-pieces s line front (chars place.rest.now) (chars place.after.now) is cut;
}

pub last-left : (s : Bool) (known : Option Naming) (left next : List Piece) → left ≡ next → IfSome known (IsLastUpTo s left) → IfSome known (IsLastUpTo s next)
last-left s known left next e is = subst (λ ps. IfSome known (IsLastUpTo s ps)) e is

pub quiet-end : (s : Bool) (known : Naming) → IsLastUpTo s [] known → AreQuiet (all_pieces s (chars (known.place.rest.now ++ known.place.after.now)))
quiet-end s known is = λ before. ap (fold known_after before) (is.behind ∙ append-nil is.read) ∙ is.quiet before

-- ---- the line up to what is left of it

pub spelt-next : (line front rest cs : List ℕ) (c : ℕ) → line ≡ front ++ rest → rest ≡ c ∷ cs → line ≡ (front ++ c ∷ []) ++ cs
spelt-next line front rest cs c e f = e ∙ ap (λ l. front ++ l) f ∙ sym (append_assoc front (c ∷ []) cs)

pub begun : (rest cs text : List ℕ) (c second : ℕ) → rest ≡ c ∷ cs → c ≡ 47 → cs ≡ second ∷ text → rest ≡ 47 ∷ second ∷ text
begun rest cs text c second e is next = e ∙ ap (λ d. d ∷ cs) is ∙ ap (λ l. 47 ∷ l) next

pub spelt-comment : (line front rest cs text inner left : List ℕ) (c second : ℕ) → line ≡ front ++ rest → rest ≡ c ∷ cs → c ≡ 47 → cs ≡ second ∷ text
    → text ≡ inner ++ left → line ≡ (front ++ 47 ∷ second ∷ inner) ++ left
spelt-comment line front rest cs text inner left c second whole e is next cut =
    whole ∙ ap (λ l. front ++ l) (begun rest cs text c second e is next ∙ ap (λ l. 47 ∷ second ∷ l) cut) ∙ sym (append_assoc front (47 ∷ second ∷ inner) left)

-- ---- the pieces that are left

pub left-space : (s : Bool) (rest cs after : List ℕ) (c : ℕ) → rest ≡ c ∷ cs → is_whitespace c ≡ true → pieces_left s rest after ≡ pieces_left s cs after
left-space s rest cs after c e white = ap (λ ps. ps ++ all_pieces s after) (ap (pieces s None) e ∙ pieces-space s c cs white)

pub left-line : (s : Bool) (rest cs text after : List ℕ) (c : ℕ) → rest ≡ c ∷ cs → c ≡ 47 → cs ≡ 47 ∷ text → s ≡ true
    → pieces_left s rest after ≡ Some text ∷ all_pieces s after
left-line s rest cs text after c e is next on =
    ap (λ ps. ps ++ all_pieces s after) (ap (pieces s None) (begun rest cs text c 47 e is next) ∙ ap (λ t. pieces t None (47 ∷ 47 ∷ text)) on ∙ pieces-line text)

pub left-block : (s : Bool) (rest cs text comment code after : List ℕ) (c : ℕ) → rest ≡ c ∷ cs → c ≡ 47 → cs ≡ 42 ∷ text
    → around_block_end text ≡ Some (comment, code) → pieces_left s rest after ≡ Some comment ∷ pieces_left s code after
left-block s rest cs text comment code after c e is next around =
    ap (λ ps. ps ++ all_pieces s after) (ap (pieces s None) (begun rest cs text c 42 e is next) ∙ pieces-block s text comment code around)

pub spelt-block : (text comment code : List ℕ) → text ≡ comment ++ 42 ∷ 47 ∷ code → IsUtf8 comment → IsUtf8 code
    → chars text ≡ (chars comment ++ 42 ∷ 47 ∷ []) ++ chars code
spelt-block text comment code whole front utf8 =
    ap chars whole ∙ chars-append comment (42 ∷ 47 ∷ code) front ∙ ap (λ l. chars comment ++ l) (chars-end code utf8)
    ∙ sym (append_assoc (chars comment) (42 ∷ 47 ∷ []) (chars code))

pub line-of : (s : Bool) (text line after : List ℕ) → text ≡ line ++ after → IsUtf8 line → lines_of (chars text) ≡ chars line ∷ lines_of (chars after)
    → IsLineOf s (chars line) (chars after)
line-of s text line after whole utf8 cut = record {
  others = lines_of (chars after);
  cut = ap lines_of (sym (ap chars whole ∙ chars-append line after utf8)) ∙ cut;
  pieces_are = refl;
}

pub last-line : (s : Bool) (line after : List ℕ) → after ≡ [] → lines_of line ≡ line ∷ [] → IsLineOf s line after
unfolding lines_of
last-line s line after e cut = record {
  others = [];
  cut = ap (λ l. lines_of (line ++ l)) e ∙ ap lines_of (append-nil line) ∙ cut;
  pieces_are = sym (ap (all_pieces s) e ∙ ap (λ ps. ps ++ []) (pieces-nil s));
}

pub nothing-behind : (s : Bool) (after : List ℕ) → after ≡ [] → all_pieces s after ≡ []
unfolding lines_of
nothing-behind s after e = ap (all_pieces s) e ∙ ap (λ ps. ps ++ []) (pieces-nil s)
