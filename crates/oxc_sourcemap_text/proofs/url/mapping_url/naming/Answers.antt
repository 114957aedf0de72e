use Rattle.std.proofs.Common.{[], refl, ◌≡◌, ◌++◌, ◌∙◌, List, sym, ap, subst, fold, flat_map, None}
use Rattle.std.specs.Str.{chars}
use Rattle.std.proofs.lemmas.Str.{chars-nil, chars-append, IsUtf8-append, IsUtf8-nil}
use Rattle.std.proofs.lemmas.List.{append-nil, append_assoc}
use Rattle.std.proofs.lemmas.List.Sums.{fold-append}
use Rattle.oxc_sourcemap_text.specs.TextLines.{lines_of}
use Rattle.oxc_sourcemap_text.specs.MappingUrls.{Piece, known_after, pieces, all_pieces}
use Rattle.oxc_sourcemap_text.specs.Comments.{url_of, AreReadApart}
use Rattle.oxc_sourcemap_text.proofs.Last.{line-of, last-line, last-left, nothing-behind}
use Rattle.oxc_sourcemap_text.proofs.Apart.{apart-start, apart-next}
use Rattle.oxc_sourcemap_text.proofs.url.mapping_url.naming.Goals as goal

pub loop-line-init : goal.loop-line-init
loop-line-init c = record {
  utf8 = c.utf8.code;
  known = refl;
  front = ([], refl, IsUtf8-nil, apart-start c.args.slashes (chars []) (chars c.args.code.now) chars-nil);
  placed = tt;
  last = tt;
}

pub loop-line-preserved : goal.loop-line-preserved
loop-line-preserved c =
    let inv = c.loop-line.invariant in
    let line : List Piece = pieces c.args.slashes None (chars c.in-Some.line.now) in
    let rest : List Piece = flat_map (pieces c.args.slashes None) (lines_of (chars c.in-Some.after.now)) in
    let all : fold known_after (url_of c.loop-line.known) (line ++ rest)
    ≡ fold known_after (url_of c.loop-line.known) (flat_map (pieces c.args.slashes None) (lines_of (chars c.loop-line.rest.now))) =
    ap (λ ls. fold known_after (url_of c.loop-line.known) (flat_map (pieces c.args.slashes None) ls)) (sym c.in-Some.ensures.cut) in
    let s = c.args.slashes in
    let before = inv.front.0 in
    let whole = inv.front.1 ∙ ap (λ l. before ++ l) c.in-Some.ensures.whole ∙ sym (append_assoc before c.in-Some.line.now c.in-Some.after.now) in
    let is = line-of s _ c.in-Some.line.now c.in-Some.after.now c.in-Some.ensures.whole c.in-Some.ensures.front c.in-Some.ensures.cut in
    let spelt : chars c.loop-line.rest.now ≡ chars c.in-Some.line.now ++ chars c.in-Some.after.now =
    ap chars c.in-Some.ensures.whole ∙ chars-append c.in-Some.line.now c.in-Some.after.now c.in-Some.ensures.front in
    let apart : AreReadApart s (chars before) (chars c.in-Some.line.now ++ chars c.in-Some.after.now) =
    subst (λ l. AreReadApart s (chars before) l) spelt inv.front.3 in
    let behind : AreReadApart s (chars (before ++ c.in-Some.line.now)) (chars c.in-Some.after.now) =
    subst (λ f. AreReadApart s f (chars c.in-Some.after.now)) (sym (chars-append before c.in-Some.line.now inv.front.2))
    (apart-next s (chars before) (chars c.in-Some.line.now) (chars c.in-Some.after.now) apart (ap lines_of (sym spelt) ∙ c.in-Some.ensures.cut)) in
    record {
      utf8 = c.in-Some.ensures.utf8;
      known = ap (λ k. fold known_after k rest) c.read_line-known.ensures.url ∙ sym (fold-append known_after (url_of c.loop-line.known) line rest) ∙ all ∙ inv.known;
      front = (before ++ c.in-Some.line.now, whole, IsUtf8-append before c.in-Some.line.now inv.front.2 c.in-Some.ensures.front, behind);
      placed = c.read_line-known.ensures.placed c.args.code.now before whole inv.front.2 apart is inv.placed;
      last = c.read_line-known.ensures.last is
          (last-left c.args.slashes c.loop-line.known _ _ (ap (flat_map (pieces c.args.slashes None)) c.in-Some.ensures.cut) inv.last);
    }

pub returns-clause-placed : goal.returns-clause-placed
returns-clause-placed c =
    let s = c.args.slashes in
    let inv = c.loop-line.invariant in
    let rest = chars c.loop-line.rest.now in
    let whole = inv.front.1 ∙ sym (append-nil (inv.front.0 ++ c.loop-line.rest.now)) in
    let apart : AreReadApart s (chars inv.front.0) (rest ++ chars []) =
    subst (λ l. AreReadApart s (chars inv.front.0) l) (sym (ap (λ l. rest ++ l) chars-nil ∙ append-nil rest)) inv.front.3 in
    let is = last-line s rest (chars []) chars-nil (c.in_default.ensures.last refl) in
    c.read_line.ensures.placed c.args.code.now inv.front.0 whole inv.front.2 apart is inv.placed

pub returns-clause-last : goal.returns-clause-last
returns-clause-last c =
    let s = c.args.slashes in
    let rest = chars c.loop-line.rest.now in
    let cut = c.in_default.ensures.last refl in
    let nothing = nothing-behind s (chars []) chars-nil in
    let left = ap (flat_map (pieces s None)) cut ∙ ap (λ ps. pieces s None rest ++ ps) (sym nothing) in
    last-left s c.read_line.result (all_pieces s (chars [])) [] nothing
    (c.read_line.ensures.last (last-line s rest (chars []) chars-nil cut) (last-left s c.loop-line.known _ _ left c.loop-line.invariant.last))
