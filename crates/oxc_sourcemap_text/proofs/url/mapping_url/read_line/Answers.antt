use Rattle.std.proofs.Common.{◌≡◌, ◌<◌, List, ◌∷◌, ◌++◌, ◌∙◌, sym}
use Rattle.std.proofs.Common.{ap, arith, length, subst, [], None, Some}
use Rattle.std.proofs.Common.{fold}
use Rattle.std.specs.Str.{chars, IsUtf8}
use Rattle.std.specs.Str.Iter.{chars_rest}
use Rattle.std.proofs.lemmas.List.{nil_from_length}
use Rattle.std.proofs.lemmas.Str.{chars-append, chars_past_char, chars-nil, IsUtf8-past_char}
use Rattle.oxc_sourcemap_text.specs.Comments.{second_of, url_of, pieces_left, IsLastUpTo}
use Rattle.oxc_sourcemap_text.specs.Comments.{IsOnOneLine}
use Rattle.oxc_sourcemap_text.proofs.LinesKept.{IsEnded, own-line, line-ended, block-ended}
use lib.Utf8.{encode}
use Rattle.oxc_sourcemap_text.proofs.Placed.{placed-after, passed-next, past-comment, around}
use Rattle.oxc_sourcemap_text.proofs.Placed.{line-placed, block-placed}
use Rattle.oxc_sourcemap_text.specs.MappingUrls.{Piece, known_after, pieces, all_pieces}
use Rattle.oxc_sourcemap_text.proofs.Pieces.{past-space, past-code, past-line, past-block}
use Rattle.oxc_sourcemap_text.proofs.Pieces.{past-open, pieces-nil}
use Rattle.oxc_sourcemap_text.proofs.Blocks.{around-shorter}
use Rattle.oxc_sourcemap_text.proofs.Last.{last-after, last-here, last-left, space-pieces}
use Rattle.oxc_sourcemap_text.proofs.Last.{spelt-next, spelt-comment, spelt-block, left-space}
use Rattle.oxc_sourcemap_text.proofs.Last.{left-line}
use Rattle.oxc_sourcemap_text.proofs.Last.{left-block}
use Rattle.oxc_sourcemap_text.proofs.Apart.{AreCutAt, cut-start, cut-space, cut-code, cut-block}
use Rattle.oxc_sourcemap_text.proofs.Apart.{outside-here, pieces-here, pieces-behind}
use Rattle.oxc_sourcemap_text.proofs.url.mapping_url.read_line.Goals as goal

pub loop-ch-smaller-then-is_whitespace : goal.loop-ch-smaller-then-is_whitespace
loop-ch-smaller-then-is_whitespace c =
    let spelt = chars_past_char _ _ c.in-Some.ch c.loop-ch.invariant.utf8 c.in-Some.ensures.steps.0 in
    omega (arith, ap length spelt)

pub loop-ch-preserved-then-is_whitespace : goal.loop-ch-preserved-then-is_whitespace
loop-ch-preserved-then-is_whitespace c =
    let inv = c.loop-ch.invariant in
    let spelt = chars_past_char _ _ c.in-Some.ch inv.utf8 c.in-Some.ensures.steps.0 in
    record {
      utf8 = IsUtf8-past_char _ _ c.in-Some.ch inv.utf8 c.in-Some.ensures.steps.0;
      known = past-space c.args.slashes (url_of c.loop-ch.known) _ c.in-Some.ch _ _ spelt inv.known (sym c.is_whitespace.ensures ∙ c.if-is_whitespace.true);
      passed = (inv.passed.0 ++ encode c.in-Some.ch, passed-next _ inv.passed.0 _ _ c.in-Some.ch inv.passed.1 c.in-Some.ensures.steps.0);
      placed = inv.placed;
      spelt = (
        inv.spelt.0 ++ c.in-Some.ch ∷ [],
        spelt-next _ inv.spelt.0 _ _ c.in-Some.ch inv.spelt.1 spelt,
        cut-space c.args.slashes inv.spelt.0 _ _ c.in-Some.ch inv.spelt.2 spelt (sym c.is_whitespace.ensures ∙ c.if-is_whitespace.true),
      );
      last = λ is before. last-left c.args.slashes c.loop-ch.known _ _
          (left-space c.args.slashes _ _ (chars c.args.after.now) c.in-Some.ch spelt (sym c.is_whitespace.ensures ∙ c.if-is_whitespace.true)) (inv.last is before);
    }

pub loop-ch-smaller-in_default-comment_at : goal.loop-ch-smaller-in_default-comment_at
loop-ch-smaller-in_default-comment_at c =
    let spelt = chars_past_char _ _ c.in-Some.ch c.loop-ch.invariant.utf8 c.in-Some.ensures.steps.0 in
    omega (arith, ap length spelt)

pub loop-ch-preserved-in_default-comment_at : goal.loop-ch-preserved-in_default-comment_at
loop-ch-preserved-in_default-comment_at c =
    let inv = c.loop-ch.invariant in
    let spelt = chars_past_char _ _ c.in-Some.ch inv.utf8 c.in-Some.ensures.steps.0 in
    let none = rw c.as_str.ensures at c.in_default-comment_at.ensures.at in
    record {
      utf8 = IsUtf8-past_char _ _ c.in-Some.ch inv.utf8 c.in-Some.ensures.steps.0;
      known = past-code c.args.slashes (url_of c.loop-ch.known) _ c.in-Some.ch _ _ spelt inv.known
          (sym c.is_whitespace.ensures ∙ c.if-is_whitespace.false) none.0 none.1;
      passed = (inv.passed.0 ++ encode c.in-Some.ch, passed-next _ inv.passed.0 _ _ c.in-Some.ch inv.passed.1 c.in-Some.ensures.steps.0);
      placed = λ _ _ _ _ _ _ _. tt;
      spelt = (
        inv.spelt.0 ++ c.in-Some.ch ∷ [],
        spelt-next _ inv.spelt.0 _ _ c.in-Some.ch inv.spelt.1 spelt,
        cut-code c.args.slashes inv.spelt.0 _ _ c.in-Some.ch inv.spelt.2 spelt (sym c.is_whitespace.ensures ∙ c.if-is_whitespace.false) none.0 none.1,
      );
      last = λ _ _. tt;
    }

pub returns-then-ends_with_line-clause-url : goal.returns-then-ends_with_line-clause-url
returns-then-ends_with_line-clause-url c =
    let inv = c.loop-ch.invariant in
    let spelt = chars_past_char _ _ c.in-Some.ch inv.utf8 c.in-Some.ensures.steps.0 in
    let found = c.in-Some-comment_at.ensures.at in
    let second = sym (ap chars c.as_str.ensures) ∙ found.1 ∙ ap (λ b. second_of b ∷ chars c.in-Some-comment_at.text.now) c.if-ends_with_line.true in
    c.known_after.ensures.url ∙ past-line c.args.slashes (url_of c.loop-ch.known) _ c.in-Some.ch _ _ spelt inv.known
    (chars c.in-Some-comment_at.text.now) found.0 second (found.2 c.if-ends_with_line.true)

pub returns-then-ends_with_line-clause-placed : goal.returns-then-ends_with_line-clause-placed
returns-then-ends_with_line-clause-placed c = λ code front whole utf8 apart is before.
    let s = c.args.slashes in
    let low : 47 < 128 = omega arith in
    let inv = c.loop-ch.invariant in
    let spelt = chars_past_char _ _ c.in-Some.ch inv.utf8 c.in-Some.ensures.steps.0 in
    let found = c.in-Some-comment_at.ensures.at in
    let next = sym c.as_str.ensures ∙ c.in-Some-comment_at.ensures.bytes ∙ ap (λ b. encode (second_of b) ++ c.in-Some-comment_at.text.now) c.if-ends_with_line.true in
    let trim = c.space_at_end-rest.ensures.cut in
    let outside = outside-here s front _ c.args.after.now inv.passed.0 _ _ c.in-Some-comment_at.text.now inv.spelt.0 _ c.in-Some.ch 47 utf8 c.utf8.line inv.utf8
    apart is inv.passed.1 inv.spelt.1 inv.spelt.2 spelt c.in-Some.ensures.steps.0 found.0 low next in
    let text = c.in-Some-comment_at.text.now in
    let after = c.args.after.now in
    let rest = c.space_at_end-rest.result.now in
    let second = sym (ap chars c.as_str.ensures) ∙ found.1 ∙ ap (λ b. second_of b ∷ chars text) c.if-ends_with_line.true in
    let own : chars text ≡ chars trim.0 ++ chars rest = ap chars trim.1 ∙ chars-append trim.0 rest trim.3 in
    let cut = spelt-comment _ inv.spelt.0 _ _ _ _ _ c.in-Some.ch 47 inv.spelt.1 spelt found.0 second own in
    let coming = pieces-here s _ after _ _ text inv.spelt.0 c.in-Some.ch 47 inv.utf8 is inv.spelt.1 c.in-Some.ensures.steps.0 found.0 low next
    ∙ left-line s _ _ (chars text) (chars after) c.in-Some.ch spelt found.0 second (found.2 c.if-ends_with_line.true)
    ∙ ap (λ ps. Some (chars text) ∷ ps) (sym (pieces-behind s _ after _ rest c.space_at_end-rest.ensures.utf8 is cut
    ∙ ap (λ ps. ps ++ all_pieces s (chars after)) (space-pieces s text trim.0 rest trim.1 trim.3 trim.2))) in
    let one = subst (λ l. IsOnOneLine (47 ∷ 47 ∷ chars trim.0) l) (sym (chars-append rest after c.space_at_end-rest.ensures.utf8))
    (own-line s _ inv.spelt.0 (47 ∷ 47 ∷ chars trim.0) (chars rest) (chars after) is cut
    (subst (λ l. IsEnded (47 ∷ 47 ∷ l)) (sym trim.2) (line-ended (chars text)))) in
    placed-after s code c.loop-ch.known _ (chars c.in-Some-comment_at.text.now) _ c.known_after.ensures.place (inv.placed code front whole utf8 apart is before)
    (λ new e names. line-placed s code (front ++ inv.passed.0) [] new _ trim.0
    (around code front _ _ inv.passed.0 _ _ _ c.in-Some.ch 47 whole inv.passed.1 c.in-Some.ensures.steps.0 found.0 low next)
    (found.2 c.if-ends_with_line.true) trim.1 trim.2 trim.3 c.space_at_end-rest.ensures.utf8 c.utf8.after outside coming one e names)

pub returns-then-ends_with_line-clause-last : goal.returns-then-ends_with_line-clause-last
returns-then-ends_with_line-clause-last c = λ is before.
    let s = c.args.slashes in
    let inv = c.loop-ch.invariant in
    let text = c.in-Some-comment_at.text.now in
    let after = c.args.after.now in
    let spelt = chars_past_char _ _ c.in-Some.ch inv.utf8 c.in-Some.ensures.steps.0 in
    let found = c.in-Some-comment_at.ensures.at in
    let second = sym (ap chars c.as_str.ensures) ∙ found.1 ∙ ap (λ b. second_of b ∷ chars text) c.if-ends_with_line.true in
    let trim = c.space_at_end-rest.ensures.cut in
    let rest = c.space_at_end-rest.result.now in
    let own : chars text ≡ chars trim.0 ++ chars rest = ap chars trim.1 ∙ chars-append trim.0 rest trim.3 in
    let cut = spelt-comment _ inv.spelt.0 _ _ _ _ _ c.in-Some.ch 47 inv.spelt.1 spelt found.0 second own in
    last-after s c.loop-ch.known _ (chars text) _ (all_pieces s (chars after)) c.known_after.ensures.place
    (last-left s c.loop-ch.known _ _ (left-line s _ _ (chars text) (chars after) c.in-Some.ch spelt found.0 second (found.2 c.if-ends_with_line.true)) (inv.last is before))
    (λ new e. subst (λ (ps : List Piece). IsLastUpTo s (ps ++ all_pieces s (chars after)) new) (space-pieces s text trim.0 rest trim.1 trim.3 trim.2)
    (last-here s _ _ new _ is cut c.space_at_end-rest.ensures.utf8 e))

pub returns-in_err-comment-clause-last : goal.returns-in_err-comment-clause-last
returns-in_err-comment-clause-last c = λ _ _. rw c.from_residual.ensures tt

pub returns-in_err-comment-clause-url : goal.returns-in_err-comment-clause-url
returns-in_err-comment-clause-url c =
    let inv = c.loop-ch.invariant in
    let spelt = chars_past_char _ _ c.in-Some.ch inv.utf8 c.in-Some.ensures.steps.0 in
    let found = c.in-Some-comment_at.ensures.at in
    let second = sym (ap chars c.as_str.ensures) ∙ found.1 ∙ ap (λ b. second_of b ∷ chars c.in-Some-comment_at.text.now) c.if-ends_with_line.false in
    let ended = past-open c.args.slashes (url_of c.loop-ch.known) _ c.in-Some.ch _ _ spelt inv.known
    (chars c.in-Some-comment_at.text.now) found.0 second (sym c.in_err-comment.ensures.parts) in
    rw c.from_residual.ensures ended

pub returns-in_err-comment-clause-placed : goal.returns-in_err-comment-clause-placed
returns-in_err-comment-clause-placed c = λ _ _ _ _ _ _ _. rw c.from_residual.ensures tt

pub loop-ch-smaller : goal.loop-ch-smaller
loop-ch-smaller c =
    let inv = c.loop-ch.invariant in
    let spelt = chars_past_char _ _ c.in-Some.ch inv.utf8 c.in-Some.ensures.steps.0 in
    let found = c.in-Some-comment_at.ensures.at in
    let second = sym (ap chars c.as_str.ensures) ∙ found.1 in
    let shorter = rw (sym c.in_ok-comment.ensures.parts) at (around-shorter (chars c.in-Some-comment_at.text.now)) in
    omega (arith, ap length spelt, ap length second, shorter, ap (λ l. length (chars l)) c.chars-rest-in-Some.ensures.rest)

pub loop-ch-preserved : goal.loop-ch-preserved
loop-ch-preserved c =
    let inv = c.loop-ch.invariant in
    let spelt = chars_past_char _ _ c.in-Some.ch inv.utf8 c.in-Some.ensures.steps.0 in
    let found = c.in-Some-comment_at.ensures.at in
    let second = sym (ap chars c.as_str.ensures) ∙ found.1 ∙ ap (λ b. second_of b ∷ chars c.in-Some-comment_at.text.now) c.if-ends_with_line.false in
    let next = sym c.as_str.ensures ∙ c.in-Some-comment_at.ensures.bytes ∙ ap (λ b. encode (second_of b) ++ c.in-Some-comment_at.text.now) c.if-ends_with_line.false in
    let s = c.args.slashes in
    let code = c.in_ok-comment.code.now in
    let front = inv.spelt.0 ++ 47 ∷ 42 ∷ (chars c.in_ok-comment.comment.now ++ 42 ∷ 47 ∷ []) in
    let own = spelt-block c.in-Some-comment_at.text.now c.in_ok-comment.comment.now code c.in_ok-comment.ensures.whole c.in_ok-comment.ensures.front c.in_ok-comment.ensures.utf8 in
    let cut = spelt-comment _ inv.spelt.0 _ _ _ _ _ c.in-Some.ch 42 inv.spelt.1 spelt found.0 second own in
    let block = past-block c.args.slashes (url_of c.loop-ch.known) _ c.in-Some.ch _ _ spelt inv.known
    (chars c.in-Some-comment_at.text.now) _ _ found.0 second (sym c.in_ok-comment.ensures.parts) in
    record {
      utf8 = subst IsUtf8 (sym c.chars-rest-in-Some.ensures.rest) c.in_ok-comment.ensures.utf8;
      known = ap (λ l. fold known_after (url_of c.known_after-known.result) (pieces c.args.slashes None (chars l))) c.chars-rest-in-Some.ensures.rest
          ∙ ap (λ k. fold known_after k (pieces c.args.slashes None (chars c.in_ok-comment.code.now))) c.known_after-known.ensures.url ∙ block;
      passed = (
        inv.passed.0 ++ 47 ∷ 42 ∷ c.in_ok-comment.comment.now ++ 42 ∷ 47 ∷ [],
        past-comment _ inv.passed.0 _ _ _ _ _ _ c.in-Some.ch inv.passed.1 c.in-Some.ensures.steps.0
            found.0 next c.in_ok-comment.ensures.whole c.chars-rest-in-Some.ensures.rest,
      );
      placed = λ code before_line whole utf8 apart is before.
          placed-after s code c.loop-ch.known _ (chars c.in_ok-comment.comment.now) _ c.known_after-known.ensures.place
          (inv.placed code before_line whole utf8 apart is before)
          (λ new e names. block-placed s code (before_line ++ inv.passed.0) new _ c.in_ok-comment.comment.now
          (around code before_line _ _ inv.passed.0 _ _ _ c.in-Some.ch 42 whole inv.passed.1 c.in-Some.ensures.steps.0 found.0 (omega arith) next)
          c.in_ok-comment.ensures.whole c.in_ok-comment.ensures.front c.in_ok-comment.ensures.utf8 c.utf8.after
          (outside-here s before_line _ c.args.after.now inv.passed.0 _ _ c.in-Some-comment_at.text.now inv.spelt.0 _ c.in-Some.ch 42 utf8 c.utf8.line inv.utf8
          apart is inv.passed.1 inv.spelt.1 inv.spelt.2 spelt c.in-Some.ensures.steps.0 found.0 (omega arith) next)
          (pieces-here s _ c.args.after.now _ _ c.in-Some-comment_at.text.now inv.spelt.0 c.in-Some.ch 42 inv.utf8 is inv.spelt.1 c.in-Some.ensures.steps.0 found.0 (omega arith) next
          ∙ left-block s _ _ _ _ _ (chars c.args.after.now) c.in-Some.ch spelt found.0 second (sym c.in_ok-comment.ensures.parts)
          ∙ ap (λ ps. Some (chars c.in_ok-comment.comment.now) ∷ ps) (sym (pieces-behind s _ c.args.after.now _ _ c.in_ok-comment.ensures.utf8 is cut)))
          (subst (λ l. IsOnOneLine (47 ∷ 42 ∷ (chars c.in_ok-comment.comment.now ++ 42 ∷ 47 ∷ [])) l)
          (sym (chars-append c.in_ok-comment.code.now c.args.after.now c.in_ok-comment.ensures.utf8))
          (own-line s _ inv.spelt.0 (47 ∷ 42 ∷ (chars c.in_ok-comment.comment.now ++ 42 ∷ 47 ∷ [])) (chars c.in_ok-comment.code.now) (chars c.args.after.now) is cut
          (block-ended (chars c.in_ok-comment.comment.now)))) e names);
      spelt = (
        front,
        cut ∙ ap (λ l. front ++ chars l) (sym c.chars-rest-in-Some.ensures.rest),
        subst (λ l. AreCutAt s front (chars l)) (sym c.chars-rest-in-Some.ensures.rest)
            (cut-block s inv.spelt.0 _ _ _ (chars c.in_ok-comment.comment.now) (chars code) c.in-Some.ch inv.spelt.2 spelt found.0 second own (sym c.in_ok-comment.ensures.parts)),
      );
      last = λ is before. last-left s c.known_after-known.result _ _ (ap (λ l. pieces_left s (chars l) (chars c.args.after.now)) (sym c.chars-rest-in-Some.ensures.rest))
          (last-after s c.loop-ch.known _ (chars c.in_ok-comment.comment.now) _ (pieces_left s (chars code) (chars c.args.after.now)) c.known_after-known.ensures.place
          (last-left s c.loop-ch.known _ _ (left-block s _ _ _ _ _ (chars c.args.after.now) c.in-Some.ch spelt found.0 second (sym c.in_ok-comment.ensures.parts)) (inv.last is before))
          (λ new e. last-here s _ _ new _ is cut c.in_ok-comment.ensures.utf8 e));
    }

pub returns-clause-url : goal.returns-clause-url
returns-clause-url c =
    let nothing = nil_from_length (chars_rest c.loop-ch.rest) c.in_default.ensures.steps.0.0 in
    sym (ap (λ l. fold known_after (url_of c.loop-ch.known) (pieces c.args.slashes None l)) (ap chars nothing ∙ chars-nil)
    ∙ ap (fold known_after (url_of c.loop-ch.known)) (pieces-nil c.args.slashes)) ∙ c.loop-ch.invariant.known

pub returns-clause-placed : goal.returns-clause-placed
returns-clause-placed c = c.loop-ch.invariant.placed

pub returns-clause-last : goal.returns-clause-last
returns-clause-last c = λ is before.
    let s = c.args.slashes in
    let nothing = ap chars (nil_from_length (chars_rest c.loop-ch.rest) c.in_default.ensures.steps.0.0) ∙ chars-nil in
    last-left s c.loop-ch.known _ _ (ap (λ l. pieces_left s l (chars c.args.after.now)) nothing ∙ ap (λ ps. ps ++ all_pieces s (chars c.args.after.now)) (pieces-nil s))
    (c.loop-ch.invariant.last is before)

pub loop-ch-init : goal.loop-ch-init
loop-ch-init c = record {
  utf8 = subst IsUtf8 (sym c.chars-rest.ensures.rest) c.utf8.line;
  known = ap (λ l. fold known_after (url_of c.args.before) (pieces c.args.slashes None (chars l))) c.chars-rest.ensures.rest;
  passed = ([], sym c.chars-rest.ensures.rest);
  placed = λ _ _ _ _ _ _ before. before;
  spelt = ([], ap chars (sym c.chars-rest.ensures.rest), cut-start c.args.slashes (chars (chars_rest c.chars-rest.result)));
  last = λ _ before. last-left c.args.slashes c.args.before _ _
      (ap (λ l. pieces_left c.args.slashes (chars l) (chars c.args.after.now)) (sym c.chars-rest.ensures.rest)) before;
}
