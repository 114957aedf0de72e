use Rattle.std.proofs.Common.{◌≡◌, ◌++◌, ◌∷◌, ◌∙◌, sym, ap, subst, Some, length}
use Rattle.std.specs.Str.{chars, IsCharBoundary}
use Rattle.std.proofs.lemmas.Str.{IsCharBoundary-at_seam}
use Rattle.oxc_sourcemap_text.specs.MappingUrls.{IsComment, AreQuiet, all_pieces, IsOutside}
use Rattle.oxc_sourcemap_text.specs.MappingUrls.{url_known}
use Rattle.oxc_sourcemap_text.proofs.Last.{quiet-end}
use Rattle.oxc_sourcemap_text.proofs.Placed.{chars-begun, comment-size, from-comment}
use Rattle.oxc_sourcemap_text.proofs.Placed.{before-comment, take-comment, drop-comment}
use Rattle.oxc_sourcemap_text.proofs.Placed.{begins-outside, names-alone, as-many-lines}
use Rattle.oxc_sourcemap_text.specs.TextLines.{lines_of}
use Rattle.oxc_sourcemap_text.proofs.url.mapping_url.source_mapping_comment.Goals as goal

pub split_at-requires-2 : goal.split_at-requires-2
split_at-requires-2 c =
    let p = c.in_ok-place.ensures.placed in
    let known = c.in_ok-place.field-0 in
    let from = c.split_at.result.1.now in
    let parts = c.split_at.ensures.back ∙ from-comment c.has_line_comments.result c.args.code.now known p in
    subst (IsCharBoundary from) (sym (comment-size c.has_line_comments.result c.args.code.now known p))
    (IsCharBoundary-at_seam from (47 ∷ p.second ∷ p.comment) (known.place.rest.now ++ known.place.after.now) parts p.back_utf8)

pub returns-clause-comment : goal.returns-clause-comment
returns-clause-comment c =
    let s = c.has_line_comments.result in
    let p = c.in_ok-place.ensures.placed in
    let known = c.in_ok-place.field-0 in
    let comment = c.split_at-2.result.0.now in
    let cut = c.split_at-2.ensures.front ∙ take-comment s c.args.code.now known p c.split_at.result.1.now c.split_at.ensures.back in
    let spelt = ap chars cut ∙ chars-begun p.second p.comment p.is_second in
    subst (λ t. IsComment t (chars comment) (chars known.url.now)) c.has_line_comments.ensures
    (subst (λ l. IsComment s l (chars known.url.now)) (sym spelt) p.names)

pub returns-clause-outside : goal.returns-clause-outside
returns-clause-outside c =
    let s = c.has_line_comments.result in
    let code = c.args.code.now in
    let p = c.in_ok-place.ensures.placed in
    let known = c.in_ok-place.field-0 in
    let front = c.split_at.result.0.now in
    let from = c.split_at.result.1.now in
    let comment = c.split_at-2.result.0.now in
    let back = c.split_at-2.result.1.now in
    let before : front ≡ p.front = c.split_at.ensures.front ∙ before-comment s code known p in
    let own : comment ≡ 47 ∷ p.second ∷ p.comment = c.split_at-2.ensures.front ∙ take-comment s code known p from c.split_at.ensures.back in
    let behind : back ≡ known.place.rest.now ++ known.place.after.now =
    c.split_at-2.ensures.back ∙ drop-comment s code known p from c.split_at.ensures.back in
    subst (λ t. IsOutside t (chars front) (chars comment ++ chars back)) c.has_line_comments.ensures
    (subst (λ f. IsOutside s (chars f) (chars comment ++ chars back)) (sym before)
    (subst (λ l. IsOutside s (chars p.front) (chars l ++ chars back)) (sym own)
    (subst (λ l. IsOutside s (chars p.front) (chars (47 ∷ p.second ∷ p.comment) ++ chars l)) (sym behind) (begins-outside s code known p))))

pub returns-clause-last : goal.returns-clause-last
returns-clause-last c =
    let s = c.has_line_comments.result in
    let p = c.in_ok-place.ensures.placed in
    let known = c.in_ok-place.field-0 in
    let back = c.split_at-2.result.1.now in
    let behind = c.split_at-2.ensures.back ∙ drop-comment s c.args.code.now known p c.split_at.result.1.now c.split_at.ensures.back in
    subst (λ t. AreQuiet (all_pieces t (chars back))) c.has_line_comments.ensures
    (subst (λ l. AreQuiet (all_pieces s (chars l))) (sym behind) (quiet-end s known c.in_ok-place.ensures.last))

pub returns-clause-names : goal.returns-clause-names
returns-clause-names c =
    let s = c.has_line_comments.result in
    let code = c.args.code.now in
    let p = c.in_ok-place.ensures.placed in
    let known = c.in_ok-place.field-0 in
    let from = c.split_at.result.1.now in
    let comment = c.split_at-2.result.0.now in
    let back = c.split_at-2.result.1.now in
    let own : comment ≡ 47 ∷ p.second ∷ p.comment = c.split_at-2.ensures.front ∙ take-comment s code known p from c.split_at.ensures.back in
    let behind : back ≡ known.place.rest.now ++ known.place.after.now =
    c.split_at-2.ensures.back ∙ drop-comment s code known p from c.split_at.ensures.back in
    subst (λ t. url_known t (chars comment ++ chars back) ≡ Some (chars known.url.now)) c.has_line_comments.ensures
    (subst (λ l. url_known s (chars l ++ chars back) ≡ Some (chars known.url.now)) (sym own)
    (subst (λ l. url_known s (chars (47 ∷ p.second ∷ p.comment) ++ chars l) ≡ Some (chars known.url.now)) (sym behind)
    (names-alone s code known p (quiet-end s known c.in_ok-place.ensures.last))))

pub returns-clause-lines : goal.returns-clause-lines
returns-clause-lines c =
    let s = c.has_line_comments.result in
    let code = c.args.code.now in
    let p = c.in_ok-place.ensures.placed in
    let known = c.in_ok-place.field-0 in
    let front = c.split_at.result.0.now in
    let back = c.split_at-2.result.1.now in
    let before : front ≡ p.front = c.split_at.ensures.front ∙ before-comment s code known p in
    let behind : back ≡ known.place.rest.now ++ known.place.after.now =
    c.split_at-2.ensures.back ∙ drop-comment s code known p c.split_at.result.1.now c.split_at.ensures.back in
    subst (λ f. length (lines_of (chars f ++ 32 ∷ chars back)) ≡ length (lines_of (chars code))) (sym before)
    (subst (λ l. length (lines_of (chars p.front ++ 32 ∷ chars l)) ≡ length (lines_of (chars code))) (sym behind) (as-many-lines s code known p c.utf8.code))
