use Rattle.std.proofs.Common.{◌≡◌, ◌++◌, ◌∙◌, sym, ap, drop, length, refl}
use Rattle.std.proofs.lemmas.List.{drop_at}
use Rattle.std.proofs.lemmas.Str.{IsCharBoundary-at_seam}
use Rattle.oxc_sourcemap_text.proofs.Spaces.{trimmed}
use Rattle.oxc_sourcemap_text.proofs.url.comment.space_at_end.Goals as goal

pub split_at-requires : goal.split_at-requires
split_at-requires c =
    let cut = trimmed c.args.text.now c.trim_end-front.result.now c.utf8.text c.trim_end-front.utf8 c.trim_end-front.ensures in
    IsCharBoundary-at_seam c.args.text.now c.trim_end-front.result.now cut.space cut.split cut.utf8

pub returns-clause-cut : goal.returns-clause-cut
returns-clause-cut c =
    let front = c.trim_end-front.result.now in
    let cut = trimmed c.args.text.now front c.utf8.text c.trim_end-front.utf8 c.trim_end-front.ensures in
    let behind : drop (length front) c.args.text.now ≡ cut.space = ap (drop (length front)) cut.split ∙ drop_at front cut.space (length front) refl in
    (front, cut.split ∙ ap (λ l. front ++ l) (sym (c.split_at.ensures.back ∙ behind)), c.trim_end-front.ensures, c.trim_end-front.utf8)
