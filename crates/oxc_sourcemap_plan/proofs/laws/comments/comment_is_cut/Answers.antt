use Rattle.oxc_sourcemap_plan.proofs.CommentCuts.{comment-cut, comment-apart, line-outside}
use Rattle.oxc_sourcemap_plan.proofs.laws.comments.comment_is_cut.Goals as goal

pub returns-clause-cut : goal.returns-clause-cut
returns-clause-cut c = comment-cut

pub returns-clause-apart : goal.returns-clause-apart
returns-clause-apart c = comment-apart

pub returns-clause-outside : goal.returns-clause-outside
returns-clause-outside c = line-outside
