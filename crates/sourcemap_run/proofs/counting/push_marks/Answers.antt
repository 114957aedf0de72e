use Rattle.std.proofs.Common.{sym, ◌∙◌}
use Rattle.sourcemap_run.specs.Words.{mark_of}
use Rattle.sourcemap_run.proofs.Marked.{one_more, none_more}
use Rattle.sourcemap_run.proofs.counting.push_marks.Goals as goal

pub loop-piece-preserved-in-Continue-1 : goal.loop-piece-preserved-in-Continue-1
loop-piece-preserved-in-Continue-1 c =
    one_more (mark_of c.args.block.count) c.loop-piece.yielded c.in-Some.piece c.args.marks.now.items c.loop-piece.marks.items c.push.new.self.items c.in-Some-mark_of.mark
    (sym c.mark_of.ensures ∙ c.in-Some-mark_of.is) c.loop-piece.invariant c.in_ok-push.ensures.items

pub loop-piece-preserved : goal.loop-piece-preserved
loop-piece-preserved c =
    none_more (mark_of c.args.block.count) c.loop-piece.yielded c.in-Some.piece c.args.marks.now.items c.loop-piece.marks.items
    (sym c.mark_of.ensures ∙ c.in_default.is) c.loop-piece.invariant
