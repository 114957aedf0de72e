use Rattle.std.proofs.Common.{sym, ◌∙◌}
use Rattle.serde_json.specs.View.{view}
use Rattle.oxc_sourcemap_json.proofs.SectionSteps.{out-of-order, well-placed}
use Rattle.oxc_sourcemap_json.proofs.read.offsets.offset_after.Goals as goal

pub returns-then-not-may_begin : goal.returns-then-not-may_begin
returns-then-not-may_begin c = λ front i b.
    sym (out-of-order front (view c.args.section.now) c.in_ok-place.place c.args.so_far.now c.args.before c.map_count.result i b
    c.map_count.ensures (sym c.in_ok-place.ensures) (sym c.may_begin.ensures ∙ c.if-not-may_begin.true))

pub returns : goal.returns
returns c = λ front i b.
    sym (well-placed front (view c.args.section.now) c.in_ok-place.place c.args.so_far.now c.args.before i b
    (sym c.in_ok-place.ensures) (sym c.may_begin.ensures ∙ c.if-not-may_begin.false))
