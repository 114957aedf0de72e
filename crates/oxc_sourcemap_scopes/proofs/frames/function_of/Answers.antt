use Rattle.std.proofs.Common.{◌≡◌, ◌+◌, ◌<◌, ◌≤◌, length, Some, None, arith, rules, ap, ◌∙◌}
use Rattle.oxc_sourcemap_scopes.specs.Trees.{rank, parent_rank}
use Rattle.oxc_sourcemap_scopes.specs.Asking.{function_of}
use Rattle.oxc_sourcemap_scopes.proofs.Outward.{function-step, function-found, function-none}
use Rattle.oxc_sourcemap_scopes.proofs.frames.function_of.Goals as goal

pub returns-then-infos-index : goal.returns-then-infos-index
returns-then-infos-index c =
    let same : function_of c.args.scopes.now c.args.infos.now (Some c.in-Some.index) ≡ function_of c.args.scopes.now c.args.infos.now c.args.scope = rw c.in-Some.is at c.loop-next.invariant.same in
    function-found c.args.scopes.now c.args.infos.now c.in-Some.index c.if-infos-index.true ∙ same

pub loop-next-preserved : goal.loop-next-preserved
loop-next-preserved c =
    let scopes = c.args.scopes.now in
    let i = c.in-Some.index in
    let r : rank c.loop-next.next ≡ i + 1 = ap rank c.in-Some.is in
    let l : i < length scopes = omega (arith, r, c.loop-next.invariant.within) in
    let up : parent_rank scopes i ≤ i = c.requires.nested.parents i l in
    let same : function_of scopes c.args.infos.now (Some i) ≡ function_of scopes c.args.infos.now c.args.scope = rw c.in-Some.is at c.loop-next.invariant.same in
    record {
      within = omega (arith, up, l);
      same = function-step scopes c.args.infos.now i c.requires.nested l c.if-infos-index.false ∙ same;
    }

pub returns : goal.returns
returns c =
    let e : c.loop-next.next ≡ None = search rules in
    let same : function_of c.args.scopes.now c.args.infos.now None ≡ function_of c.args.scopes.now c.args.infos.now c.args.scope = rw e at c.loop-next.invariant.same in
    function-none c.args.scopes.now c.args.infos.now ∙ same
