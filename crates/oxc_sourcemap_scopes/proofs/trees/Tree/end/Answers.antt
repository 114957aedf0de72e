use Rattle.std.proofs.Common.{◌≡◌, ◌≤◌, ◌<◌, ◌+◌, Some, length, arith, ap, rules, ◌-◌}
use Rattle.std.proofs.lemmas.List.{get_or_read}
use Rattle.oxc_sourcemap_scopes.specs.Trees.{Grown, place_of, rank, span_at, no_span}
use Rattle.oxc_sourcemap_scopes.proofs.Growing.{growing-ended}
use Rattle.oxc_sourcemap_scopes.proofs.trees.Tree.end.Goals as goal

pub invariant_of-self : goal.invariant_of-self
invariant_of-self c =
    let t : Grown = record { spans = c.self.inside.spans.items; current = c.self.inside.current; depth = c.self.inside.depth; source = c.self.inside.source; position = c.self.inside.position } in
    let h : place_of t.position ≤ place_of c.args.here = rw (← c.self.view_is) at c.requires.after in
    let o : t.current ≡ Some c.args.index = rw (← c.self.view_is) at c.requires.current in
    let r : rank t.current ≡ c.args.index + 1 = ap rank o in
    let l : c.args.index < length t.spans = omega (arith, c.self.invariant.current) in
    let read : c.index-span.result.now ≡ span_at t.spans c.args.index = get_or_read t.spans c.args.index c.index-span.result.now l c.index-span.ensures no_span in
    let less : c.saturating_sub-self-inside.result ≡ t.depth - 1 = search rules in
    rw (read, less) (growing-ended t c.args.index c.args.here c.self.invariant o (omega arith))
