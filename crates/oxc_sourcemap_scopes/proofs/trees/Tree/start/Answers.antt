use Rattle.std.proofs.Common.{◌≡◌, ◌≤◌, ◌++◌, ◌∷◌, [], length, arith, rules}
use Rattle.oxc_sourcemap_scopes.specs.Trees.{Grown, place_of}
use Rattle.oxc_sourcemap_scopes.proofs.Growing.{growing-started}
use Rattle.oxc_sourcemap_scopes.proofs.trees.Tree.start.Goals as goal

pub invariant_of-self-2 : goal.invariant_of-self-2
invariant_of-self-2 c =
    let t : Grown = record { spans = c.self.inside.spans.items; current = c.self.inside.current; depth = c.self.inside.depth; source = c.self.inside.source; position = c.self.inside.position } in
    let h : place_of t.position ≤ place_of c.args.here = rw (← c.self.view_is) at c.requires.after in
    let more : c.push.new.self.items ≡ t.spans ++ record { source = t.source; start = c.args.here; end = c.args.here; parent = t.current } ∷ [] = c.in_ok-push.ensures.items in
    let count : c.len-index.result ≡ length t.spans = search rules in
    rw (more, count) (growing-started t c.args.here c.self.invariant (omega arith))
