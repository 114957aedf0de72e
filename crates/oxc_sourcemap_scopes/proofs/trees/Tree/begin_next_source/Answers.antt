use Rattle.std.proofs.Common.{◌≡◌, None, arith}
use Rattle.oxc_sourcemap_scopes.specs.Trees.{Grown}
use Rattle.oxc_sourcemap_scopes.proofs.Growing.{growing-next}
use Rattle.oxc_sourcemap_scopes.proofs.trees.Tree.begin_next_source.Goals as goal

pub invariant_of-self : goal.invariant_of-self
invariant_of-self c =
    let t : Grown = record { spans = c.self.inside.spans.items; current = c.self.inside.current; depth = c.self.inside.depth; source = c.self.inside.source; position = c.self.inside.position } in
    let none : t.current ≡ None = rw (← c.self.view_is) at c.requires.none in
    growing-next t c.self.invariant none (omega (arith, c.self.ranges))
