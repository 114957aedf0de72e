use Rattle.std.proofs.Common.{◌≡◌, None}
use Rattle.oxc_sourcemap_scopes.specs.Trees.{Grown}
use Rattle.oxc_sourcemap_scopes.proofs.Growing.{growing-within}
use Rattle.oxc_sourcemap_scopes.proofs.trees.Tree.into_spans.Goals as goal

pub returns-clause-within : goal.returns-clause-within
returns-clause-within c = λ none.
    let t : Grown = record { spans = c.self.inside.spans.items; current = c.self.inside.current; depth = c.self.inside.depth; source = c.self.inside.source; position = c.self.inside.position } in
    let at : t.current ≡ None = rw (← c.self.view_is) at none in
    growing-within t c.self.invariant at
