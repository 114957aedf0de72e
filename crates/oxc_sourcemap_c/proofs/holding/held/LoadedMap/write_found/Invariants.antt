use Rattle.std.proofs.Common.{ℕ, ◌<◌, get_or}
use Rattle.oxc_sourcemap_tokens.specs.declared.position.Position.{Position}
use Rattle.oxc_sourcemap_c.specs.Traces.{IsFoundAt}
use Rattle.oxc_sourcemap_c.proofs.holding.held.LoadedMap.write_found.Given as goal

abbrev pub invariant-loop-i : goal.invariant-loop-i
invariant-loop-i l = (k : ℕ) (at : Position) (p : ℕ) → k < l.i → IsFoundAt l.fn.bias l.fn.self.map (get_or l.fn.positions k at) (get_or l.out k p)
