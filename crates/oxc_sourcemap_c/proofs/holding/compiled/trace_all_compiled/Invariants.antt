use Rattle.std.proofs.Common.{ℕ, ◌<◌, get_or}
use Rattle.oxc_sourcemap_c.specs.declared.texts.text.Original.{Original}
use Rattle.oxc_sourcemap_tokens.specs.declared.position.Position.{Position}
use Rattle.oxc_sourcemap_c.specs.CompiledTraces.{IsCompiledTrace}
use Rattle.oxc_sourcemap_c.proofs.holding.compiled.trace_all_compiled.Given as goal

abbrev pub invariant-loop-i : goal.invariant-loop-i
invariant-loop-i l = (k : ℕ) (at : Position) (p : Original) → k < l.i → IsCompiledTrace l.fn.bias l.fn.map (get_or l.fn.positions k at) (get_or l.out k p)
