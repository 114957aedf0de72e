use Rattle.std.proofs.Common.{◌≡◌, ℕ, ◌<◌, Option, get_or, drop}
use Rattle.oxc_sourcemap_tokens.specs.declared.position.Position.{Position}
use Rattle.oxc_sourcemap_compiled.specs.Words.{IsIndexFor}
use Rattle.oxc_sourcemap_compiled.proofs.map.CompiledMap.find_all.Given as goal

abbrev pub invariant-loop-i : goal.invariant-loop-i
invariant-loop-i l = record {
  written : (k : ℕ) (at : Position) (found : Option ℕ) → k < l.i → IsIndexFor l.fn.bias l.fn.self (get_or l.fn.positions k at) (get_or l.out k found);
  left : drop l.i l.out ≡ drop l.i l.fn.out;
}
