use Rattle.std.proofs.Common.{◌≡◌, ◌≤◌, drop, take, length}
use Rattle.oxc_sourcemap_tokens.specs.State.{initial}
use Rattle.oxc_sourcemap_tokens.specs.Chunks.{first_misfit_from}
use Rattle.oxc_sourcemap_tokens.specs.Steps.{state_of, advanced_all}
use Rattle.oxc_sourcemap_tokens.proofs.chunks.chunk_fault.Given as goal

abbrev pub invariant-loop-k : goal.invariant-loop-k
invariant-loop-k l = record {
  state_is : state_of l.previous ≡ advanced_all initial (take l.done l.tokens);
  within : l.done ≤ length l.tokens;
  rest : first_misfit_from l.tokens l.done l.k (drop l.k l.chunks) ≡ first_misfit_from l.tokens 0 0 l.chunks;
}
