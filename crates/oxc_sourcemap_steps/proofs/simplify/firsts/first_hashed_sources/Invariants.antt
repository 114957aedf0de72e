use Rattle.std.proofs.Common.{◌≡◌, map, take, Some}
use Rattle.std.specs.List.{position_from}
use Rattle.oxc_sourcemap_steps.specs.Same.{is_same_source}
use Rattle.oxc_sourcemap_steps.specs.SimplifySteps.{sources_in, lent_source, SourceKey, found_for}
use Rattle.oxc_sourcemap_steps.proofs.simplify.firsts.first_hashed_sources.Given as goal

abbrev pub invariant-loop-i : goal.invariant-loop-i
invariant-loop-i l = record {
  places : (q : SourceKey) → found_for l.places q ≡ position_from (is_same_source (lent_source q)) 0 (take l.i (sources_in l.parts));
  firsts : map (λ k. Some k) l.firsts.items ≡ map (λ s. position_from (is_same_source s) 0 (sources_in l.parts)) (take l.i (sources_in l.parts));
}
