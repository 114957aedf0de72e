use Rattle.std.proofs.Common.{◌≡◌, map, take, Some}
use Rattle.oxc_sourcemap_parts.specs.Texts.{index_of}
use Rattle.oxc_sourcemap_parts.specs.Views.{cow_texts}
use Rattle.oxc_sourcemap_steps.specs.InheritSteps.{HasIndices}
use Rattle.oxc_sourcemap_steps.proofs.simplify.firsts.first_texts.Given as goal

abbrev pub invariant-loop-i : goal.invariant-loop-i
invariant-loop-i l = record {
  places : HasIndices (cow_texts (take l.i l.texts)) l.places;
  firsts : map (λ k. Some k) l.firsts.items ≡ map (λ x. index_of x (cow_texts l.texts)) (cow_texts (take l.i l.texts));
}
