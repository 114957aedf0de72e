use Rattle.std.proofs.Common.{take}
use Rattle.oxc_sourcemap_parts.specs.Views.{cow_texts}
use Rattle.oxc_sourcemap_steps.specs.RemapSteps.{names_in, AreIndexed}
use Rattle.oxc_sourcemap_steps.proofs.Gathered.{Made}
use Rattle.oxc_sourcemap_steps.proofs.remap.remap.remapped_tokens.Given as goal

abbrev pub invariant-loop-token : goal.invariant-loop-token
invariant-loop-token l = record {
  placed : AreIndexed l.needed;
  made : Made l.blocks (cow_texts l.names) (take l.token-index l.tokens) (names_in l.needed) l.remapped.items;
}
