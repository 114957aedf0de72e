use Rattle.std.proofs.Common.{◌≡◌, map, take}
use Rattle.oxc_sourcemap_parts.specs.Views.{cow_texts, texts_of}
use Rattle.oxc_sourcemap_parts.specs.Roots.{rooted_source}
use Rattle.oxc_sourcemap_parts.proofs.roots.rooted_texts.Given as goal

abbrev pub invariant-loop-source : goal.invariant-loop-source
invariant-loop-source l = texts_of l.texts ≡ map (rooted_source l.root) (cow_texts (take l.source-index l.sources))
