use Rattle.std.proofs.Common.{◌≡◌, take}
use Rattle.oxc_sourcemap_parts.specs.Views.{cow_texts}
use Rattle.oxc_sourcemap_c.specs.Structs.{bytes_of_texts, capped}
use Rattle.oxc_sourcemap_c.proofs.reading.getters.text_bytes.Given as goal

abbrev pub invariant-loop-text : goal.invariant-loop-text
invariant-loop-text l = l.total ≡ capped (bytes_of_texts (cow_texts (take l.text-index l.texts)))
