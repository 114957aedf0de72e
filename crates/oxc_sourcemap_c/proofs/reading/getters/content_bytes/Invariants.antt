use Rattle.std.proofs.Common.{◌≡◌, take}
use Rattle.oxc_sourcemap_c.specs.Listed.{cow_options}
use Rattle.oxc_sourcemap_c.specs.Structs.{bytes_of_options, capped}
use Rattle.oxc_sourcemap_c.proofs.reading.getters.content_bytes.Given as goal

abbrev pub invariant-loop-content : goal.invariant-loop-content
invariant-loop-content l = l.total ≡ capped (bytes_of_options (cow_options (take l.content-index l.contents)))
