use Rattle.std.proofs.Common.{ap}
use Rattle.oxc_sourcemap_found.proofs.Reader.{exact-found, exact-sorted, found-sound}
use Rattle.oxc_sourcemap_found.proofs.NothingTold.{nothing-told}
use Rattle.oxc_sourcemap_found.proofs.Twice.{mended-twice}
use Rattle.oxc_sourcemap_found.proofs.laws.mending_harmless.Goals as goal

pub returns : goal.returns
returns c = record { exact = exact-found; unsorted = exact-sorted; complete = nothing-told; mended = λ ms. ap (λ m. m.kinds) (mended-twice ms); sound = found-sound }
