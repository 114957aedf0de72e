use Rattle.std.proofs.Common.{◌≡◌, map, take}
use Rattle.oxc_sourcemap_found.proofs.mending.cut.places_of.Given as goal

abbrev pub invariant-loop-section : goal.invariant-loop-section
invariant-loop-section l = l.places.items ≡ map (λ s. s.place) (take l.section-index l.sections)
