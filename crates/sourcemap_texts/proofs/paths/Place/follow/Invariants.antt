use Rattle.std.proofs.Common.{◌≡◌, take}
use Rattle.std.specs.List.{fold}
use Rattle.oxc_sourcemap_tokens.specs.Results.{lent_items}
use Rattle.sourcemap_texts.specs.Paths.{climbed, way}
use Rattle.sourcemap_texts.proofs.paths.Place.follow.Given as goal

-- the way goes on where the parts so far lead
abbrev pub invariant-loop-part : goal.invariant-loop-part
invariant-loop-part l =
    way l.self ≡ fold climbed (way l.initial.self) (lent_items (take l.part-index l.part-items))
