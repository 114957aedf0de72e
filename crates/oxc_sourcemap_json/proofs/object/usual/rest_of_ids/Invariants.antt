use Rattle.std.proofs.Common.{◌<◌, length, map}
use Rattle.std.specs.List.{All}
use Rattle.oxc_sourcemap_json.specs.Words.{number, unsigned}
use Rattle.oxc_sourcemap_json.proofs.Tokens.{AreReadSoFar}
use Rattle.oxc_sourcemap_json.proofs.object.usual.rest_of_ids.Given as goal

abbrev pub invariant-ids : goal.invariant-ids
invariant-ids l = AreReadSoFar l.initial.reader (map (λ id. number (unsigned id)) l.ids.items) l.reader × All (λ id. id < 4294967296) l.ids.items

abbrev pub decreases-ids : goal.decreases-ids
decreases-ids l = length l.reader
