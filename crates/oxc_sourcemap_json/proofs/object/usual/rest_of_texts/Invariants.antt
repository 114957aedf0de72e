use Rattle.std.proofs.Common.{length, map}
use Rattle.oxc_sourcemap_json.specs.Words.{texts_of, string}
use Rattle.oxc_sourcemap_json.proofs.Tokens.{AreReadSoFar}
use Rattle.oxc_sourcemap_json.proofs.object.usual.rest_of_texts.Given as goal

abbrev pub invariant-texts : goal.invariant-texts
invariant-texts l = AreReadSoFar l.initial.reader (map string (texts_of l.texts)) l.reader

abbrev pub decreases-texts : goal.decreases-texts
decreases-texts l = length l.reader
