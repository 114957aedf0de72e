use Rattle.std.proofs.Common.{length, map}
use Rattle.oxc_sourcemap_json.specs.Words.{contents_of, content_data}
use Rattle.oxc_sourcemap_json.proofs.Tokens.{AreReadSoFar}
use Rattle.oxc_sourcemap_json.proofs.object.usual.rest_of_contents.Given as goal

abbrev pub invariant-contents : goal.invariant-contents
invariant-contents l = AreReadSoFar l.initial.reader (map content_data (contents_of l.contents)) l.reader

abbrev pub decreases-contents : goal.decreases-contents
decreases-contents l = length l.reader
