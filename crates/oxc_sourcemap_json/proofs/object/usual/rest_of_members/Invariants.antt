use Rattle.std.proofs.Common.{length}
use Rattle.serde_json.specs.Data.{Members}
use Rattle.oxc_sourcemap_json.specs.Words.{AreHeld, HaveIds}
use Rattle.oxc_sourcemap_json.proofs.Tokens.{MembersSoFar}
use Rattle.oxc_sourcemap_json.proofs.object.usual.rest_of_members.Given as goal

abbrev pub invariant-members : goal.invariant-members
invariant-members l = (ms : Members) × MembersSoFar l.initial.reader ms l.reader × AreHeld l.members ms × HaveIds l.members

abbrev pub decreases-members : goal.decreases-members
decreases-members l = length l.reader
