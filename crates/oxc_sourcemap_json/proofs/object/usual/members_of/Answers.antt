use Rattle.std.proofs.Common.{◌≡◌, [], ◌∷◌, subst, arith}
use Rattle.json.specs.Token.{Token}
use Rattle.oxc_sourcemap_json.specs.Words.{BeginMembers}
use Rattle.oxc_sourcemap_json.proofs.Tokens.{object_is_all, of_some}
use Rattle.oxc_sourcemap_json.proofs.object.usual.members_of.Goals as goal

pub returns : goal.returns
returns c =
    let is : c.args.reader.now ≡ Token.begin_object ∷ c.begin_object.new.self = grind arith in
    let end : c.rest_of_members.new.reader ≡ [] = grind arith in
    of_some (λ m found. (
      found.0,
      object_is_all c.args.reader.now c.begin_object.new.self found.0 is (subst (BeginMembers c.begin_object.new.self found.0) end found.1),
      found.2,
      found.3,
    )) c.in_ok-members.members c.in_ok-members.ensures
