use Rattle.std.proofs.Common.{◌≡◌, ℕ, List, Some, None, sym, subst, arith}
use Rattle.json.specs.Json.{read_key}
use Rattle.serde_json.specs.Data.{no_members, put}
use Rattle.serde_json.specs.Find.{get_member}
use Rattle.oxc_sourcemap_json.specs.Usual.{members_held, held}
use Rattle.oxc_sourcemap_json.proofs.HeldMembers.{still_held}
use Rattle.oxc_sourcemap_json.proofs.Tokens.{no_members_read, one_more_member, all_members}
use Rattle.oxc_sourcemap_json.proofs.object.usual.rest_of_members.Goals as goal

pub members-init : goal.members-init
members-init c = (no_members, no_members_read c.args.reader.now, c.none-members.ensures.held, c.none-members.ensures.ids)

pub returns-in_default-next : goal.returns-in_default-next
returns-in_default-next c =
    let l = c.members in
    let end : read_key l.reader ≡ Some (None, c.next_key.new.self) = grind arith in
    (l.invariant.0, all_members c.args.reader.now l.reader c.next_key.new.self l.invariant.0 l.invariant.1 end, l.invariant.2, l.invariant.3)

pub members-preserved : goal.members-preserved
members-preserved c =
    let l = c.members in
    let named : read_key l.reader ≡ Some (Some c.in-Some-next.key.now, c.next_key.new.self) = grind arith in
    let done = c.read.ensures.read (grind arith) in (
      put c.in-Some-next.key.now done.0 l.invariant.0,
      one_more_member c.args.reader.now l.reader c.next_key.new.self c.read.new.reader l.invariant.0 c.in-Some-next.key.now done.0 l.invariant.1 named done.1
          (c.read.ensures.shorter (grind arith)),
      subst (λ es. (k : List ℕ) → get_member k (put c.in-Some-next.key.now done.0 l.invariant.0) ≡ held k es) (sym done.2)
          (still_held c.in-Some-next.key.now done.0 (members_held l.members) l.invariant.0 l.invariant.2),
      c.read.ensures.ids (grind arith) l.invariant.3,
    )
