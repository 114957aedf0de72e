use Rattle.std.proofs.Common.{option_map, ap, ◌∙◌}
use Rattle.serde_json.specs.Data.{put}
use Rattle.serde_json.specs.Find.{get_member}
use Rattle.serde_json.specs.View.{view, members_view}
use Rattle.serde_json.proofs.Views.{view-lookup, members_view-insert_entry}
use Rattle.std.specs.String.{string_bytes}
use Rattle.oxc_sourcemap_found.proofs.mending.members.Mending.put.Goals as goal

pub returns-clause-members : goal.returns-clause-members
returns-clause-members c =
    ap members_view c.in_ok-insert.ensures.entries ∙ members_view-insert_entry c.args.self.now.object.entries c.in_ok-key.key c.args.value
    ∙ ap (λ k. put k (view c.args.value) (members_view c.args.self.now.object.entries)) c.in_ok-key.ensures.ok

pub returns-clause-old : goal.returns-clause-old
returns-clause-old c =
    ap (option_map view) c.in_ok-insert.ensures.old ∙ view-lookup (string_bytes c.in_ok-key.key) c.args.self.now.object.entries
    ∙ ap (λ k. get_member k (members_view c.args.self.now.object.entries)) c.in_ok-key.ensures.ok
