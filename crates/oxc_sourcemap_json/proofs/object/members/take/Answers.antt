use Rattle.std.proofs.Common.{option_map, ap, ◌∙◌}
use Rattle.serde_json.specs.Find.{get_member}
use Rattle.serde_json.specs.View.{view, members_view}
use Rattle.serde_json.proofs.Views.{view-lookup}
use Rattle.oxc_sourcemap_json.proofs.Moving.{others_stay}
use Rattle.oxc_sourcemap_json.proofs.object.members.take.Goals as goal

pub returns-clause-member : goal.returns-clause-member
returns-clause-member c = ap (option_map view) c.remove.ensures.value ∙ view-lookup c.args.key.now c.args.object.now.entries

pub returns-clause-others : goal.returns-clause-others
returns-clause-others c = λ other apart.
    ap (λ es. get_member other (members_view es)) c.remove.ensures.entries ∙ others_stay other c.args.key.now c.args.object.now.entries apart
