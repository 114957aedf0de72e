use Rattle.std.proofs.Common.{ap, sym, ◌∙◌, option_map}
use Rattle.serde_json.specs.Find.{get}
use Rattle.serde_json.specs.View.{view}
use Rattle.serde_json.proofs.Views.{view-lookup, view-Object}
use Rattle.oxc_sourcemap_json.proofs.read.sections.into_member.Goals as goal

pub returns-in-Object : goal.returns-in-Object
returns-in-Object c =
    ap (option_map view) c.remove.ensures.value ∙ view-lookup c.args.key.now c.in-Object.object.entries
    ∙ ap (get c.args.key.now) (sym (ap view c.in-Object.is ∙ view-Object c.in-Object.object))
