use Rattle.std.proofs.Common.{◌≡◌, arith, map, sym, ◌∙◌, ap, None, slice_get}
use Rattle.std.specs.Option.{option_and_then}
use Rattle.std.specs.Cow.{cow_str_bytes}
use Rattle.oxc_sourcemap_parts.specs.DecodedMap.{name_of}
use Rattle.oxc_sourcemap_steps.specs.InheritedNames.{inherited_index}
use Rattle.oxc_sourcemap_steps.specs.InheritSteps.{names_with}
use Rattle.oxc_sourcemap_steps.proofs.InheritedNames.{small-kept, id-kept, token-to}
use Rattle.oxc_sourcemap_steps.proofs.InheritedNames.{token-to_nameless}
use Rattle.oxc_sourcemap_steps.proofs.compose.compose.composed_token.Goals as goal
use Rattle.oxc_sourcemap_steps.proofs.compose.compose.composed_token.Goals.{in-Some-get_name_id}
use Rattle.oxc_sourcemap_steps.proofs.compose.compose.composed_token.Goals.{in-None+in_ok-name_id-in-None}

pub returns-clause-token : goal.returns-clause-token
returns-clause-token c =
    let first = map cow_str_bytes c.args.first.now in
    let second = map cow_str_bytes c.args.second.now in
    let names = names_with second c.match-get_name_id.inherited in
    let source = small-kept c.get_source_id.result c.get_source_id.ensures.small in
    let name = small-kept c.get_name_id.result c.get_name_id.ensures.small in
    elim c.match-get_name_id.branch [
      | in-Some-get_name_id w ↦ (
          let to = token-to first names c.args.token.now c.in-Some.found c.args.found c.in-Some.is in
          grind (arith, to, source, name))
      | in-None+in_ok-name_id-in-None w ↦ (
          let none : c.in-Some.found.name_id ≡ None = grind (arith) in
          let to = token-to_nameless first names c.args.token.now c.in-Some.found c.args.found c.in-Some.is none in
          let inherited : inherited_index names (name_of first c.args.token.now) ≡ w.in_ok-name_id-in-None.name_id =
          ap (λ v. inherited_index (names_with second v) (name_of first c.args.token.now)) w.inherited-is
          ∙ sym (ap (λ id. inherited_index (names_with second w.inherit_id.new.inherited) (option_and_then (slice_get first) id)) w.get_name_id-in-None.ensures.value)
          ∙ w.in_ok-name_id-in-None.ensures.id.0 in
          let kept = id-kept w.in_ok-name_id-in-None.name_id w.in_ok-name_id-in-None.ensures.id.1 in
          grind (arith, to, source, inherited, kept))
    ]
