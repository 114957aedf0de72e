use Rattle.std.proofs.Common.{◌≡◌, ◌≢◌, ◌∙◌, ◌<◌, sym, ap, subst, arith, map, false, Some, IfErr}
use Rattle.std.proofs.Common.{length, get_or, slice_get, Option, [], refl}
use Rattle.std.proofs.lemmas.List.{length-map, length-set}
use Rattle.std.proofs.lemmas.Option.{slice_get-get_or, slice_get_read}
use Rattle.std.proofs.lemmas.Result.{err_from_is_err_and}
use Rattle.std.specs.Cow.{cow_str_bytes}
use Rattle.std.specs.Option.{option_and_then}
use Rattle.oxc_sourcemap_tokens.specs.declared.errors.error.Error.TheVariants.{OutOfMemory}
use Rattle.oxc_sourcemap_tokens.specs.declared.errors.error.Error.TheVariants.{TooLarge}
use Rattle.oxc_sourcemap_parts.specs.Record.{Text}
use Rattle.oxc_sourcemap_steps.specs.Composed.{may_be_id}
use Rattle.oxc_sourcemap_steps.specs.InheritedNames.{with_inherited, inherited_index}
use Rattle.oxc_sourcemap_steps.specs.InheritSteps.{names_with}
use Rattle.oxc_sourcemap_steps.proofs.KeptNames.{name_at, ids_more}
use Rattle.oxc_sourcemap_steps.proofs.compose.inherited_names.inherit_id.Goals as goal

pub returns-in-Some-index-clause-id : goal.returns-in-Some-index-clause-id
returns-in-Some-index-clause-id c =
    let first = map cow_str_bytes c.args.first.now in
    let names = names_with (map cow_str_bytes c.args.second.now) c.args.inherited.now in
    let i = c.in-Some.id in
    let name = get_or first i [] in
    let count = length-map c.args.first.now cow_str_bytes in
    let within : i < length first = omega (arith, c.if-i-first.false, count) in
    let at = slice_get-get_or first i [] within in
    let within_ids : i < length c.args.inherited.now.ids.items = omega (arith, within, c.requires.each) in
    let known : slice_get c.args.inherited.now.ids.items i ≡ Some (Some c.in-Some-index.known) =
    slice_get_read c.args.inherited.now.ids.items (length c.args.inherited.now.ids.items) i c.index.result.now refl within_ids c.index.ensures ∙ ap (λ o. Some o) c.in-Some-index.is in
    let r = c.requires.ids i c.in-Some-index.known name at known in
    (ap (λ id. inherited_index names (option_and_then (slice_get first) id)) c.in-Some.is ∙ ap (inherited_index names) at ∙ r.0, grind (arith, r.1))

pub returns-in_err-id-clause-error : goal.returns-in_err-id-clause-error
returns-in_err-id-clause-error c =
    let first = map cow_str_bytes c.args.first.now in
    let names = names_with (map cow_str_bytes c.args.second.now) c.args.inherited.now in
    let at : option_and_then (slice_get first) c.args.id ≡ Some c.as_str.result.now =
    ap (option_and_then (slice_get first)) c.in-Some.is ∙ name_at cow_str_bytes c.args.first.now c.in-Some.id c.index-first-i.result c.if-i-first.false c.index-first-i.is
    ∙ ap (λ t. Some t) (sym c.as_str.ensures.value) in
    let p = err_from_is_err_and c.from_residual.result c.from_residual.ensures.1 in
    subst (λ (o : Option Text). IfErr c.from_residual.result (λ e. (e ≢ OutOfMemory) → (e ≡ TooLarge) × (may_be_id (inherited_index (with_inherited names o) o) ≡ false))) (sym at)
    (rw (p.1, p.2) (λ other. c.in_err-id.ensures.error other))

pub returns-clause-names : goal.returns-clause-names
returns-clause-names c =
    let first = map cow_str_bytes c.args.first.now in
    let names = names_with (map cow_str_bytes c.args.second.now) c.args.inherited.now in
    let at : option_and_then (slice_get first) c.args.id ≡ Some c.as_str.result.now =
    ap (option_and_then (slice_get first)) c.in-Some.is ∙ name_at cow_str_bytes c.args.first.now c.in-Some.id c.index-first-i.result c.if-i-first.false c.index-first-i.is
    ∙ ap (λ t. Some t) (sym c.as_str.ensures.value) in
    c.in_ok-id.ensures.names ∙ sym (ap (with_inherited names) at)

pub returns-clause-id : goal.returns-clause-id
returns-clause-id c =
    let first = map cow_str_bytes c.args.first.now in
    let names = names_with (map cow_str_bytes c.args.second.now) c.inherit_name.new.inherited in
    let at : option_and_then (slice_get first) c.args.id ≡ Some c.as_str.result.now =
    ap (option_and_then (slice_get first)) c.in-Some.is ∙ name_at cow_str_bytes c.args.first.now c.in-Some.id c.index-first-i.result c.if-i-first.false c.index-first-i.is
    ∙ ap (λ t. Some t) (sym c.as_str.ensures.value) in
    (ap (inherited_index names) at ∙ c.in_ok-id.ensures.id.0, grind (arith, c.in_ok-id.ensures.id.1))

pub returns-clause-kept : goal.returns-clause-kept
returns-clause-kept c =
    let first = map cow_str_bytes c.args.first.now in
    let second = map cow_str_bytes c.args.second.now in
    let i = c.in-Some.id in
    let ids = c.inherit_name.new.inherited.ids.items in
    let same : ids ≡ c.args.inherited.now.ids.items = c.inherit_name.ensures.ids in
    let at : slice_get first i ≡ Some c.as_str.result.now =
    name_at cow_str_bytes c.args.first.now i c.index-first-i.result c.if-i-first.false c.index-first-i.is ∙ ap (λ t. Some t) (sym c.as_str.ensures.value) in
    let count = length-map c.args.first.now cow_str_bytes in
    let each : length ids ≡ length first = ap length same ∙ c.requires.each in record {
      names = record { places = c.in_ok-id.ensures.kept.places; none = c.in_ok-id.ensures.kept.none };
      each = length-set ids i (Some c.in_ok-id.id) ∙ each;
      ids = ids_more first (names_with second c.args.inherited.now) (names_with second c.inherit_name.new.inherited) ids i c.in_ok-id.id c.as_str.result.now
          (λ j k name f g. c.requires.ids j k name f (sym (ap (λ xs. slice_get xs j) same) ∙ g)) c.in_ok-id.ensures.names at (omega (arith, each, count, c.if-i-first.false)) c.in_ok-id.ensures.id.0
          c.in_ok-id.ensures.id.1;
    }
