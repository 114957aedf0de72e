use Rattle.std.proofs.Common.{◌≡◌, ◌∙◌, ◌++◌, ◌≤◌, ◌+◌, sym, ap, arith, map, cond, option_map, Some}
use Rattle.std.proofs.Common.{None, length}
use Rattle.std.proofs.lemmas.Grind.{common_steps}
use Rattle.std.proofs.lemmas.Result.{err_from_is_err_and}
use Rattle.std.proofs.lemmas.Map.Text.{hash_map_updates_str}
use Rattle.std.specs.Cow.{cow_str_bytes}
use Rattle.std.specs.Str.{bytes_eq}
use Rattle.oxc_sourcemap_parts.specs.Texts.{index_of}
use Rattle.oxc_sourcemap_parts.proofs.Places.{index-with, index-last}
use Rattle.oxc_sourcemap_steps.specs.InheritSteps.{names_with}
use Rattle.oxc_sourcemap_steps.proofs.KeptNames.{names_push, length-names, past_id, put_place}
use Rattle.oxc_sourcemap_steps.proofs.KeptNames.{not_empty}
use Rattle.oxc_sourcemap_steps.proofs.compose.inherited_names.inherit_name.Goals as goal

pub returns-in-Some-clause-id : goal.returns-in-Some-clause-id
returns-in-Some-clause-id c =
    let second = map cow_str_bytes c.args.second.now in
    let index : index_of c.args.name.now (names_with second c.fill.new.inherited) ≡ Some c.in-Some.index.now =
    sym (c.in_ok-fill.ensures.places c.args.name.now) ∙ sym c.get.ensures.value ∙ ap (option_map (λ x. x.now)) c.in-Some.is in
    grind (arith, common_steps, index)

pub returns-in-Some-clause-error : goal.returns-in-Some-clause-error
returns-in-Some-clause-error c =
    let second = map cow_str_bytes c.args.second.now in
    let same : names_with second c.fill.new.inherited ≡ names_with second c.args.inherited.now = ap (λ names. second ++ map (λ t. t.now) names) c.fill.ensures.names in
    let index : index_of c.args.name.now (names_with second c.args.inherited.now) ≡ Some c.in-Some.index.now =
    sym (ap (index_of c.args.name.now) same) ∙ sym (c.in_ok-fill.ensures.places c.args.name.now) ∙ sym c.get.ensures.value ∙ ap (option_map (λ x. x.now)) c.in-Some.is in
    let with = index-with c.args.name.now (names_with second c.args.inherited.now) in
    grind (arith, common_steps, index, with)

pub returns-in_err-id-clause-error : goal.returns-in_err-id-clause-error
returns-in_err-id-clause-error c =
    let second = map cow_str_bytes c.args.second.now in
    let old = names_with second c.args.inherited.now in
    let same : names_with second c.fill.new.inherited ≡ old = ap (λ names. second ++ map (λ t. t.now) names) c.fill.ensures.names in
    let none : index_of c.args.name.now old ≡ None =
    sym (ap (index_of c.args.name.now) same) ∙ sym (c.in_ok-fill.ensures.places c.args.name.now) ∙ sym c.get.ensures.value ∙ ap (option_map (λ x. x.now)) c.in_default.is in
    let count : length old ≡ length c.args.second.now + length c.fill.new.inherited.names.items = ap length (sym same) ∙ length-names cow_str_bytes c.args.second.now c.fill.new.inherited.names.items in
    let large : 4294967295 ≤ length old = omega (arith, count, c.fill.new.inherited.names.ok.0, c.len.ensures, c.saturating_add-index.ensures, c.in_err-id.ensures.too_large.1) in
    let p = err_from_is_err_and c.from_residual-in_err-id.result c.from_residual-in_err-id.ensures.1 in
    rw (p.1, p.2) (λ other. (c.in_err-id.ensures.too_large.0, past_id c.args.name.now old none large))

pub returns-clause-id : goal.returns-clause-id
returns-clause-id c =
    let second = map cow_str_bytes c.args.second.now in
    let old = names_with second c.fill.new.inherited in
    let none : index_of c.args.name.now old ≡ None = sym (c.in_ok-fill.ensures.places c.args.name.now) ∙ sym c.get.ensures.value ∙ ap (option_map (λ x. x.now)) c.in_default.is in
    let more = ap (λ names. second ++ map (λ t. t.now) names) c.in_ok-push.ensures.items ∙ names_push second c.fill.new.inherited.names.items c.args.name in
    let count : length old ≡ length c.args.second.now + length c.fill.new.inherited.names.items = length-names cow_str_bytes c.args.second.now c.fill.new.inherited.names.items in
    let id : length old ≡ c.in_ok-id.id = omega (arith, count, c.fill.new.inherited.names.ok.0, c.len.ensures, c.saturating_add-index.ensures, c.in_ok-id.ensures.id.0, c.in_ok-id.ensures.id.1) in
    (ap (index_of c.args.name.now) more ∙ index-last c.args.name.now old none ∙ ap (λ n. Some n) id, c.in_ok-id.ensures.id.1)

pub returns-clause-kept : goal.returns-clause-kept
returns-clause-kept c =
    let second = map cow_str_bytes c.args.second.now in
    let old = names_with second c.fill.new.inherited in
    let none : index_of c.args.name.now old ≡ None = sym (c.in_ok-fill.ensures.places c.args.name.now) ∙ sym c.get.ensures.value ∙ ap (option_map (λ x. x.now)) c.in_default.is in
    let more = ap (λ names. second ++ map (λ t. t.now) names) c.in_ok-push.ensures.items ∙ names_push second c.fill.new.inherited.names.items c.args.name in
    let count : length old ≡ length c.args.second.now + length c.fill.new.inherited.names.items = length-names cow_str_bytes c.args.second.now c.fill.new.inherited.names.items in
    let index : c.saturating_add-index.result ≡ length old =
    omega (arith, count, c.fill.new.inherited.names.ok.0, c.len.ensures, c.saturating_add-index.ensures, c.in_ok-id.ensures.id.0, c.in_ok-id.ensures.id.1) in record {
      places = λ h text.
          hash_map_updates_str c.args.name.now c.fill.new.inherited.places c.insert.new.self _ c.in_ok-insert.ensures.updates text
          ∙ ap (cond (bytes_eq c.args.name.now text) (Some c.saturating_add-index.result)) (c.in_ok-fill.ensures.places text)
          ∙ put_place text c.args.name.now old c.saturating_add-index.result none index ∙ sym (ap (index_of text) more);
      none = λ h. absurd (omega (arith, h, not_empty _ c.insert.new.self.entries _ c.in_ok-insert.ensures.updates.1));
    }
