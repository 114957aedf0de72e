use Rattle.std.proofs.Common.{◌≡◌, rules, ap, sym, ◌∙◌, option_map, Some, None, nat_le, position}
use Rattle.std.specs.Option.{option_map_or, option_and_then}
use Rattle.oxc_sourcemap_tokens.specs.declared.errors.fault.Fault.{Fault}
use Rattle.oxc_sourcemap_json.specs.Words.{json_ids, first_not_below, BadSourceReference, place_at}
use Rattle.oxc_sourcemap_json.specs.Words.{Entry}
use Rattle.oxc_sourcemap_json.proofs.ReadPlaces.{past-some, past-none}
use Rattle.oxc_sourcemap_json.proofs.read.decode.list_fault.Goals as goal

pub returns-in_err-index-clause-error : goal.returns-in_err-index-clause-error
returns-in_err-index-clause-error c =
    let ids = c.as_slice-ids.result.now in
    let listed : json_ids c.args.list.now ≡ Some ids = search rules in
    let none : c.first_past.result ≡ None = search rules in
    let gone : c.from_residual-in_err-index.result ≡ None = search rules in
    ap (option_map (λ (f : Fault). f.error)) gone
    ∙ sym (ap (λ o. option_map (λ x. BadSourceReference x) (option_map_or (first_not_below c.args.sources) o None)) listed
    ∙ ap (option_map (λ x. BadSourceReference x)) (past-none c.args.sources ids (sym c.first_past.ensures ∙ none)))

pub returns-in_err-index-clause-place : goal.returns-in_err-index-clause-place
returns-in_err-index-clause-place c =
    let ids = c.as_slice-ids.result.now in
    let listed : json_ids c.args.list.now ≡ Some ids = search rules in
    let none : c.first_past.result ≡ None = search rules in
    let gone : c.from_residual-in_err-index.result ≡ None = search rules in
    ap (option_and_then (λ (f : Fault). f.place)) gone
    ∙ sym (ap (λ o. option_map (λ i. place_at (Entry c.args.ignored i)) (option_and_then (position (λ id. nat_le c.args.sources id)) o)) listed
    ∙ ap (option_map (λ i. place_at (Entry c.args.ignored i))) (sym c.first_past.ensures ∙ none))

pub returns-clause-error : goal.returns-clause-error
returns-clause-error c =
    let ids = c.as_slice-ids.result.now in
    let listed : json_ids c.args.list.now ≡ Some ids = search rules in
    let found : c.first_past.result ≡ Some c.in_ok-index.index = search rules in
    ap (λ (f : Fault). Some f.error) c.at.ensures
    ∙ sym (ap (λ o. option_map (λ x. BadSourceReference x) (option_map_or (first_not_below c.args.sources) o None)) listed
    ∙ ap (option_map (λ x. BadSourceReference x)) (past-some c.args.sources ids c.in_ok-index.index (sym c.first_past.ensures ∙ found)))
