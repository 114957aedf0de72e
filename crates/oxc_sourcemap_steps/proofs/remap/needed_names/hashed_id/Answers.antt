use Rattle.std.proofs.Common.{◌≡◌, ◌∙◌, ◌<◌, sym, subst, ap, arith, map, length, cond, []}
use Rattle.std.proofs.Common.{option_map, Some, None}
use Rattle.std.proofs.lemmas.Grind.{common_steps}
use Rattle.std.proofs.lemmas.List.{length-map}
use Rattle.std.proofs.lemmas.Map.Text.{hash_map_updates_str}
use Rattle.std.proofs.lemmas.Option.{slice_get_within}
use Rattle.std.specs.Str.{bytes_eq}
use Rattle.oxc_sourcemap_parts.specs.Texts.{index_of}
use Rattle.oxc_sourcemap_parts.proofs.Places.{index-last}
use Rattle.oxc_sourcemap_steps.proofs.KeptNames.{names_push, put_place}
use Rattle.oxc_sourcemap_steps.specs.RemapSteps.{names_in, AreApart}
use Rattle.oxc_sourcemap_steps.proofs.NeededNames.{at-index, apart-more}
use Rattle.oxc_sourcemap_steps.proofs.remap.needed_names.hashed_id.Goals as goal

pub returns-in-Some-clause-id : goal.returns-in-Some-clause-id
returns-in-Some-clause-id c =
    let names = names_in c.args.needed.now in
    let index : index_of c.args.name.now names ≡ Some c.in-Some.id.now =
    sym (c.requires.places c.args.name.now) ∙ sym c.get.ensures.value ∙ ap (option_map (λ x. x.now)) c.in-Some.is in
    let within : c.in-Some.id.now < length names = slice_get_within names c.in-Some.id.now c.args.name.now (at-index c.args.name.now names c.in-Some.id.now index) in
    let count = length-map c.args.needed.now.names.items (λ name. name.now) in
    grind (arith, index, within, count, c.requires.few)

pub returns-clause-id : goal.returns-clause-id
returns-clause-id c =
    let names = names_in c.args.needed.now in
    let none : index_of c.args.name.now names ≡ None = sym (c.requires.places c.args.name.now) ∙ sym c.get.ensures.value ∙ ap (option_map (λ x. x.now)) c.in_default.is in
    let more = ap (map (λ name. name.now)) c.in_ok-push.ensures.items ∙ names_push [] c.args.needed.now.names.items c.args.name in
    let count = length-map c.args.needed.now.names.items (λ name. name.now) in
    let id : length names ≡ c.len-count.result = omega (arith, count, c.len-count.ensures) in
    (ap (index_of c.args.name.now) more ∙ index-last c.args.name.now names none ∙ ap (λ n. Some n) id, omega (arith, c.if-count-ge4294967295.false))

pub returns-clause-placed : goal.returns-clause-placed
returns-clause-placed c =
    let names = names_in c.args.needed.now in
    let none : index_of c.args.name.now names ≡ None = sym (c.requires.places c.args.name.now) ∙ sym c.get.ensures.value ∙ ap (option_map (λ x. x.now)) c.in_default.is in
    let more = ap (map (λ name. name.now)) c.in_ok-push.ensures.items ∙ names_push [] c.args.needed.now.names.items c.args.name in
    let count = length-map c.args.needed.now.names.items (λ name. name.now) in
    let id : c.len-count.result ≡ length names = omega (arith, count, c.len-count.ensures) in
    let len = ap length c.in_ok-push.ensures.items in record {
      places = λ text.
          hash_map_updates_str c.args.name.now c.args.needed.now.places c.insert.new.self _ c.in_ok-insert.ensures.updates text
          ∙ ap (cond (bytes_eq c.args.name.now text) (Some c.len-count.result)) (c.requires.places text)
          ∙ put_place text c.args.name.now names c.len-count.result none id ∙ sym (ap (index_of text) more);
      apart = subst AreApart (sym more) (apart-more c.args.name.now names none c.requires.apart);
      few = grind (arith, common_steps, len, c.len-count.ensures, c.if-count-ge4294967295.false);
    }
