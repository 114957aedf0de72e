use Rattle.std.proofs.Common.{◌≡◌, ◌<◌, ◌∙◌, sym, ap, subst, length, map, arith, slice_get, get_or}
use Rattle.std.proofs.Common.{Some}
use Rattle.std.specs.Cmp.Lexicographic.{bytes_decides}
use Rattle.std.proofs.lemmas.List.{length-map}
use Rattle.oxc_sourcemap_steps.proofs.KeptNames.{name_at}
use Rattle.oxc_sourcemap_steps.proofs.remap.needed_names.hinted_id.Goals as goal

pub returns-then-eq : goal.returns-then-eq
returns-then-eq c =
    let names = c.args.needed.now.names.items in
    let id = c.in_ok-id.field-0.now in
    let hinted = c.in_ok-hinted.field-0.now in
    let is : c.deref-2.result.now ≡ names = c.deref-2.ensures.value in
    let within : id < length names = subst (λ ns. id < length ns) is c.in_ok-hinted.ensures.lookup.3.0 in
    let at = name_at (λ name. name.now) names id hinted within (c.in_ok-hinted.ensures.lookup.1 ∙ ap (λ ns. get_or ns id hinted) is) in
    let same : hinted.now ≡ c.args.name.now =
    (bytes_decides hinted.now c.args.name.now).0 (sym c.eq.ensures ∙ c.if-eq.true) in
    let count = length-map names (λ name. name.now) in
    (c.requires.apart id c.args.name.now (subst (λ t. slice_get (map (λ name. name.now) names) id ≡ Some t) same at), omega (arith, within, c.requires.few))
