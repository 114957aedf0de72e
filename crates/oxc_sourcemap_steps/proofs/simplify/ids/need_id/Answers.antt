use Rattle.std.proofs.Common.{◌≡◌, ◌∙◌, ◌≤◌, sym, ap, subst, length, Some}
use Rattle.std.specs.Option.{option_and_then, unwrap_or}
use Rattle.oxc_sourcemap_steps.specs.SimplifySteps.{index_in, with_any, with_places, own_index}
use Rattle.oxc_sourcemap_steps.specs.SimplifySteps.{IsNewId}
use Rattle.oxc_sourcemap_steps.proofs.NewIds.{now-known}
use Rattle.oxc_sourcemap_steps.proofs.simplify.ids.need_id.Goals as goal

pub returns-clause-known : goal.returns-clause-known
returns-clause-known c =
    let s = c.args.source in
    let ks = c.args.ids.now.numbering.order.items in
    let order : c.need_any-2.new.numbering.order.items ≡ with_places ks s =
    c.in_ok-need_any-2.ensures.order ∙ ap (λ os. with_any os s.ignored) c.in_ok-need_any.ensures.order in
    let few = subst (λ os. length os ≤ 4294967295) order c.in_ok-need_any-2.ensures.numbering.few in
    let id = c.unwrap_or-id.ensures ∙ ap (λ o. unwrap_or o 4294967295) (c.number_of.ensures.place ∙ ap (option_and_then (λ k. index_in k c.need_any-2.new.numbering.order.items)) c.own_index.ensures)
    ∙ ap (λ os. unwrap_or (option_and_then (λ k. index_in k os) (own_index s)) 4294967295) order in
    subst (λ os. IsNewId os (Some s) c.unwrap_or-id.result) (sym order) (now-known ks s c.unwrap_or-id.result c.requires.own few id)
