use Rattle.std.proofs.Common.{◌≡◌, ◌∙◌, sym, ap, min, length, slice_get, Some, None, ◌-◌, arith}
use Rattle.std.proofs.Common.{map, option_map, List}
use Rattle.std.proofs.lemmas.List.{length-map}
use Rattle.std.specs.Option.{option_and_then, unwrap_or}
use Rattle.oxc_sourcemap_steps.specs.SimplifySteps.{listed_once}
use Rattle.oxc_sourcemap_steps.specs.declared.simplify.sources.Source.{Source}
use Rattle.oxc_sourcemap_steps.proofs.NewIds.{hit, miss, within, read-at, at-get, needed-ids}
use Rattle.oxc_sourcemap_steps.proofs.NewIds.{needed-order, needed-id, needed-error}
use Rattle.oxc_sourcemap_steps.proofs.SimplifyTables.{get-map}
use Rattle.oxc_sourcemap_steps.proofs.simplify.ids.name_id.Goals as goal

pub returns-in-Some-clause-order : goal.returns-in-Some-clause-order
returns-in-Some-clause-order c =
    let n = c.args.ids.now in
    let listed : List Source = map listed_once c.args.names.now in
    let slot = c.slot_of-k.ensures ∙ ap (λ xs. min (unwrap_or c.args.id 4294967295) (length xs - 1)) c.as_slice.ensures.value in
    let in-list = within listed n c.requires.ids c.args.id c.requires.small c.slot_of-k.result slot in
    let at = read-at n.ids.items c.slot_of-k.result c.index.result.now (Some c.in-Some.id) in-list c.index.ensures c.in-Some.is in
    let h = hit listed n c.requires.ids c.args.id c.requires.small c.slot_of-k.result slot c.in-Some.id at in
    sym h.0

pub returns-in-Some-clause-id : goal.returns-in-Some-clause-id
returns-in-Some-clause-id c =
    let n = c.args.ids.now in
    let listed : List Source = map listed_once c.args.names.now in
    let slot = c.slot_of-k.ensures ∙ ap (λ xs. min (unwrap_or c.args.id 4294967295) (length xs - 1)) c.as_slice.ensures.value in
    let in-list = within listed n c.requires.ids c.args.id c.requires.small c.slot_of-k.result slot in
    let at = read-at n.ids.items c.slot_of-k.result c.index.result.now (Some c.in-Some.id) in-list c.index.ensures c.in-Some.is in
    let h = hit listed n c.requires.ids c.args.id c.requires.small c.slot_of-k.result slot c.in-Some.id at in
    h.1

pub returns-in-None-clause-ids : goal.returns-in-None-clause-ids
returns-in-None-clause-ids c =
    let n = c.args.ids.now in
    let listed : List Source = map listed_once c.args.names.now in
    let slot = c.slot_of-k.ensures ∙ ap (λ xs. min (unwrap_or c.args.id 4294967295) (length xs - 1)) c.as_slice.ensures.value in
    let in-list = within listed n c.requires.ids c.args.id c.requires.small c.slot_of-k.result slot in
    let at = read-at n.ids.items c.slot_of-k.result c.index.result.now None in-list c.index.ensures c.in-None.is in
    let h = miss listed n c.requires.ids c.args.id c.requires.small c.slot_of-k.result slot at in
    let s : Source = c.listed_once.result in
    let here : slice_get listed c.slot_of-k.result ≡ Some s =
    get-map listed_once c.args.names.now c.slot_of-k.result
    ∙ ap (option_map listed_once) (at-get c.args.names.now c.slot_of-k.result 0 (omega (arith, h.1.1, length-map c.args.names.now listed_once)))
    ∙ ap (λ (z : Source). Some z) (sym c.listed_once.ensures) in
    let o : option_and_then (slice_get listed) c.args.id ≡ Some s = ap (option_and_then (slice_get listed)) h.1.0 ∙ here in
    let now = c.need_id.new.ids in
    needed-ids c.need_id.result listed n now c.slot_of-k.result s c.requires.ids h.0 here c.need_id.ensures.order c.need_id.ensures.numbering c.need_id.ensures.count c.need_id.ensures.ids c.need_id.ensures.known

pub returns-in-None-clause-order : goal.returns-in-None-clause-order
returns-in-None-clause-order c =
    let n = c.args.ids.now in
    let listed : List Source = map listed_once c.args.names.now in
    let slot = c.slot_of-k.ensures ∙ ap (λ xs. min (unwrap_or c.args.id 4294967295) (length xs - 1)) c.as_slice.ensures.value in
    let in-list = within listed n c.requires.ids c.args.id c.requires.small c.slot_of-k.result slot in
    let at = read-at n.ids.items c.slot_of-k.result c.index.result.now None in-list c.index.ensures c.in-None.is in
    let h = miss listed n c.requires.ids c.args.id c.requires.small c.slot_of-k.result slot at in
    let s : Source = c.listed_once.result in
    let here : slice_get listed c.slot_of-k.result ≡ Some s =
    get-map listed_once c.args.names.now c.slot_of-k.result
    ∙ ap (option_map listed_once) (at-get c.args.names.now c.slot_of-k.result 0 (omega (arith, h.1.1, length-map c.args.names.now listed_once)))
    ∙ ap (λ (z : Source). Some z) (sym c.listed_once.ensures) in
    let o : option_and_then (slice_get listed) c.args.id ≡ Some s = ap (option_and_then (slice_get listed)) h.1.0 ∙ here in
    let now = c.need_id.new.ids in
    needed-order c.need_id.result n.numbering.order.items now.numbering.order.items s (option_and_then (slice_get listed) c.args.id) o c.need_id.ensures.order

pub returns-in-None-clause-id : goal.returns-in-None-clause-id
returns-in-None-clause-id c =
    let n = c.args.ids.now in
    let listed : List Source = map listed_once c.args.names.now in
    let slot = c.slot_of-k.ensures ∙ ap (λ xs. min (unwrap_or c.args.id 4294967295) (length xs - 1)) c.as_slice.ensures.value in
    let in-list = within listed n c.requires.ids c.args.id c.requires.small c.slot_of-k.result slot in
    let at = read-at n.ids.items c.slot_of-k.result c.index.result.now None in-list c.index.ensures c.in-None.is in
    let h = miss listed n c.requires.ids c.args.id c.requires.small c.slot_of-k.result slot at in
    let s : Source = c.listed_once.result in
    let here : slice_get listed c.slot_of-k.result ≡ Some s =
    get-map listed_once c.args.names.now c.slot_of-k.result
    ∙ ap (option_map listed_once) (at-get c.args.names.now c.slot_of-k.result 0 (omega (arith, h.1.1, length-map c.args.names.now listed_once)))
    ∙ ap (λ (z : Source). Some z) (sym c.listed_once.ensures) in
    let o : option_and_then (slice_get listed) c.args.id ≡ Some s = ap (option_and_then (slice_get listed)) h.1.0 ∙ here in
    let now = c.need_id.new.ids in
    needed-id c.need_id.result now.numbering.order.items s (option_and_then (slice_get listed) c.args.id) o c.need_id.ensures.known

pub returns-in-None-clause-error : goal.returns-in-None-clause-error
returns-in-None-clause-error c =
    let n = c.args.ids.now in
    let listed : List Source = map listed_once c.args.names.now in
    let slot = c.slot_of-k.ensures ∙ ap (λ xs. min (unwrap_or c.args.id 4294967295) (length xs - 1)) c.as_slice.ensures.value in
    let in-list = within listed n c.requires.ids c.args.id c.requires.small c.slot_of-k.result slot in
    let at = read-at n.ids.items c.slot_of-k.result c.index.result.now None in-list c.index.ensures c.in-None.is in
    let h = miss listed n c.requires.ids c.args.id c.requires.small c.slot_of-k.result slot at in
    let s : Source = c.listed_once.result in
    let here : slice_get listed c.slot_of-k.result ≡ Some s =
    get-map listed_once c.args.names.now c.slot_of-k.result
    ∙ ap (option_map listed_once) (at-get c.args.names.now c.slot_of-k.result 0 (omega (arith, h.1.1, length-map c.args.names.now listed_once)))
    ∙ ap (λ (z : Source). Some z) (sym c.listed_once.ensures) in
    let o : option_and_then (slice_get listed) c.args.id ≡ Some s = ap (option_and_then (slice_get listed)) h.1.0 ∙ here in
    let now = c.need_id.new.ids in
    needed-error c.need_id.result n.numbering.order.items s (option_and_then (slice_get listed) c.args.id) o c.need_id.ensures.error
