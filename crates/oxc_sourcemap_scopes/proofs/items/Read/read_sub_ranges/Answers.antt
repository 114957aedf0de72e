use Rattle.std.proofs.Common.{◌≡◌, ◌≢◌, Err, ◌<◌, ◌∙◌, [], length, map, get_or, set, drop, true}
use Rattle.std.proofs.Common.{Some, Ok, ap, arith, rules}
use Rattle.std.proofs.lemmas.List.{get_or_read, length-map}
use Rattle.oxc_sourcemap_scopes.specs.Trees.{span_at}
use Rattle.oxc_sourcemap_scopes.specs.Faults.{OutOfMemory}
use Rattle.oxc_sourcemap_scopes.specs.declared.errors.ScopesError.{ScopesError}
use Rattle.oxc_sourcemap_scopes.specs.declared.scopes.Value.{Value}
use Rattle.oxc_sourcemap_scopes.specs.Items.{State, number_at, value_to_split, with_others}
use Rattle.oxc_sourcemap_scopes.specs.Items.{all_pieces}
use Rattle.oxc_sourcemap_scopes.proofs.Appended.{list-at, list-set, drop-two, pieces-appended}
use Rattle.oxc_sourcemap_scopes.proofs.Appended.{pieces-refused}
use Rattle.oxc_sourcemap_scopes.proofs.items.Read.read_sub_ranges.Goals as goal

pub returns : goal.returns
returns c =
    let r = c.self.inside in
    let s : State = record { scopes = r.scopes; scope_infos = r.scope_infos.items; variables = map (λ v. v.items) r.variables.items; ranges = r.ranges; range_infos = r.range_infos.items; values = map (λ v. v.items) r.values.items; pieces = map (λ v. v.items) r.pieces.items; name = r.name; kind = r.kind; variable = r.variable; definition = r.definition } in
    let v : s ≡ c.args.self = c.self.view_is in
    let i = c.in-Some.index in
    let k = c.in_ok-variable.variable in
    let value : Value = c.in_ok-split_value.field-0 in
    let x = c.index_mut.result.now in
    let y = c.index_mut-2.result.now in
    let o : s.ranges.current ≡ Some i = search rules in
    let within : i < length s.ranges.spans = search rules in
    let l : i < length r.values.items = omega (arith, within, c.self.invariant.values, length-map r.values.items (λ v. v.items)) in
    let m : i < length r.pieces.items = omega (arith, within, c.self.invariant.pieces, length-map r.pieces.items (λ v. v.items)) in
    let values : get_or s.values i [] ≡ x.items = list-at r.values.items i x l (get_or_read r.values.items i x l c.index_mut.ensures.value x) in
    let pieces : get_or s.pieces i [] ≡ y.items = list-at r.pieces.items i y m (get_or_read r.pieces.items i y m c.index_mut-2.ensures.value y) in
    let n : number_at c.args.at c.args.numbers.now 1 ≡ Ok k = search rules in
    let split : value_to_split c.args.at (get_or s.values i []) k ≡ Ok value = rw values (search rules) in
    let start : c.start_of-start.result ≡ (span_at s.ranges.spans i).start = search rules in
    let rest : c.after_tag-triples.result.now ≡ drop 2 c.args.numbers.now = c.after_tag-triples.ensures ∙ ap (drop 1) c.after_tag.ensures ∙ drop-two c.args.numbers.now in
    let read : with_others (get_or s.pieces i []) (all_pieces c.args.at k (span_at s.ranges.spans i).start c.args.names (drop 2 c.args.numbers.now)) ≡ Ok c.push_pieces.new.list.items = rw (pieces, ← start, ← rest) (search rules) in
    let marked : c.split_value.new.list.items ≡ set (get_or s.values i []) k (record value { is_split = true }) = rw values (search rules) in
    rw (← v, list-set r.values.items i c.split_value.new.list, list-set r.pieces.items i c.push_pieces.new.list, marked)
    (pieces-appended c.args.names c.args.at s c.args.numbers.now i k value c.push_pieces.new.list.items o n split read, tt)

pub returns-in_err-push_pieces : goal.returns-in_err-push_pieces
returns-in_err-push_pieces c =
    let r = c.self.inside in
    let s : State = record { scopes = r.scopes; scope_infos = r.scope_infos.items; variables = map (λ v. v.items) r.variables.items; ranges = r.ranges; range_infos = r.range_infos.items; values = map (λ v. v.items) r.values.items; pieces = map (λ v. v.items) r.pieces.items; name = r.name; kind = r.kind; variable = r.variable; definition = r.definition } in
    let v : s ≡ c.args.self = c.self.view_is in
    let i = c.in-Some.index in
    let k = c.in_ok-variable.variable in
    let value : Value = c.in_ok-split_value.field-0 in
    let x = c.index_mut.result.now in
    let y = c.index_mut-2.result.now in
    let o : s.ranges.current ≡ Some i = search rules in
    let within : i < length s.ranges.spans = search rules in
    let l : i < length r.values.items = omega (arith, within, c.self.invariant.values, length-map r.values.items (λ v. v.items)) in
    let m : i < length r.pieces.items = omega (arith, within, c.self.invariant.pieces, length-map r.pieces.items (λ v. v.items)) in
    let values : get_or s.values i [] ≡ x.items = list-at r.values.items i x l (get_or_read r.values.items i x l c.index_mut.ensures.value x) in
    let pieces : get_or s.pieces i [] ≡ y.items = list-at r.pieces.items i y m (get_or_read r.pieces.items i y m c.index_mut-2.ensures.value y) in
    let n : number_at c.args.at c.args.numbers.now 1 ≡ Ok k = search rules in
    let split : value_to_split c.args.at (get_or s.values i []) k ≡ Ok value = rw values (search rules) in
    let start : c.start_of-start.result ≡ (span_at s.ranges.spans i).start = search rules in
    let rest : c.after_tag-triples.result.now ≡ drop 2 c.args.numbers.now = c.after_tag-triples.ensures ∙ ap (drop 1) c.after_tag.ensures ∙ drop-two c.args.numbers.now in
    let f : ScopesError = c.in_err-push_pieces.field-0.0 in
    let e : c.from_residual-in_err-push_pieces.result ≡ Err f = search rules in
    let read : f ≢ OutOfMemory → with_others y.items (all_pieces c.args.at k c.start_of-start.result c.args.names c.after_tag-triples.result.now) ≡ Err f = search rules in
    rw e (tt, λ other. rw (← v) (pieces-refused c.args.names c.args.at s c.args.numbers.now i k value f o n split (rw (pieces, ← start, ← rest) (read other))))
