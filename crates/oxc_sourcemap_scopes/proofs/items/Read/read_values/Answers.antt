use Rattle.std.proofs.Common.{◌≡◌, ◌<◌, [], length, map, get_or, drop, Some, Ok, arith, rules}
use Rattle.std.proofs.lemmas.List.{get_or_read, length-map}
use Rattle.oxc_sourcemap_scopes.specs.Items.{State, with_others, all_values}
use Rattle.oxc_sourcemap_scopes.proofs.Appended.{list-at, list-set, values-appended}
use Rattle.oxc_sourcemap_scopes.proofs.items.Read.read_values.Goals as goal

pub returns : goal.returns
returns c =
    let r = c.self.inside in
    let s : State = record { scopes = r.scopes; scope_infos = r.scope_infos.items; variables = map (λ v. v.items) r.variables.items; ranges = r.ranges; range_infos = r.range_infos.items; values = map (λ v. v.items) r.values.items; pieces = map (λ v. v.items) r.pieces.items; name = r.name; kind = r.kind; variable = r.variable; definition = r.definition } in
    let v : s ≡ c.args.self = c.self.view_is in
    let i = c.in-Some.index in
    let x = c.index_mut.result.now in
    let new = c.push_values.new.list in
    let o : s.ranges.current ≡ Some i = search rules in
    let within : i < length s.ranges.spans = search rules in
    let l : i < length r.values.items = omega (arith, within, c.self.invariant.values, length-map r.values.items (λ v. v.items)) in
    let at : get_or s.values i [] ≡ x.items = list-at r.values.items i x l (get_or_read r.values.items i x l c.index_mut.ensures.value x) in
    let read : with_others (get_or s.values i []) (all_values c.args.at c.args.names (drop 1 c.args.numbers.now)) ≡ Ok new.items = rw at (search rules) in
    rw (← v, list-set r.values.items i new) (values-appended c.args.names c.args.at s c.args.numbers.now i new.items o read, tt)
