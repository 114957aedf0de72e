use Rattle.std.proofs.Common.{◌<◌, length, map, Some, arith, rules, ap}
use Rattle.std.proofs.lemmas.List.{get_or_read}
use Rattle.oxc_sourcemap_scopes.specs.declared.scopes.RangeInfo.{RangeInfo}
use Rattle.oxc_sourcemap_scopes.specs.declared.scopes.CallSite.{CallSite}
use Rattle.oxc_sourcemap_scopes.specs.Items.{State, no_range}
use Rattle.oxc_sourcemap_scopes.proofs.States.{call-set}
use Rattle.oxc_sourcemap_scopes.proofs.items.Read.read_call_site.Goals as goal

pub invariant_of-self : goal.invariant_of-self
invariant_of-self c =
    let r = c.self.inside in
    let s : State = record { scopes = r.scopes; scope_infos = r.scope_infos.items; variables = map (λ v. v.items) r.variables.items; ranges = r.ranges; range_infos = r.range_infos.items; values = map (λ v. v.items) r.values.items; pieces = map (λ v. v.items) r.pieces.items; name = r.name; kind = r.kind; variable = r.variable; definition = r.definition } in
    let site : CallSite = record { source = c.in_ok-source.source; line = c.in_ok-line.line; column = c.in_ok-column.column } in
    let info : RangeInfo = record c.index-info.result.now { call_site = Some site } in
    let within : c.in-Some.index < length s.ranges.spans = search rules in
    let l : c.in-Some.index < length s.range_infos = omega (arith, within, c.self.invariant.ranges) in
    let e = get_or_read s.range_infos c.in-Some.index c.index-info.result.now l c.index-info.ensures no_range in
    call-set s c.in-Some.index info c.self.invariant l (ap (λ (x : RangeInfo). x.definition) e)
