use Rattle.std.proofs.Common.{◌≡◌, ◌<◌, ◌≤◌, ◌-◌, ◌∷◌, ℕ, length, slice_get, get_or, true}
use Rattle.std.proofs.Common.{false, Option, Some, None, map, ap, sym, ◌∙◌, arith, rules, refl}
use Rattle.std.proofs.lemmas.List.{get_or_read}
use Rattle.oxc_sourcemap_scopes.specs.declared.scopes.RangeInfo.{RangeInfo}
use Rattle.oxc_sourcemap_scopes.specs.Trees.{rank, span_at, parent_rank, no_span}
use Rattle.oxc_sourcemap_scopes.specs.Items.{no_range}
use Rattle.oxc_sourcemap_scopes.specs.Reading.{ScopesRecord}
use Rattle.oxc_sourcemap_scopes.specs.Asking.{caller_starts, scope_at}
use Rattle.oxc_sourcemap_scopes.proofs.Chained.{starts-step, starts-end, starts-none, item-after}
use Rattle.oxc_sourcemap_scopes.proofs.scopes.Scopes.caller_start.Goals as goal

pub returns-then-info-clause-start : goal.returns-then-info-clause-start
returns-then-info-clause-start c =
    let s : ScopesRecord = record { sources = c.self.inside.sources; scopes = c.self.inside.scopes.items; scope_infos = c.self.inside.scope_infos.items; variables = map (λ v. v.items) c.self.inside.variables.items; ranges = c.self.inside.ranges.items; range_infos = c.self.inside.range_infos.items; values = map (λ v. v.items) c.self.inside.values.items; pieces = map (λ v. v.items) c.self.inside.pieces.items } in
    let v : s ≡ c.args.self.now = c.self.view_is in
    let i = c.in-Some.index in
    let within : rank c.loop-next.next ≤ length s.ranges = rw (← v) at c.loop-next.invariant.within in
    let m : i < length s.ranges = omega (arith, within, ap rank c.in-Some.is) in
    let l : i < length s.range_infos = omega (arith, m, c.self.invariant.range_infos) in
    let e : c.index-info.result.now ≡ get_or s.range_infos i no_range = get_or_read s.range_infos i c.index-info.result.now l c.index-info.ensures no_range in
    let same : slice_get (caller_starts s (Some i)) c.loop-next.left ≡ slice_get (caller_starts s (Some c.args.range)) c.args.caller = rw (← v, c.in-Some.is) at c.loop-next.invariant.same in
    let is : (get_or s.range_infos i no_range).is_stack_frame ≡ true = rw e at c.if-info.true in
    rw (← v) (sym (ap (λ starts. slice_get starts c.loop-next.left) (starts-end s i is)) ∙ same)

pub returns-then-left-eq0-clause-start : goal.returns-then-left-eq0-clause-start
returns-then-left-eq0-clause-start c =
    let s : ScopesRecord = record { sources = c.self.inside.sources; scopes = c.self.inside.scopes.items; scope_infos = c.self.inside.scope_infos.items; variables = map (λ v. v.items) c.self.inside.variables.items; ranges = c.self.inside.ranges.items; range_infos = c.self.inside.range_infos.items; values = map (λ v. v.items) c.self.inside.values.items; pieces = map (λ v. v.items) c.self.inside.pieces.items } in
    let v : s ≡ c.args.self.now = c.self.view_is in
    let i = c.in-Some.index in
    let within : rank c.loop-next.next ≤ length s.ranges = rw (← v) at c.loop-next.invariant.within in
    let m : i < length s.ranges = omega (arith, within, ap rank c.in-Some.is) in
    let l : i < length s.range_infos = omega (arith, m, c.self.invariant.range_infos) in
    let e : c.index-info.result.now ≡ get_or s.range_infos i no_range = get_or_read s.range_infos i c.index-info.result.now l c.index-info.ensures no_range in
    let same : slice_get (caller_starts s (Some i)) c.loop-next.left ≡ slice_get (caller_starts s (Some c.args.range)) c.args.caller = rw (← v, c.in-Some.is) at c.loop-next.invariant.same in
    let not : (get_or s.range_infos i no_range).is_stack_frame ≡ false = rw e at c.if-info.false in
    let f : c.index.result.now ≡ span_at s.ranges i = get_or_read s.ranges i c.index.result.now m c.index.ensures no_span in
    let up : parent_rank s.ranges i ≤ i = c.self.invariant.ranges.parents i m in
    let step = starts-step s i c.self.invariant.ranges m not in
    let call = c.in-Some-call_site.call in
    let site : (get_or s.range_infos i no_range).call_site ≡ Some call = sym (ap (λ (r : RangeInfo). r.call_site) e) ∙ c.in-Some-call_site.is in
    let start : Option ℕ × Option ℕ = (scope_at s call.source call.line call.column, (span_at s.ranges i).parent) in
    let first : start ∷ caller_starts s (span_at s.ranges i).parent ≡ caller_starts s (Some i) = rw site at step in
    let none : c.loop-next.left ≡ 0 = search rules in
    let scope : c.scope_at.result ≡ scope_at s call.source call.line call.column = rw (← v) at c.scope_at.ensures.index in
    let found : Some start ≡ slice_get (caller_starts s (Some i)) c.loop-next.left = rw (none, ← first) refl in
    rw (← v, f, scope) (found ∙ same)

pub loop-next-preserved-else-left-eq0 : goal.loop-next-preserved-else-left-eq0
loop-next-preserved-else-left-eq0 c =
    let s : ScopesRecord = record { sources = c.self.inside.sources; scopes = c.self.inside.scopes.items; scope_infos = c.self.inside.scope_infos.items; variables = map (λ v. v.items) c.self.inside.variables.items; ranges = c.self.inside.ranges.items; range_infos = c.self.inside.range_infos.items; values = map (λ v. v.items) c.self.inside.values.items; pieces = map (λ v. v.items) c.self.inside.pieces.items } in
    let v : s ≡ c.args.self.now = c.self.view_is in
    let i = c.in-Some.index in
    let within : rank c.loop-next.next ≤ length s.ranges = rw (← v) at c.loop-next.invariant.within in
    let m : i < length s.ranges = omega (arith, within, ap rank c.in-Some.is) in
    let l : i < length s.range_infos = omega (arith, m, c.self.invariant.range_infos) in
    let e : c.index-info.result.now ≡ get_or s.range_infos i no_range = get_or_read s.range_infos i c.index-info.result.now l c.index-info.ensures no_range in
    let same : slice_get (caller_starts s (Some i)) c.loop-next.left ≡ slice_get (caller_starts s (Some c.args.range)) c.args.caller = rw (← v, c.in-Some.is) at c.loop-next.invariant.same in
    let not : (get_or s.range_infos i no_range).is_stack_frame ≡ false = rw e at c.if-info.false in
    let f : c.index.result.now ≡ span_at s.ranges i = get_or_read s.ranges i c.index.result.now m c.index.ensures no_span in
    let up : parent_rank s.ranges i ≤ i = c.self.invariant.ranges.parents i m in
    let step = starts-step s i c.self.invariant.ranges m not in
    let call = c.in-Some-call_site.call in
    let site : (get_or s.range_infos i no_range).call_site ≡ Some call = sym (ap (λ (r : RangeInfo). r.call_site) e) ∙ c.in-Some-call_site.is in
    let start : Option ℕ × Option ℕ = (scope_at s call.source call.line call.column, (span_at s.ranges i).parent) in
    let first : start ∷ caller_starts s (span_at s.ranges i).parent ≡ caller_starts s (Some i) = rw site at step in
    let some : 0 < c.loop-next.left = search rules in
    let fewer : slice_get (caller_starts s (span_at s.ranges i).parent) (c.loop-next.left - 1) ≡ slice_get (caller_starts s (Some i)) c.loop-next.left =
    sym (item-after start (caller_starts s (span_at s.ranges i).parent) c.loop-next.left some) ∙ ap (λ starts. slice_get starts c.loop-next.left) first in
    rw (← v, f) (record { within = omega (arith, up, m); same = fewer ∙ same })

pub loop-next-preserved : goal.loop-next-preserved
loop-next-preserved c =
    let s : ScopesRecord = record { sources = c.self.inside.sources; scopes = c.self.inside.scopes.items; scope_infos = c.self.inside.scope_infos.items; variables = map (λ v. v.items) c.self.inside.variables.items; ranges = c.self.inside.ranges.items; range_infos = c.self.inside.range_infos.items; values = map (λ v. v.items) c.self.inside.values.items; pieces = map (λ v. v.items) c.self.inside.pieces.items } in
    let v : s ≡ c.args.self.now = c.self.view_is in
    let i = c.in-Some.index in
    let within : rank c.loop-next.next ≤ length s.ranges = rw (← v) at c.loop-next.invariant.within in
    let m : i < length s.ranges = omega (arith, within, ap rank c.in-Some.is) in
    let l : i < length s.range_infos = omega (arith, m, c.self.invariant.range_infos) in
    let e : c.index-info.result.now ≡ get_or s.range_infos i no_range = get_or_read s.range_infos i c.index-info.result.now l c.index-info.ensures no_range in
    let same : slice_get (caller_starts s (Some i)) c.loop-next.left ≡ slice_get (caller_starts s (Some c.args.range)) c.args.caller = rw (← v, c.in-Some.is) at c.loop-next.invariant.same in
    let not : (get_or s.range_infos i no_range).is_stack_frame ≡ false = rw e at c.if-info.false in
    let f : c.index.result.now ≡ span_at s.ranges i = get_or_read s.ranges i c.index.result.now m c.index.ensures no_span in
    let up : parent_rank s.ranges i ≤ i = c.self.invariant.ranges.parents i m in
    let step = starts-step s i c.self.invariant.ranges m not in
    let site : (get_or s.range_infos i no_range).call_site ≡ None = sym (ap (λ (r : RangeInfo). r.call_site) e) ∙ search rules in
    let on : caller_starts s (span_at s.ranges i).parent ≡ caller_starts s (Some i) = rw site at step in
    rw (← v, f) (record { within = omega (arith, up, m); same = ap (λ starts. slice_get starts c.loop-next.left) on ∙ same })

pub returns-clause-start : goal.returns-clause-start
returns-clause-start c =
    let e : c.loop-next.next ≡ None = search rules in
    let same : slice_get (caller_starts c.args.self.now None) c.loop-next.left ≡ slice_get (caller_starts c.args.self.now (Some c.args.range)) c.args.caller = rw e at c.loop-next.invariant.same in
    sym (ap (λ starts. slice_get starts c.loop-next.left) (starts-none c.args.self.now)) ∙ same
