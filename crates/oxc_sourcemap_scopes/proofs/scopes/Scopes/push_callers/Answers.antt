use Rattle.std.proofs.Common.{◌≡◌, ◌<◌, ◌≤◌, ◌++◌, ◌∷◌, [], length, get_or, true, false, Some, None}
use Rattle.std.proofs.Common.{map, refl, sym, ap, ◌∙◌, arith, rules}
use Rattle.std.proofs.lemmas.List.{get_or_read, append-nil}
use Rattle.oxc_sourcemap_scopes.specs.declared.scopes.RangeInfo.{RangeInfo}
use Rattle.oxc_sourcemap_scopes.specs.Trees.{rank, span_at, parent_rank, no_span}
use Rattle.oxc_sourcemap_scopes.specs.Items.{no_range}
use Rattle.oxc_sourcemap_scopes.specs.Reading.{ScopesRecord}
use Rattle.oxc_sourcemap_scopes.specs.Asking.{callers_of, with_frames, calling_frames, function_at}
use Rattle.oxc_sourcemap_scopes.specs.declared.scopes.ScopeFrame.{ScopeFrame}
use Rattle.oxc_sourcemap_scopes.proofs.Outward.{callers-step, callers-end, callers-none, called-all}
use Rattle.oxc_sourcemap_scopes.proofs.scopes.Scopes.push_callers.Goals as goal
use Rattle.oxc_sourcemap_scopes.proofs.scopes.Scopes.push_callers.Goals.{in-Some-call_site+in_ok-push}
use Rattle.oxc_sourcemap_scopes.proofs.scopes.Scopes.push_callers.Goals.{in_default-call_site}

pub returns-then-info : goal.returns-then-info
returns-then-info c =
    let s : ScopesRecord = record { sources = c.self.inside.sources; scopes = c.self.inside.scopes.items; scope_infos = c.self.inside.scope_infos.items; variables = map (λ v. v.items) c.self.inside.variables.items; ranges = c.self.inside.ranges.items; range_infos = c.self.inside.range_infos.items; values = map (λ v. v.items) c.self.inside.values.items; pieces = map (λ v. v.items) c.self.inside.pieces.items } in
    let v : s ≡ c.args.self.now = c.self.view_is in
    let i = c.in-Some.index in
    let within : rank c.loop-next.next ≤ length s.ranges = rw (← v) at c.loop-next.invariant.within in
    let l : i < length s.range_infos = omega (arith, within, ap rank c.in-Some.is, c.self.invariant.range_infos) in
    let e : c.index-info.result.now ≡ get_or s.range_infos i no_range = get_or_read s.range_infos i c.index-info.result.now l c.index-info.ensures no_range in
    let is : (get_or s.range_infos i no_range).is_stack_frame ≡ true = rw e at c.if-info.true in
    let same : with_frames c.loop-next.frames.items (callers_of s (Some i)) ≡ with_frames c.args.frames.now.items (callers_of s (Some c.args.range)) = rw (← v, c.in-Some.is) at c.loop-next.invariant.same in
    rw (← v, e) (called-all c.args.frames.now.items c.loop-next.frames.items (get_or s.range_infos i no_range).is_hidden (callers_of s (Some i)) (callers_of s (Some c.args.range)) (callers-end s i is) same)

pub loop-next-preserved : goal.loop-next-preserved
loop-next-preserved c =
    let s : ScopesRecord = record { sources = c.self.inside.sources; scopes = c.self.inside.scopes.items; scope_infos = c.self.inside.scope_infos.items; variables = map (λ v. v.items) c.self.inside.variables.items; ranges = c.self.inside.ranges.items; range_infos = c.self.inside.range_infos.items; values = map (λ v. v.items) c.self.inside.values.items; pieces = map (λ v. v.items) c.self.inside.pieces.items } in
    let v : s ≡ c.args.self.now = c.self.view_is in
    let i = c.in-Some.index in
    let within : rank c.loop-next.next ≤ length s.ranges = rw (← v) at c.loop-next.invariant.within in
    let m : i < length s.ranges = omega (arith, within, ap rank c.in-Some.is) in
    let l : i < length s.range_infos = omega (arith, m, c.self.invariant.range_infos) in
    let e : c.index-info.result.now ≡ get_or s.range_infos i no_range = get_or_read s.range_infos i c.index-info.result.now l c.index-info.ensures no_range in
    let not : (get_or s.range_infos i no_range).is_stack_frame ≡ false = rw e at c.if-info.false in
    let f : c.index.result.now ≡ span_at s.ranges i = get_or_read s.ranges i c.index.result.now m c.index.ensures no_span in
    let up : parent_rank s.ranges i ≤ i = c.self.invariant.ranges.parents i m in
    let same : with_frames c.loop-next.frames.items (callers_of s (Some i)) ≡ with_frames c.args.frames.now.items (callers_of s (Some c.args.range)) = rw (← v, c.in-Some.is) at c.loop-next.invariant.same in
    let more : c.match-info.frames.items ≡ c.loop-next.frames.items ++ calling_frames s (get_or s.range_infos i no_range).call_site =
    elim c.match-info.branch [
      | in-Some-call_site+in_ok-push w ↦ (
          let call = w.in-Some-call_site.call in
          let site : (get_or s.range_infos i no_range).call_site ≡ Some call = sym (ap (λ (r : RangeInfo). r.call_site) e) ∙ w.in-Some-call_site.is in
          let scope : w.function_at-scope.result ≡ function_at s call.source call.line call.column = rw (← v) at w.function_at-scope.ensures in
          let frame : ScopeFrame = record { scope = w.function_at-scope.result; call_site = Some call } in
          let pushed : c.match-info.frames.items ≡ c.loop-next.frames.items ++ frame ∷ [] = search rules in
          pushed ∙ rw (site, scope) refl)
      | in_default-call_site w ↦ (
          let site : (get_or s.range_infos i no_range).call_site ≡ None = sym (ap (λ (r : RangeInfo). r.call_site) e) ∙ search rules in
          let kept : c.match-info.frames.items ≡ c.loop-next.frames.items = search rules in
          kept ∙ rw site (sym (append-nil c.loop-next.frames.items)))
    ] in
    rw (← v, f, more) (record {
      within = omega (arith, up, m);
      same = callers-step s i c.loop-next.frames.items c.self.invariant.ranges m not ∙ same;
    })

pub returns : goal.returns
returns c =
    let e : c.loop-next.next ≡ None = search rules in
    let same : with_frames c.loop-next.frames.items (callers_of c.args.self.now None) ≡ with_frames c.args.frames.now.items (callers_of c.args.self.now (Some c.args.range)) = rw e at c.loop-next.invariant.same in
    called-all c.args.frames.now.items c.loop-next.frames.items false (callers_of c.args.self.now None) (callers_of c.args.self.now (Some c.args.range)) (callers-none c.args.self.now) same
