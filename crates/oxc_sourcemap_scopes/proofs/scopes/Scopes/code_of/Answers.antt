use Rattle.std.proofs.Common.{◌≡◌, ◌<◌, ◌≤◌, length, get_or, true, false, Some, None}
use Rattle.std.proofs.Common.{map, ap, sym, ◌∙◌}
use Rattle.std.proofs.Common.{arith, rules}
use Rattle.std.proofs.lemmas.List.{get_or_read}
use Rattle.oxc_sourcemap_scopes.specs.Trees.{rank, span_at, parent_rank, no_span}
use Rattle.oxc_sourcemap_scopes.specs.Items.{no_range}
use Rattle.oxc_sourcemap_scopes.specs.Reading.{ScopesRecord}
use Rattle.oxc_sourcemap_scopes.specs.Asking.{code_of, is_code_of, around}
use Rattle.oxc_sourcemap_scopes.proofs.Chained.{code-found, code-step, code-none}
use Rattle.oxc_sourcemap_scopes.proofs.scopes.Scopes.code_of.Goals as goal

pub returns-then-is_code_of : goal.returns-then-is_code_of
returns-then-is_code_of c =
    let s : ScopesRecord = record { sources = c.self.inside.sources; scopes = c.self.inside.scopes.items; scope_infos = c.self.inside.scope_infos.items; variables = map (λ v. v.items) c.self.inside.variables.items; ranges = c.self.inside.ranges.items; range_infos = c.self.inside.range_infos.items; values = map (λ v. v.items) c.self.inside.values.items; pieces = map (λ v. v.items) c.self.inside.pieces.items } in
    let v : s ≡ c.args.self.now = c.self.view_is in
    let i = c.in-Some.index in
    let within : rank c.loop-next.next ≤ length s.ranges = rw (← v) at c.loop-next.invariant.within in
    let m : i < length s.ranges = omega (arith, within, ap rank c.in-Some.is) in
    let l : i < length s.range_infos = omega (arith, m, c.self.invariant.range_infos) in
    let e : c.index.result.now ≡ get_or s.range_infos i no_range = get_or_read s.range_infos i c.index.result.now l c.index.ensures no_range in
    let is : is_code_of c.args.scope (get_or s.range_infos i no_range) ≡ true = sym (ap (is_code_of c.args.scope) e) ∙ sym c.is_code_of.ensures ∙ c.if-is_code_of.true in
    let same : code_of s.range_infos c.args.scope (around s.ranges (Some i)) ≡ code_of s.range_infos c.args.scope (around s.ranges c.args.range) = rw (← v, c.in-Some.is) at c.loop-next.invariant.same in
    rw (← v) (code-found s.ranges s.range_infos c.args.scope i c.self.invariant.ranges m is ∙ same)

pub loop-next-preserved : goal.loop-next-preserved
loop-next-preserved c =
    let s : ScopesRecord = record { sources = c.self.inside.sources; scopes = c.self.inside.scopes.items; scope_infos = c.self.inside.scope_infos.items; variables = map (λ v. v.items) c.self.inside.variables.items; ranges = c.self.inside.ranges.items; range_infos = c.self.inside.range_infos.items; values = map (λ v. v.items) c.self.inside.values.items; pieces = map (λ v. v.items) c.self.inside.pieces.items } in
    let v : s ≡ c.args.self.now = c.self.view_is in
    let i = c.in-Some.index in
    let within : rank c.loop-next.next ≤ length s.ranges = rw (← v) at c.loop-next.invariant.within in
    let m : i < length s.ranges = omega (arith, within, ap rank c.in-Some.is) in
    let l : i < length s.range_infos = omega (arith, m, c.self.invariant.range_infos) in
    let e : c.index.result.now ≡ get_or s.range_infos i no_range = get_or_read s.range_infos i c.index.result.now l c.index.ensures no_range in
    let not : is_code_of c.args.scope (get_or s.range_infos i no_range) ≡ false = sym (ap (is_code_of c.args.scope) e) ∙ sym c.is_code_of.ensures ∙ c.if-is_code_of.false in
    let f : c.index-in-Some.result.now ≡ span_at s.ranges i = get_or_read s.ranges i c.index-in-Some.result.now m c.index-in-Some.ensures no_span in
    let up : parent_rank s.ranges i ≤ i = c.self.invariant.ranges.parents i m in
    let same : code_of s.range_infos c.args.scope (around s.ranges (Some i)) ≡ code_of s.range_infos c.args.scope (around s.ranges c.args.range) = rw (← v, c.in-Some.is) at c.loop-next.invariant.same in
    rw (← v, f) (record {
      within = omega (arith, up, m);
      same = code-step s.ranges s.range_infos c.args.scope i c.self.invariant.ranges m not ∙ same;
    })

pub returns : goal.returns
returns c =
    let e : c.loop-next.next ≡ None = search rules in
    let same : code_of c.args.self.now.range_infos c.args.scope (around c.args.self.now.ranges None) ≡ code_of c.args.self.now.range_infos c.args.scope (around c.args.self.now.ranges c.args.range) = rw e at c.loop-next.invariant.same in
    code-none c.args.self.now.ranges c.args.self.now.range_infos c.args.scope ∙ same
