use Rattle.std.proofs.Common.{◌≡◌, ◌<◌, ◌≤◌, ◌++◌, ◌∷◌, [], length, Some, None, map}
use Rattle.std.proofs.Common.{ap, sym, ◌∙◌, append_assoc}
use Rattle.std.proofs.Common.{arith, rules}
use Rattle.std.proofs.lemmas.List.{get_or_read, append-nil}
use Rattle.oxc_sourcemap_scopes.specs.Trees.{rank, span_at, parent_rank, no_span}
use Rattle.oxc_sourcemap_scopes.specs.Reading.{ScopesRecord}
use Rattle.oxc_sourcemap_scopes.specs.Asking.{chain_of, entry_of}
use Rattle.oxc_sourcemap_scopes.proofs.Chained.{chain-step, chain-none}
use Rattle.oxc_sourcemap_scopes.proofs.scopes.Scopes.chain.Goals as goal

pub loop-next-preserved : goal.loop-next-preserved
loop-next-preserved c =
    let s : ScopesRecord = record { sources = c.self.inside.sources; scopes = c.self.inside.scopes.items; scope_infos = c.self.inside.scope_infos.items; variables = map (λ v. v.items) c.self.inside.variables.items; ranges = c.self.inside.ranges.items; range_infos = c.self.inside.range_infos.items; values = map (λ v. v.items) c.self.inside.values.items; pieces = map (λ v. v.items) c.self.inside.pieces.items } in
    let v : s ≡ c.args.self.now = c.self.view_is in
    let i = c.in-Some.index in
    let within : rank c.loop-next.next ≤ length s.scopes = rw (← v) at c.loop-next.invariant.within in
    let m : i < length s.scopes = omega (arith, within, ap rank c.in-Some.is) in
    let f : c.index.result.now ≡ span_at s.scopes i = get_or_read s.scopes i c.index.result.now m c.index.ensures no_span in
    let up : parent_rank s.scopes i ≤ i = c.self.invariant.scopes.parents i m in
    let same : c.loop-next.chain.items ++ chain_of s (Some i) c.args.range ≡ chain_of s c.args.scope c.args.range = rw (← v, c.in-Some.is) at c.loop-next.invariant.same in
    let grown : c.push.new.self.items ≡ c.loop-next.chain.items ++ entry_of c.args.self.now c.args.range i ∷ [] = search rules in
    let pushed : c.push.new.self.items ≡ c.loop-next.chain.items ++ entry_of s c.args.range i ∷ [] = rw (← v) at grown in
    let step : (c.loop-next.chain.items ++ entry_of s c.args.range i ∷ []) ++ chain_of s (span_at s.scopes i).parent c.args.range ≡ c.loop-next.chain.items ++ chain_of s (Some i) c.args.range =
    append_assoc c.loop-next.chain.items (entry_of s c.args.range i ∷ []) (chain_of s (span_at s.scopes i).parent c.args.range) ∙ ap (λ es. c.loop-next.chain.items ++ es) (chain-step s c.args.range i c.self.invariant.scopes m) in
    rw (← v, f, pushed) (record {
      within = omega (arith, up, m);
      same = step ∙ same;
    })

pub returns : goal.returns
returns c =
    let e : c.loop-next.next ≡ None = search rules in
    let same : c.loop-next.chain.items ++ chain_of c.args.self.now None c.args.range ≡ chain_of c.args.self.now c.args.scope c.args.range = rw e at c.loop-next.invariant.same in
    sym (append-nil c.loop-next.chain.items) ∙ ap (λ es. c.loop-next.chain.items ++ es) (chain-none c.args.self.now c.args.range) ∙ same
