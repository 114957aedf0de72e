use Rattle.std.proofs.Common.{◌≡◌, ◌∙◌, ◌<◌, ◌≤◌, ◌-◌, sym, subst, length, get_or, nat_lt, true}
use Rattle.std.proofs.Common.{inl, inr, arith}
use Rattle.std.proofs.lemmas.Bool.{cases_lt}
use Rattle.std.proofs.lemmas.Grind.{common_steps}
use Rattle.std.proofs.lemmas.List.Sums.{prefix_len_passes}
use Rattle.oxc_sourcemap_lookup.proofs.Halving.{before, before-all, before-counted}
use Rattle.oxc_sourcemap_lookup.proofs.Indices.{found-here, found-last}
use Rattle.oxc_sourcemap_lookup.proofs.near.index_in_few.Goals as goal

pub returns-clause-found : goal.returns-clause-found
returns-clause-found c = λ g.
    let ts = c.args.line.now in
    let col = c.args.col in
    let n = c.count_in_few-before.result in
    let t = c.index-line-min.result in
    let count : n ≡ before col ts = c.count_in_few-before.ensures ∙ before-counted col ts g in
    let most : n ≤ length ts = subst (λ k. k ≤ length ts) (sym count) (before-all col ts) in
    let some : 0 < length ts = grind (arith, common_steps) in
    elim (cases_lt n (length ts)) [
      | inl l ↦ (let here : c.min.result ≡ n = grind (arith, common_steps, l) in
          let is : t ≡ get_or ts n t = grind (arith, common_steps, here) in
          sym (found-here col n t ts g count l is ∙ grind (arith, common_steps, l)))
      | inr l ↦ (let all : n ≡ length ts = omega (arith, most, l) in
          let here : c.min.result ≡ n - 1 = grind (arith, common_steps, all) in
          let is : t ≡ get_or ts (n - 1) t = grind (arith, common_steps, here) in
          let low : nat_lt (get_or ts (n - 1) t).dst_col col ≡ true = prefix_len_passes (λ u. nat_lt u.dst_col col) ts (n - 1) t (omega (arith, count, all, some)) in
          let before-it : t.dst_col < col = grind (arith, low, is) in
          sym (found-last col n ts g count all (omega (arith, all, some)) ∙ grind (arith, common_steps, all, before-it)))
    ]
