use Rattle.std.proofs.Common.{◌≡◌, ◌∙◌, ap, subst, map, ◌%◌, arith, rules}
use Rattle.std.proofs.lemmas.Fn.{always_returns_same}
use Rattle.std.proofs.lemmas.List.Sorted.{IsNonDecreasingBy-from_sort_by_key, length_permutation}
use Rattle.std.specs.List.Sorted.{IsPermutation, IsStableByKey}
use Rattle.std.specs.Ordering.{nat_cmp}
use Rattle.oxc_sourcemap_map.specs.Places.{numbered_from}
use Rattle.oxc_sourcemap_map.proofs.Numbers.{front, order_from}
use Rattle.oxc_sourcemap_map.proofs.reverse.order.order_of.Goals as goal

pub returns : goal.returns
returns c =
    let tokens = c.args.tokens.now in
    let sorted = c.sort_by_key.new.self.items in
    let keys = always_returns_same _ (λ a r. r ≡ front a.0.now) _ (λ a r q k. search rules) in
    let is : c.in_ok-numbers.numbers.items ≡ numbered_from 0 tokens = c.in_ok-numbers.ensures in
    let perm = subst (λ xs. IsPermutation xs sorted) is c.sort_by_key.ensures.permutation in
    let stable = subst (λ xs. IsStableByKey front nat_cmp xs sorted) is (c.sort_by_key.ensures.stable front keys) in
    let up = IsNonDecreasingBy-from_sort_by_key front sorted c.in_ok-sort_by_key.ensures.sorted (λ a r q k. search rules) in
    order_from tokens sorted c.in_ok-order.order.items c.tokens_in_bounds.ensures (omega (arith, c.requires)) perm (length_permutation _ sorted perm) up stable (c.in_ok-order.ensures ∙ ap (map (λ n. n % 4294967296)) c.as_slice.ensures.value)
