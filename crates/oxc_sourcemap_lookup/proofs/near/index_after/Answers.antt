use Rattle.std.proofs.Common.{◌≡◌, ℕ, ◌+◌, ◌<◌, ◌≤◌, true, List, length, get_or, slice_get, Some}
use Rattle.std.proofs.Common.{refl, sym, ap, ◌∙◌, arith}
use Rattle.std.proofs.lemmas.Grind.{common_steps}
use Rattle.std.proofs.lemmas.Option.{slice_get_read}
use Rattle.std.specs.Option.{option_or}
use Rattle.oxc_sourcemap_tokens.specs.Token.{TokenRecord}
use Rattle.oxc_sourcemap_parts.specs.Sorted.{token_column}
use Rattle.oxc_sourcemap_lookup.specs.Lookup.{no_column_goes_back, clamped_index_at, index_at}
use Rattle.oxc_sourcemap_lookup.specs.Lookup.{index_before}
use Rattle.oxc_sourcemap_lookup.proofs.Halving.{before, before-later, before-earlier}
use Rattle.oxc_sourcemap_lookup.proofs.Indices.{index-at, index-clamped, index_here_or}
use Rattle.oxc_sourcemap_lookup.proofs.Indices.{index_within}
use Rattle.oxc_sourcemap_lookup.proofs.near.index_after.Goals as goal

module _ (col i : ℕ) (ts : List TokenRecord) (x y : TokenRecord) (g : no_column_goes_back token_column ts ≡ true) (within : i + 1 < length ts)
    (x_is : get_or ts i x ≡ x) (y_is : get_or ts (i + 1) y ≡ y) (low : x.dst_col < col) (high : col ≤ y.dst_col) where
  -- the tokens up to the first of two neighbours are before the column, and no others
  count : i + 1 ≡ before col ts
  count =
      let more = before-later col ts i x g (omega (arith, within)) (rw x_is low) in
      let most = before-earlier col ts (i + 1) y within (rw y_is high) in
      omega (arith, more, most)

  found : index_at ts col ≡ index_here_or col (i + 1) (Some y) (index_before (i + 1))
  found =
      let there : slice_get ts (i + 1) ≡ Some y = slice_get_read ts (length ts) (i + 1) y refl within (sym y_is) in
      index-at col (i + 1) ts g count (omega (arith, within)) ∙ ap (λ o. index_here_or col (i + 1) o (index_before (i + 1))) there

  clamped : (k : ℕ) → index_here_or col (i + 1) (Some y) (index_before (i + 1)) ≡ Some k → Some k ≡ clamped_index_at ts col
  clamped k is = sym (index-clamped col ts ∙ ap (λ o. option_or o (index_within ts 0)) (found ∙ is))

pub returns-then-last-col-clause-found : goal.returns-then-last-col-clause-found
returns-then-last-col-clause-found c =
    let x = c.index-line-before.result in
    let y = c.index-line-before-2.result in
    let low : x.dst_col < c.args.col = grind (arith, common_steps, c.if-last-col.true, c.get_dst_col-last.ensures) in
    let high : c.args.col ≤ y.dst_col = grind (arith, common_steps, c.if-last-col.true, c.get_dst_col-next.ensures) in
    let index : index_here_or c.args.col (c.args.before + 1) (Some y) (index_before (c.args.before + 1)) ≡ Some (c.args.before + c.from.result) =
    grind (arith, common_steps, c.from.ensures, c.get_dst_col-next.ensures) in
    λ g. clamped c.args.col c.args.before c.args.line.now x y g c.requires (sym c.index-line-before.is) (sym c.index-line-before-2.is) low high _ index
