use Rattle.std.proofs.Common.{◌≡◌, ◌≤◌, ◌++◌, ◌+◌, ◌-◌, ◌*◌, min, ap, ◌∙◌, sym, arith, append_assoc}
use Rattle.std.proofs.Common.{drop, get_or}
use Rattle.std.proofs.lemmas.List.{drop_more}
use Rattle.std.proofs.lemmas.Nat.{mul-le}
use Rattle.oxc_sourcemap_compiled.specs.Compiled.{rows_of, row_of, stride_of, no_block}
use Rattle.oxc_sourcemap_compiled.proofs.writing.blocks.push_rows.Goals as goal

pub loop-block-preserved : goal.loop-block-preserved
loop-block-preserved c =
    let blocks = c.args.blocks.now in
    let i = c.loop-block.block-index in
    let out = c.loop-block.out.items in
    let place = c.loop-block.place in
    let rest = c.loop-block.rest in
    let b = get_or blocks i no_block in
    let more = drop (i + 1) blocks in
    let p = c.args.each in
    let m = c.min.result in
    let product : m * c.stride.result ≤ m * 160 = mul-le m c.stride.result m 160 (omega arith) c.stride.ensures.small in
    let next : place + m * c.stride.result ≡ place + min rest p * stride_of b = ap (λ m. place + m * c.stride.result) c.min.ensures ∙ ap (λ s. place + min rest p * s) c.stride.ensures.value in
    let front : rows_of place p rest (drop i blocks) ≡ row_of place b ++ rows_of (place + min rest p * stride_of b) p (rest - p) more = ap (rows_of place p rest) (drop_more blocks i no_block c.loop-block-test.true) in
    let after = rows_of (place + m * c.stride.result) p c.saturating_sub-rest.result more in
    record {
      value = ap (λ xs. xs ++ after) c.in_ok-push_row.ensures ∙ append_assoc out (row_of place b) after
          ∙ ap (λ x. out ++ (row_of place b ++ rows_of x p c.saturating_sub-rest.result more)) next
          ∙ ap (λ n. out ++ (row_of place b ++ rows_of (place + min rest p * stride_of b) p n more)) c.saturating_sub-rest.ensures
          ∙ ap (λ xs. out ++ xs) (sym front) ∙ c.loop-block.invariant.value;
      most = omega (arith, product, c.min.ensures, c.saturating_sub-rest.ensures, c.loop-block.invariant.most);
    }
