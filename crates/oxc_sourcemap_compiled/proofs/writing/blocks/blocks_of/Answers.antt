use Rattle.std.proofs.Common.{◌≡◌, ◌*◌, ◌++◌, ◌∷◌, [], get_or, length, take, drop, ap, ◌∙◌, sym}
use Rattle.std.proofs.Common.{arith, subst, length-append}
use Rattle.oxc_sourcemap_compiled.specs.Compiled.{ArePacked, block_tokens}
use Rattle.oxc_sourcemap_compiled.specs.Layout.{block_size}
use Rattle.oxc_sourcemap_compiled.proofs.Slices.{up-to, part-is, pushed-last, pushed-front}
use Rattle.oxc_sourcemap_compiled.proofs.writing.blocks.blocks_of.Goals as goal

pub loop-b-preserved : goal.loop-b-preserved
loop-b-preserved c =
    let tokens = c.args.tokens.now in
    let b = c.loop-b.b in
    let h = c.loop-b.invariant in
    let old = c.loop-b.blocks.items in
    let made = c.block_among.result in
    let items = c.push.new.self.items in
    let pushed : items ≡ old ++ made ∷ [] = c.in_ok-push.ensures.items in
    let size = 8 * c.groups_in_block-size.result in
    let size_is : size ≡ block_size (length tokens) = ap (λ n. 8 * n) c.groups_in_block-size.ensures.value in
    let part = part-is tokens (size * b) size c.min-end.result c.min-end.ensures ∙ ap (λ n. take n (drop (n * b) tokens)) size_is in
    let fits : ArePacked (block_tokens tokens b) made = subst (λ ts. ArePacked ts made) part c.block_among.ensures in
    record {
      count = omega (arith, ap length pushed, length-append old (made ∷ []), h.count);
      each = λ k d lt. up-to (λ k. ArePacked (block_tokens tokens k) (get_or items k d)) b k
          (λ k less. subst (ArePacked (block_tokens tokens k)) (sym (ap (λ xs. get_or xs k d) pushed ∙ pushed-front old made k b d h.count less)) (h.each k d less))
          (subst (ArePacked (block_tokens tokens b)) (sym (ap (λ xs. get_or xs b d) pushed ∙ pushed-last old made b d h.count)) fits) lt;
    }
