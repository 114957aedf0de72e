use Rattle.std.proofs.Common.{◌≡◌, suc, ◌+◌, ◌*◌, ◌/◌, ◌^◌, ◌∙◌, ◌++◌, ap, arith, refl, slice_get}
use Rattle.std.proofs.Common.{subst, sym}
use Rattle.oxc_sourcemap_tokens.specs.Results.{lent_item}
use Rattle.oxc_sourcemap_compiled.specs.Compiled.{stride_of, token_bits, bytes_of, FieldsFit}
use Rattle.oxc_sourcemap_compiled.specs.Compiled.{first_bits, group_bits}
use Rattle.oxc_sourcemap_compiled.proofs.Slices.{lent-at}
use Rattle.oxc_sourcemap_compiled.proofs.Bits.{nothing-written, same-written}
use Rattle.oxc_sourcemap_compiled.proofs.writing.blocks.push_group.Goals as goal

pub loop-n-init : goal.loop-n-init
loop-n-init c =
    let old = c.args.out.now.items in
    let none : 0 ≡ 0 * stride_of c.args.block.now = omega arith in
    record {
      written = same-written old old (record { bits = 0; count = 0 }) 0 (0 * stride_of c.args.block.now) 0 0 none refl (nothing-written old);
      left = omega arith;
      few = omega arith;
    }

pub push_token-requires-clause-fits : goal.push_token-requires-clause-fits
push_token-requires-clause-fits c =
    let ts = c.args.tokens.now in
    let n = c.loop-n.n in
    let is : lent_item c.get.result ≡ slice_get ts n = lent-at c.get.result ts n c.get.ensures.lookup.0 (c.get.ensures.lookup.4 (omega arith)) in
    subst (FieldsFit c.args.block.now) (sym is) (c.requires.fits n (omega (arith, c.loop-n-test.true)))

pub loop-n-preserved : goal.loop-n-preserved
loop-n-preserved c =
    let old = c.args.out.now.items in
    let b = c.args.block.now in
    let n = c.loop-n.n in
    let ts = c.args.tokens.now in
    let is : lent_item c.get.result ≡ slice_get ts n = lent-at c.get.result ts n c.get.ensures.lookup.0 (c.get.ensures.lookup.4 (omega arith)) in
    let more = c.in_ok-rest.ensures.written old (n * stride_of b) (first_bits b ts n) c.loop-n.invariant.written in
    let bits : n * stride_of b + stride_of b ≡ (n + 1) * stride_of b = omega arith in
    let next : suc n ≡ n + 1 = omega arith in
    let number : first_bits b ts n + 2 ^ (n * stride_of b) * token_bits b (lent_item c.get.result) ≡ first_bits b ts (n + 1) =
    ap (λ t. first_bits b ts n + 2 ^ (n * stride_of b) * token_bits b t) is ∙ ap (first_bits b ts) next in
    record {
      written = same-written old c.push_token.new.out.items c.in_ok-rest.rest (n * stride_of b + stride_of b) ((n + 1) * stride_of b) _ (first_bits b ts (n + 1)) bits number more;
      left = c.in_ok-rest.ensures.left;
      few = c.in_ok-rest.ensures.few;
    }

pub returns : goal.returns
returns c =
    let old = c.args.out.now.items in
    let b = c.args.block.now in
    let ts = c.args.tokens.now in
    let end : c.loop-n.n ≡ 8 = omega (arith, c.loop-n-test.false) in
    let all : 8 * stride_of b / 8 ≡ stride_of b = omega arith in
    c.loop-n.invariant.written.items ∙ ap (λ n. old ++ bytes_of (n * stride_of b / 8) (first_bits b ts n)) end ∙ ap (λ n. old ++ bytes_of n (group_bits b ts)) all
