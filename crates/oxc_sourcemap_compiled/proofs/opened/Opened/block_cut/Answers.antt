use Rattle.std.proofs.Common.{◌+◌, ◌-◌, ◌/◌, nat_lt, arith, refl, ap, ◌∙◌, if◌then◌else◌}
use Rattle.oxc_sourcemap_lookup.proofs.Halving.{digits-half}
use Rattle.oxc_sourcemap_compiled.specs.Words.{least_column_of}
use Rattle.oxc_sourcemap_compiled.proofs.Comparisons.{digits-of-32}
use Rattle.oxc_sourcemap_compiled.proofs.Searches.{halved-none, halved-more, halved-all}
use Rattle.oxc_sourcemap_compiled.proofs.Sizes.{few-counted}
use Rattle.oxc_sourcemap_compiled.proofs.opened.Opened.block_cut.Goals as goal

pub loop-size-init : goal.loop-size-init
loop-size-init c = record {
  halved = halved-none (least_column_of c.args.self.now.bytes.now c.args.self.now.header) c.args.limit c.args.first c.args.count;
  counted = refl;
  small = digits-of-32 c.args.count (omega (arith, c.requires.there, few-counted c.args.self.now.header c.requires.opened.parts.counts.tokens));
  few = c.requires.few;
}

pub loop-size-preserved : goal.loop-size-preserved
loop-size-preserved c =
    let f = least_column_of c.args.self.now.bytes.now c.args.self.now.header in
    let start = c.loop-size.start in
    let size = c.loop-size.size in
    let at = start + (size - size / 2) - 1 in
    let h = c.loop-size.invariant in
    let value = ap (λ n. start + n) (c.step_if_less-start.ensures.value ∙ ap (λ v. if nat_lt v c.args.limit then size - size / 2 else 0) c.least_column.ensures) in
    record {
      halved = halved-more (nat_lt (f at) c.args.limit) f c.args.limit c.args.first c.args.count start size (start + c.step_if_less-start.result) refl c.loop-size-test.true value h.halved;
      counted = omega (arith, h.counted, digits-half size c.loop-size-test.true, c.step_if_less-start.ensures.counted);
      small = h.small;
      few = h.few;
    }

pub returns-clause-cut : goal.returns-clause-cut
returns-clause-cut c = λ cut is. halved-all (least_column_of c.args.self.now.bytes.now c.args.self.now.header) c.args.limit c.args.first c.args.count c.loop-size.start c.loop-size.size cut c.loop-size.invariant.halved (omega (arith, c.loop-size-test.false)) is
