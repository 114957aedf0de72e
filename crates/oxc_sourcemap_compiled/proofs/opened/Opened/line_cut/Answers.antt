use Rattle.std.proofs.Common.{◌≡◌, ◌+◌, ◌-◌, ◌/◌, nat_lt, arith, refl, ap, ◌∙◌, if◌then◌else◌}
use Rattle.std.proofs.Common.{subst}
use Rattle.oxc_sourcemap_lookup.proofs.Halving.{digits-half}
use Rattle.oxc_sourcemap_compiled.specs.Words.{number_in_list}
use Rattle.oxc_sourcemap_compiled.specs.Cuts.{IsCut}
use Rattle.oxc_sourcemap_compiled.proofs.Comparisons.{digits-of-32}
use Rattle.oxc_sourcemap_compiled.proofs.Searches.{halved-none, halved-more, halved-all}
use Rattle.oxc_sourcemap_compiled.proofs.opened.Opened.line_cut.Goals as goal

pub loop-size-init : goal.loop-size-init
loop-size-init c = record {
  halved = halved-none (number_in_list c.args.self.now.bytes.now c.args.self.now.header) c.args.line 0 c.args.self.now.header.lines;
  counted = refl;
  small = digits-of-32 c.args.self.now.header.lines c.requires.opened.parts.counts.lines;
  few = omega (arith, c.requires.few);
}

pub loop-size-preserved : goal.loop-size-preserved
loop-size-preserved c =
    let f = number_in_list c.args.self.now.bytes.now c.args.self.now.header in
    let start = c.loop-size.start in
    let size = c.loop-size.size in
    let at = start + (size - size / 2) - 1 in
    let h = c.loop-size.invariant in
    let value = ap (λ n. start + n) (c.step_if_less-start.ensures.value ∙ ap (λ v. if nat_lt v c.from.result then size - size / 2 else 0) c.line_number.ensures ∙ ap (λ v. if nat_lt (f at) v then size - size / 2 else 0) c.from.ensures) in
    record {
      halved = halved-more (nat_lt (f at) c.args.line) f c.args.line 0 c.args.self.now.header.lines start size (start + c.step_if_less-start.result) refl c.loop-size-test.true value h.halved;
      counted = omega (arith, h.counted, digits-half size c.loop-size-test.true, c.step_if_less-start.ensures.counted);
      small = h.small;
      few = h.few;
    }

pub returns-clause-cut : goal.returns-clause-cut
returns-clause-cut c = λ cut is.
    let f = number_in_list c.args.self.now.bytes.now c.args.self.now.header in
    let lines = c.args.self.now.header.lines in
    let end : lines ≡ 0 + lines = omega arith in
    halved-all f c.args.line 0 lines c.loop-size.start c.loop-size.size cut c.loop-size.invariant.halved (omega (arith, c.loop-size-test.false)) (subst (λ n. IsCut f c.args.line 0 n cut) end is)
