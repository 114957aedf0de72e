use Rattle.std.proofs.lemmas.Nat.{mul-le}
use Rattle.std.proofs.Common.{◌≡◌, ℕ, ◌+◌, ◌-◌, ◌*◌, ◌/◌, ◌<◌, ◌≤◌, nat_lt}
use Rattle.std.proofs.Common.{arith}
use Rattle.std.proofs.Common.{refl}
use Rattle.std.proofs.Common.{ap, ◌∙◌, if◌then◌else◌}
use Rattle.oxc_sourcemap_lookup.proofs.Halving.{digits-half, digits-below}
use Rattle.oxc_sourcemap_compiled.specs.Words.{value_at, value_in}
use Rattle.oxc_sourcemap_compiled.proofs.Searches.{halved-none, halved-more, halved-found}
use Rattle.oxc_sourcemap_compiled.proofs.Searches.{bit-at, bit-next, but-one}
use Rattle.oxc_sourcemap_compiled.proofs.fields.Row.cut_by_bits.Goals as goal

pub loop-size-init : goal.loop-size-init
loop-size-init c = record {
  halved = halved-none (value_in c.args.bytes.now c.args.self.now c.args.self.now.column) c.args.limit c.args.first c.args.count;
  counted = refl;
  small = digits-below 15 c.args.count (omega (arith, c.requires.there));
  few = c.requires.few;
  bit = omega (arith, c.requires.row.front);
}

pub loop-size-preserved : goal.loop-size-preserved
loop-size-preserved c =
    let self = c.args.self.now in
    let f = value_in c.args.bytes.now self self.column in
    let start = c.loop-size.start in
    let size = c.loop-size.size in
    let bit = c.loop-size.bit in
    let step = size - size / 2 in
    let at = start + step - 1 in
    let h = c.loop-size.invariant in
    let some : 0 < step = omega (arith, c.loop-size-test.true) in
    let read = c.value_at-value.ensures ∙ ap (value_at c.args.bytes.now self self.column) (bit-at self.column.first bit start step self.stride h.bit some) in
    let moved = c.step_if_less-start.ensures.value ∙ ap (λ v. if nat_lt v c.args.limit then step else 0) read in
    let bits = c.count_if_less-bit.ensures ∙ ap (λ n. if nat_lt c.value_at-value.result c.args.limit then n else 0) (but-one step self.stride some) ∙ ap (λ v. if nat_lt v c.args.limit then step * self.stride else 0) read in
    let value = ap (λ n. start + n) moved in
    record {
      halved = halved-more (nat_lt (f at) c.args.limit) f c.args.limit c.args.first c.args.count start size (start + c.step_if_less-start.result) refl c.loop-size-test.true value h.halved;
      counted = omega (arith, h.counted, digits-half size c.loop-size-test.true, c.step_if_less-start.ensures.counted);
      small = h.small;
      few = h.few;
      bit = bit-next (nat_lt (f at) c.args.limit) self.column.first bit start step self.stride c.step_if_less-start.result c.count_if_less-bit.result h.bit moved bits;
    }

pub value_at-value-requires-clause-there : goal.value_at-value-requires-clause-there
value_at-value-requires-clause-there c =
    let row = c.args.self.now in
    let start = c.loop-size.start in
    let size = c.loop-size.size in
    let step = size - size / 2 in
    let s = row.stride in
    let some : 0 < step = omega (arith, c.loop-size-test.true) in
    let at = bit-at row.column.first c.loop-size.bit start step s c.loop-size.invariant.bit some in
    let last = start + step - 1 in
    let whole : (last + 1) * s ≡ last * s + s = omega arith in
    let within : (last + 1) * s ≤ (c.args.first + c.args.count) * s = mul-le (last + 1) s (c.args.first + c.args.count) s (omega (arith, c.loop-size.invariant.halved.within, some)) (omega arith) in
    omega (arith, at, whole, within, c.requires.row.column.within, c.requires.room)

pub returns : goal.returns
returns c =
    let h = c.loop-size.invariant in
    halved-found (value_in c.args.bytes.now c.args.self.now c.args.self.now.column) c.args.limit c.args.first c.args.count c.loop-size.start c.loop-size.size c.args.steps.now c.loop-size.compared h.halved h.counted h.small
    (omega (arith, c.loop-size-test.false))
