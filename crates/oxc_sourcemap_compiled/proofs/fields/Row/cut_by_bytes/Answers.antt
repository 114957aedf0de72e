use Rattle.std.proofs.lemmas.Nat.{mul-le}
use Rattle.std.proofs.Common.{◌≡◌, ℕ, ◌+◌, ◌-◌, ◌*◌, ◌/◌, ◌<◌, ◌≤◌, nat_lt}
use Rattle.std.proofs.Common.{arith}
use Rattle.std.proofs.Common.{refl}
use Rattle.std.proofs.Common.{List, sym, ap, ◌∙◌, if◌then◌else◌, ◌%◌, ◌^◌}
use Rattle.oxc_sourcemap_compiled.specs.Numbers.{number_at}
use Rattle.oxc_sourcemap_compiled.specs.declared.fields.Row.{Row}
use Rattle.oxc_sourcemap_lookup.proofs.Halving.{digits-half, digits-below}
use Rattle.oxc_sourcemap_compiled.specs.Fields.{value_at, value_in}
use Rattle.oxc_sourcemap_compiled.proofs.Searches.{halved-none, halved-more, halved-found}
use Rattle.oxc_sourcemap_compiled.proofs.Searches.{bit-at, bit-next, but-one}
use Rattle.oxc_sourcemap_compiled.proofs.fields.Row.cut_by_bytes.Goals as goal

pub loop-size-init : goal.loop-size-init
loop-size-init c = record {
  halved = halved-none (value_in c.args.bytes.now c.args.self.now c.args.self.now.column) c.args.limit c.args.first c.args.count;
  counted = refl;
  small = digits-below 15 c.args.count (omega (arith, c.requires.there));
  few = c.requires.few;
  at = refl;
}

-- the column of a token, where each has whole bytes
column-read : (bytes : List ℕ) (row : Row) (at start step word value : ℕ) → row.stride % 8 ≡ 0 → row.column.first ≡ 0 → 0 < step → at ≡ row.at + start * (row.stride / 8)
    → word ≡ number_at 8 bytes (at + (step - 1) * (row.stride / 8)) → value ≡ (row.column.least + word / 2 ^ 0 % 2 ^ row.column.width) % 2 ^ 32
    → value ≡ value_in bytes row row.column (start + step - 1)
unfolding value_at
column-read bytes row at start step word value whole front some is read e =
    let s = row.stride in
    let each = s / 8 in
    let f = row.column in
    let j = start + step - 1 in
    let eight : s ≡ 8 * each = omega (arith, whole) in
    let bits : j * s ≡ 8 * (j * each) = ap (λ n. j * n) eight ∙ omega arith in
    let place : at + (step - 1) * each ≡ row.at + (f.first + j * s) / 8 = omega (arith, bit-at row.at at start step each is some, bits, front) in
    let turn : (f.first + j * s) % 8 ≡ 0 = omega (arith, bits, front) in
    e ∙ ap (λ n. (f.least + n / 2 ^ 0 % 2 ^ f.width) % 2 ^ 32) (read ∙ ap (number_at 8 bytes) place)
    ∙ sym (ap (λ r. (f.least + number_at 8 bytes (row.at + (f.first + j * s) / 8) / 2 ^ r % 2 ^ f.width) % 2 ^ 32) turn)

pub loop-size-preserved : goal.loop-size-preserved
loop-size-preserved c =
    let self = c.args.self.now in
    let bytes = c.args.bytes.now in
    let f = value_in bytes self self.column in
    let start = c.loop-size.start in
    let size = c.loop-size.size in
    let place = c.loop-size.at in
    let each = self.stride / 8 in
    let step = size - size / 2 in
    let h = c.loop-size.invariant in
    let some : 0 < step = omega (arith, c.loop-size-test.true) in
    let read = column-read bytes self place start step c.u64_at.result c.value-value.result c.requires.whole c.requires.row.front some h.at c.u64_at.ensures c.value-value.ensures in
    let moved = c.step_if_less-start.ensures.value ∙ ap (λ v. if nat_lt v c.args.limit then step else 0) read in
    let further = c.count_if_less-at.ensures ∙ ap (λ n. if nat_lt c.value-value.result c.args.limit then n else 0) (but-one step each some) ∙ ap (λ v. if nat_lt v c.args.limit then step * each else 0) read in
    let value = ap (λ n. start + n) moved in
    record {
      halved = halved-more (nat_lt (f (start + step - 1)) c.args.limit) f c.args.limit c.args.first c.args.count start size (start + c.step_if_less-start.result) refl c.loop-size-test.true value h.halved;
      counted = omega (arith, h.counted, digits-half size c.loop-size-test.true, c.step_if_less-start.ensures.counted);
      small = h.small;
      few = h.few;
      at = bit-next (nat_lt (f (start + step - 1)) c.args.limit) self.at place start step each c.step_if_less-start.result c.count_if_less-at.result h.at moved further;
    }

pub u64_at-requires : goal.u64_at-requires
u64_at-requires c =
    let row = c.args.self.now in
    let start = c.loop-size.start in
    let size = c.loop-size.size in
    let step = size - size / 2 in
    let s = row.stride in
    let each = s / 8 in
    let some : 0 < step = omega (arith, c.loop-size-test.true) in
    let at = bit-at row.at c.loop-size.at start step each c.loop-size.invariant.at some in
    let last = start + step - 1 in
    let eight : s ≡ 8 * each = omega (arith, c.requires.whole) in
    let bits : (c.args.first + c.args.count) * s ≡ 8 * ((c.args.first + c.args.count) * each) = ap (λ n. (c.args.first + c.args.count) * n) eight ∙ omega arith in
    let within : last * each ≤ (c.args.first + c.args.count) * each = mul-le last each (c.args.first + c.args.count) each (omega (arith, c.loop-size.invariant.halved.within, some)) (omega arith) in
    omega (arith, at, within, bits, c.requires.room)

pub returns : goal.returns
returns c =
    let h = c.loop-size.invariant in
    halved-found (value_in c.args.bytes.now c.args.self.now c.args.self.now.column) c.args.limit c.args.first c.args.count c.loop-size.start c.loop-size.size c.args.steps.now c.loop-size.compared h.halved h.counted h.small
    (omega (arith, c.loop-size-test.false))
