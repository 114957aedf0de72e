use Rattle.std.proofs.Common.{rules, arith, ◌≡◌, ◌+◌, ◌*◌, ◌%◌, ◌^◌, ◌∷◌, length, drop, set, pos}
use Rattle.std.proofs.Common.{◌∙◌, sym, ap, false, w64}
use Rattle.std.proofs.lemmas.Int.{to_z-of_z}
use Rattle.oxc_sourcemap_mappings.specs.Number.{signed}
use Rattle.oxc_sourcemap_mappings.specs.Decoding.{front_digits, is_over}
use Rattle.oxc_sourcemap_mappings.proofs.Runs.{faults_from, numbers_from, faults_from-all}
use Rattle.oxc_sourcemap_mappings.proofs.Runs.{faults-over, faults-end, faults-on, faults-none}
use Rattle.oxc_sourcemap_mappings.proofs.Runs.{numbers-end, numbers-on, drop-is_cons, not-over}
use Rattle.oxc_sourcemap_mappings.proofs.Runs.{finished-clean, finished-count, finished-values}
use Rattle.oxc_sourcemap_mappings.proofs.Runs.{keep-done, keep-zero, keep-small}
use Rattle.oxc_sourcemap_mappings.proofs.decode.any_segment.Goals as goal
use Rattle.oxc_sourcemap_mappings.proofs.decode.any_segment.Goals.{then-digit-lt32, else-digit-lt32}

pub returns-then-is_too_far-clause-fault : goal.returns-then-is_too_far-clause-fault
returns-then-is_too_far-clause-fault c =
    sym (faults_from-all (front_digits c.args.text.now)) ∙ sym c.loop-digit.invariant.faults
    ∙ ap (faults_from c.loop-digit.exponent) c.in-Some.ensures.digit
    ∙ faults-over c.loop-digit.exponent c.in-Some.digit (front_digits (drop (c.loop-digit.len + 1) c.args.text.now)) (sym c.is_too_far.ensures ∙ c.if-is_too_far.true)

pub loop-digit-preserved : goal.loop-digit-preserved
loop-digit-preserved c =
    let inv = c.loop-digit.invariant in
    let d = c.in-Some.digit in
    let exponent = c.loop-digit.exponent in
    let more = front_digits (drop (c.loop-digit.len + 1) c.args.text.now) in
    let next : front_digits (drop c.loop-digit.len c.args.text.now) ≡ d ∷ more = c.in-Some.ensures.digit in
    let free : is_over exponent d ≡ false = sym c.is_too_far.ensures ∙ c.if-is_too_far.false in
    let all = numbers_from 0 0 (front_digits c.args.text.now) in
    elim c.if-digit-lt32.branch [
      | then-digit-lt32 w ↦ (
          let y = signed (c.loop-digit.raw + (d % 32) * 32 ^ exponent) in
          let h = drop-is_cons all c.loop-digit.count (pos 0) y _ (sym inv.numbers ∙ ap (numbers_from c.loop-digit.raw exponent) next ∙ numbers-end c.loop-digit.raw exponent d more w.if-digit-lt32.true) in
          let z : w.signed_of.result ≡ y = w.signed_of.ensures.value ∙ ap signed c.with_digit-sum.ensures.value in
          let v : c.if-digit-lt32.values ≡ set c.loop-digit.values c.loop-digit.count w.signed_of.result = w.values-is ∙ w.keep.ensures ∙ ap (set c.loop-digit.values c.loop-digit.count) (to_z-of_z w64 w.signed_of.result (search rules)) in
          record {
            faults = rw w.exponent-is (sym (ap (faults_from exponent) next ∙ faults-end exponent d more free w.if-digit-lt32.true) ∙ inv.faults);
            numbers = rw (w.raw-is, w.exponent-is, w.count-is) (sym h.2);
            len = omega (arith, ap length next);
            within = omega (arith, c.in-Some.ensures.within);
            count = omega (arith, h.0);
            index = omega arith;
            done = rw (v, w.count-is) (keep-done c.loop-digit.values all c.loop-digit.count w.signed_of.result inv.five inv.done (h.1 ∙ sym z));
            zero = rw (v, w.count-is) (keep-zero c.loop-digit.values c.loop-digit.count w.signed_of.result inv.zero);
            small = rw v (keep-small c.loop-digit.values c.loop-digit.count w.signed_of.result inv.small w.signed_of.ensures.small);
            five = rw w.values-is w.keep.array_long;
            exponent = omega arith;
            raw = rw (w.raw-is, w.exponent-is) (omega arith);
          })
      | else-digit-lt32 w ↦ record {
        faults = rw w.exponent-is (sym (ap (faults_from exponent) next ∙ faults-on exponent d more free w.if-digit-lt32.false) ∙ inv.faults);
        numbers = rw (w.raw-is, w.exponent-is, w.count-is, c.with_digit-sum.ensures.value) (sym (ap (numbers_from c.loop-digit.raw exponent) next ∙ numbers-on c.loop-digit.raw exponent d more w.if-digit-lt32.false) ∙ inv.numbers);
        len = omega (arith, ap length next);
        within = omega (arith, c.in-Some.ensures.within);
        count = omega arith;
        index = omega arith;
        done = rw (w.values-is, w.count-is) inv.done;
        zero = rw (w.values-is, w.count-is) inv.zero;
        small = rw w.values-is inv.small;
        five = rw w.values-is inv.five;
        exponent = omega (arith, (not-over exponent d free).0);
        raw = rw (w.raw-is, w.exponent-is) c.with_digit-sum.ensures.below;
      }
    ]

pub returns-then-exponent-gt0-clause-fault : goal.returns-then-exponent-gt0-clause-fault
returns-then-exponent-gt0-clause-fault c =
    sym (faults_from-all (front_digits c.args.text.now)) ∙ sym c.loop-digit.invariant.faults
    ∙ ap (faults_from c.loop-digit.exponent) c.in_default.ensures.end ∙ faults-none c.loop-digit.exponent c.if-exponent-gt0.true

pub returns-clause-fields : goal.returns-clause-fields
returns-clause-fields c =
    let all = front_digits c.args.text.now in
    let inv = c.loop-digit.invariant in
    let closed : c.loop-digit.exponent ≡ 0 = omega arith in
    let n = finished-count all _ c.loop-digit.exponent c.in_default.ensures.end closed c.loop-digit.raw c.loop-digit.count inv.numbers inv.count in
    record {
      clean = finished-clean all _ c.loop-digit.exponent c.in_default.ensures.end closed inv.faults;
      count = n;
      values = finished-values all c.loop-digit.values c.loop-digit.count n inv.done inv.zero;
    }
