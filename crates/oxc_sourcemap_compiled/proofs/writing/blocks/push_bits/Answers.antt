use Rattle.std.proofs.Common.{◌≡◌, ◌<◌, ◌+◌, ◌*◌, ◌%◌, ◌^◌, ap, sym, arith, subst}
use Rattle.std.proofs.Math.Nat.{mod-eq_of_lt}
use Rattle.oxc_sourcemap_compiled.proofs.Bits.{written, left-small, all-small, few-bits}
use Rattle.oxc_sourcemap_compiled.proofs.writing.blocks.push_bits.Goals as goal

pub overflow_add-all : goal.overflow_add-all
overflow_add-all c =
    let value = c.args.value in
    let count = c.args.rest.count in
    let small = all-small c.args.rest.bits count value c.args.width c.requires.left c.requires.fits in
    let most = few-bits (count + c.args.width) (omega (arith, c.requires.few, c.requires.width)) in
    let shifted : value * 2 ^ count % 18446744073709551616 ≡ value * 2 ^ count = mod-eq_of_lt (omega (arith, small, most)) in
    omega (arith, small, most, shifted)

pub returns-clause-written : goal.returns-clause-written
returns-clause-written c = λ old bits number h.
    let value = c.args.value in
    let count = c.args.rest.count in
    let small = all-small c.args.rest.bits count value c.args.width c.requires.left c.requires.fits in
    let shifted : value * 2 ^ count % 18446744073709551616 ≡ value * 2 ^ count = mod-eq_of_lt (omega (arith, small, few-bits (count + c.args.width) (omega (arith, c.requires.few, c.requires.width)))) in
    written old c.args.out.now.items c.push_number.new.out.items c.args.rest value c.args.width bits number (c.args.rest.bits + value * 2 ^ count % 18446744073709551616) h c.requires.fits
    (ap (λ x. c.args.rest.bits + x) shifted) c.in_ok-push_number.ensures

pub returns-clause-left : goal.returns-clause-left
returns-clause-left c =
    let value = c.args.value in
    let count = c.args.rest.count in
    let small = all-small c.args.rest.bits count value c.args.width c.requires.left c.requires.fits in
    let shifted : value * 2 ^ count % 18446744073709551616 ≡ value * 2 ^ count = mod-eq_of_lt (omega (arith, small, few-bits (count + c.args.width) (omega (arith, c.requires.few, c.requires.width)))) in
    left-small (c.args.rest.bits + value * 2 ^ count % 18446744073709551616) count c.args.width
    (subst (λ x. c.args.rest.bits + x < 2 ^ (count + c.args.width)) (sym shifted) small)
