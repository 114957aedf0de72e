use Rattle.std.proofs.Common.{rules, refl, arith, ◌≡◌, ◌+◌, ◌*◌, ◌%◌, ◌∙◌, ap, w64, get_or}
use Rattle.std.proofs.lemmas.Int.{to_z-of_z, ints}
use Rattle.oxc_sourcemap_mappings.specs.Number.{digit, signed}
use Rattle.oxc_sourcemap_mappings.proofs.Usual.{front-at, number-1, number-2, number-3}
use Rattle.oxc_sourcemap_mappings.proofs.decode.read_number_at.Goals as goal

pub returns-then-number-lt64-clause-number : goal.returns-then-number-lt64-clause-number
returns-then-number-lt64-clause-number c =
    let text = c.args.text.now in
    let at = c.args.at in
    let f = c.byte_number-number.ensures.number (grind (arith, ints, c.if-number-lt64.true)) in
    let d = digit (get_or text at 0) in
    let e = front-at text at (at + 1) d (omega arith) refl (f.0, refl) in
    rw (to_z-of_z w64 c.from.result (search rules))
    (number-1 text at d c.from.result e f.1 (grind (arith, ints, c.from.ensures, f.2)))

pub returns-then-second-lt32-clause-number : goal.returns-then-second-lt32-clause-number
returns-then-second-lt32-clause-number c =
    let text = c.args.text.now in
    let at = c.args.at in
    let f = c.byte_number-number.ensures.more (grind (arith, ints, c.if-number-lt64.false)) (grind (arith, ints, c.if-number-gt95.false)) in
    let d = digit (get_or text at 0) in
    let e = front-at text at (at + 1) d (omega arith) refl (f.0, refl) in
    let d2 = c.mapping_of-second.result in
    let e2 = front-at text (at + 1) (at + 2) d2 (omega arith) (omega arith) (c.mapping_of-second.ensures.digit (omega arith)) in
    let n = c.signed_of in
    let low : c.from-2.result ≡ d % 32 = omega (arith, ints, c.from-2.ensures, f.1, f.2) in
    let raw : c.from-2.result + c.from-3.result * 32 ≡ d % 32 + d2 * 32 = omega (arith, low, c.from-3.ensures) in
    rw (to_z-of_z w64 n.result (search rules))
    (number-2 text at d d2 n.result e e2 f.1 c.if-second-lt32.true (n.ensures.value ∙ ap signed raw) n.ensures.small)

pub returns-clause-number : goal.returns-clause-number
returns-clause-number c =
    let text = c.args.text.now in
    let at = c.args.at in
    let f = c.byte_number-number.ensures.more (grind (arith, ints, c.if-number-lt64.false)) (grind (arith, ints, c.if-number-gt95.false)) in
    let d = digit (get_or text at 0) in
    let e = front-at text at (at + 1) d (omega arith) refl (f.0, refl) in
    let d2 = c.mapping_of-second.result in
    let e2 = front-at text (at + 1) (at + 2) d2 (omega arith) (omega arith) (c.mapping_of-second.ensures.digit (omega arith)) in
    let d3 = c.mapping_of-third.result in
    let e3 = front-at text (at + 2) (at + 3) d3 (omega arith) (omega arith) (c.mapping_of-third.ensures.digit (omega arith)) in
    let n = c.signed_of-2 in
    let low : c.from-2.result ≡ d % 32 = omega (arith, ints, c.from-2.ensures, f.1, f.2) in
    let raw : c.from-2.result + c.from-3.result * 32 + c.from-4.result * 1024 ≡ d % 32 + (d2 % 32) * 32 + d3 * 1024 = omega (arith, low, c.from-3.ensures, c.from-4.ensures) in
    rw (to_z-of_z w64 n.result (search rules))
    (number-3 text at d d2 d3 n.result e e2 e3 f.1 c.if-second-lt32.false c.if-third-ge32.false (n.ensures.value ∙ ap signed raw) n.ensures.small)
