use Rattle.std.proofs.Common.{arith, ◌≡◌, ◌+◌, ◌*◌, ◌%◌, ◌^◌, ◌∙◌, refl, ap}
use Rattle.oxc_sourcemap_mappings.proofs.Powers.{power_within, payload_within, shifted, next-power}
use Rattle.oxc_sourcemap_mappings.proofs.Runs.{not-over}
use Rattle.oxc_sourcemap_mappings.proofs.decode.with_digit.Goals as goal

-- the shifted payload, which the raw number is raised by
added : (c : goal.After-from) → (c.from.result * 2 ^ (5 * c.args.exponent)) % 18446744073709551616 ≡ (c.args.digit % 32) * 32 ^ c.args.exponent
added c =
    let o = not-over c.args.exponent c.args.digit c.requires.exponent in
    shifted c.args.exponent c.from.result o.0 (omega arith) (λ e. omega (arith, o.1 e)) ∙ ap (λ p. p * 32 ^ c.args.exponent) c.from.ensures

pub overflow_mul-result : goal.overflow_mul-result
overflow_mul-result c = let o = not-over c.args.exponent c.args.digit c.requires.exponent in omega (arith, o.0)

pub overflow_shl-result : goal.overflow_shl-result
overflow_shl-result c = let o = not-over c.args.exponent c.args.digit c.requires.exponent in omega (arith, o.0)

pub overflow_add-result : goal.overflow_add-result
overflow_add-result c = let o = not-over c.args.exponent c.args.digit c.requires.exponent in omega (arith, added c, power_within c.args.exponent o.0, payload_within c.args.exponent (c.args.digit % 32) (32 ^ c.args.exponent) refl o.0 (omega arith) o.1)

pub returns-clause-fits : goal.returns-clause-fits
returns-clause-fits c = let o = not-over c.args.exponent c.args.digit c.requires.exponent in omega (arith, added c, power_within c.args.exponent o.0, payload_within c.args.exponent (c.args.digit % 32) (32 ^ c.args.exponent) refl o.0 (omega arith) o.1)

pub returns-clause-value : goal.returns-clause-value
returns-clause-value c = ap (λ z. c.args.raw + z) (added c)

pub returns-clause-below : goal.returns-clause-below
returns-clause-below c = omega (arith, added c, next-power c.args.exponent (c.args.digit % 32) c.args.raw (omega arith) c.requires.raw)
