use Rattle.std.proofs.Common.{◌≡◌, ◌<◌, ◌≤◌, ◌+◌, ℕ, Bool, true, false, nat_lt, min, length}
use Rattle.std.proofs.Common.{refl, ap, ◌∙◌, arith}
use Rattle.std.proofs.lemmas.Bool.Decides.{nat_tests}
use Rattle.oxc_sourcemap_parts.specs.Views.{record_of_parts}
use Rattle.oxc_sourcemap_compiled.specs.Compiled.{text_offset, stored_text}
use Rattle.oxc_sourcemap_compiled.proofs.Slices.{offset-next}
use Rattle.oxc_sourcemap_compiled.proofs.writing.texts.text_bytes.Goals as goal

large_by : (sum len new off next : ℕ) (b : Bool) → nat_lt 4294967295 sum ≡ b → new ≡ min (sum + len) 18446744073709551615 → next ≡ off + len
    → (sum ≤ 4294967295 → sum ≡ off) → (4294967295 < sum → 4294967295 < off) → 4294967295 < new → 4294967295 < next
large_by sum len new off next true e adds goes small large big =
    let past : 4294967295 < sum = grind (arith, nat_tests, e) in
    let behind = large past in
    omega (arith, goes, behind)
large_by sum len new off next false e adds goes small large big =
    let within : sum ≤ 4294967295 = grind (arith, nat_tests, e) in
    let same = small within in
    omega (arith, adds, goes, same, big)

pub loop-t-preserved : goal.loop-t-preserved
loop-t-preserved c =
    let r = record_of_parts c.args.parts.now in
    let t = c.loop-t.t in
    let size : c.length_of.result ≡ length (stored_text r t) = c.length_of.ensures ∙ ap length c.stored_at.ensures in
    record {
      small = λ small.
          let before : c.loop-t.sum ≡ text_offset r t = c.loop-t.invariant.small (omega (arith, small, c.saturating_add-sum.ensures)) in
          omega (arith, c.saturating_add-sum.ensures, small, before, size, offset-next r t);
      large = λ big.
          large_by c.loop-t.sum c.length_of.result c.saturating_add-sum.result (text_offset r t) (text_offset r (t + 1)) _ refl c.saturating_add-sum.ensures
          (omega (arith, size, offset-next r t)) c.loop-t.invariant.small c.loop-t.invariant.large big;
    }
