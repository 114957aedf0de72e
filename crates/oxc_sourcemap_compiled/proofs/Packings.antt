-- How fields are written in more bits than they need.
use Rattle.std.proofs.Common.{◌≡◌, ℕ, ◌+◌, ◌-◌, ◌^◌, ◌<◌, ◌≤◌, List, ap, ◌∙◌, arith}
use Rattle.std.proofs.Math.Pow.{pow_mono}
use Rattle.oxc_sourcemap_tokens.specs.Token.{TokenRecord}
use Rattle.oxc_sourcemap_compiled.specs.Compiled.{IsPacked}
use Rattle.oxc_sourcemap_compiled.specs.declared.writing.blocks.Packing.{Packing}

pub widened : (k spare more : ℕ) (ts : List TokenRecord) (p q : Packing) → IsPacked k 0 ts p → q.least ≡ p.least → q.width ≡ p.width + more → more ≤ spare → q.width ≤ 32 → IsPacked k spare ts q
widened k spare more ts p q h least width few narrow =
    let up : 2 ^ p.width ≤ 2 ^ q.width = pow_mono (omega (arith, width)) in
    record {
      width = narrow;
      least = λ i d lt. omega (arith, h.least i d lt, least);
      fits = λ i d lt. omega (arith, h.fits i d lt, up, least);
      reached = λ d.
          let old = h.reached d in
          (old.0, old.1, least ∙ old.2);
      needed = λ some d.
          let old = h.needed (omega (arith, some, width, few)) d in
          let low : 2 ^ (q.width - spare - 1) ≤ 2 ^ (p.width - 0 - 1) = pow_mono (omega (arith, width, few)) in
          (old.0, old.1, omega (arith, old.2, low, least));
    }
