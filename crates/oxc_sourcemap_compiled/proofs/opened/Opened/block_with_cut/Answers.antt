use Rattle.std.proofs.Common.{◌≡◌, ◌+◌, ◌-◌, ◌*◌, ◌/◌, ◌<◌, ◌≤◌, ℕ, min, max, arith}
use Rattle.oxc_sourcemap_lookup.proofs.Halving.{fewer-digits}
use Rattle.oxc_sourcemap_compiled.specs.Words.{column_of, least_column_of}
use Rattle.oxc_sourcemap_compiled.proofs.Comparisons.{two-halvings}
use Rattle.oxc_sourcemap_compiled.proofs.Searches.{inner-cut, past-cut}
use Rattle.oxc_sourcemap_compiled.proofs.Sizes.{exact-of-many}
use Rattle.oxc_sourcemap_compiled.proofs.opened.Opened.block_with_cut.Goals.{}
use Rattle.oxc_sourcemap_compiled.proofs.opened.Opened.block_with_cut.Goals.{}
use Rattle.oxc_sourcemap_compiled.proofs.opened.Opened.block_with_cut.Goals.{else-block-last-via-then-block-last+else-from-limit}
use Rattle.oxc_sourcemap_compiled.proofs.opened.Opened.block_with_cut.Goals.{}
use Rattle.oxc_sourcemap_compiled.proofs.opened.Opened.block_with_cut.Goals.{}
use Rattle.oxc_sourcemap_compiled.proofs.opened.Opened.block_with_cut.Goals.{else-block-last-via-else-block-last}
use Rattle.oxc_sourcemap_compiled.proofs.opened.Opened.block_with_cut.Goals as goal

pub returns-then-front-last-clause-counted : goal.returns-then-front-last-clause-counted
returns-then-front-last-clause-counted c = λ count few le. omega (arith, fewer-digits count (c.args.end - c.args.first) le)

pub returns-then-from-limit-clause-counted : goal.returns-then-from-limit-clause-counted
returns-then-from-limit-clause-counted c = λ count few le.
    let blocks = (c.args.end - 1) / 64 - c.args.first / 64 - 1 in
    let many : 64 * blocks ≤ c.args.end - c.args.first = omega arith in
    omega (arith, c.block_cut-block.ensures.counted, two-halvings blocks count (c.args.end - c.args.first) few le many)

pub returns-else-block-last-clause-counted : goal.returns-else-block-last-clause-counted
returns-else-block-last-clause-counted c = λ count few le.
    let blocks = (c.args.end - 1) / 64 - c.args.first / 64 - 1 in
    let many : 64 * blocks ≤ c.args.end - c.args.first = omega arith in
    omega (arith, c.block_cut-block.ensures.counted, two-halvings blocks count (c.args.end - c.args.first) few le many)

pub returns-else-block-last-clause-cut : goal.returns-else-block-last-clause-cut
returns-else-block-last-clause-cut c = λ exact rise cut is.
    let h = c.args.self.now.header in
    let bytes = c.args.self.now.bytes.now in
    let first = c.args.first in
    let end = c.args.end in
    let last = (end - 1) / 64 in
    let f = column_of bytes h in
    let g = least_column_of bytes h in
    let q = c.block_cut-block.result in
    let some : first / 64 < last = omega (arith, c.if-front-last.false, c.requires.some) in
    let same = λ (b : ℕ) (low : first / 64 < b) (high : b < last). exact-of-many bytes h c.requires.many exact b (omega (arith, high, c.requires.there))
    (λ i lt in_b. rise (64 * b) i (omega (arith, low)) (omega (arith, in_b)) (omega (arith, in_b, high))) in
    let found : q ≡ min last (max (first / 64 + 1) ((cut + 63) / 64)) = c.block_cut-block.ensures.cut _ (inner-cut f g c.args.limit first end cut some is same) in
    let high : cut ≤ 64 * (q - 1) + 64 = elim c.else-block-last.branch [
      | else-block-last-via-then-block-last+else-from-limit w ↦
          let le : c.args.limit ≤ f (64 * last) = omega (arith, w.if-from-limit.false, w.from.ensures, w.column.ensures) in
          let past = past-cut f c.args.limit first end cut (64 * last) is (omega (arith, some)) le in
          omega (arith, past, found, some)
      | else-block-last-via-else-block-last w ↦ omega (arith, w.if-block-last.false, found, some)
    ] in
    (omega (arith, found, is.reached), high)
