use Rattle.std.proofs.Common.{◌+◌, ◌-◌, ◌*◌, ◌<◌, ◌≤◌, ℕ, min, arith, ap, ◌∙◌, sym, subst, refl}
use Rattle.oxc_sourcemap_compiled.specs.Cuts.{IsCut}
use Rattle.oxc_sourcemap_compiled.specs.Words.{column_of, value_in}
use Rattle.oxc_sourcemap_compiled.proofs.Searches.{block-cut}
use Rattle.oxc_sourcemap_compiled.proofs.Sizes.{column-of-many}
use Rattle.oxc_sourcemap_compiled.proofs.opened.Opened.cut_in_blocks.Goals as goal

pub returns : goal.returns
returns c =
    let h = c.args.self.now.header in
    let bytes = c.args.self.now.bytes.now in
    let first = c.args.first in
    let end = c.args.end in
    let limit = c.args.limit in
    let block = c.block_with_cut-block.result in
    let base = 64 * block in
    let count = c.min.result - base - (c.max.result - base) in
    let few = c.block_with_cut-block.ensures.counted count (omega (arith, c.min.ensures, c.max.ensures)) (omega (arith, c.min.ensures, c.max.ensures)) in
    let f = column_of bytes h in
    let g = value_in bytes c.row-row.result c.row-row.result.column in
    record {
      search = record {
        opened = c.requires.search.opened;
        few = omega (arith, few, c.cut_by_bits.ensures.counted);
      };
      few = omega (arith, c.block_with_cut-block.ensures.few, c.cut_by_bits.ensures.few);
      reached = omega (arith, c.cut_by_bits.ensures.reached, c.max.ensures);
      within = omega (arith, c.cut_by_bits.ensures.within, c.max.ensures, c.min.ensures, c.block_with_cut-block.ensures.within, c.block_with_cut-block.ensures.reached, c.requires.some);
      cut = λ exact rise cut is.
          let found = c.block_with_cut-block.ensures.cut exact rise cut is in
          let same = λ (j : ℕ) (small : j < 64). ap (λ row. value_in bytes row row.column j) c.row-row.ensures.value ∙ column-of-many bytes h block j c.requires.many small in
          let made = block-cut f g limit first end cut base is found.0 found.1 (omega (arith, c.block_with_cut-block.ensures.reached)) c.block_with_cut-block.ensures.within same in
          let started = subst (λ m. IsCut g limit (m - base) (m - base + (min (base + 64) end - base - (m - base))) (cut - base)) (sym c.max.ensures) made in
          let stopped = subst (λ m. IsCut g limit (c.max.result - base) (c.max.result - base + (m - base - (c.max.result - base))) (cut - base)) (sym c.min.ensures) started in
          omega (arith, c.cut_by_bits.ensures.cut (cut - base) stopped, found.0);
    }
