use Rattle.std.proofs.Common.{◌+◌, ◌-◌, ◌<◌, ◌≤◌, ℕ, arith, ap, ◌∙◌}
use Rattle.oxc_sourcemap_lookup.specs.Digits.{binary_digits}
use Rattle.oxc_sourcemap_compiled.specs.Words.{column_of, value_in}
use Rattle.oxc_sourcemap_compiled.proofs.Searches.{same-cut}
use Rattle.oxc_sourcemap_compiled.proofs.Sizes.{column-of-one}
use Rattle.oxc_sourcemap_compiled.proofs.opened.Opened.column_cut.Goals as goal

pub returns-then-first-end : goal.returns-then-first-end
returns-then-first-end c = record {
  search = record { opened = c.requires.search.opened; few = omega arith };
  few = omega arith;
  reached = omega arith;
  within = c.requires.order;
  cut = λ exact rise cut is. omega (arith, is.reached, is.within, c.if-first-end.true);
}

pub returns : goal.returns
returns c =
    let h = c.args.self.now.header in
    let bytes = c.args.self.now.bytes.now in
    let first = c.args.first in
    let end = c.args.end in
    let found = c.cut.ensures in
    let few = c.is_one_block.ensures.few c.if-not-is_one_block.false in
    let same = λ (j : ℕ) (lt : j < end). ap (λ row. value_in bytes row row.column j) c.requires.search.opened.front ∙ column-of-one bytes h j few (omega (arith, lt, c.requires.there, few)) in
    record {
      search = record { opened = c.requires.search.opened; few = omega (arith, found.counted) };
      few = omega (arith, found.few);
      reached = found.reached;
      within = omega (arith, found.within, c.requires.order);
      cut = λ exact rise cut is.
          found.cut cut (same-cut (column_of bytes h) (value_in bytes c.args.self.now.front c.args.self.now.front.column) c.args.limit first end (first + (end - first)) cut (omega (arith, c.requires.order)) same is);
    }
