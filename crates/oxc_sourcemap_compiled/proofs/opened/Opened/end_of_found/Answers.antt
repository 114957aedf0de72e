use Rattle.std.proofs.Common.{◌≡◌, ◌+◌, ◌-◌, ◌<◌, take, length, get_or, nat_lt, arith, ap, ◌∙◌, sym}
use Rattle.std.proofs.Common.{refl, length-take, if◌then◌else◌}
use Rattle.std.proofs.lemmas.Grind.{common_steps}
use Rattle.std.proofs.lemmas.List.FromFn.{get_or-map-range_with_len}
use Rattle.oxc_sourcemap_lookup.specs.Lookup.{index_before}
use Rattle.oxc_sourcemap_lookup.proofs.Halving.{before, before-all, front-goes_on, fewer-digits}
use Rattle.oxc_sourcemap_lookup.proofs.ColumnSearches.{index-through}
use Rattle.oxc_sourcemap_compiled.specs.Words.{column_of, columns_in}
use Rattle.oxc_sourcemap_compiled.proofs.Lines.{columns-length, columns-from, columns-take}
use Rattle.oxc_sourcemap_compiled.proofs.Lines.{do-not-fall, line-cut, none-found}
use Rattle.oxc_sourcemap_compiled.proofs.opened.Opened.end_of_found.Goals as goal

pub returns-then-span-clause-index : goal.returns-then-span-clause-index
returns-then-span-clause-index c = λ line of_line.
    let start = c.args.span.start in
    let end = c.args.span.end in
    let f = column_of c.args.self.now.bytes.now c.args.self.now.header in
    let none : length line ≡ 0 = omega (arith, columns-length f start (end - start) line of_line.are, c.if-span.true) in
    let back : start - start ≡ 0 = omega arith in
    ap index_before back ∙ sym (none-found line c.args.col none)

pub returns-clause-index : goal.returns-clause-index
returns-clause-index c = λ line of_line.
    let start = c.args.span.start in
    let end = c.args.span.end in
    let col = c.args.col in
    let is = of_line.are in
    let g = of_line.up in
    let f = column_of c.args.self.now.bytes.now c.args.self.now.header in
    let cs = columns_in c.args.self.now.bytes.now c.args.self.now.header start (end - start) in
    let size = columns-length f start (end - start) line is in
    let m = length line - 1 in
    let front = take m line in
    let short = length-take m line in
    let are = columns-take f start m line (columns-from f start (end - start) line is) in
    let goes = front-goes_on m line g in
    let e : end - 1 ≡ start + length front = omega (arith, size, short, c.if-span.false, c.requires.span.order) in
    let cut = c.column_cut-before.ensures.cut of_line.rows (do-not-fall f start (end - 1) front e goes are) _ (line-cut f c.from.result start (end - 1) front e goes are) in
    let n = before col front in
    let found : c.column_cut-before.result ≡ start + n = cut ∙ ap (λ k. start + before k front) c.from.ensures in
    let within : n < length line = omega (arith, before-all col front, short, size, c.if-span.false, c.requires.span.order) in
    let read : get_or cs n 0 ≡ c.column.result = get_or-map-range_with_len f start (end - start) n (start + n) 0 (omega (arith, within, size)) refl ∙ ap f (sym found) ∙ sym c.column.ensures in
    let more : c.from-2.result ≡ (if nat_lt (get_or cs n 0) (col + 1) then 1 else 0) = grind (arith, common_steps, read) in
    let counted : c.column_cut-before.result + c.from-2.result - start ≡ n + c.from-2.result = omega (arith, found) in
    ap index_before counted ∙ ap (λ k. index_before (n + k)) more ∙ index-through col n cs line is g within refl

pub returns-clause-search : goal.returns-clause-search
returns-clause-search c =
    let start = c.args.span.start in
    let end = c.args.span.end in
    record { opened = c.requires.search.opened; few = omega (arith, c.column_cut-before.ensures.search.few, fewer-digits (end - 1 - start) (end - start) (omega arith)) }
