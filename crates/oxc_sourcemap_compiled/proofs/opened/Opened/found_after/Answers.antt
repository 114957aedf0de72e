use Rattle.std.proofs.Common.{◌≡◌, ◌+◌, ◌-◌, ◌<◌, drop, length, get_or, nat_lt, arith, ap, ◌∙◌, sym}
use Rattle.std.proofs.Common.{refl, false, length-drop, if◌then◌else◌, Some, None}
use Rattle.std.proofs.lemmas.Grind.{common_steps}
use Rattle.std.proofs.lemmas.List.FromFn.{get_or-map-range_with_len}
use Rattle.oxc_sourcemap_lookup.proofs.Halving.{before, before-all, drop-goes_on, fewer-digits}
use Rattle.oxc_sourcemap_lookup.proofs.Indices.{index_within}
use Rattle.oxc_sourcemap_lookup.proofs.ColumnSearches.{after-through}
use Rattle.oxc_sourcemap_compiled.specs.Words.{column_of, columns_in}
use Rattle.oxc_sourcemap_compiled.proofs.Lines.{columns-length, columns-from, columns-drop}
use Rattle.oxc_sourcemap_compiled.proofs.Lines.{do-not-fall, line-cut, none-found-after}
use Rattle.oxc_sourcemap_compiled.proofs.Lines.{shifted-within}
use Rattle.oxc_sourcemap_compiled.proofs.opened.Opened.found_after.Goals as goal

pub returns-then-span-clause-index : goal.returns-then-span-clause-index
returns-then-span-clause-index c = λ line of_line.
    let start = c.args.span.start in
    let end = c.args.span.end in
    let f = column_of c.args.self.now.bytes.now c.args.self.now.header in
    let none : length line ≡ 0 = omega (arith, columns-length f start (end - start) line of_line.are, c.if-span.true) in
    let at_end : nat_lt start end ≡ false = grind (arith, c.if-span.true) in
    ap (λ b. if b then Some (start - start) else None) at_end ∙ sym (none-found-after line c.args.col none)

pub returns-clause-index : goal.returns-clause-index
returns-clause-index c = λ line of_line.
    let start = c.args.span.start in
    let end = c.args.span.end in
    let g = of_line.up in
    let is = of_line.are in
    let f = column_of c.args.self.now.bytes.now c.args.self.now.header in
    let cs = columns_in c.args.self.now.bytes.now c.args.self.now.header start (end - start) in
    let size = columns-length f start (end - start) line is in
    let rest = drop 1 line in
    let short = length-drop 1 line in
    let are = columns-drop f start line (columns-from f start (end - start) line is) in
    let goes = drop-goes_on line g in
    let e : end ≡ start + 1 + length rest = omega (arith, size, short, c.if-span.false, c.requires.span.order) in
    let cut = c.column_cut-last.ensures.cut of_line.rows (do-not-fall f (start + 1) end rest e goes are) _ (line-cut f (c.from.result + 1) (start + 1) end rest e goes are) in
    let n = before (c.args.col + 1) rest in
    let found : c.column_cut-last.result ≡ start + 1 + n = cut ∙ ap (λ k. start + 1 + before (k + 1) rest) c.from.ensures in
    let at : c.column_cut-last.result - 1 ≡ start + n = omega (arith, found) in
    let within : n < length line = omega (arith, before-all (c.args.col + 1) rest, short, size, c.if-span.false, c.requires.span.order) in
    let read : get_or cs n 0 ≡ c.column.result = get_or-map-range_with_len f start (end - start) n (start + n) 0 (omega (arith, within, size)) refl ∙ ap f (sym at) ∙ sym c.column.ensures in
    let k = c.from-2.result in
    let more : k ≡ (if nat_lt (get_or cs n 0) c.args.col then 1 else 0) = grind (arith, common_steps, read) in
    let counted : c.column_cut-last.result - 1 + k ≡ start + (n + k) = omega (arith, at) in
    ap (λ i. if nat_lt i end then Some (i - start) else None) counted ∙ shifted-within start (n + k) (length line) end (omega (arith, size, c.requires.span.order))
    ∙ ap (λ k. index_within line (n + k)) more ∙ after-through c.args.col n cs line is g within refl

pub returns-clause-search : goal.returns-clause-search
returns-clause-search c =
    let start = c.args.span.start in
    let end = c.args.span.end in
    record { opened = c.requires.search.opened; few = omega (arith, c.column_cut-last.ensures.search.few, fewer-digits (end - (start + 1)) (end - start) (omega arith)) }
