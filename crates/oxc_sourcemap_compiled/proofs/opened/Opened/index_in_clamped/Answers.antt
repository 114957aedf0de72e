use Rattle.std.proofs.Common.{ℕ, ◌≡◌, ◌+◌, ◌-◌, ◌<◌, ap, ◌∙◌, sym, option_map, arith, nat_lt, true}
use Rattle.std.proofs.Common.{length, Some, None, if◌then◌else◌}
use Rattle.std.specs.Option.{option_or}
use Rattle.oxc_sourcemap_lookup.proofs.Indices.{index-clamped, index_within, clamped-through}
use Rattle.oxc_sourcemap_lookup.proofs.Halving.{fewer-digits}
use Rattle.oxc_sourcemap_compiled.specs.Words.{column_of, entry_begin, entry_tokens}
use Rattle.oxc_sourcemap_compiled.proofs.Lines.{entry-columns, columns-length}
use Rattle.oxc_sourcemap_compiled.proofs.opened.Opened.index_in_clamped.Goals as goal

less : (n m : ℕ) → n < m → nat_lt n m ≡ true
less n m lt = grind (arith, lt)

pub returns-clause-found : goal.returns-clause-found
returns-clause-found c = λ order.
    let bytes = c.args.self.now.bytes.now in
    let h = c.args.self.now.header in
    let k = c.args.k in
    let col = c.args.col in
    let begin = entry_begin bytes h k in
    let start = c.span-span.result.start in
    let n = c.end_of_found-end.result - start in
    let ts = entry_tokens bytes h k in
    let is = entry-columns bytes h k c.span-span.result c.span-span.ensures.start c.span-span.ensures.end order c.requires.there in
    let found = c.end_of_found-end.ensures.index ts is in
    let size : length ts ≡ c.span-span.result.end - start = columns-length (column_of bytes h) start (c.span-span.result.end - start) ts is.are in
    let through = clamped-through ts n (omega (arith, size, c.end_of_found-end.ensures.within.within)) ∙ ap (λ o. option_or o (index_within ts 0)) found ∙ sym (index-clamped col ts) in
    let within : n - 1 < length ts = omega (arith, size, c.end_of_found-end.ensures.within.within, c.if-span.false, c.span-span.ensures.span.order) in
    let lt : nat_lt (n - 1) (length ts) ≡ true = less (n - 1) (length ts) within in
    let one : Some (n - 1) ≡ index_within ts (n - 1) = sym (ap (λ b. if b then Some (n - 1) else None) lt) in
    let same : c.max.result - 1 ≡ begin + (n - 1) = omega (arith, c.max.ensures, c.span-span.ensures.start, c.end_of_found-end.ensures.within.reached) in
    ap Some same ∙ ap (option_map (λ i. begin + i)) (one ∙ through)

pub returns-clause-search : goal.returns-clause-search
returns-clause-search c =
    let size = c.span-span.result.end - c.span-span.result.start in
    record { opened = c.requires.search.opened; few = omega (arith, c.end_of_found-end.ensures.search.few, fewer-digits size c.args.self.now.header.tokens (omega (arith, c.span-span.ensures.span.there))) }
