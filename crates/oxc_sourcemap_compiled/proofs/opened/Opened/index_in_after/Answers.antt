use Rattle.std.proofs.Common.{◌≡◌, ◌+◌, ◌-◌, ap, ◌∙◌, sym, option_map, arith, nat_lt, true, false}
use Rattle.std.proofs.Common.{Some, None, if◌then◌else◌}
use Rattle.oxc_sourcemap_lookup.proofs.Halving.{fewer-digits}
use Rattle.oxc_sourcemap_compiled.specs.Words.{entry_begin, entry_tokens}
use Rattle.oxc_sourcemap_compiled.proofs.Lines.{entry-columns}
use Rattle.oxc_sourcemap_compiled.proofs.opened.Opened.index_in_after.Goals as goal

pub returns-then-found-span-clause-found : goal.returns-then-found-span-clause-found
returns-then-found-span-clause-found c = λ order.
    let bytes = c.args.self.now.bytes.now in
    let h = c.args.self.now.header in
    let k = c.args.k in
    let begin = entry_begin bytes h k in
    let is = entry-columns bytes h k c.span-span.result c.span-span.ensures.start c.span-span.ensures.end order c.requires.there in
    let found = c.found_after-found.ensures.index (entry_tokens bytes h k) is in
    let i = c.found_after-found.result in
    let lt : nat_lt i c.span-span.result.end ≡ true = grind (arith, c.if-found-span.true) in
    let same : i ≡ begin + (i - c.span-span.result.start) = omega (arith, c.span-span.ensures.start, c.found_after-found.ensures.within.reached) in
    let one = sym (ap (λ b. if b then Some (i - c.span-span.result.start) else None) lt) ∙ found in
    ap Some same ∙ ap (option_map (λ j. begin + j)) one

pub returns-else-found-span-clause-found : goal.returns-else-found-span-clause-found
returns-else-found-span-clause-found c = λ order.
    let bytes = c.args.self.now.bytes.now in
    let h = c.args.self.now.header in
    let k = c.args.k in
    let begin = entry_begin bytes h k in
    let is = entry-columns bytes h k c.span-span.result c.span-span.ensures.start c.span-span.ensures.end order c.requires.there in
    let found = c.found_after-found.ensures.index (entry_tokens bytes h k) is in
    let i = c.found_after-found.result in
    let le : nat_lt i c.span-span.result.end ≡ false = grind (arith, c.if-found-span.false) in
    let one = sym (ap (λ b. if b then Some (i - c.span-span.result.start) else None) le) ∙ found in
    ap (option_map (λ j. begin + j)) one

pub returns-then-found-span-clause-search : goal.returns-then-found-span-clause-search
returns-then-found-span-clause-search c =
    let size = c.span-span.result.end - c.span-span.result.start in
    record { opened = c.requires.search.opened; few = omega (arith, c.found_after-found.ensures.search.few, fewer-digits size c.args.self.now.header.tokens (omega (arith, c.span-span.ensures.span.there))) }

pub returns-else-found-span-clause-search : goal.returns-else-found-span-clause-search
returns-else-found-span-clause-search c =
    let size = c.span-span.result.end - c.span-span.result.start in
    record { opened = c.requires.search.opened; few = omega (arith, c.found_after-found.ensures.search.few, fewer-digits size c.args.self.now.header.tokens (omega (arith, c.span-span.ensures.span.there))) }
