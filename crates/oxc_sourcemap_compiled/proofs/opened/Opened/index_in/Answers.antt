use Rattle.std.proofs.Common.{arith, ◌+◌, ◌-◌, ap, ◌∙◌, option_map}
use Rattle.oxc_sourcemap_lookup.proofs.Halving.{fewer-digits}
use Rattle.oxc_sourcemap_compiled.specs.Words.{entry_begin, entry_tokens}
use Rattle.oxc_sourcemap_compiled.proofs.Lines.{entry-columns, last-of-some, last-of-none}
use Rattle.oxc_sourcemap_compiled.proofs.opened.Opened.index_in.Goals as goal

pub returns-then-end-span-clause-found : goal.returns-then-end-span-clause-found
returns-then-end-span-clause-found c = λ order.
    let bytes = c.args.self.now.bytes.now in
    let h = c.args.self.now.header in
    let k = c.args.k in
    let begin = entry_begin bytes h k in
    let is = entry-columns bytes h k c.span-span.result c.span-span.ensures.start c.span-span.ensures.end order c.requires.there in
    let found = c.end_of_found-end.ensures.index (entry_tokens bytes h k) is in
    last-of-some begin c.span-span.result.start c.end_of_found-end.result c.span-span.ensures.start c.if-end-span.true ∙ ap (option_map (λ i. begin + i)) found

pub returns-else-end-span-clause-found : goal.returns-else-end-span-clause-found
returns-else-end-span-clause-found c = λ order.
    let bytes = c.args.self.now.bytes.now in
    let h = c.args.self.now.header in
    let k = c.args.k in
    let begin = entry_begin bytes h k in
    let is = entry-columns bytes h k c.span-span.result c.span-span.ensures.start c.span-span.ensures.end order c.requires.there in
    let found = c.end_of_found-end.ensures.index (entry_tokens bytes h k) is in
    last-of-none begin c.span-span.result.start c.end_of_found-end.result c.if-end-span.false ∙ ap (option_map (λ i. begin + i)) found

pub returns-then-end-span-clause-search : goal.returns-then-end-span-clause-search
returns-then-end-span-clause-search c =
    let size = c.span-span.result.end - c.span-span.result.start in
    record { opened = c.requires.search.opened; few = omega (arith, c.end_of_found-end.ensures.search.few, fewer-digits size c.args.self.now.header.tokens (omega (arith, c.span-span.ensures.span.there))) }

pub returns-else-end-span-clause-search : goal.returns-else-end-span-clause-search
returns-else-end-span-clause-search c =
    let size = c.span-span.result.end - c.span-span.result.start in
    record { opened = c.requires.search.opened; few = omega (arith, c.end_of_found-end.ensures.search.few, fewer-digits size c.args.self.now.header.tokens (omega (arith, c.span-span.ensures.span.there))) }
