use Rattle.std.proofs.Common.{◌≡◌, ◌<◌, ◌+◌, ◌-◌, get_or, length, drop, arith, ap, ◌∙◌, slice_get}
use Rattle.std.proofs.Common.{if◌then◌else◌, nat_lt, take}
use Rattle.std.proofs.lemmas.Grind.{common_steps}
use Rattle.std.specs.Option.{option_and_then}
use Rattle.oxc_sourcemap_parts.specs.Sorted.{token_column}
use Rattle.oxc_sourcemap_lookup.specs.Lookup.{no_column_goes_back}
use Rattle.oxc_sourcemap_lookup.proofs.Halving.{before, drop-goes_on, rest-all, fewer-digits}
use Rattle.oxc_sourcemap_lookup.proofs.Numbers.{token_of-index_at_or_after}
use Rattle.oxc_sourcemap_lookup.proofs.Indices.{index_within, after-found}
use Rattle.oxc_sourcemap_lookup.proofs.lookup.search_index_after.Goals as goal

pub returns-clause-found : goal.returns-clause-found
returns-clause-found c = λ g.
    let col = c.args.col in
    let line = c.args.line.now in
    let n = c.count_below-last.result in
    let t = c.index-line-last.result in
    let within : n < length line = grind (arith, common_steps) in
    let read : t ≡ get_or line n t = c.index-line-last.is in
    let count = c.count_below-last.ensures.count (ap (no_column_goes_back token_column) (rest-all line) ∙ drop-goes_on line g) ∙ ap (before (c.from.result + 1)) (rest-all line) ∙ ap (λ k. before (k + 1) (drop 1 line)) c.from.ensures in
    let more = c.compare_column.ensures.value ∙ ap (λ k. if nat_lt t.dst_col k then 1 else 0) c.from-2.ensures in
    c.index_within.ensures ∙ ap (λ k. index_within line (n + k)) more ∙ after-found col n t line g within read count

pub returns-clause-token : goal.returns-clause-token
returns-clause-token c = λ g.
    ap (option_and_then (slice_get c.args.line.now)) (returns-clause-found c g) ∙ token_of-index_at_or_after c.args.line.now c.args.col

pub returns-clause-counted : goal.returns-clause-counted
returns-clause-counted c =
    let fewer = fewer-digits (length (take (length c.args.line.now - 1) (drop 1 c.args.line.now))) (length c.args.line.now) (grind (arith, common_steps)) in
    (grind (arith, common_steps, fewer), λ e. absurd (grind (arith, common_steps, e)))
