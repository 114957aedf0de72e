use Rattle.std.proofs.Common.{◌≡◌, ◌+◌, ◌<◌, ◌^◌, length, arith, rules, Some, option_map, IfSome}
use Rattle.std.proofs.Common.{subst, ap, sym, ◌∙◌}
use Rattle.std.proofs.lemmas.Grind.{common_steps}
use Rattle.oxc_sourcemap_parts.specs.Sorted.{token_line}
use Rattle.oxc_sourcemap_lookup.specs.Lookup.{on_line}
use Rattle.oxc_sourcemap_lookup.specs.LineSpans.{count_before_line}
use Rattle.oxc_sourcemap_lookup.proofs.LineIndices.{line-fits}
use Rattle.oxc_sourcemap_lookup.proofs.lookup.index_from_line.Goals as goal

pub returns-clause-found : goal.returns-clause-found
returns-clause-found c = λ order on.
    let tokens = c.args.tokens.now in
    let i = c.in_ok-index.index in
    let is : c.args.index ≡ Some i = grind (arith, common_steps) in
    let lies : i < length (on_line token_line c.args.line tokens) = subst (λ o. IfSome o (λ i. i < length (on_line token_line c.args.line tokens))) is on in
    let start = c.line_start.ensures.start order in
    let within : count_before_line c.args.line tokens + i < length tokens = omega (arith, lies, line-fits c.args.line tokens) in
    let fits : length tokens < 2 ^ 64 = search rules in
    let sum : c.saturating_add.result ≡ count_before_line c.args.line tokens + i = grind (arith, common_steps, start, within, fits) in
    let found : c.index_within.result ≡ Some (count_before_line c.args.line tokens + i) = grind (arith, sum, within, c.index_within.ensures) in
    found ∙ sym (ap (option_map (λ i. count_before_line c.args.line tokens + i)) is)
