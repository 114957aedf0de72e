use Rattle.std.proofs.Common.{◌≡◌, ◌∙◌, ◌<◌, [], None, sym, ap, subst, arith, map, length, nat_le}
use Rattle.std.proofs.Common.{true, false, get_or, ◌≤◌, ◌⊎◌}
use Rattle.std.proofs.lemmas.List.{length-map}
use Rattle.std.proofs.lemmas.Result.{err_from_is_err_and}
use Rattle.std.specs.List.{list_all, AllByRecursion}
use Rattle.std.specs.Str.{bytes_eq}
use Rattle.oxc_sourcemap_parts.specs.Sorted.{token_line, token_column}
use Rattle.oxc_sourcemap_parts.specs.Views.{record_of_parts}
use Rattle.oxc_sourcemap_steps.specs.Blocks.{flags_of, unless_empty}
use Rattle.oxc_sourcemap_steps.specs.RemapSteps.{set_from}
use Rattle.oxc_sourcemap_steps.proofs.SourceBlocks.{count-flags}
use Rattle.oxc_sourcemap_steps.specs.Simple.{found_items}
use Rattle.oxc_sourcemap_steps.specs.Simplified.{found_tokens}
use Rattle.oxc_sourcemap_steps.specs.SimplifySteps.{kept_from, with_all, with_name, with_source}
use Rattle.oxc_sourcemap_steps.specs.SimplifySteps.{target_by, token_to, AreTooMany, listed_once}
use Rattle.oxc_sourcemap_steps.proofs.Assembled.{too-much, it-fits, count-table, count-firsts}
use Rattle.oxc_sourcemap_steps.proofs.Assembled.{name-order, source-order, tokens-are, names-back}
use Rattle.oxc_sourcemap_steps.proofs.Assembled.{sources-back, contents-back, ignored-back}
use Rattle.oxc_sourcemap_steps.proofs.simplify.simplify.simple_of.Goals as goal

pub returns-in_err-tokens-clause-error : goal.returns-in_err-tokens-clause-error
returns-in_err-tokens-clause-error c =
    let r = record_of_parts c.args.parts.now in
    let tables = c.in_ok-tables.tables in
    let p = err_from_is_err_and c.from_residual-in_err-tokens.result c.from_residual-in_err-tokens.ensures.1 in
    let found : found_items token_line token_column c.as_slice-2.result.now ≡ found_tokens r = ap (found_items token_line token_column) c.as_slice-2.ensures.value in
    rw (p.1, p.2) (λ other unsorted.
    let q = c.in_err-tokens.ensures.error other unsorted in (
      q.0,
      too-much r tables c.in_ok-tables.ensures.tables (subst (λ ts. AreTooMany (with_all (with_source tables) [] ts) (with_all (with_name tables) [] ts)
          ⊎ (list_all (λ t. nat_le t.dst_col 4294967295) (kept_from tables None false ts) ≡ false)) found q.1),
    ))

pub ignored_indices-requires-clause-within : goal.ignored_indices-requires-clause-within
ignored_indices-requires-clause-within c =
    let r = record_of_parts c.args.parts.now in
    let made = c.in_ok-tokens.ensures.numbers.sources in
    let count = ap length c.as_slice-3.ensures.value ∙ ap length c.in_ok-flags.ensures ∙ sym (count-table r c.in_ok-tables.tables c.in_ok-tables.ensures.tables) ∙ sym made.count in
    subst (λ ks. AllByRecursion (λ k. k < length c.as_slice-3.result.now) ks) (sym c.as_slice-sources.ensures.value)
    (subst (λ n. AllByRecursion (λ k. k < n) c.in_ok-tokens.field-0.numbers.sources.numbering.order.items) (sym count) made.numbering.within)

pub returns-clause-simple : goal.returns-clause-simple
returns-clause-simple c =
    let r = record_of_parts c.args.parts.now in
    let tables = c.in_ok-tables.tables in
    let are = c.in_ok-tables.ensures.tables in
    let found : found_items token_line token_column c.as_slice-2.result.now ≡ found_tokens r = ap (found_items token_line token_column) c.as_slice-2.ensures.value in
    let kept = c.in_ok-tokens.ensures in
    let sources = kept.numbers.sources in
    let names = kept.numbers.names in
    let ss = c.in_ok-tokens.field-0.numbers.sources.numbering.order.items in
    let ns = c.in_ok-tokens.field-0.numbers.names.numbering.order.items in
    let so : ss ≡ source-order r tables are = kept.sources ∙ ap (with_all (with_source tables) []) found in
    let no : ns ≡ name-order r tables are = kept.names ∙ ap (with_all (with_name tables) []) found in
    let table = count-table r tables are ∙ count-flags r in record {
      tokens_are = kept.tokens
          ∙ ap (λ os. map (λ t. token_to os ns t (target_by tables t)) (kept_from tables None false (found_items token_line token_column c.as_slice-2.result.now))) so
          ∙ ap (λ os. map (λ t. token_to (source-order r tables are) os t (target_by tables t)) (kept_from tables None false (found_items token_line token_column c.as_slice-2.result.now))) no
          ∙ ap (λ ts. map (λ t. token_to (source-order r tables are) (name-order r tables are) t (target_by tables t)) (kept_from tables None false ts)) found
          ∙ tokens-are r tables are;
      names_are = ap (map (λ k. get_or r.names k [])) no ∙ names-back r tables are;
      sources_are = ap (map (λ k. get_or r.sources k [])) so ∙ sources-back r tables are;
      contents_are = ap (map (λ k. get_or r.source_contents k None)) so ∙ contents-back r tables are;
      ignored_are = c.in_ok-ignore_list.ensures
          ∙ ap (λ fs. unless_empty (set_from 0 (map (λ k. get_or fs k false) c.as_slice-sources.result.now))) (c.as_slice-3.ensures.value ∙ c.in_ok-flags.ensures)
          ∙ ap (λ os. unless_empty (set_from 0 (map (λ k. get_or (flags_of r) k false) os))) (c.as_slice-sources.ensures.value ∙ so)
          ∙ ignored-back r tables are;
      names_apart = names.numbering.apart;
      sources_apart = sources.numbering.apart;
      names_within = subst (λ n. AllByRecursion (λ k. k < n) ns) (names.count ∙ length-map tables.names.items listed_once ∙ count-firsts bytes_eq r.names tables.names.items are.names) names.numbering.within;
      sources_within = subst (λ n. AllByRecursion (λ k. k < n) ss) (sources.count ∙ table) sources.numbering.within;
      names_room = (c.in_ok-with_capacity.ensures.items, omega (arith, c.in_ok-with_capacity.ensures.len, c.in_ok-with_capacity.ensures.capacity, c.len.ensures, c.in_ok-tokens.field-0.numbers.names.numbering.order.ok.0));
      sources_room = (c.in_ok-with_capacity-2.ensures.items, omega (arith, c.in_ok-with_capacity-2.ensures.len, c.in_ok-with_capacity-2.ensures.capacity, c.as_slice-sources.ensures.len, c.in_ok-tokens.field-0.numbers.sources.numbering.order.ok.0));
      contents_room = (c.in_ok-with_capacity-3.ensures.items, omega (arith, c.in_ok-with_capacity-3.ensures.len, c.in_ok-with_capacity-3.ensures.capacity, c.as_slice-sources.ensures.len, c.in_ok-tokens.field-0.numbers.sources.numbering.order.ok.0));
    }

pub returns-clause-fits : goal.returns-clause-fits
returns-clause-fits c =
    let r = record_of_parts c.args.parts.now in
    let tables = c.in_ok-tables.tables in
    let are = c.in_ok-tables.ensures.tables in
    let found : found_items token_line token_column c.as_slice-2.result.now ≡ found_tokens r = ap (found_items token_line token_column) c.as_slice-2.ensures.value in
    let kept = c.in_ok-tokens.ensures in
    let so = kept.sources ∙ ap (with_all (with_source tables) []) found in
    let no = kept.names ∙ ap (with_all (with_name tables) []) found in
    it-fits r tables are (subst (λ ks. length ks ≤ 4294967295) no kept.numbers.names.numbering.few) (subst (λ ks. length ks ≤ 4294967295) so kept.numbers.sources.numbering.few)
    (subst (λ ts. list_all (λ t. nat_le t.dst_col 4294967295) (kept_from tables None false ts) ≡ true) found kept.few)
