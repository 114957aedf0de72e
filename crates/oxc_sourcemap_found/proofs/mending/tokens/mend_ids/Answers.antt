use Rattle.std.proofs.Common.{◌≡◌, ◌++◌, length, arith, ap, sym, ◌∙◌}
use Rattle.std.specs.List.{count_by}
use Rattle.std.proofs.lemmas.Bool.Decides.{nat_tests}
use Rattle.std.proofs.lemmas.Grind.{common_steps}
use Rattle.std.proofs.lemmas.List.{append-nil}
use Rattle.oxc_sourcemap_parts.specs.Views.{record_of_parts}
use Rattle.oxc_sourcemap_found.specs.declared.mending.mend.MendKind.TheVariants.{SourceIds, NameIds}
use Rattle.oxc_sourcemap_found.specs.InRange.{has_bad_source, has_bad_name, counted, source_kinds}
use Rattle.oxc_sourcemap_found.proofs.NoneBad.{none-bad}
use Rattle.oxc_sourcemap_found.proofs.mending.tokens.mend_ids.Goals as goal

pub returns-clause-kinds : goal.returns-clause-kinds
returns-clause-kinds c =
    let r = record_of_parts c.args.parts.now in
    let old = c.args.kinds.now.items in
    let names : c.len.result ≡ length r.names = grind (arith, common_steps) in
    let sources : c.len-2.result ≡ length r.sources = grind (arith, common_steps) in
    let bad_sources : c.bad_sources-sources.result ≡ count_by (has_bad_source (length r.sources)) r.tokens =
    c.bad_sources-sources.ensures ∙ ap (λ n. count_by (has_bad_source n) c.as_slice.result.now) sources
    ∙ ap (count_by (has_bad_source (length r.sources))) c.as_slice.ensures.value in
    let bad_names : c.bad_names-names.result ≡ count_by (has_bad_name (length r.names) (length r.sources)) r.tokens =
    c.bad_names-names.ensures ∙ ap (λ n. count_by (has_bad_name n c.len-2.result) c.as_slice-2.result.now) names
    ∙ ap (λ n. count_by (has_bad_name (length r.names) n) c.as_slice-2.result.now) sources
    ∙ ap (count_by (has_bad_name (length r.names) (length r.sources))) c.as_slice-2.ensures.value in
    c.in_ok-push_count-2.ensures
    ∙ ap (λ k. k ++ counted NameIds c.bad_names-names.result) c.in_ok-push_count.ensures
    ∙ ap (λ n. old ++ counted SourceIds n ++ counted NameIds c.bad_names-names.result) bad_sources
    ∙ ap (λ n. old ++ source_kinds r ++ counted NameIds n) bad_names

pub returns-then-names-eq0-clause-parts : goal.returns-then-names-eq0-clause-parts
returns-then-names-eq0-clause-parts c =
    let r = record_of_parts c.args.parts.now in
    let names : c.len.result ≡ length r.names = grind (arith, common_steps) in
    let sources : c.len-2.result ≡ length r.sources = grind (arith, common_steps) in
    let bad_sources : c.bad_sources-sources.result ≡ count_by (has_bad_source (length r.sources)) r.tokens =
    c.bad_sources-sources.ensures ∙ ap (λ n. count_by (has_bad_source n) c.as_slice.result.now) sources
    ∙ ap (count_by (has_bad_source (length r.sources))) c.as_slice.ensures.value in
    let bad_names : c.bad_names-names.result ≡ count_by (has_bad_name (length r.names) (length r.sources)) r.tokens =
    c.bad_names-names.ensures ∙ ap (λ n. count_by (has_bad_name n c.len-2.result) c.as_slice-2.result.now) names
    ∙ ap (λ n. count_by (has_bad_name (length r.names) n) c.as_slice-2.result.now) sources
    ∙ ap (count_by (has_bad_name (length r.names) (length r.sources))) c.as_slice-2.ensures.value in
    let no_sources : count_by (has_bad_source (length r.sources)) r.tokens ≡ 0 = let z = c.if-sources-eq0.true in sym bad_sources ∙ grind (arith, nat_tests, z) in
    let no_names : count_by (has_bad_name (length r.names) (length r.sources)) r.tokens ≡ 0 = let z = c.if-names-eq0.true in sym bad_names ∙ grind (arith, nat_tests, z) in
    ap (λ ts. record r { tokens = ts }) (sym (none-bad (length r.names) (length r.sources) r.tokens no_sources no_names))

pub returns-then-names-eq0-clause-kinds : goal.returns-then-names-eq0-clause-kinds
returns-then-names-eq0-clause-kinds c =
    let r = record_of_parts c.args.parts.now in
    let old = c.args.kinds.now.items in
    let names : c.len.result ≡ length r.names = grind (arith, common_steps) in
    let sources : c.len-2.result ≡ length r.sources = grind (arith, common_steps) in
    let bad_sources : c.bad_sources-sources.result ≡ count_by (has_bad_source (length r.sources)) r.tokens =
    c.bad_sources-sources.ensures ∙ ap (λ n. count_by (has_bad_source n) c.as_slice.result.now) sources
    ∙ ap (count_by (has_bad_source (length r.sources))) c.as_slice.ensures.value in
    let bad_names : c.bad_names-names.result ≡ count_by (has_bad_name (length r.names) (length r.sources)) r.tokens =
    c.bad_names-names.ensures ∙ ap (λ n. count_by (has_bad_name n c.len-2.result) c.as_slice-2.result.now) names
    ∙ ap (λ n. count_by (has_bad_name (length r.names) n) c.as_slice-2.result.now) sources
    ∙ ap (count_by (has_bad_name (length r.names) (length r.sources))) c.as_slice-2.ensures.value in
    let no_sources : count_by (has_bad_source (length r.sources)) r.tokens ≡ 0 = let z = c.if-sources-eq0.true in sym bad_sources ∙ grind (arith, nat_tests, z) in
    let no_names : count_by (has_bad_name (length r.names) (length r.sources)) r.tokens ≡ 0 = let z = c.if-names-eq0.true in sym bad_names ∙ grind (arith, nat_tests, z) in
    sym (ap (λ k. old ++ source_kinds r ++ k) (ap (counted NameIds) no_names)
    ∙ append-nil (old ++ source_kinds r)
    ∙ ap (λ k. old ++ k) (ap (counted SourceIds) no_sources)
    ∙ append-nil old)
