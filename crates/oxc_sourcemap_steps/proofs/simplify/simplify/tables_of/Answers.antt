use Rattle.std.proofs.Common.{◌∙◌, ◌<◌, sym, ap, subst, map, length}
use Rattle.std.specs.List.{zip, AllByRecursion}
use Rattle.std.specs.Str.{bytes_eq}
use Rattle.oxc_sourcemap_parts.specs.Views.{cow_texts, record_of_parts, texts_of, contents_of}
use Rattle.oxc_sourcemap_steps.proofs.SourceBlocks.{count-flags, length-sources_of}
use Rattle.oxc_sourcemap_steps.specs.Same.{is_same_source}
use Rattle.oxc_sourcemap_steps.specs.SimplifySteps.{AreFirsts, source_by, sources_in}
use Rattle.oxc_sourcemap_steps.proofs.Assembled.{count-firsts, firsts-within, sources-table}
use Rattle.oxc_sourcemap_steps.proofs.Assembled.{tables-within}
use Rattle.oxc_sourcemap_steps.proofs.simplify.simplify.tables_of.Goals as goal

pub listed_sources-requires-clause-flags : goal.listed_sources-requires-clause-flags
listed_sources-requires-clause-flags c =
    let parts = c.args.parts.now in
    let r = record_of_parts parts in
    let firsts = c.in_ok-firsts.firsts.items in
    let one = ap length c.requires ∙ count-flags r in
    let two = count-firsts is_same_source (sources_in parts) firsts c.in_ok-firsts.ensures ∙ length-sources_of (texts_of parts.sources) (contents_of parts.source_contents) in
    one ∙ sym two ∙ sym (ap length c.as_slice.ensures.value)

pub listed_sources-requires-clause-within : goal.listed_sources-requires-clause-within
listed_sources-requires-clause-within c =
    subst (λ ks. AllByRecursion (λ k. k < length ks) ks) (sym c.as_slice.ensures.value)
    (firsts-within is_same_source (sources_in c.args.parts.now) c.in_ok-firsts.firsts.items c.in_ok-firsts.ensures)

pub returns-clause-tables : goal.returns-clause-tables
returns-clause-tables c =
    let r = record_of_parts c.args.parts.now in
    let firsts = c.in_ok-firsts.firsts.items in
    let flags = c.args.flags.now in record {
      sources = c.in_ok-listed_sources.ensures ∙ ap (λ fs. map (source_by (zip fs flags)) (zip fs flags)) c.as_slice.ensures.value
          ∙ ap (λ gs. map (source_by (zip firsts gs)) (zip firsts gs)) c.requires ∙ sources-table r firsts c.in_ok-firsts.ensures;
      names = subst (λ ts. AreFirsts bytes_eq (cow_texts ts) c.in_ok-first_texts.field-0.items) c.as_slice-2.ensures.value c.in_ok-first_texts.ensures;
    }

pub returns-clause-within : goal.returns-clause-within
returns-clause-within c =
    let r = record_of_parts c.args.parts.now in
    let firsts = c.in_ok-firsts.firsts.items in
    let flags = c.args.flags.now in
    tables-within r (record { sources = c.in_ok-listed_sources.field-0; names = c.in_ok-first_texts.field-0 }) (record {
      sources = c.in_ok-listed_sources.ensures ∙ ap (λ fs. map (source_by (zip fs flags)) (zip fs flags)) c.as_slice.ensures.value
          ∙ ap (λ gs. map (source_by (zip firsts gs)) (zip firsts gs)) c.requires ∙ sources-table r firsts c.in_ok-firsts.ensures;
      names = subst (λ ts. AreFirsts bytes_eq (cow_texts ts) c.in_ok-first_texts.field-0.items) c.as_slice-2.ensures.value c.in_ok-first_texts.ensures;
    })
