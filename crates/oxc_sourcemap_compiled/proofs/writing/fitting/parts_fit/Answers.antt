use Rattle.std.proofs.Common.{◌≤◌, map, arith, ap, sym, ◌∙◌, subst}
use Rattle.std.specs.Cow.{cow_str_bytes}
use Rattle.std.specs.List.{All, list_all}
use Rattle.std.specs.Str.{is_utf8}
use Rattle.oxc_sourcemap_tokens.specs.Token.{AreInBounds}
use Rattle.oxc_sourcemap_parts.specs.Views.{record_of_parts, text_of}
use Rattle.oxc_sourcemap_compiled.specs.Decompiled.{is_optional_utf8}
use Rattle.oxc_sourcemap_compiled.proofs.Taken.{all-checked}
use Rattle.oxc_sourcemap_compiled.proofs.writing.fitting.parts_fit.Goals as goal

pub returns : goal.returns
returns c =
    let r = record_of_parts c.args.parts.now in
    let sources = sym (ap (λ xs. list_all is_utf8 (map cow_str_bytes xs)) c.as_slice-2.ensures.value) ∙ c.are_utf8_texts.ensures in
    let names = sym (ap (λ xs. list_all is_utf8 (map cow_str_bytes xs)) c.as_slice-3.ensures.value) ∙ c.are_utf8_texts-2.ensures in
    let contents = sym (ap (λ xs. list_all is_optional_utf8 (map text_of xs)) c.as_slice-4.ensures.value) ∙ c.are_utf8_contents.ensures in
    record {
      tokens = subst AreInBounds c.as_slice.ensures.value c.tokens_in_bounds.ensures;
      ignored = subst (λ ids. All (λ id. id ≤ 4294967295) ids) c.ignored_ids.ensures c.have_32_bits.ensures;
      length_fits = omega (arith, c.ranges.text_length);
      stamp_size = omega (arith, c.told-stamp);
      texts = all-checked (list_all is_utf8 r.sources) (list_all is_utf8 r.names) (list_all is_optional_utf8 r.source_contents) (is_optional_utf8 r.file) (is_optional_utf8 r.source_root)
          (is_optional_utf8 r.debug_id) sources names contents c.is_utf8_text.ensures c.is_utf8_text-2.ensures c.is_utf8_text-3.ensures;
    }
