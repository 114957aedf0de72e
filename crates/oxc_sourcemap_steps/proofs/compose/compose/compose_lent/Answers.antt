use Rattle.std.proofs.Common.{◌≡◌, None, map, sym, ap, subst, ◌∙◌, ◌++◌, arith, length, take, drop}
use Rattle.std.proofs.Math.Seq.{take-append_seam}
use Rattle.std.proofs.lemmas.Grind.{common_steps}
use Rattle.std.specs.Box.{boxed_slice_items}
use Rattle.std.specs.Cow.{cow_str_bytes}
use Rattle.std.proofs.lemmas.List.{map-append}
use Rattle.std.proofs.lemmas.Result.{err_from_is_err_and}
use Rattle.oxc_sourcemap_parts.specs.Views.{cow_texts, record_of_parts, text_of, texts_of}
use Rattle.oxc_sourcemap_steps.specs.Composed.{composition_fault, composed_token, are_ids}
use Rattle.oxc_sourcemap_steps.proofs.Compositions.{at_fault, is_composed}
use Rattle.oxc_sourcemap_steps.proofs.compose.compose.compose_lent.Goals as goal

pub returns-in_err-index-clause-error : goal.returns-in_err-index-clause-error
returns-in_err-index-clause-error c =
    let p = err_from_is_err_and c.from_residual.result c.from_residual.ensures.1 in
    rw (p.1, p.2) (λ other. at_fault (record_of_parts c.args.first.now) (record_of_parts c.args.second.now) _ (c.in_err-index.ensures.error other))

pub returns-clause-made : goal.returns-clause-made
returns-clause-made c =
    let a = record_of_parts c.args.first.now in
    let b = record_of_parts c.args.second.now in
    let well : composition_fault a b ≡ None = c.in_ok-index.ensures.index.0 in
    let copied : c.in_ok-tokens.tokens.items ≡ a.tokens = grind (arith, common_steps, c.in_ok-tokens.ensures.items_if_clones_equal (λ x y h. h), c.as_slice.ensures.value) in
    let r = rw (c.as_slice-2.ensures.value, c.as_mut_slice.ensures.value, c.as_slice-3.ensures.value, c.as_slice-4.ensures.value, copied) at c.in_ok-more.ensures.composed in
    let names : map cow_str_bytes c.append.new.self.items ≡ b.names ++ texts_of c.in_ok-more.more =
    ap (map cow_str_bytes) c.in_ok-append.ensures.items ∙ map-append cow_str_bytes c.in_ok-names.names.items c.in_ok-more.more.items
    ∙ ap (λ xs. xs ++ texts_of c.in_ok-more.more) (c.in_ok-names.ensures ∙ ap cow_texts c.as_slice-5.ensures.value) in
    let new = c.compose_tokens.new.tokens in
    let tokens : boxed_slice_items c.into_boxed_slice.result ≡ new =
    let len : length new ≡ c.in_ok-tokens.tokens.len = grind (arith, common_steps, c.compose_tokens.auto.tokens, c.as_mut_slice.ensures.len) in
    c.into_boxed_slice.ensures.items ∙ subst (λ n. take n (new ++ drop (length new) c.in_ok-tokens.tokens.items) ≡ new) len (take-append_seam new _) in
    rw (c.in_ok-sources.ensures, c.in_ok-source_contents.ensures, c.in_ok-ignore_list.ensures, c.in_ok-source_root.ensures, c.as_slice-6.ensures.value, c.as_slice-7.ensures.value)
    (is_composed a b well r.0 (text_of c.in_ok-file.file) (map cow_str_bytes c.append.new.self.items) (boxed_slice_items c.into_boxed_slice.result) (text_of c.in_ok-debug_id.debug_id) r.1
    c.in_ok-file.ensures c.in_ok-debug_id.ensures (names ∙ r.2)
    (tokens ∙ r.3 ∙ ap (λ ns. map (composed_token a.names ns) r.0) (sym names)) (ap (λ ns. are_ids a.names ns r.0) names ∙ r.4))
