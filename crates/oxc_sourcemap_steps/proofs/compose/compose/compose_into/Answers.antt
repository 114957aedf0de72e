use Rattle.std.proofs.Common.{◌≡◌, None, map, sym, ap, subst, ◌∙◌, ◌++◌, arith, length, take, drop}
use Rattle.std.proofs.Math.Seq.{take-append_seam}
use Rattle.std.proofs.lemmas.Grind.{common_steps}
use Rattle.std.specs.Box.{boxed_slice_items}
use Rattle.std.specs.Cow.{cow_str_bytes}
use Rattle.std.proofs.lemmas.List.{map-append}
use Rattle.std.proofs.lemmas.Result.{err_from_is_err_and}
use Rattle.oxc_sourcemap_parts.specs.Views.{record_of_parts, text_of, texts_of}
use Rattle.oxc_sourcemap_steps.specs.Composed.{composition_fault, composed_token, are_ids}
use Rattle.oxc_sourcemap_steps.proofs.Compositions.{at_fault, is_composed}
use Rattle.oxc_sourcemap_steps.proofs.compose.compose.compose_into.Goals as goal

pub returns-in_err-index-clause-error : goal.returns-in_err-index-clause-error
returns-in_err-index-clause-error c =
    let a = record_of_parts c.args.first.now in
    let b = record_of_parts c.args.second.now in
    let p = err_from_is_err_and c.from_residual.result c.from_residual.ensures.1 in
    rw (p.1, p.2) (λ other. at_fault a b _ (c.in_err-index.ensures.error other))

pub returns-clause-made : goal.returns-clause-made
returns-clause-made c =
    let a = record_of_parts c.args.first.now in
    let b = record_of_parts c.args.second.now in
    let well : composition_fault a b ≡ None = c.in_ok-index.ensures.index.0 in
    let r = rw (c.as_slice.ensures.value, c.as_mut_slice.ensures.value, c.as_slice-2.ensures.value, c.as_slice-3.ensures.value) at c.in_ok-names.ensures.composed in
    let names : map cow_str_bytes c.append.new.self.items ≡ texts_of c.args.second.now.names ++ texts_of c.in_ok-names.names =
    ap (map cow_str_bytes) c.in_ok-append.ensures.items ∙ map-append cow_str_bytes c.args.second.now.names.items c.in_ok-names.names.items in
    let tokens : boxed_slice_items c.swap.new.y ≡ c.compose_tokens.new.tokens =
    let len : length c.compose_tokens.new.tokens ≡ c.args.first.now.tokens.items.len = grind (arith, common_steps, c.compose_tokens.auto.tokens, c.as_mut_slice.ensures.len) in
    ap boxed_slice_items c.swap.ensures.y_after ∙ subst (λ n. take n (c.compose_tokens.new.tokens ++ drop (length c.compose_tokens.new.tokens) c.args.first.now.tokens.items.items) ≡ c.compose_tokens.new.tokens) len (take-append_seam c.compose_tokens.new.tokens _) in
    is_composed a b well r.0 (text_of c.in_ok-second.field-0) (map cow_str_bytes c.append.new.self.items) (boxed_slice_items c.swap.new.y) (text_of c.in_ok-second-2.field-0) r.1
    (c.in_ok-second.ensures ∙ ap text_of c.take.ensures.value) (c.in_ok-second-2.ensures ∙ ap text_of c.take-2.ensures.value) (names ∙ r.2)
    (tokens ∙ r.3 ∙ ap (λ ns. map (composed_token a.names ns) r.0) (sym names)) (ap (λ ns. are_ids a.names ns r.0) names ∙ r.4)
