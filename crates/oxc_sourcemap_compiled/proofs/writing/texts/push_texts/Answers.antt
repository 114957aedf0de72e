use Rattle.std.proofs.Common.{◌++◌, ap, ◌∙◌, sym, append_assoc}
use Rattle.std.specs.List.{flat_map, range_with_len}
use Rattle.oxc_sourcemap_parts.specs.Views.{record_of_parts}
use Rattle.oxc_sourcemap_compiled.specs.Compiled.{stored_text}
use Rattle.oxc_sourcemap_compiled.proofs.Slices.{flat_map-more}
use Rattle.oxc_sourcemap_compiled.proofs.writing.texts.push_texts.Goals as goal

pub loop-t-preserved : goal.loop-t-preserved
loop-t-preserved c =
    let r = record_of_parts c.args.parts.now in
    let t = c.loop-t.t in
    let f = stored_text r in
    c.in_ok-push_stored.ensures ∙ ap (λ xs. c.loop-t.out.items ++ xs) c.stored_at.ensures ∙ ap (λ xs. xs ++ f t) c.loop-t.invariant
    ∙ append_assoc c.args.out.now.items (flat_map f (range_with_len 0 t)) (f t) ∙ ap (λ xs. c.args.out.now.items ++ xs) (sym (flat_map-more f t))
