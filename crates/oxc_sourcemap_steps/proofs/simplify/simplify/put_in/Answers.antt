use Rattle.std.proofs.Common.{◌∙◌, ◌++◌, [], None, ap, map, get_or}
use Rattle.std.specs.Cow.{cow_str_bytes}
use Rattle.oxc_sourcemap_parts.specs.Views.{record_of_parts, text_of}
use Rattle.oxc_sourcemap_steps.proofs.Assembled.{together}
use Rattle.oxc_sourcemap_steps.proofs.simplify.simplify.put_in.Goals as goal

pub returns : goal.returns
returns c =
    let r = record_of_parts c.args.parts.now in
    let order = c.as_slice-order.result.now in
    let names = c.move_texts.ensures
    ∙ ap (λ ns. map cow_str_bytes ns ++ map (λ k. get_or r.names k []) c.as_slice.result.now) c.requires.names_room.0
    ∙ ap (map (λ k. get_or r.names k [])) c.as_slice.ensures.value ∙ c.requires.names_are in
    let sources = c.move_texts-2.ensures
    ∙ ap (λ ns. map cow_str_bytes ns ++ map (λ k. get_or r.sources k []) order) c.requires.sources_room.0
    ∙ ap (map (λ k. get_or r.sources k [])) c.as_slice-order.ensures.value ∙ c.requires.sources_are in
    let contents = c.move_contents.ensures
    ∙ ap (λ ns. map text_of ns ++ map (λ k. get_or r.source_contents k None) order) c.requires.contents_room.0
    ∙ ap (map (λ k. get_or r.source_contents k None)) c.as_slice-order.ensures.value ∙ c.requires.contents_are in
    together r _ _ _ _ _ names sources contents (c.into_boxed_slice.ensures.items ∙ c.requires.tokens_are) c.requires.ignored_are
