use Rattle.std.proofs.Common.{◌≡◌, ◌++◌, ◌∙◌, ap, map, length, arith}
use Rattle.std.specs.Option.{option_map}
use Rattle.std.specs.Cow.{cow_str_bytes}
use Rattle.oxc_sourcemap_parts.specs.Views.{texts_of, contents_of}
use Rattle.oxc_sourcemap_join.specs.Joined.{fitted}
use Rattle.oxc_sourcemap_join.proofs.Moving.{length-mapped}
use Rattle.oxc_sourcemap_join.proofs.lists.LentStrings.push.Goals as goal

pub returns-clause-names : goal.returns-clause-names
returns-clause-names c = c.push_texts.ensures.added ∙ ap (λ ts. texts_of c.args.lists.now.names ++ ts) (c.texts_in.ensures ∙ ap (map cow_str_bytes) c.as_slice.ensures.value)

pub returns-clause-sources : goal.returns-clause-sources
returns-clause-sources c = c.push_texts-2.ensures.added ∙ ap (λ ts. texts_of c.args.lists.now.sources ++ ts) (c.texts_in-2.ensures ∙ ap (map cow_str_bytes) c.as_slice-2.ensures.value)

pub returns-clause-contents : goal.returns-clause-contents
returns-clause-contents c =
    let parts = c.args.self.0.now in
    let count : c.len.result ≡ length (texts_of parts.sources) = omega (arith, c.len.ensures, length-mapped cow_str_bytes parts.sources.items) in
    c.push_lent_fitted.ensures.added ∙ ap (λ cs. contents_of c.args.lists.now.contents ++ cs)
    (ap (λ n. fitted n c.contents_in.result) count ∙ ap (fitted (length (texts_of parts.sources))) (c.contents_in.ensures ∙ ap (map (option_map cow_str_bytes)) c.as_slice-3.ensures.value))
