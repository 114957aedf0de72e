use Rattle.std.proofs.Common.{◌≡◌, ◌++◌, ◌∙◌, ap, map, length, arith, subst}
use Rattle.std.specs.Option.{option_map}
use Rattle.std.specs.Result.{OnOk}
use Rattle.std.specs.Cow.{cow_str_bytes}
use Rattle.oxc_sourcemap_parts.specs.Views.{texts_of, contents_of}
use Rattle.oxc_sourcemap_join.specs.Joined.{fitted}
use Rattle.oxc_sourcemap_join.proofs.Moving.{length-mapped}
use Rattle.oxc_sourcemap_join.proofs.lists.CopiedStrings.push.Goals as goal

pub returns-clause-contents : goal.returns-clause-contents
returns-clause-contents c =
    let parts = c.args.self.0.now in
    let f = map (option_map cow_str_bytes) in
    let count : c.len.result ≡ length (texts_of parts.sources) = omega (arith, c.len.ensures, length-mapped cow_str_bytes parts.sources.items) in
    let same : fitted c.len.result (f c.as_slice-3.result.now) ≡ fitted (length (texts_of parts.sources)) (contents_of parts.source_contents) =
    ap (λ n. fitted n (f c.as_slice-3.result.now)) count ∙ ap (λ cs. fitted (length (texts_of parts.sources)) (f cs)) c.as_slice-3.ensures.value in
    subst (λ cs. OnOk c.push_copies_fitted.result (contents_of c.push_copies_fitted.new.contents ≡ contents_of c.args.lists.now.contents ++ cs)) same c.push_copies_fitted.ensures.copied
