use Rattle.std.proofs.Common.{ap, ◌∙◌, []}
use Rattle.std.specs.Option.{unwrap_or}
use Rattle.oxc_sourcemap_tokens.specs.Results.{lent_item}
use Rattle.oxc_sourcemap_compiled.specs.Words.{compiled_in}
use Rattle.oxc_sourcemap_c.proofs.Shown.{shown}
use Rattle.oxc_sourcemap_c.proofs.texts.text.Original.write_compiled.Goals as goal

pub returns : goal.returns
returns c =
    let m = (compiled_in c.args.map.now).content in
    record {
      index = c.index_or_none.ensures;
      token = c.of.ensures;
      name = c.of_bytes-2.ensures ∙ ap (λ name. unwrap_or name []) c.name_in-name.ensures;
      original = shown m c.args.token (lent_item c.source_in-source.result) (lent_item c.name_in-name.result) _ c.source_in-source.ensures c.name_in-name.ensures c.kind_by.ensures c.of_bytes.ensures c.of_bytes-2.ensures c.of.ensures;
    }
