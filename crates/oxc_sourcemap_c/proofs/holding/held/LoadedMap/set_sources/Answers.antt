use Rattle.std.proofs.Common.{ap, ◌∙◌}
use Rattle.oxc_sourcemap_tokens.specs.Results.{lent_items}
use Rattle.oxc_sourcemap_parts.specs.Record.{MapRecord}
use Rattle.oxc_sourcemap_c.specs.Indices.{Loaded, loaded_of}
use Rattle.oxc_sourcemap_c.proofs.TextLists.{drained}
use Rattle.oxc_sourcemap_c.proofs.holding.held.LoadedMap.set_sources.Goals as goal

pub returns-clause-set : goal.returns-clause-set
returns-clause-set c =
    let set = c.in_ok-set_sources.ensures.set in
    let texts = c.in_ok-texts.ensures.texts in
    let items = drained c.into_iter.result set.0 c.in_ok-texts.texts.items c.into_iter.ensures.rest (c.into_iter.ensures.len ∙ c.in_ok-texts.texts.ok.0) set.1 in (
      texts.1,
      ap (λ (m : MapRecord). loaded_of m c.self.inside.index c.self.inside.order) (set.2 ∙ ap (λ xs. record c.self.inside.map { sources = xs }) (ap lent_items items ∙ texts.0))
          ∙ ap (λ (l : Loaded). record l { map = record l.map { sources = lent_items c.args.sources.now } }) c.self.view_is,
    )
