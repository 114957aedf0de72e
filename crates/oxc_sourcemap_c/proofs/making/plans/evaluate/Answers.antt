use Rattle.std.proofs.Common.{ap, ◌∙◌}
use Rattle.oxc_sourcemap_tokens.specs.Results.{lent_items}
use Rattle.oxc_sourcemap_c.proofs.Planned.{map_of_bytes, failure_of_bytes}
use Rattle.oxc_sourcemap_c.proofs.making.plans.evaluate.Goals as goal

pub returns-clause-map : goal.returns-clause-map
returns-clause-map c =
    map_of_bytes (lent_items c.args.words.now) (lent_items c.args.texts.now) (lent_items c.as_slice.result.now) (lent_items c.as_slice-2.result.now) c.evaluate_words.result
    (ap lent_items c.as_slice.ensures.value ∙ c.in_ok-words.ensures.texts.0) (ap lent_items c.as_slice-2.ensures.value ∙ c.in_ok-texts.ensures.texts.0) c.evaluate_words.ensures.map

pub returns-clause-error : goal.returns-clause-error
returns-clause-error c =
    failure_of_bytes (lent_items c.args.words.now) (lent_items c.args.texts.now) (lent_items c.as_slice.result.now) (lent_items c.as_slice-2.result.now) c.evaluate_words.result
    (ap lent_items c.as_slice.ensures.value ∙ c.in_ok-words.ensures.texts.0) (ap lent_items c.as_slice-2.ensures.value ∙ c.in_ok-texts.ensures.texts.0)
    c.in_ok-words.ensures.texts.1 c.in_ok-texts.ensures.texts.1 c.evaluate_words.ensures.error
