use Rattle.std.proofs.Common.{◌≡◌, take}
use Rattle.oxc_sourcemap_tokens.specs.Results.{lent_items}
use Rattle.oxc_sourcemap_parts.specs.Views.{cow_texts}
use Rattle.oxc_sourcemap_c.proofs.making.whole_lists.own_texts.Given as goal

abbrev pub invariant-loop-text : goal.invariant-loop-text
invariant-loop-text l = cow_texts l.owned.items ≡ lent_items (take l.text-index l.texts)
