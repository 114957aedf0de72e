use Rattle.std.proofs.Common.{◌≡◌, ◌++◌, drop}
use Rattle.std.specs.List.{flat_map}
use Rattle.oxc_sourcemap_tokens.specs.Results.{lent_items}
use Rattle.oxc_sourcemap_plan.specs.PlanPlaces.{texts_of}
use Rattle.oxc_sourcemap_plan.proofs.collecting.+push_texts.Given as goal

abbrev pub decreases-push_texts : goal.decreases-push_texts
decreases-push_texts l = goal.size-push_texts l

-- the texts so far and those of the parts that are left
abbrev pub invariant-loop-part : goal.invariant-loop-part
invariant-loop-part l =
    lent_items l.texts.items ++ flat_map (λ p. texts_of p.0) (drop l.part-index l.part-items)
    ≡ lent_items l.initial.texts.items ++ flat_map (λ p. texts_of p.0) l.part-items

abbrev pub invariant-loop-piece : goal.invariant-loop-piece
invariant-loop-piece l =
    lent_items l.texts.items ++ flat_map (λ p. texts_of p.0) (drop l.piece-index l.piece-items)
    ≡ lent_items l.initial.texts.items ++ flat_map (λ p. texts_of p.0) l.piece-items

abbrev pub invariant-loop-input : goal.invariant-loop-input
invariant-loop-input l =
    lent_items l.texts.items ++ flat_map (λ p. texts_of p.1) (drop l.input-index l.input-items)
    ≡ lent_items l.initial.texts.items ++ flat_map (λ p. texts_of p.1) l.input-items
