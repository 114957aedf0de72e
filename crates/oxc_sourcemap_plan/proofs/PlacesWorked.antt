-- Worked examples of places of faults of plans, computed by the definitions themselves.
use Rattle.std.specs.Prelude.{◌≡◌, refl, [], ◌∷◌, codes, Some, None, Ok, Err}
use Rattle.oxc_sourcemap_tokens.specs.declared.errors.error.Error.TheVariants.{TooLarge}
use Rattle.oxc_sourcemap_parts.specs.Views.{empty_record}
use Rattle.oxc_sourcemap_plan.specs.PlanPlaces.{unread_or, first_unread, input_number}

-- a text that cannot be read is found before those after it, and one that can be read is passed over
finds-first : unread_or 3 (codes "a") (Err TooLarge) (unread_or 4 (codes "b") (Err TooLarge) None) ≡ Some (record { number = 3; text = codes "a"; error = TooLarge })
finds-first = refl

passes-read : unread_or 3 (codes "a") (Ok empty_record) (unread_or 4 (codes "b") (Err TooLarge) None) ≡ Some (record { number = 4; text = codes "b"; error = TooLarge })
passes-read = refl

finds-none : first_unread [] ≡ None
finds-none = refl

-- of two equal inputs the first is told
finds-input : input_number (codes "a" ∷ codes "b" ∷ codes "b" ∷ []) (codes "b") ≡ Some 1
finds-input = refl

finds-no-input : input_number (codes "a" ∷ codes "b" ∷ []) (codes "c") ≡ None
finds-no-input = refl
