-- Texts that are appended one after the other.
use Rattle.std.proofs.Common.{◌≡◌, ℕ, List, ◌++◌, Option, Some, None, ap, ◌∙◌}
use mathlib.Core.List.{append_assoc}
use Rattle.std.specs.Fmt.{◌++?◌, AppendsText}

pub appends_then : (a b c : List ℕ) (o p : Option (List ℕ)) → AppendsText a b o → AppendsText b c p → AppendsText a c (o ++? p)
appends_then a b c None p f g = tt
appends_then a b c (Some x) None f g = tt
appends_then a b c (Some x) (Some y) f g = g ∙ ap (λ t. t ++ y) f ∙ append_assoc a x y

-- what `push_parts` appends: a text, a part, a text, a part and a text
pub parts-appended : (a b c d e f x y z : List ℕ) (o p : Option (List ℕ)) → b ≡ a ++ x → AppendsText b c o → d ≡ c ++ y → AppendsText d e p → f ≡ e ++ z
    → AppendsText a f (Some x ++? (o ++? (Some y ++? (p ++? Some z))))
parts-appended a b c d e f x y z o p g h i j k =
    appends_then a b f (Some x) (o ++? (Some y ++? (p ++? Some z))) g (appends_then b c f o (Some y ++? (p ++? Some z)) h
    (appends_then c d f (Some y) (p ++? Some z) i (appends_then d e f p (Some z) j k)))
