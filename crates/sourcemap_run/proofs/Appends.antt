-- Texts that are appended one after another.
use Rattle.std.proofs.Common.{◌≡◌, ℕ, List, ◌++◌, ap, ◌∙◌, append_assoc}
use Rattle.oxc_sourcemap_json.specs.Appends.{BeginsWith}

pub two_appends : (old mid new x y : List ℕ) → mid ≡ old ++ x → new ≡ mid ++ y → new ≡ old ++ (x ++ y)
two_appends old mid new x y e f = f ∙ ap (λ t. t ++ y) e ∙ append_assoc old x y

pub three_appends : (old a b new x y z : List ℕ) → a ≡ old ++ x → b ≡ a ++ y → new ≡ b ++ z → new ≡ old ++ (x ++ (y ++ z))
three_appends old a b new x y z e f g = two_appends old a new x (y ++ z) e (two_appends a b new y z f g)

-- what a text begins with, it begins with once more is appended
pub begins_still : (old new front more : List ℕ) → new ≡ old ++ more → BeginsWith old front → BeginsWith new front
begins_still old new front more e (rest, begins) = (rest ++ more, e ∙ ap (λ t. t ++ more) begins ∙ append_assoc front rest more)
