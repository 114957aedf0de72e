-- Members of JSON objects.
use Rattle.std.proofs.Common.{◌≡◌, ◌≢◌, ℕ, List, [], ◌∷◌, refl, arith}
use Rattle.sourcemap_run.specs.Texts.{without_comma}

-- Members that do not begin with a comma stay as they are.
pub no_comma : (bs : List ℕ) → ((rest : List ℕ) → bs ≢ 44 ∷ rest) → bs ≡ without_comma bs
no_comma [] n = refl
no_comma (b ∷ bs) n = grind arith
