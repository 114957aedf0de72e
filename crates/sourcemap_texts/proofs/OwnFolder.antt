-- The name of a folder between slashes.
use Rattle.std.proofs.Common.{◌≡◌, ◌≢◌, ℕ, Bool, true, false, ◌||◌, ◌==◌, List, [], ◌∷◌, refl, ap}
use Rattle.std.proofs.Common.{sym, ◌∙◌}
use Rattle.std.proofs.Common.{arith}
use Rattle.std.specs.List.{ends_with}
use Rattle.std.specs.Str.{bytes_eq}
use Rattle.std.proofs.Math.Dec.{eqb}
use Rattle.sourcemap_texts.specs.Matching.{ends_in_folder}

pub in_folder : (own bare prefix : List ℕ) → own ≡ 47 ∷ bare → bytes_eq prefix bare || ends_with eqb prefix own ≡ ends_in_folder own prefix
in_folder own bare prefix e = rw e refl

pub only_behind : (own bare prefix : List ℕ) → own ≡ 47 ∷ bare → bytes_eq prefix bare ≡ false → ends_with eqb prefix own ≡ ends_in_folder own prefix
only_behind own bare prefix e n = sym (ap (λ t. t || ends_with eqb prefix own) n) ∙ in_folder own bare prefix e

no_slash : (b : ℕ) (bs prefix : List ℕ) (t : Bool) → (b == 47) ≡ t → ((rest : List ℕ) → b ∷ bs ≢ 47 ∷ rest) → false ≡ ends_in_folder (b ∷ bs) prefix
no_slash b bs prefix true e n = absurd (n bs (grind (arith, e)))
no_slash b bs prefix false e n = rw e refl

pub in_no_folder : (own prefix : List ℕ) → ((rest : List ℕ) → own ≢ 47 ∷ rest) → false ≡ ends_in_folder own prefix
in_no_folder [] prefix n = refl
in_no_folder (b ∷ bs) prefix n = no_slash b bs prefix _ refl n
