-- A condition on each item of a list, tested from the front on.
use Rattle.std.proofs.Common.{ℕ, ◌↔◌, List, drop}
use Rattle.std.specs.List.{AllByRecursion}

-- the condition holds of all items exactly if it holds of those from index i on
pub record IsLeft {A : Type 0} (P : A → Type 0) (xs : List A) (i : ℕ) : Type 0 where
  pub same : AllByRecursion P (drop i xs) ↔ AllByRecursion P xs
