-- What a loop that writes a list has left to write.
use Rattle.std.proofs.Common.{ℕ, Bool, true, false, List, ◌++◌, codes}
use Rattle.std.specs.List.{join_by, flat_map}

-- items separated by commas; the first one has a comma before it unless the list begins here
abbrev pub separated : {A : Type 0} → (A → List ℕ) → Bool → List A → List ℕ
separated write true items = join_by write (codes ",") items
separated write false items = flat_map (λ item. codes "," ++ write item) items
