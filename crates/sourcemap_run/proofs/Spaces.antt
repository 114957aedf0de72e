-- Spaces below bytes.
use Rattle.std.proofs.Common.{◌≡◌, ◌<◌, ◌+◌, ℕ, List, ◌++◌, codes, drop, length, ap, sym, ◌∙◌}
use Rattle.std.proofs.Common.{append_assoc}
use Rattle.std.specs.List.{flat_map}
use Rattle.std.proofs.lemmas.List.{drop_more}

-- one more space, and those for the bytes that are left
pub one_more_space : (bytes : List ℕ) (i : ℕ) (old new all : List ℕ) → i < length bytes → new ≡ old ++ codes " "
    → old ++ flat_map (λ (byte : ℕ). codes " ") (drop i bytes) ≡ all → new ++ flat_map (λ (byte : ℕ). codes " ") (drop (i + 1) bytes) ≡ all
one_more_space bytes i old new all lt e so_far =
    let rest = flat_map (λ (byte : ℕ). codes " ") (drop (i + 1) bytes) in
    ap (λ t. t ++ rest) e ∙ append_assoc old (codes " ") rest
    ∙ ap (λ t. old ++ t) (sym (ap (flat_map (λ (byte : ℕ). codes " ")) (drop_more bytes i 0 lt))) ∙ so_far
