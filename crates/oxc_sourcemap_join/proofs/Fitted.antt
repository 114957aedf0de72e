-- Contents padded or cut to a number.
use Rattle.std.proofs.Common.{◌≡◌, ℕ, zero, suc, ◌+◌, List, [], ◌∷◌, ◌++◌, length, refl, ap, ◌∙◌}
use Rattle.std.proofs.Common.{arith, Option}
use Rattle.oxc_sourcemap_parts.specs.Record.{Text}
use Rattle.oxc_sourcemap_join.specs.Joined.{fitted}

pub length-fitted : (n : ℕ) (contents : List (Option Text)) → length (fitted n contents) ≡ n
length-fitted zero cs = refl
length-fitted (suc n) [] = ap suc (length-fitted n [])
length-fitted (suc n) (c ∷ cs) = ap suc (length-fitted n cs)

pub fitted-exact : (contents : List (Option Text)) → fitted (length contents) contents ≡ contents
fitted-exact [] = refl
fitted-exact (c ∷ cs) = ap (λ ds. c ∷ ds) (fitted-exact cs)

fitted-after : (cs ds : List (Option Text)) (n : ℕ) → fitted (length cs + n) (cs ++ ds) ≡ cs ++ fitted n ds
fitted-after [] ds n = ap (λ k. fitted k ds) (omega arith)
fitted-after (c ∷ cs) ds n =
    let e : length (c ∷ cs) + n ≡ suc (length cs + n) = omega arith in
    ap (λ k. fitted k (c ∷ (cs ++ ds))) e ∙ ap (λ es. c ∷ es) (fitted-after cs ds n)

-- after as many contents as sources, the contents that are added are fitted by themselves
pub fitted-more : {A : Type 0} (rs ms : List A) (rc mc : List (Option Text)) → length rs ≡ length rc → fitted (length rs + length ms) (rc ++ mc) ≡ rc ++ fitted (length ms) mc
fitted-more rs ms rc mc e = ap (λ n. fitted (n + length ms) (rc ++ mc)) e ∙ fitted-after rc mc (length ms)
