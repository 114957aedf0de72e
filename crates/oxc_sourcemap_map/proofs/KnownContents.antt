-- Contents that are known, cut into lines.
use Rattle.std.proofs.Common.{◌≡◌, ℕ, List, [], ◌∷◌, map, option_map, Option, Some, None, Vec}
use Rattle.std.proofs.Common.{Global, refl, sym, ap, ◌∙◌}
use Rattle.oxc_sourcemap_parts.specs.Record.{Text}
use Rattle.oxc_sourcemap_text.specs.TextLines.{units_of, lines_of, text_lines}

known-twice : {A B C : Type 0} (f : A → B) (g : B → C) (xs : List (Option A)) → map (option_map g) (map (option_map f) xs) ≡ map (option_map (λ x. g (f x))) xs
known-twice f g [] = refl
known-twice f g (None ∷ xs) = ap (λ ys. None ∷ ys) (known-twice f g xs)
known-twice f g (Some x ∷ xs) = ap (λ ys. Some (g (f x)) ∷ ys) (known-twice f g xs)

-- contents whose units were taken first, and then cut into lines
pub cut-known : (units : List (Option (Vec ℕ Global))) (contents : List (Option Text)) → map (option_map (λ v. v.items)) units ≡ map (option_map units_of) contents
    → map (option_map (λ v. lines_of v.items)) units ≡ map (option_map text_lines) contents
cut-known units contents e = sym (known-twice (λ v. v.items) lines_of units) ∙ ap (map (option_map lines_of)) e ∙ known-twice units_of lines_of contents
