-- Worked examples of compositions, computed by the definitions themselves.
use Rattle.std.specs.Prelude.{◌≡◌, refl, ℕ, List, [], ◌∷◌, codes, Ok, Err, Option, Some, None}
use Rattle.oxc_sourcemap_tokens.specs.declared.errors.error.Error.TheVariants.{LineOrder}
use Rattle.oxc_sourcemap_tokens.specs.declared.errors.error.Error.TheVariants.{SeveralSources}
use Rattle.oxc_sourcemap_tokens.specs.Token.{TokenRecord}
use Rattle.oxc_sourcemap_parts.specs.Record.{Text, MapRecord}
use Rattle.oxc_sourcemap_parts.specs.Views.{empty_record}
use Rattle.oxc_sourcemap_steps.specs.Composed.{composed, composition}

-- a token from its generated line and column, source line and column, source id, name id
abbrev token : ℕ → ℕ → ℕ → ℕ → Option ℕ → Option ℕ → TokenRecord
token dst_line dst_col src_line src_col source_id name_id =
    record { dst_line = dst_line; dst_col = dst_col; src_line = src_line; src_col = src_col; source_id = source_id; name_id = name_id }

-- a map of one source, with these names and tokens
abbrev one_source : List Text → List TokenRecord → MapRecord
one_source names tokens = record empty_record { names = names; sources = codes "m.js" ∷ []; tokens = tokens }

composes-by_the_clamped_lookup : composition (one_source [] (token 0 0 0 2 (Some 0) None ∷ [])) (one_source [] (token 0 5 2 1 (Some 0) None ∷ []))
    ≡ Ok (one_source [] (token 0 0 2 1 (Some 0) None ∷ []))
composes-by_the_clamped_lookup = refl

composes-no_map_of_two_sources : composition (record empty_record { sources = codes "m.js" ∷ codes "n.js" ∷ [] }) empty_record ≡ Err (SeveralSources 2)
composes-no_map_of_two_sources = refl

composes-with_one_in_line_order : composition empty_record (record empty_record { tokens = token 1 0 0 0 None None ∷ token 0 0 0 0 None None ∷ [] }) ≡ Err (LineOrder 1)
composes-with_one_in_line_order = refl

composes-names_of_both :
    composition (one_source (codes "x" ∷ []) (token 0 0 0 0 (Some 0) (Some 0) ∷ token 0 3 0 9 (Some 0) (Some 0) ∷ [])) (one_source (codes "y" ∷ []) (token 0 0 4 4 (Some 0) (Some 0) ∷ token 0 8 5 5 (Some 0) None ∷ []))
    ≡ Ok (one_source (codes "y" ∷ codes "x" ∷ []) (token 0 0 4 4 (Some 0) (Some 0) ∷ token 0 3 5 5 (Some 0) (Some 1) ∷ []))
composes-names_of_both = refl

-- ---- three maps, composed in both groupings
abbrev map_a : MapRecord
map_a = one_source (codes "p" ∷ []) (token 0 0 0 1 (Some 0) (Some 0) ∷ [])

abbrev map_b : MapRecord
map_b = one_source (codes "q" ∷ []) (token 0 0 0 2 (Some 0) None ∷ token 0 5 0 0 (Some 0) (Some 0) ∷ [])

abbrev map_c : MapRecord
map_c = record empty_record { names = codes "r" ∷ []; sources = codes "o.ts" ∷ codes "u.ts" ∷ []; tokens = token 0 0 7 7 (Some 1) None ∷ [] }

composes-from_the_left : composed (composed map_a map_b) map_c ≡ record map_c { names = codes "r" ∷ codes "p" ∷ []; tokens = token 0 0 7 7 (Some 1) (Some 1) ∷ [] }
composes-from_the_left = refl

composes-from_the_right : composed map_a (composed map_b map_c) ≡ record map_c { names = codes "r" ∷ codes "q" ∷ codes "p" ∷ []; tokens = token 0 0 7 7 (Some 1) (Some 2) ∷ [] }
composes-from_the_right = refl

composes-no_name_out_of_range : composed (record map_a { tokens = token 0 0 0 1 (Some 0) (Some 5) ∷ [] }) map_c ≡ record map_c { tokens = token 0 0 7 7 (Some 1) None ∷ [] }
composes-no_name_out_of_range = refl
