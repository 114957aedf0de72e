-- Worked examples of remappings, computed by the definitions themselves.
use Rattle.std.specs.Prelude.{◌≡◌, refl, ℕ, [], ◌∷◌, codes, Ok, Err, Option, Some, None}
use Rattle.oxc_sourcemap_tokens.specs.declared.errors.error.Error.TheVariants.{InputLineOrder}
use Rattle.oxc_sourcemap_tokens.specs.Token.{TokenRecord}
use Rattle.oxc_sourcemap_parts.specs.Record.{MapRecord}
use Rattle.oxc_sourcemap_parts.specs.Views.{empty_record}
use Rattle.oxc_sourcemap_steps.specs.Remapped.{remapping}

-- a token from its generated line and column, source line and column, source id, name id
abbrev token : ℕ → ℕ → ℕ → ℕ → Option ℕ → Option ℕ → TokenRecord
token dst_line dst_col src_line src_col source_id name_id =
    record { dst_line = dst_line; dst_col = dst_col; src_line = src_line; src_col = src_col; source_id = source_id; name_id = name_id }

-- an unmapped token
abbrev unmapped : ℕ → ℕ → TokenRecord
unmapped dst_line dst_col = token dst_line dst_col 0 0 None None

-- a bundle of two files, one of which it lists twice
abbrev bundle : MapRecord
bundle = record empty_record {
  file = Some (codes "out.js");
  debug_id = Some (codes "id");
  source_root = Some (codes "/src");
  names = codes "p" ∷ codes "q" ∷ [];
  sources = codes "a.js" ∷ codes "b.js" ∷ codes "a.js" ∷ [];
  source_contents = None ∷ Some (codes "//b") ∷ [];
  ignore_list = Some (1 ∷ []);
  tokens = token 0 0 0 1 (Some 0) (Some 0) ∷ token 0 3 7 7 (Some 1) (Some 1) ∷ token 0 5 9 9 (Some 0) None
      ∷ token 0 9 0 6 (Some 2) None ∷ token 1 0 0 0 (Some 7) (Some 0) ∷ unmapped 1 2
      ∷ token 1 4 1 0 (Some 0) (Some 9) ∷ token 1 6 2 0 (Some 0) (Some 1) ∷ [];
}

-- the map of a.js, whose third token has a source id out of range
abbrev a_map : MapRecord
a_map = record empty_record {
  names = codes "x" ∷ codes "p" ∷ [];
  sources = codes "a.ts" ∷ codes "c.ts" ∷ [];
  source_contents = Some (codes "//a") ∷ [];
  ignore_list = Some (1 ∷ 1 ∷ 7 ∷ []);
  tokens = token 0 2 4 4 (Some 1) None ∷ token 0 5 5 5 (Some 0) (Some 0) ∷ token 1 0 6 6 (Some 1) (Some 5)
      ∷ token 2 0 3 3 (Some 2) (Some 0) ∷ [];
}

-- a map whose tokens go back in lines
abbrev backward_map : MapRecord
backward_map = record empty_record { tokens = unmapped 1 0 ∷ unmapped 0 0 ∷ [] }

remaps-through_the_first_input_for_a_path :
    remapping bundle ((codes "a.js", a_map) ∷ (codes "z.js", empty_record) ∷ (codes "a.js", empty_record) ∷ [])
    ≡ Ok (record empty_record {
      file = Some (codes "out.js");
      debug_id = Some (codes "id");
      names = codes "p" ∷ codes "q" ∷ codes "x" ∷ [];
      sources = codes "a.ts" ∷ codes "c.ts" ∷ codes "b.js" ∷ codes "a.ts" ∷ codes "c.ts" ∷ [];
      source_contents = Some (codes "//a") ∷ None ∷ Some (codes "//b") ∷ Some (codes "//a") ∷ None ∷ [];
      ignore_list = Some (1 ∷ 2 ∷ 4 ∷ []);
      tokens = token 0 0 4 4 (Some 1) (Some 0) ∷ token 0 3 7 7 (Some 2) (Some 1) ∷ unmapped 0 5
          ∷ token 0 9 5 5 (Some 3) (Some 2) ∷ unmapped 1 0 ∷ unmapped 1 2 ∷ token 1 4 6 6 (Some 1) None ∷ unmapped 1 6 ∷ [];
    })
remaps-through_the_first_input_for_a_path = refl

remaps-with_no_inputs :
    remapping bundle [] ≡ Ok (record bundle {
      source_root = None;
      source_contents = None ∷ Some (codes "//b") ∷ None ∷ [];
      tokens = token 0 0 0 1 (Some 0) (Some 0) ∷ token 0 3 7 7 (Some 1) (Some 1) ∷ token 0 5 9 9 (Some 0) None
          ∷ token 0 9 0 6 (Some 2) None ∷ unmapped 1 0 ∷ unmapped 1 2 ∷ token 1 4 1 0 (Some 0) None ∷ token 1 6 2 0 (Some 0) (Some 1) ∷ [];
    })
remaps-with_no_inputs = refl

remaps-to_no_ignore_list_without_entries : remapping (record empty_record { ignore_list = Some [] }) [] ≡ Ok empty_record
remaps-to_no_ignore_list_without_entries = refl

remaps-with_inputs_in_line_order :
    remapping bundle ((codes "a.js", a_map) ∷ (codes "z.js", backward_map) ∷ (codes "b.js", backward_map) ∷ []) ≡ Err (InputLineOrder 1)
remaps-with_inputs_in_line_order = refl
