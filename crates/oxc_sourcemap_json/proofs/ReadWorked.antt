-- Worked examples of what texts mean, computed by the definitions themselves.
use Rattle.std.specs.Prelude.{◌≡◌, refl, ℕ, List, [], ◌∷◌, codes, Ok, Err, Option, Some, None}
use Rattle.oxc_sourcemap_tokens.specs.declared.errors.error.Error.TheVariants.{BadJson}
use Rattle.oxc_sourcemap_tokens.specs.declared.errors.error.Error.TheVariants.{BadSourceReference}
use Rattle.oxc_sourcemap_tokens.specs.declared.errors.error.JsonFault.TheVariants.{Version}
use Rattle.oxc_sourcemap_json.specs.JsonRecord.{JsonRecord}
use Rattle.oxc_sourcemap_mappings.specs.Reading.{reading, text_results, line_results}
use Rattle.oxc_sourcemap_parts.specs.Views.{empty_record}
use Rattle.oxc_sourcemap_json.specs.Decoded.{decoded}

-- the fields of a JSON source map with two sources and no tokens
abbrev two_sources : ℕ → Option (List ℕ) → JsonRecord
two_sources version ignore_list = record {
  version = version;
  file = None;
  mappings = [];
  source_root = None;
  sources = codes "a.js" ∷ codes "b.js" ∷ [];
  sources_content = None;
  names = [];
  debug_id = None;
  ignore_list = ignore_list;
}

reads-an_ignore_list : decoded (two_sources 3 (Some (0 ∷ []))) ≡ Ok (record empty_record { sources = codes "a.js" ∷ codes "b.js" ∷ []; ignore_list = Some (0 ∷ []) })
unfolding reading text_results line_results
reads-an_ignore_list = refl

reads-no_entry_past_the_sources : decoded (two_sources 3 (Some (1 ∷ 3 ∷ 4 ∷ []))) ≡ Err (BadSourceReference 3)
reads-no_entry_past_the_sources = refl

reads-no_other_version : decoded (two_sources 2 (Some (3 ∷ []))) ≡ Err (BadJson (Version 2))
reads-no_other_version = refl
