-- The JSON text in the three parts in which it is written.
use Rattle.std.specs.Prelude.{ℕ, List, ◌++◌, codes, decimal, Option}
use Rattle.oxc_sourcemap_json.specs.JsonString.{json_string}
use Rattle.oxc_sourcemap_parts.specs.Record.{Text}
use Rattle.oxc_sourcemap_json.specs.JsonText.{json_list, content_text, field_text, optional_field}

-- the beginning of the object: the version, the file and the source root
unfoldable pub head_text : Option Text → Option Text → Text
head_text file source_root =
    codes "{\"version\":3"
    ++ (optional_field (codes "file") json_string file ++ optional_field (codes "sourceRoot") json_string source_root)

-- the lists of names, sources and contents, and the ignore list
unfoldable pub lists_text : List Text → List Text → Option (List (Option Text)) → Option (List ℕ) → Text
lists_text names sources contents ignore_list =
    field_text (codes "names") (json_list json_string names)
    ++ (field_text (codes "sources") (json_list json_string sources)
    ++ (optional_field (codes "sourcesContent") (json_list content_text) contents
    ++ optional_field (codes "ignoreList") (json_list decimal) ignore_list))

-- the mappings, the debug id, and the end of the object
unfoldable pub tail_text : Text → Option Text → Text
tail_text mappings debug_id =
    field_text (codes "mappings") (json_string mappings)
    ++ (optional_field (codes "debugId") json_string debug_id ++ codes "}")
