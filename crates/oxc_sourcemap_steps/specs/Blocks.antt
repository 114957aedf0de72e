-- The sources of a remapped map: for each source of the first map a block, the source itself or all sources of its input. ReadForm of
-- decoded maps, so that it is one definition for maps and for what they mean.
use Rattle.std.specs.Prelude.{ℕ, ◌+◌, Bool, false, List, [], ◌∷◌, Option, Some, None, if◌then◌else◌}
use Rattle.std.specs.Prelude.{◌==◌, map, length}
use Rattle.std.specs.List.{flat_map, list_any, range_with_len}
use Rattle.oxc_sourcemap_parts.specs.DecodedMap.{DecodedSource, DecodedMap}
use Rattle.oxc_sourcemap_parts.specs.Record.{Text, MapRecord}
use Rattle.oxc_sourcemap_steps.specs.Inputs.{input_for}

-- what stands for a source with this input, or with none
abbrev pub sources_by : Option DecodedMap → DecodedSource → List DecodedSource
sources_by None source = source ∷ []
sources_by (Some b) source = b.sources

abbrev pub sources_for : List (Text × DecodedMap) → DecodedSource → List DecodedSource
sources_for inputs source = sources_by (input_for inputs source.path) source

-- what stands for these sources, one after the other
abbrev pub remapped_sources : List (Text × DecodedMap) → List DecodedSource → List DecodedSource
remapped_sources inputs sources = flat_map (sources_for inputs) sources

-- whether an ignore list has an index
abbrev pub is_listed : Option (List ℕ) → ℕ → Bool
is_listed None i = false
is_listed (Some ids) i = list_any (λ id. id == i) ids

-- for each index below a number, whether an ignore list has it
abbrev pub listed_flags : Option (List ℕ) → ℕ → List Bool
listed_flags ignore_list n = map (is_listed ignore_list) (range_with_len 0 n)

-- whether each source of a map is ignored
abbrev pub flags_of : MapRecord → List Bool
flags_of a = listed_flags a.ignore_list (length a.sources)

-- Each source with whether it is ignored; the first one has this index.
abbrev pub marked_from : ℕ → List DecodedSource → Option (List ℕ) → List (DecodedSource × Bool)
marked_from i [] ignore_list = []
marked_from i (source ∷ sources) ignore_list = (source, is_listed ignore_list i) ∷ marked_from (i + 1) sources ignore_list

abbrev pub marked_sources : DecodedMap → List (DecodedSource × Bool)
marked_sources a = marked_from 0 a.sources a.ignore_list

-- what stands for a marked source: one that stays is ignored if it was, one of an input if the input ignores it
abbrev pub marked_by : Option DecodedMap → DecodedSource × Bool → List (DecodedSource × Bool)
marked_by None source = source ∷ []
marked_by (Some b) source = marked_sources b

abbrev pub marked_for : List (Text × DecodedMap) → DecodedSource × Bool → List (DecodedSource × Bool)
marked_for inputs source = marked_by (input_for inputs source.0.path) source

-- the indices of those that are ignored, ascending
abbrev pub ignored_from : ℕ → List (DecodedSource × Bool) → List ℕ
ignored_from i [] = []
ignored_from i (source ∷ sources) = if source.1 then i ∷ ignored_from (i + 1) sources else ignored_from (i + 1) sources

-- an ignore list; none without entries
abbrev pub unless_empty : List ℕ → Option (List ℕ)
unless_empty [] = None
unless_empty (id ∷ ids) = Some (id ∷ ids)

abbrev pub ignored_ids : List (DecodedSource × Bool) → Option (List ℕ)
ignored_ids sources = unless_empty (ignored_from 0 sources)

-- the ignore list of a remapped map
abbrev pub remapped_ignore_list : List (Text × DecodedMap) → DecodedMap → Option (List ℕ)
remapped_ignore_list inputs a = ignored_ids (flat_map (marked_for inputs) (marked_sources a))
