-- What a `scopes` text reads as.
use Rattle.std.specs.Prelude.{◌≡◌, ℕ, ◌+◌, ◌||◌, ◌==◌, Bool, List, [], ◌∷◌, length, slice_get, Some}
use Rattle.std.specs.Prelude.{Result, Ok, Err}
use Rattle.std.specs.Prelude.{if◌then◌else◌, is_some}
use Rattle.std.specs.Prelude.{Option, None, codes, true, false}
use Rattle.std.specs.Option.{option_map_or, option_and_then}
use Rattle.std.specs.List.{slice_split}
use Rattle.serde_json.specs.Data.{Data, null, boolean, number, string, array, object}
use Rattle.serde_json.specs.Find.{get, as_array}
use Rattle.serde_json.specs.Events.{items_len}
use Rattle.serde_json.specs.Read.{read}
use Rattle.oxc_sourcemap_scopes.specs.declared.errors.ScopesError.{ScopesError}
use Rattle.oxc_sourcemap_scopes.specs.declared.errors.ScopesError.TheVariants.{NotJson, NotText}
use Rattle.oxc_sourcemap_scopes.specs.declared.errors.ScopesError.TheVariants.{Indexed}
use Rattle.oxc_sourcemap_scopes.specs.declared.errors.ScopesFaultKind.TheVariants.{LeftOpen}
use Rattle.oxc_sourcemap_scopes.specs.declared.scopes.Span.{Span}
use Rattle.oxc_sourcemap_scopes.specs.declared.scopes.ScopeInfo.{ScopeInfo}
use Rattle.oxc_sourcemap_scopes.specs.declared.scopes.RangeInfo.{RangeInfo}
use Rattle.oxc_sourcemap_scopes.specs.declared.scopes.Value.{Value}
use Rattle.oxc_sourcemap_scopes.specs.declared.scopes.ValuePiece.{ValuePiece}
use Rattle.oxc_sourcemap_scopes.specs.Faults.{error_at, ◌>>=◌}
use Rattle.oxc_sourcemap_scopes.specs.Numbers.{numbers_of}
use Rattle.oxc_sourcemap_scopes.specs.Items.{State, nothing_read, item_read, IsDefined}
use Rattle.oxc_sourcemap_scopes.specs.Trees.{AreNested, AreWithin}

-- Scopes: those of all sources, one source after the other, each with its variables, and ranges, each with their values; both in the
-- order of their starts.
pub record ScopesRecord : Type 0 where
  pub sources : ℕ
  pub scopes : List Span
  pub scope_infos : List ScopeInfo
  pub variables : List (List ℕ)
  pub ranges : List Span
  pub range_infos : List RangeInfo
  pub values : List (List Value)
  pub pieces : List (List ValuePiece)

-- Scopes and ranges are nested, each is told of once, and has a list of variables or of values; and definitions lead to scopes.
pub record AreSound (s : ScopesRecord) : Type 0 where
  pub scopes : AreNested s.scopes
  pub ranges : AreNested s.ranges
  pub scopes_within : AreWithin s.scopes
  pub ranges_within : AreWithin s.ranges
  pub scope_infos : length s.scope_infos ≡ length s.scopes
  pub variables : length s.variables ≡ length s.scopes
  pub range_infos : length s.range_infos ≡ length s.ranges
  pub values : length s.values ≡ length s.ranges
  pub pieces : length s.pieces ≡ length s.ranges
  pub definitions : (i : ℕ) → (info : RangeInfo) → slice_get s.range_infos i ≡ Some info → IsDefined (length s.scopes) info

-- `,`, which separates items
abbrev pub is_comma : ℕ → Bool
is_comma byte = byte == 44

-- what these items add to what was read before them, the first of which begins at this byte
abbrev pub items_read : ℕ → ℕ → State → List (List ℕ) → Result State ScopesError
items_read names at s [] = Ok s
items_read names at s (item ∷ more) =
    numbers_of at item >>= λ ns. item_read names at s ns >>= λ next. items_read names (at + length item + 1) next more

-- what was read at the end of a text of so many bytes, where nothing may be open
abbrev pub finished : ℕ → State → Result ScopesRecord ScopesError
finished end s =
    if is_some s.scopes.current || is_some s.ranges.current then Err (error_at LeftOpen end)
    else Ok (record { sources = s.scopes.source; scopes = s.scopes.spans; scope_infos = s.scope_infos; variables = s.variables; ranges = s.ranges.spans; range_infos = s.range_infos; values = s.values; pieces = s.pieces })

-- the items of a text, of which the empty one has none
abbrev pub items_of : List ℕ → List (List ℕ)
items_of [] = []
items_of (byte ∷ bytes) = slice_split is_comma (byte ∷ bytes)

-- the scopes that a text means, where there are so many names, or its first fault
unfoldable pub scopes_of : List ℕ → ℕ → Result ScopesRecord ScopesError
scopes_of text names = items_read names 0 nothing_read (items_of text) >>= finished (length text)

-- the text of the scopes of a map, by that member of its JSON value; none, or null, is the empty text
abbrev pub scopes_text : Option Data → Result (List ℕ) ScopesError
scopes_text None = Ok []
scopes_text (Some null) = Ok []
scopes_text (Some (boolean b)) = Err NotText
scopes_text (Some (number n)) = Err NotText
scopes_text (Some (string s)) = Ok s
scopes_text (Some (array ds)) = Err NotText
scopes_text (Some (object ms)) = Err NotText

-- how many names a map has, by its JSON value
abbrev pub name_count : Data → ℕ
name_count d = option_map_or items_len (option_and_then as_array (get (codes "names") d)) 0

-- whether a JSON value is an indexed map: it has a member `sections` that is not null
abbrev pub has_sections : Option Data → Bool
has_sections None = false
has_sections (Some null) = false
has_sections (Some (boolean b)) = true
has_sections (Some (number n)) = true
has_sections (Some (string s)) = true
has_sections (Some (array ds)) = true
has_sections (Some (object ms)) = true

-- the scopes of a map, by its JSON value; those of an indexed map stand in its sections, and are not read
abbrev pub scopes_of_value : Data → Result ScopesRecord ScopesError
scopes_of_value d =
    if has_sections (get (codes "sections") d) then Err Indexed
    else scopes_text (get (codes "scopes") d) >>= λ text. scopes_of text (name_count d)

-- the scopes of a map, by its JSON text
abbrev pub scopes_of_json : Option Data → Result ScopesRecord ScopesError
scopes_of_json None = Err NotJson
scopes_of_json (Some d) = scopes_of_value d

-- The scopes of a map, by its JSON text, or what is wrong with it, the first of these: it is not JSON, it is an indexed map, its member
-- `scopes` is no text, or that text has a fault.
unfoldable pub read_scopes : List ℕ → Result ScopesRecord ScopesError
read_scopes json = scopes_of_json (read json)
