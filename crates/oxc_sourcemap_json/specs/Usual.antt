-- What is read of a JSON text token by token: values at the front of tokens, and members by their keys.
use Rattle.std.specs.Prelude.{ℕ, ◌≡◌, ◌<◌, IfSome, Vec, List, [], ◌∷◌, codes, length, map}
use Rattle.std.specs.Prelude.{option_map, string_bytes, Option, Some, None, Ok, if◌then◌else◌}
use Rattle.std.specs.Prelude.{String}
use Rattle.std.specs.List.{All}
use Rattle.std.specs.Str.{bytes_eq}
use Rattle.std.specs.declared.alloc.Global.{Global}
use Rattle.json.specs.Token.{Token}
use Rattle.json.specs.Json.{items, members, value}
use Rattle.serde_json.specs.Data.{Data, null, number, unsigned, string, array, Items, no_items}
use Rattle.serde_json.specs.Data.{item, Members, no_members}
use Rattle.serde_json.specs.Find.{get, get_member}
use Rattle.serde_json.specs.Read.{of_json, of_items, of_members, converted, max_depth, read}
use Rattle.oxc_sourcemap_parts.specs.Views.{texts_of, contents_of}
use Rattle.oxc_sourcemap_json.specs.JsonRecord.{JsonRecord}
use Rattle.oxc_sourcemap_json.specs.Shape.{shape}
use Rattle.oxc_sourcemap_json.specs.ShapeSpots.{ignored_field}
use Rattle.oxc_sourcemap_tokens.specs.declared.errors.error.Field.{Field}
use Rattle.oxc_sourcemap_json.specs.declared.object.usual.UsualMembers.{UsualMembers}

-- These tokens begin with this value, a member of the object that a text is, and go on with those.
abbrev pub Begins : List Token → Data → List Token → Type 0
Begins ts d rest = converted of_json (value 126 ts) ≡ Some (d, rest)

-- The same at any depth.
abbrev pub BeginsAny : List Token → Data → List Token → Type 0
BeginsAny ts d rest = (depth : ℕ) → converted of_json (value depth ts) ≡ Some (d, rest)

-- These tokens are this value, which is all of a text.
abbrev pub IsAll : List Token → Data → Type 0
IsAll ts d = converted of_json (value max_depth ts) ≡ Some (d, [])

-- values as the items of a list
abbrev pub items_of : List Data → Items
items_of [] = no_items
items_of (d ∷ ds) = item d (items_of ds)

-- These tokens, behind the bracket of such a member, begin with these items and the bracket after them.
abbrev pub BeginItems : List Token → List Data → List Token → Type 0
BeginItems ts ds rest = converted of_items (items (value 125) (length ts) ts) ≡ Some (items_of ds, rest)

-- These tokens, behind the brace of the object that a text is, begin with these members and the brace after them.
abbrev pub BeginMembers : List Token → Members → List Token → Type 0
BeginMembers ts ms rest = converted (λ found. of_members found no_members) (members (value 126) (length ts) ts) ≡ Some (ms, rest)

-- the value of a text
abbrev pub text_data : String Global → Data
text_data text = string (string_bytes text)

-- the value of a content: null where it is not known
abbrev pub content_data : Option (List ℕ) → Data
content_data None = null
content_data (Some text) = string text

-- the value of a list of texts, and of one of contents
abbrev pub texts_data : List (List ℕ) → Data
texts_data texts = array (items_of (map string texts))

abbrev pub contents_data : List (Option (List ℕ)) → Data
contents_data contents = array (items_of (map content_data contents))

-- the value of a list of ids
abbrev pub ids_data : List ℕ → Data
ids_data ids = array (items_of (map (λ id. number (unsigned id)) ids))

-- Ids are at most 4294967295, if there is a list of them.
abbrev pub AreIds : Option (Vec ℕ Global) → Type 0
AreIds list = IfSome list (λ ids. All (λ id. id < 4294967296) ids.items)

-- values by their keys
abbrev pub Held : Type 0
Held = List (List ℕ × Option Data)

-- the value that is held for a key
abbrev pub held : List ℕ → Held → Option Data
held key [] = None
held key (e ∷ es) = if bytes_eq key e.0 then e.1 else held key es

-- what is held, with this value for a key
abbrev pub with_held : List ℕ → Data → Held → Held
with_held key d [] = (key, Some d) ∷ []
with_held key d (e ∷ es) = if bytes_eq key e.0 then (key, Some d) ∷ es else e ∷ with_held key d es

-- for each key of a usual map its value, or none
abbrev pub members_held : UsualMembers → Held
members_held m =
    (codes "version", (if m.has_version then Some (number (unsigned 3)) else None))
    ∷ (codes "file", option_map text_data m.file)
    ∷ (codes "mappings", option_map (λ text. string text.now) m.mappings)
    ∷ (codes "sourceRoot", option_map text_data m.source_root)
    ∷ (codes "sources", option_map (λ texts. texts_data (texts_of texts)) m.sources)
    ∷ (codes "sourcesContent", option_map (λ contents. contents_data (contents_of contents)) m.source_contents)
    ∷ (codes "names", option_map (λ texts. texts_data (texts_of texts)) m.names)
    ∷ (codes "debugId", option_map text_data m.debug_id)
    ∷ (codes "ignoreList", option_map (λ ids. ids_data ids.items) m.ignore_list)
    ∷ (codes "x_google_ignoreList", option_map (λ ids. ids_data ids.items) m.older_ignore_list) ∷ []

-- The ignore lists that were read are lists of ids.
abbrev pub HaveIds : UsualMembers → Type 0
HaveIds m = AreIds m.ignore_list × AreIds m.older_ignore_list

-- An object has exactly the members that were read.
abbrev pub AreHeld : UsualMembers → Members → Type 0
AreHeld m ms = (key : List ℕ) → get_member key ms ≡ held key (members_held m)

-- A text reads as a map by itself, without the member `sections`, with these fields, and with this member as its ignore list, if it has one.
abbrev pub IsJsonOf : List ℕ → JsonRecord → Field → Type 0
IsJsonOf text fields ignored =
    (d : Data) × (read text ≡ Some d) × (get (codes "sections") d ≡ None) × (shape d ≡ Ok fields) × (ignored_field d ≡ ignored)
