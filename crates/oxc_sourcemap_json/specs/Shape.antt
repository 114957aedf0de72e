-- The shape of a source map as a JSON value: its fields, or the first fault in their order (ECMA-426, "Source map format").
use Rattle.std.specs.Prelude.{ℕ, List, [], ◌∷◌, codes, Option, Some, None, Result, Ok, Err}
use Rattle.std.specs.Prelude.{if◌then◌else◌, nat_lt, ◌==◌}
use Rattle.std.specs.Option.{option_and_then}
use Rattle.serde_json.specs.Data.{Data, null, boolean, number, string, array, object, Items}
use Rattle.serde_json.specs.Data.{no_items, item}
use Rattle.serde_json.specs.Find.{get, as_number, as_u64, as_str, as_array, as_object}
use Rattle.oxc_sourcemap_tokens.specs.declared.errors.error.Error.{Error}
use Rattle.oxc_sourcemap_tokens.specs.declared.errors.error.Error.TheVariants.{BadJson}
use Rattle.oxc_sourcemap_tokens.specs.declared.errors.error.JsonFault.TheVariants.{Shape, Version}
use Rattle.oxc_sourcemap_tokens.specs.declared.errors.error.Field.{Field}
use Rattle.oxc_sourcemap_tokens.specs.declared.errors.error.Field.TheVariants.{Object}
use Rattle.oxc_sourcemap_tokens.specs.declared.errors.error.Field.TheVariants.{Version as VersionField}
use Rattle.oxc_sourcemap_tokens.specs.declared.errors.error.Field.TheVariants.{File, Mappings}
use Rattle.oxc_sourcemap_tokens.specs.declared.errors.error.Field.TheVariants.{SourceRoot, Sources}
use Rattle.oxc_sourcemap_tokens.specs.declared.errors.error.Field.TheVariants.{SourcesContent}
use Rattle.oxc_sourcemap_tokens.specs.declared.errors.error.Field.TheVariants.{Names, DebugId}
use Rattle.oxc_sourcemap_tokens.specs.declared.errors.error.Field.TheVariants.{IgnoreList}
use Rattle.oxc_sourcemap_tokens.specs.declared.errors.error.Field.TheVariants.{GoogleIgnoreList}
use Rattle.oxc_sourcemap_json.specs.JsonRecord.{JsonRecord}

-- the second step, if the first gave a value; else the fault of the first
infixl 10 ◌>>=◌
abbrev pub ◌>>=◌ : {A B : Type 0} → Result A Error → (A → Result B Error) → Result B Error
(Ok x) >>= next = next x
(Err fault) >>= next = Err fault

-- the value, or the fault of this field, which is missing or has the wrong type
abbrev pub or_misshapen : {A : Type 0} → Field → Option A → Result A Error
or_misshapen field (Some x) = Ok x
or_misshapen field None = Err (BadJson (Shape field))

-- a member that is there and is not null
abbrev pub present : Option Data → Option Data
present None = None
present (Some null) = None
present (Some (boolean b)) = Some (boolean b)
present (Some (number n)) = Some (number n)
present (Some (string s)) = Some (string s)
present (Some (array ds)) = Some (array ds)
present (Some (object ms)) = Some (object ms)

-- what is read of a member, and none if there is no member
abbrev pub optional : {A : Type 0} → (Data → Result A Error) → Option Data → Result (Option A) Error
optional read None = Ok None
optional read (Some d) = read d >>= (λ x. Ok (Some x))

-- an item before the others, if it and they can be read
abbrev pub onto_read : {A : Type 0} → Option A → Option (List A) → Option (List A)
onto_read None rest = None
onto_read (Some x) None = None
onto_read (Some x) (Some rest) = Some (x ∷ rest)

-- all items, if each can be read
abbrev pub all_items : {A : Type 0} → (Data → Option A) → Items → Option (List A)
all_items read no_items = Some []
all_items read (item d ds) = onto_read (read d) (all_items read ds)

-- a list whose items can all be read
abbrev pub as_list : {A : Type 0} → (Data → Option A) → Data → Option (List A)
as_list read d = option_and_then (all_items read) (as_array d)

-- a content: a string, or null if it is not known
abbrev pub as_content : Data → Option (Option (List ℕ))
as_content null = Some None
as_content (boolean b) = None
as_content (number n) = None
as_content (string s) = Some (Some s)
as_content (array ds) = None
as_content (object ms) = None

-- a number that is at most 4294967295
abbrev pub if_id : Option ℕ → Option ℕ
if_id None = None
if_id (Some n) = if nat_lt n 4294967296 then Some n else None

-- a whole number of 0 to 4294967295
abbrev pub as_id : Data → Option ℕ
as_id d = if_id (option_and_then as_u64 (as_number d))

-- the string of this field, or its fault
abbrev pub text_in : Field → Data → Result (List ℕ) Error
text_in field d = or_misshapen field (as_str d)

-- the list of strings of this field, or its fault
abbrev pub texts_in : Field → Data → Result (List (List ℕ)) Error
texts_in field d = or_misshapen field (as_list as_str d)

-- the list of contents of this field, or its fault
abbrev pub contents_in : Field → Data → Result (List (Option (List ℕ))) Error
contents_in field d = or_misshapen field (as_list as_content d)

-- the list of whole numbers of this field, or its fault
abbrev pub ids_in : Field → Data → Result (List ℕ) Error
ids_in field d = or_misshapen field (as_list as_id d)

-- a member that must be there
abbrev pub required : {A : Type 0} → Field → (Data → Result A Error) → Option Data → Result A Error
required field read member = or_misshapen field member >>= read

-- 3, and no other version
abbrev pub version_three : ℕ → Result ℕ Error
version_three n = if n == 3 then Ok n else Err (BadJson (Version n))

-- the number of a version, which must be 3
abbrev pub version_in : Data → Result ℕ Error
version_in d = or_misshapen VersionField (as_id d) >>= version_three

-- the version of an object: a member that must be there
abbrev pub version_of : Option Data → Result ℕ Error
version_of member = required VersionField version_in member

-- the list of names: a missing one is empty, and null is misshapen
abbrev pub names_of : Option Data → Result (List (List ℕ)) Error
names_of None = Ok []
names_of (Some d) = texts_in Names d

-- the ignore list; if it is missing or null, the one of the older key
abbrev pub ignore_list_of : Option Data → Option Data → Result (Option (List ℕ)) Error
ignore_list_of (Some d) older = ids_in IgnoreList d >>= (λ ids. Ok (Some ids))
ignore_list_of None older = optional (ids_in GoogleIgnoreList) older

-- The file by itself, after what is checked before it: that the value is an object, and that its version is 3.
abbrev pub file_of : Data → Result (Option (List ℕ)) Error
file_of d = do
  members ← or_misshapen Object (as_object d)
  version ← version_of (get (codes "version") d)
  optional (text_in File) (present (get (codes "file") d))

-- the fields of a JSON value, or its first fault
unfoldable pub shape : Data → Result JsonRecord Error
shape d = do
  members ← or_misshapen Object (as_object d)
  version ← version_of (get (codes "version") d)
  file ← optional (text_in File) (present (get (codes "file") d))
  mappings ← required Mappings (text_in Mappings) (get (codes "mappings") d)
  source_root ← optional (text_in SourceRoot) (present (get (codes "sourceRoot") d))
  sources ← required Sources (texts_in Sources) (get (codes "sources") d)
  contents ← optional (contents_in SourcesContent) (present (get (codes "sourcesContent") d))
  names ← names_of (get (codes "names") d)
  debug_id ← optional (text_in DebugId) (present (get (codes "debugId") d))
  ignore_list ← ignore_list_of (present (get (codes "ignoreList") d)) (present (get (codes "x_google_ignoreList") d))
  Ok (record {
    version = version;
    file = file;
    mappings = mappings;
    source_root = source_root;
    sources = sources;
    sources_content = contents;
    names = names;
    debug_id = debug_id;
    ignore_list = ignore_list;
  })
