-- Composition: a map from generated to intermediate code, and one from intermediate to original code, made one map.
use Rattle.std.specs.Prelude.{◌≡◌, ℕ, Bool, true, false, List, [], map, length, Option, Some, None}
use Rattle.std.specs.Prelude.{option_map, Result, Ok, Err, IfSome, if◌then◌else◌, nat_lt}
use Rattle.std.specs.List.{filter_map, list_all, Contains, AllByRecursion}
use Rattle.std.specs.Option.{option_and_then, option_or}
use Rattle.oxc_sourcemap_tokens.specs.declared.errors.error.Error.{Error}
use Rattle.oxc_sourcemap_tokens.specs.declared.errors.error.Error.TheVariants.{SeveralSources}
use Rattle.oxc_sourcemap_tokens.specs.declared.errors.error.Error.TheVariants.{LineOrder, TooLarge}
use Rattle.oxc_sourcemap_tokens.specs.Errors.{unless}
use Rattle.oxc_sourcemap_tokens.specs.Token.{TokenRecord, is_mapped}
use Rattle.oxc_sourcemap_tokens.specs.LineOrder.{first_out_of_order}
use Rattle.oxc_sourcemap_parts.specs.Record.{Text, MapRecord}
use Rattle.oxc_sourcemap_parts.specs.Texts.{index_of, with_texts}
use Rattle.oxc_sourcemap_parts.specs.Sorted.{token_line, token_column}
use Rattle.oxc_sourcemap_parts.specs.DecodedMap.{name_of}
use Rattle.oxc_sourcemap_lookup.specs.Lookup.{on_line, clamped_at, no_column_goes_back}

-- A token of the first map, and the mapped token of the second one that it leads to. Where it leads to none, it becomes
-- unmapped.
pub record Target : Type 0 where
  pub token : TokenRecord
  pub found : Option TokenRecord

abbrev pub target_of : TokenRecord → Option TokenRecord → Target
target_of t found = record { token = t; found = found }

-- the token, if it is mapped
abbrev pub if_mapped : TokenRecord → Option TokenRecord
if_mapped t = if is_mapped t then Some t else None

-- What a mapped token leads to: of the tokens on the line of its source position the one of the clamped lookup, if that is
-- mapped.
abbrev pub found_on : List TokenRecord → TokenRecord → Option TokenRecord
found_on line t = option_and_then (λ _. option_and_then if_mapped (clamped_at token_column line t.src_col)) t.source_id

-- the tokens of a second map on the line of a token's source position
abbrev pub line_of : List TokenRecord → TokenRecord → List TokenRecord
line_of bs t = on_line token_line t.src_line bs

abbrev pub target_in : List TokenRecord → TokenRecord → Target
target_in bs t = target_of t (found_on (line_of bs t) t)

abbrev pub targets : MapRecord → MapRecord → List Target
targets a b = map (target_in b.tokens) a.tokens

-- The name that a token passes on to the one that it leads to: none if that has a name id of its own.
abbrev pub kept_name : List Text → TokenRecord → Option ℕ → Option Text
kept_name names t (Some id) = None
kept_name names t None = name_of names t

-- the name that is inherited from the first map, whose names these are
abbrev pub inherited_name : List Text → Target → Option Text
inherited_name names l = option_and_then (λ u. kept_name names l.token u.name_id) l.found

-- the names of the second map, and after them those inherited from the first that are new, in the order of the tokens
abbrev pub composed_names : List Text → List Text → List Target → List Text
composed_names first second ls = with_texts second (filter_map (inherited_name first) ls)

-- the id of the name that is inherited from the first map
abbrev pub inherited_id : List Text → List Text → Target → Option ℕ
inherited_id first names l = option_and_then (λ name. index_of name names) (inherited_name first l)

-- A token keeps its generated position. It gets the source, the source position and the name of the token that it leads to;
-- if that has no name, it has this name id.
abbrev pub token_through : TokenRecord → Option ℕ → Option TokenRecord → TokenRecord
token_through t name_id None =
    record { dst_line = t.dst_line; dst_col = t.dst_col; src_line = 0; src_col = 0; source_id = None; name_id = None }
token_through t name_id (Some u) = record u { dst_line = t.dst_line; dst_col = t.dst_col; name_id = option_or u.name_id name_id }

abbrev pub composed_token : List Text → List Text → Target → TokenRecord
composed_token first names l = token_through l.token (inherited_id first names l) l.found

-- the map that these targets make
abbrev pub composed_by : List Target → MapRecord → MapRecord → MapRecord
composed_by ls a b = record {
  file = a.file;
  names = composed_names a.names b.names ls;
  source_root = b.source_root;
  sources = b.sources;
  source_contents = b.source_contents;
  tokens = map (composed_token a.names (composed_names a.names b.names ls)) ls;
  token_chunks = None;
  ignore_list = b.ignore_list;
  debug_id = a.debug_id;
}

-- the composed record
abbrev pub composed : MapRecord → MapRecord → MapRecord
composed a b = composed_by (targets a b) a b

-- whether a token can have this id: none, or one up to 4294967294
abbrev pub may_be_id : Option ℕ → Bool
may_be_id None = true
may_be_id (Some id) = nat_lt id 4294967295

-- whether tokens can have the ids of all names inherited from the first map
abbrev pub are_ids : List Text → List Text → List Target → Bool
are_ids first names ls = list_all (λ l. may_be_id (inherited_id first names l)) ls

-- The fault of two maps to compose: the first has several sources, or the tokens of the second go back in lines.
abbrev pub composition_fault : MapRecord → MapRecord → Option Error
composition_fault a b =
    if nat_lt 1 (length a.sources) then Some (SeveralSources (length a.sources))
    else option_map LineOrder (first_out_of_order b.tokens)

-- The map that these targets make; `TooLarge` where the id of an inherited name would be above 4294967294.
abbrev pub composition_by : List Target → MapRecord → MapRecord → Result MapRecord Error
composition_by ls a b = unless (composition_fault a b)
    (if are_ids a.names (composed_names a.names b.names ls) ls then Ok (composed_by ls a b) else Err TooLarge)

-- The composition of two maps: the composed map, or the first fault.
abbrev pub composition : MapRecord → MapRecord → Result MapRecord Error
composition a b = composition_by (targets a b) a b

-- What the clamped lookup of a column may find on a line: exactly the token of `clamped_at` if no column goes back. If one
-- does, it is open which token of the line. It finds nothing only on an empty line.
pub record MayFind (line : List TokenRecord) (col : ℕ) (found : Option TokenRecord) : Type 0 where
  pub exact : no_column_goes_back token_column line ≡ true → found ≡ clamped_at token_column line col
  pub among : IfSome found (Contains line)
  pub nothing : found ≡ None → line ≡ []

-- Where a token may lead, if this is the line of its source position in the second map. An unmapped token leads nowhere. A
-- mapped one leads to what the clamped lookup of its source column may find there, if that is mapped, else nowhere.
pub record IsTarget (line : List TokenRecord) (l : Target) : Type 0 where
  pub unmapped : is_mapped l.token ≡ false → l.found ≡ None
  pub mapped : is_mapped l.token ≡ true
      → (found : Option TokenRecord) × MayFind line l.token.src_col found × (l.found ≡ option_and_then if_mapped found)

-- targets of the tokens of a first map, in order, among the tokens of a second
abbrev pub AreTargets : List TokenRecord → List TokenRecord → List Target → Type 0
AreTargets ts bs ls = (map (λ l. l.token) ls ≡ ts) × AllByRecursion (λ l. IsTarget (line_of bs l.token) l) ls

-- a result of the composition, for some targets; there are several only if columns go back on a line of the second map
abbrev pub SomeComposition : MapRecord → MapRecord → Result MapRecord Error → Type 0
SomeComposition a b answer = (ls : List Target) × AreTargets a.tokens b.tokens ls × (composition_by ls a b ≡ answer)

-- on no line do columns go back
abbrev pub NoColumnGoesBack : List TokenRecord → Type 0
NoColumnGoesBack tokens = (n : ℕ) → no_column_goes_back token_column (on_line token_line n tokens) ≡ true
