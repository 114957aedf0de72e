-- Maps made of texts and of whole lists, and the errors of making them.
use Rattle.std.specs.Prelude.{◌≡◌, ◌⊎◌, ℕ, List, [], ◌∷◌, length, Option, Some, None, option_map}
use Rattle.std.specs.Prelude.{IsNone, Bool, ◌||◌, if◌then◌else◌, nat_lt}
use Rattle.std.specs.Option.{option_or, unwrap_or}
use Rattle.oxc_sourcemap_tokens.specs.declared.errors.error.Error.{Error}
use Rattle.oxc_sourcemap_tokens.specs.declared.errors.error.Error.TheVariants.{BadSourceReference}
use Rattle.oxc_sourcemap_tokens.specs.declared.errors.error.Error.TheVariants.{BadNameReference}
use Rattle.oxc_sourcemap_tokens.specs.declared.errors.error.Error.TheVariants.{TooLarge}
use Rattle.oxc_sourcemap_tokens.specs.Token.{TokenRecord}
use Rattle.oxc_sourcemap_parts.specs.Record.{Text, MapRecord}
use Rattle.oxc_sourcemap_parts.specs.Views.{empty_record}
use Rattle.oxc_sourcemap_json.specs.Decoded.{first_not_below}
use Rattle.oxc_sourcemap_c.specs.declared.numbers.call_error.CallError.{CallError}
use Rattle.oxc_sourcemap_c.specs.declared.numbers.call_error.CallError.TheVariants.{NullHandle}
use Rattle.oxc_sourcemap_c.specs.declared.holding.held.Held.{Held}
use Rattle.oxc_sourcemap_c.specs.CallErrors.{of_map}
use Rattle.oxc_sourcemap_c.specs.Holding.{held_map}
use Rattle.oxc_sourcemap_c.specs.Lists.{AreTexts, IsNotTexts, AreContents, IsNotContents}

-- the map that has these tokens and nothing else
abbrev pub map_of_tokens : List TokenRecord → MapRecord
map_of_tokens tokens = record empty_record { tokens = tokens }

-- the error of a call whose handle holds no map
abbrev pub IsMapMissing : Option Held → CallError → Type 0
IsMapMissing held r = IsNone (held_map held) × (r ≡ NullHandle)

-- ---- whole lists

-- an empty ignore list is none
abbrev pub ids_if_any : List ℕ → Option (List ℕ)
ids_if_any [] = None
ids_if_any (id ∷ ids) = Some (id ∷ ids)

-- the map of these tokens, names, sources, contents and ignored ids
abbrev pub map_of_lists : List TokenRecord → List Text → List Text → List (Option Text) → List ℕ → MapRecord
map_of_lists tokens names sources contents ids = record {
  file = None;
  names = names;
  source_root = None;
  sources = sources;
  source_contents = contents;
  tokens = tokens;
  token_chunks = None;
  ignore_list = ids_if_any ids;
  debug_id = None;
}

-- an id that is there and not below a count
abbrev pub id_not_below : ℕ → Option ℕ → Option ℕ
id_not_below count None = None
id_not_below count (Some id) = if nat_lt id count then None else Some id

-- the fault of the ids of a token: of its source, then of its name
abbrev pub token_fault : ℕ → ℕ → TokenRecord → Option Error
token_fault names sources t =
    option_or (option_map BadSourceReference (id_not_below sources t.source_id)) (option_map BadNameReference (id_not_below names t.name_id))

-- the fault of the first token that has one
abbrev pub tokens_fault : ℕ → ℕ → List TokenRecord → Option Error
tokens_fault names sources [] = None
tokens_fault names sources (t ∷ ts) = option_or (token_fault names sources t) (tokens_fault names sources ts)

-- the fault of the ignore list
abbrev pub ids_fault : ℕ → Option (List ℕ) → Option Error
ids_fault sources None = None
ids_fault sources (Some ids) = option_map BadSourceReference (first_not_below sources ids)

-- a list has more entries than ids can tell apart
abbrev pub is_too_long : ℕ → Bool
is_too_long n = nat_lt 4294967295 n

abbrev pub has_too_long_list : MapRecord → Bool
has_too_long_list m =
    is_too_long (length m.tokens) || (is_too_long (length m.names) || (is_too_long (length m.sources) || (is_too_long (length m.source_contents)
    || is_too_long (length (unwrap_or m.ignore_list [])))))

-- the first fault of the lists of a map: of its tokens, of its ignore list, then of their lengths
abbrev pub lists_fault : MapRecord → Option Error
lists_fault m =
    option_or (tokens_fault (length m.names) (length m.sources) m.tokens) (option_or (ids_fault (length m.sources) m.ignore_list)
    (if has_too_long_list m then Some TooLarge else None))

-- all texts of the lists of a map are UTF-8
pub record HasTexts (m : MapRecord) : Type 0 where
  pub names : AreTexts m.names
  pub sources : AreTexts m.sources
  pub contents : AreContents m.source_contents

-- a text of the lists of a map is not UTF-8, and this is the error for the first
abbrev pub IsNotTextOf : MapRecord → CallError → Type 0
IsNotTextOf m r =
    IsNotTexts m.names r ⊎ ((AreTexts m.names × IsNotTexts m.sources r)
    ⊎ (AreTexts m.names × AreTexts m.sources × IsNotContents m.source_contents r))

-- an error of making the map of lists: a text of them is not UTF-8, or else they have a fault
abbrev pub IsListsError : MapRecord → CallError → Type 0
IsListsError m r = IsNotTextOf m r ⊎ (HasTexts m × (e : Error) × (lists_fault m ≡ Some e) × (r ≡ of_map e))
