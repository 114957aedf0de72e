-- Texts that are written from maps, and parts of texts that are found.
use Rattle.std.specs.Prelude.{◌≢◌, ◌≡◌, ◌⊎◌, ℕ, List, Option, Some, None, Result, Ok, Err, IsUtf8}
use Rattle.std.specs.Prelude.{IfSome, MatchOption, MatchResult, if◌then◌else◌, ◌==◌}
use Rattle.std.specs.Str.{chars, encode_utf8_all}
use Rattle.oxc_sourcemap_tokens.specs.declared.errors.error.Error.{Error}
use Rattle.oxc_sourcemap_tokens.specs.Errors.{unless}
use Rattle.oxc_sourcemap_tokens.specs.Token.{TokenRecord}
use Rattle.oxc_sourcemap_mappings.specs.Canonical.{canonical}
use Rattle.oxc_sourcemap_mappings.specs.ChunkTexts.{writing_fault}
use Rattle.oxc_sourcemap_parts.specs.Record.{Text, MapRecord}
use Rattle.oxc_sourcemap_text.specs.DataUrls.{decoded_data_url}
use Rattle.oxc_sourcemap_text.specs.MappingUrls.{mapping_url}
use Rattle.oxc_sourcemap_text.specs.declared.url.data_url_error.DataUrlError.{DataUrlError}
use Rattle.oxc_sourcemap_text.specs.declared.url.data_url_error.DataUrlError.TheVariants as given
use Rattle.oxc_sourcemap_text.specs.declared.url.language.Language.{Language}
use Rattle.oxc_sourcemap_text.specs.declared.url.language.Language.TheVariants.{JavaScript, Css}
use Rattle.oxc_sourcemap_json.specs.Within.{mappings_within}
use Rattle.oxc_sourcemap_map.specs.Link.{map_link}
use Rattle.oxc_sourcemap_map.specs.VisualText.{visual_text}
use Rattle.oxc_sourcemap_c.specs.declared.numbers.call_error.CallError.{CallError}
use Rattle.oxc_sourcemap_c.specs.declared.numbers.call_error.CallError.TheVariants.{NullHandle}
use Rattle.oxc_sourcemap_c.specs.declared.numbers.call_error.CallError.TheVariants.{NoEntry}
use Rattle.oxc_sourcemap_c.specs.declared.numbers.call_error.CallError.TheVariants.{BadOption}
use Rattle.oxc_sourcemap_c.specs.declared.numbers.call_error.CallError.TheVariants.{BadBase64}
use Rattle.oxc_sourcemap_c.specs.declared.numbers.call_error.CallError.TheVariants.{BadDataUtf8}
use Rattle.oxc_sourcemap_c.specs.declared.holding.held.Held.{Held}
use Rattle.oxc_sourcemap_c.specs.declared.texts.text.Text.{Text as LentText}
use Rattle.oxc_sourcemap_c.specs.Structs.{LendsText}
use Rattle.oxc_sourcemap_c.specs.CallErrors.{of_map, out_of_memory, IsNotText}
use Rattle.oxc_sourcemap_c.specs.Holding.{held_map}

-- the mappings text of tokens, or the fault for which they cannot be written
abbrev pub tokens_text : List TokenRecord → Result Text Error
tokens_text tokens = unless (writing_fault tokens None) (Ok (canonical tokens))

-- the mappings text of a map, or the fault for which it cannot be written
abbrev pub mappings_text : MapRecord → Result Text Error
mappings_text m = unless (writing_fault m.tokens m.token_chunks) (Ok (canonical m.tokens))

-- an error of writing tokens
abbrev pub IsTokensError : List TokenRecord → CallError → Type 0
IsTokensError tokens r = (e : Error) × (tokens_text tokens ≡ Err e) × (r ≡ of_map e)

-- the mappings text of a map, if it has at most this many bytes
abbrev pub mappings_text_within : ℕ → MapRecord → Result Text Error
mappings_text_within limit m = mappings_within limit m.tokens m.token_chunks

-- an error of writing tokens in so many bytes
abbrev pub IsTokensErrorWithin : ℕ → List TokenRecord → CallError → Type 0
IsTokensErrorWithin limit tokens r = (e : Error) × (mappings_within limit tokens None ≡ Err e) × (r ≡ of_map e)

-- ---- a code and its map

-- a text is the visual text of a code and its map, where that is defined
abbrev pub IsVisualText : List ℕ → MapRecord → Text → Type 0
IsVisualText code m text = IfSome (visual_text code m) (λ shown. text ≡ shown)

-- an error of showing a code and its map: there is no map, or the code is not UTF-8
abbrev pub IsVisualError : List ℕ → Option Held → CallError → Type 0
IsVisualError code held r = MatchOption (held_map held) (r ≡ NullHandle) (λ m. IsNotText code r)

-- an error of making the link that shows a code and its map: also if the map cannot be written
abbrev pub IsLinkError : List ℕ → Option Held → CallError → Type 0
IsLinkError code held r =
    MatchOption (held_map held) (r ≡ NullHandle)
    (λ m. IsNotText code r ⊎ (IsUtf8 code × (e : Error) × (map_link code m ≡ Err e) × (r ≡ of_map e)))

-- ---- URLs

-- the language with this number
abbrev pub language_of : ℕ → Option Language
language_of n = if n == 0 then Some JavaScript else if n == 1 then Some Css else None

-- a lent text has these characters
abbrev pub HasCharacters : LentText → List ℕ → Type 0
HasCharacters lent url = LendsText lent (encode_utf8_all url)

-- the answer for the URL that a code names: `BadOption` of a number that is no language, `NoEntry` if there is none
abbrev pub IsUrlIn : Text → ℕ → Result LentText CallError → Type 0
IsUrlIn code number answer =
    MatchOption (language_of number) (answer ≡ Err BadOption) (λ language. MatchOption (mapping_url language (chars code)) (answer ≡ Err NoEntry)
    (λ url. MatchResult answer (λ lent. HasCharacters lent url) (λ _. ⊥)))

-- the same of bytes, which may not be UTF-8
abbrev pub IsUrlOf : List ℕ → ℕ → Result LentText CallError → Type 0
IsUrlOf bytes number answer =
    (IsUtf8 bytes × IsUrlIn bytes number answer) ⊎ (¬ (IsUtf8 bytes) × MatchResult answer (λ _. ⊥) (IsNotText bytes))

-- the error for C of an error of a data URL
abbrev pub call_error_of_data : DataUrlError → CallError
call_error_of_data (given.BadBase64 at) = BadBase64 at
call_error_of_data (given.BadUtf8 at) = BadDataUtf8 at
call_error_of_data given.OutOfMemory = out_of_memory

-- an error of what a data URL gives: it is none of JSON, or its data have a fault
abbrev pub IsGivenError : Result (Option Text) DataUrlError → CallError → Type 0
IsGivenError (Ok None) r = r ≡ NoEntry
IsGivenError (Ok (Some text)) r = ⊥
IsGivenError (Err e) r = r ≡ call_error_of_data e

-- an error of reading bytes as a data URL: they are not UTF-8, or it gives none
abbrev pub IsDataUrlError : List ℕ → CallError → Type 0
IsDataUrlError bytes r = IsNotText bytes r ⊎ (IsUtf8 bytes × IsGivenError (decoded_data_url bytes) r)

-- the result of writing a handle's map by `write`: its text, `NullHandle` if it holds no map, an error of writing, or want of
-- memory
abbrev pub IsWrittenAs : {S : Type 0} → (S → Text) → Result S CallError → Option Held → (MapRecord → Result Text Error) → Type 0
IsWrittenAs bytes answer held write =
    MatchOption (held_map held) (answer ≡ Err NullHandle) (λ m. MatchResult answer (λ text. write m ≡ Ok (bytes text))
    (λ r. r ≢ out_of_memory → (e : Error) × (write m ≡ Err e) × (r ≡ of_map e)))
