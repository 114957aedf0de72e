-- The JSON text in a data URL (RFC 2397, and where that is silent the Fetch standard; docs/FORMAT.md, "Data URLs"). Texts are given
-- by their bytes.
use Rattle.std.specs.Prelude.{ℕ, ◌-◌, Bool, ◌&&◌, ◌||◌, List, length, drop, codes, Option, Some}
use Rattle.std.specs.Prelude.{None, Result, Ok, Err, if◌then◌else◌, ◌==◌}
use Rattle.std.specs.List.{before_first, after_first, list_any}
use Rattle.std.specs.Str.{str_eq_ignore_ascii_case, is_utf8}
use Rattle.std.specs.Str.Lossy.{utf8_valid_len}
use Rattle.base64.specs.Engines.{standard_pad_indifferent}
use Rattle.base64.specs.GeneralPurpose.{decode_of}
use Rattle.base64.specs.declared.decode.DecodeError.{DecodeError}
use Rattle.base64.specs.declared.decode.DecodeError.TheVariants.{InvalidByte, InvalidLength}
use Rattle.base64.specs.declared.decode.DecodeError.TheVariants.{InvalidLastSymbol, InvalidPadding}
use Rattle.percent_encoding.specs.Percent.{percent_decode}
use Rattle.oxc_sourcemap_parts.specs.Record.{Text}
use Rattle.oxc_sourcemap_text.specs.declared.url.data_url_error.DataUrlError.{DataUrlError}
use Rattle.oxc_sourcemap_text.specs.declared.url.data_url_error.DataUrlError.TheVariants.{BadBase64}
use Rattle.oxc_sourcemap_text.specs.declared.url.data_url_error.DataUrlError.TheVariants.{BadUtf8}

abbrev pub has_byte : ℕ → Text → Bool
has_byte byte text = list_any (λ b. b == byte) text

-- the scheme of the URL, before its first `:`, is `data`, in letters of any case
abbrev pub has_data_scheme : Text → Bool
has_data_scheme url = has_byte 58 url && str_eq_ignore_ascii_case (before_first (λ b. b == 58) url) (codes "data")

-- what is between the scheme and the fragment, which begins at the first `#`
abbrev pub behind_scheme : Text → Text
behind_scheme url = before_first (λ b. b == 35) (after_first (λ b. b == 58) url)

-- what the URL has before its first comma: the media type, its parameters, and whether the data are base64
abbrev pub head_of : Text → Text
head_of url = before_first (λ b. b == 44) (behind_scheme url)

-- the data: what is behind the first comma
abbrev pub data_of : Text → Text
data_of url = after_first (λ b. b == 44) (behind_scheme url)

-- the media type, without parameters
abbrev pub media_type : Text → Text
media_type head = before_first (λ b. b == 59) head

-- the media type is one of JSON, in letters of any case
abbrev pub is_json_type : Text → Bool
is_json_type head =
    str_eq_ignore_ascii_case (media_type head) (codes "application/json")
    || str_eq_ignore_ascii_case (media_type head) (codes "text/json")

-- the last parameter is `base64`, in letters of any case
abbrev pub is_base64 : Text → Bool
is_base64 head = str_eq_ignore_ascii_case (drop (length head - 7) head) (codes ";base64")

-- a data URL of JSON
abbrev pub is_json_url : Text → Bool
is_json_url url = has_data_scheme url && (has_byte 44 (behind_scheme url) && is_json_type (head_of url))

-- where the first fault of base64 is, in data of this length
abbrev pub base64_fault_at : ℕ → DecodeError → ℕ
base64_fault_at size (InvalidByte at byte) = at
base64_fault_at size (InvalidLength at) = at
base64_fault_at size (InvalidLastSymbol at symbol value) = at
base64_fault_at size InvalidPadding = size

-- decoded bytes, or where their base64 has its first fault
abbrev pub or_bad_base64 : ℕ → Result (List ℕ) DecodeError → Result (List ℕ) DataUrlError
or_bad_base64 size (Ok bytes) = Ok bytes
or_bad_base64 size (Err fault) = Err (BadBase64 (base64_fault_at size fault))

-- the bytes of base64 in the standard alphabet, with its padding or without
abbrev pub base64_bytes : Text → Result (List ℕ) DataUrlError
base64_bytes text = or_bad_base64 (length text) (decode_of standard_pad_indifferent text)

-- the bytes of data, whose percent-escapes are decoded first
abbrev pub data_bytes : Bool → Text → Result (List ℕ) DataUrlError
data_bytes is_base64 text = if is_base64 then base64_bytes (percent_decode text) else Ok (percent_decode text)

-- bytes that are UTF-8, or how many at their front are
abbrev pub utf8_text : List ℕ → Result Text DataUrlError
utf8_text bytes = if is_utf8 bytes then Ok bytes else Err (BadUtf8 (utf8_valid_len bytes))

-- bytes as a text
abbrev pub text_of_bytes : Result (List ℕ) DataUrlError → Result Text DataUrlError
text_of_bytes (Ok bytes) = utf8_text bytes
text_of_bytes (Err fault) = Err fault

-- the text of data
unfoldable pub data_text : Bool → Text → Result Text DataUrlError
data_text is_base64 text = text_of_bytes (data_bytes is_base64 text)

-- a text that was found
abbrev pub some_text : Result Text DataUrlError → Result (Option Text) DataUrlError
some_text (Ok text) = Ok (Some text)
some_text (Err fault) = Err fault

-- the text of a data URL of JSON, or its fault; None for any other URL
unfoldable pub decoded_data_url : Text → Result (Option Text) DataUrlError
decoded_data_url url =
    if is_json_url url then some_text (data_text (is_base64 (head_of url)) (data_of url)) else Ok None
