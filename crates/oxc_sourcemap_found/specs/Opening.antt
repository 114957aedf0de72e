-- What is passed over and opened before a JSON text is read: a byte order mark, a line that keeps the text from being run as a
-- script, and a data URL.
use Rattle.std.specs.Prelude.{◌≡◌, ◌≤◌, string_bytes, List, [], ◌∷◌, ◌++◌, length, drop, codes}
use Rattle.std.specs.Prelude.{Option, Some, None, Result}
use Rattle.std.specs.Prelude.{Ok, Err, if◌then◌else◌, ◌==◌, nat_eq}
use Rattle.std.specs.List.{starts_with, after_first}
use Rattle.std.specs.Option.{unwrap_or}
use Rattle.std.specs.Cow.{cow_str_bytes}
use Rattle.std.specs.declared.borrow.CowStr.{CowStr}
use Rattle.std.specs.declared.borrow.CowStr.TheVariants.{Borrowed, Owned}
use Rattle.oxc_sourcemap_parts.specs.Record.{Text}
use Rattle.oxc_sourcemap_text.specs.declared.url.data_url_error.DataUrlError.{DataUrlError}
use Rattle.oxc_sourcemap_text.specs.DataUrls.{decoded_data_url}
use Rattle.oxc_sourcemap_found.specs.declared.mending.mend.MendKind.{MendKind}
use Rattle.oxc_sourcemap_found.specs.declared.mending.mend.MendKind.TheVariants.{ByteOrderMark}
use Rattle.oxc_sourcemap_found.specs.declared.mending.mend.MendKind.TheVariants.{JsonPrefix}
use Rattle.oxc_sourcemap_found.specs.declared.mending.mend.MendKind.TheVariants.{DataUrl}

-- a text, and what was passed over and opened to find it
pub record Opened : Type 0 where
  pub text : Text
  pub kinds : List MendKind

-- a text that is found for one more reason
abbrev pub found_by : Opened → Text → MendKind → Opened
found_by o text kind = record { text = text; kinds = o.kinds ++ kind ∷ [] }

-- what is behind a prefix, if the text begins with it
abbrev pub behind : Text → Text → Option Text
behind prefix text = if starts_with nat_eq text prefix then Some (drop (length prefix) text) else None

-- U+FEFF
abbrev pub byte_order_mark : Text
byte_order_mark = 239 ∷ 187 ∷ 191 ∷ []

abbrev pub past_mark : Opened → Option Text → Opened
past_mark o None = o
past_mark o (Some text) = found_by o text ByteOrderMark

-- without a byte order mark
abbrev pub without_mark : Opened → Opened
without_mark o = past_mark o (behind byte_order_mark o.text)

-- Without the first line, if that begins with the prefix. The line ends with a line feed, or with the text.
abbrev pub without_prefix : Opened → Opened
without_prefix o =
    if starts_with nat_eq o.text (codes ")]}'") then found_by o (after_first (λ b. b == 10) o.text) JsonPrefix else o

-- the text of data, if there are data and they are a text
abbrev pub or_no_data : Result (Option Text) DataUrlError → Option Text
or_no_data (Ok text) = text
or_no_data (Err fault) = None

-- the text in a data URL of JSON
abbrev pub data_in : Text → Option Text
data_in url = or_no_data (decoded_data_url url)

abbrev pub behind_url : Opened → Option Text → Opened
behind_url o None = o
behind_url o (Some text) = found_by o text DataUrl

-- the text in a data URL of JSON, in place of the URL
abbrev pub with_data : Opened → Opened
with_data o = behind_url o (data_in o.text)

-- a text as it was found
abbrev pub as_given : Text → Opened
as_given text = record { text = text; kinds = [] }

-- a text without what is passed over in front of it
abbrev pub past_front : Text → Opened
past_front text = without_prefix (without_mark (as_given text))

-- the text that is read as JSON, and what was passed over and opened to find it
unfoldable pub opened : Text → Opened
opened text = with_data (past_front text)

-- the text in which places are counted: that in a data URL, or else the whole text, with what is passed over
unfoldable pub counted_text : Text → Text
counted_text text = unwrap_or (data_in (past_front text).text) text

-- This is the text that is read as JSON, lent if places are counted in the whole text, and owned if it was in a data URL.
abbrev pub IsCountedBy : {Z : Type 0} → Text → CowStr Z → Type 0
IsCountedBy text (Borrowed end) = (counted_text text ≡ text) × (length end.now ≤ length text)
IsCountedBy text (Owned json) = counted_text text ≡ string_bytes json

abbrev pub IsJsonIn : {Z : Type 0} → Text → CowStr Z → Type 0
IsJsonIn text json = (cow_str_bytes json ≡ (opened text).text) × IsCountedBy text json
