-- Texts of at most so many bytes, and the fault that is found before one is written.
use Rattle.std.specs.Prelude.{ℕ, List, length, Option, Some, None, Result, Ok, Err, if◌then◌else◌}
use Rattle.std.specs.Prelude.{nat_le, nat_lt}
use Rattle.oxc_sourcemap_tokens.specs.declared.errors.error.Error.{Error}
use Rattle.oxc_sourcemap_tokens.specs.declared.errors.error.Error.TheVariants.{TooLarge}
use Rattle.oxc_sourcemap_tokens.specs.declared.token.TokenChunk.{TokenChunk}
use Rattle.oxc_sourcemap_tokens.specs.Errors.{unless}
use Rattle.oxc_sourcemap_tokens.specs.Token.{TokenRecord, last_line}
use Rattle.oxc_sourcemap_json.specs.Shape.{◌>>=◌}
use Rattle.oxc_sourcemap_mappings.specs.Canonical.{canonical}
use Rattle.oxc_sourcemap_mappings.specs.Faults.{◌orelse◌}
use Rattle.oxc_sourcemap_mappings.specs.ChunkTexts.{writing_fault}
use Rattle.oxc_sourcemap_parts.specs.Record.{Text, MapRecord}
use Rattle.oxc_sourcemap_json.specs.JsonText.{map_text, map_url}

-- a text of at most this many bytes, `TooLarge` for a longer one, or the fault of the text
abbrev pub within : ℕ → Result Text Error → Result Text Error
within limit text = text >>= (λ t. if nat_le (length t) limit then Ok t else Err TooLarge)

-- the JSON text of a map, if it has at most this many bytes
abbrev pub map_text_within : ℕ → MapRecord → Result Text Error
map_text_within limit r = within limit (map_text r)

-- the data URL of a map, if it has at most this many bytes
abbrev pub map_url_within : ℕ → MapRecord → Result Text Error
map_url_within limit r = within limit (map_url r)

-- the mappings text of tokens in these chunks, if it has at most this many bytes
abbrev pub mappings_within : ℕ → List TokenRecord → Option (List TokenChunk) → Result Text Error
mappings_within limit tokens chunks = within limit (unless (writing_fault tokens chunks) (Ok (canonical tokens)))

-- The fault that is found before anything is written: that of tokens and chunks, else `TooLarge` if the last token lies on a
-- line above the limit, since the text has a `;` for each line before that.
abbrev pub early_fault : ℕ → List TokenRecord → Option (List TokenChunk) → Option Error
early_fault limit tokens chunks =
    writing_fault tokens chunks orelse (if nat_lt limit (last_line 0 tokens) then Some TooLarge else None)
