-- What the bytes of a map mean: the map, as far as it is stored.
use Rattle.std.specs.Prelude.{◌≡◌, ℕ, ◌<◌, ◌≤◌, true, List, length, map, Some, None, Ok}
use Rattle.std.specs.List.{All, range_with_len}
use Rattle.oxc_sourcemap_tokens.specs.Token.{AreInBounds}
use Rattle.oxc_sourcemap_parts.specs.Record.{MapRecord}
use Rattle.oxc_sourcemap_parts.specs.DecodedMap.{decoded_map_of}
use Rattle.oxc_sourcemap_lookup.specs.Biased.{index_by, token_by}
use Rattle.oxc_sourcemap_lookup.specs.declared.bias.Bias.{Bias}
use Rattle.oxc_sourcemap_compiled.specs.Compiled.{content_at, ignored_of, AreBytesOf}
use Rattle.oxc_sourcemap_compiled.specs.Layout.{header_in}
use Rattle.oxc_sourcemap_compiled.specs.Decompiled.{has_utf8_texts, checked_map, DoesNotGoBack}
use Rattle.oxc_sourcemap_compiled.specs.CompiledMeaning.{CompiledRecord, compiled_in}
use Rattle.oxc_sourcemap_compiled.specs.CompiledMeaning.{compiled_meaning}
use Rattle.oxc_sourcemap_compiled.specs.Order.{IsInOrder}

-- The map that is stored of a map: with a content for each source and no further one, and without chunks.
abbrev pub stored_map : MapRecord → MapRecord
stored_map r = record r {
  source_contents = map (content_at r.source_contents) (range_with_len 0 (length r.sources));
  token_chunks = None;
}

-- the compiled map of a map, with what is known of its text
abbrev pub compiled_of : MapRecord → ℕ → List ℕ → CompiledRecord
compiled_of r text_length stamp = record { content = stored_map r; text_length = text_length; stamp = stamp }

-- Numbers have the bits that the format gives them, and texts are UTF-8, as in each call of `compile`.
pub record FitsFormat (r : MapRecord) (text_length : ℕ) (stamp : List ℕ) : Type 0 where
  pub tokens : AreInBounds r.tokens
  pub ignored : All (λ id. id ≤ 4294967295) (ignored_of r)
  pub length_fits : text_length < 18446744073709551616
  pub stamp_size : length stamp ≡ 32
  pub texts : has_utf8_texts r ≡ true

-- the bytes of a map mean the map
abbrev pub CompiledMeansMap : Type 0
CompiledMeansMap = (r : MapRecord) (text_length : ℕ) (stamp bytes : List ℕ) → FitsFormat r text_length stamp
    → AreBytesOf r text_length stamp bytes → compiled_meaning bytes ≡ Ok (compiled_of r text_length stamp)

-- and they are in order, so that lookups in them are exact
abbrev pub CompiledIsInOrder : Type 0
CompiledIsInOrder = (r : MapRecord) (text_length : ℕ) (stamp bytes : List ℕ) → FitsFormat r text_length stamp
    → AreBytesOf r text_length stamp bytes → IsInOrder bytes

-- lookups in them find what lookups in the tokens of the map find: indices and tokens, exact, clamped and from a position on
abbrev pub CompiledLooksUp : Type 0
CompiledLooksUp = (r : MapRecord) (text_length : ℕ) (stamp bytes : List ℕ) → FitsFormat r text_length stamp
    → AreBytesOf r text_length stamp bytes → (bias : Bias) (line col : ℕ)
    → (index_by bias (compiled_in bytes).content.tokens line col ≡ index_by bias r.tokens line col)
    × (token_by bias (compiled_in bytes).content.tokens line col ≡ token_by bias r.tokens line col)

-- nothing of what a map means is lost
abbrev pub StoredMeansMap : Type 0
StoredMeansMap = (r : MapRecord) → decoded_map_of (stored_map r) ≡ decoded_map_of r

-- what is taken apart of them is the map that is stored, and they do not go back, so that they are taken apart
abbrev pub CompiledIsTakenApart : Type 0
CompiledIsTakenApart = (r : MapRecord) (text_length : ℕ) (stamp bytes : List ℕ) → FitsFormat r text_length stamp
    → AreBytesOf r text_length stamp bytes
    → (checked_map (compiled_in bytes).content ≡ Some (stored_map r)) × DoesNotGoBack bytes (header_in bytes)
