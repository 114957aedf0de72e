-- A map that is written and read again.
use Rattle.std.specs.Prelude.{◌≡◌, ◌<◌, ◌≤◌, [], length, None, Ok, Err}
use Rattle.std.specs.Option.{unwrap_or}
use Rattle.oxc_sourcemap_tokens.specs.declared.errors.error.Error.TheVariants.{TooLarge}
use Rattle.oxc_sourcemap_tokens.specs.Token.{AreInBounds}
use Rattle.oxc_sourcemap_mappings.specs.Canonical.{as_written, carried}
use Rattle.oxc_sourcemap_parts.specs.Record.{MapRecord}
use Rattle.oxc_sourcemap_parts.specs.Sound.{IsSound}
use Rattle.oxc_sourcemap_parts.specs.DecodedMap.{decoded_map_of}
use Rattle.oxc_sourcemap_json.specs.Encoded.{encoded, encoded_record, written_contents}
use Rattle.oxc_sourcemap_json.specs.Decoded.{decoded}

-- A map as it comes back: an unmapped token has the source position that the sums have reached there, and no name; contents
-- that are all unknown are gone; and it has no chunks.
abbrev pub rewritten : MapRecord → MapRecord
rewritten r = record r {
  source_contents = unwrap_or (written_contents r.source_contents) [];
  tokens = carried r.tokens;
  token_chunks = None;
}

-- Every sound map of at most 4294967295 tokens is written.
abbrev pub SoundIsWritten : Type 0
SoundIsWritten = (r : MapRecord) → IsSound r → length r.tokens ≤ 4294967295 → encoded r ≡ Ok (encoded_record r)

-- Writing a sound map of more than 4294967295 tokens fails with `TooLarge`.
abbrev pub SoundIsTooLarge : Type 0
SoundIsTooLarge = (r : MapRecord) → IsSound r → 4294967295 < length r.tokens → encoded r ≡ Err TooLarge

-- The JSON source map that is written of a map is read as `rewritten` of it, which has the same decoded map, the same names,
-- and tokens that are equal as written.
pub record ComesBack (r : MapRecord) : Type 0 where
  pub is_read : decoded (encoded_record r) ≡ Ok (rewritten r)
  pub decoded_map : decoded_map_of (rewritten r) ≡ decoded_map_of r
  pub names : (rewritten r).names ≡ r.names
  pub tokens : as_written (rewritten r).tokens ≡ as_written r.tokens

-- Every sound map whose tokens are in bounds comes back.
abbrev pub SoundReadsBack : Type 0
SoundReadsBack = (r : MapRecord) → IsSound r → AreInBounds r.tokens → ComesBack r

-- What comes back of a map is sound, has the same decoded map and as many tokens, and comes back a second time with the same
-- tokens.
pub record StaysSound (r : MapRecord) : Type 0 where
  pub sound : IsSound (rewritten r)
  pub decoded_map : decoded_map_of (rewritten r) ≡ decoded_map_of r
  pub count : length (rewritten r).tokens ≡ length r.tokens
  pub again : (rewritten (rewritten r)).tokens ≡ (rewritten r).tokens

-- What comes back of a sound map stays sound.
abbrev pub SoundStaysSound : Type 0
SoundStaysSound = (r : MapRecord) → IsSound r → StaysSound r
