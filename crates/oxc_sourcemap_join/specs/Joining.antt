-- The private steps of a join. No public contract cites this module.
use Rattle.std.specs.Prelude.{◌≡◌, ℕ, ◌+◌, ◌≤◌, List, map, length, drop, Option, Some, None}
use Rattle.std.specs.Prelude.{slice_index_or}
use Rattle.oxc_sourcemap_tokens.specs.Token.{TokenRecord, IsInBounds, AreInBounds, last}
use Rattle.oxc_sourcemap_tokens.specs.declared.token.TokenChunk.{TokenChunk}
use Rattle.oxc_sourcemap_tokens.specs.Chunks.{ChunksFit}
use Rattle.oxc_sourcemap_parts.specs.Record.{Text, MapRecord}
use Rattle.oxc_sourcemap_tokens.specs.declared.position.Position.{Position}
use Rattle.oxc_sourcemap_join.specs.Joined.{shifted, is_same_token, without_repeat, added_chunk}
use Rattle.oxc_sourcemap_join.specs.Joined.{raised_ignore_list, added, AreEntriesInBounds}
use Rattle.oxc_sourcemap_join.specs.Joined.{IsWithinLimits}
use Rattle.oxc_sourcemap_join.specs.declared.reach.Reach.{Reach}
use Rattle.oxc_sourcemap_join.specs.declared.shift.Shift.{Shift}
use Rattle.oxc_sourcemap_join.specs.declared.joined_parts.Addition.{Addition}

-- What a join in the making consists of: counts within limits, tokens and entries of the ignore list in bounds, a content
-- for each source, and chunks that fit.
pub record IsJoin (ns ss : List Text) (cs : List (Option Text)) (ts : List TokenRecord) (chunks : List TokenChunk) (ignore_list : Option (List ℕ)) : Type 0 where
  pub names : length ns ≤ 4294967295
  pub sources : length ss ≤ 4294967295
  pub contents : length ss ≡ length cs
  pub tokens : length ts ≤ 4294967295
  pub in_bounds : AreInBounds ts
  pub fit : ChunksFit ts chunks
  pub entries : AreEntriesInBounds ignore_list

-- a map of these names, sources, contents and tokens, and of this ignore list
abbrev pub map_of : List Text → List Text → List (Option Text) → List TokenRecord → Option (List ℕ) → MapRecord
map_of names sources contents tokens ignore_list = record {
  file = None;
  names = names;
  source_root = None;
  sources = sources;
  source_contents = contents;
  tokens = tokens;
  token_chunks = None;
  ignore_list = ignore_list;
  debug_id = None;
}

-- tokens, moved
abbrev pub all_shifted : Shift → List TokenRecord → List TokenRecord
all_shifted s tokens = map (shifted s.names s.sources s.position) tokens

-- one more than an id, and 0 for none
abbrev pub id_limit : Option ℕ → ℕ
id_limit None = 0
id_limit (Some id) = id + 1

-- a token in bounds whose numbers do not pass a reach
pub record IsInReach (r : Reach) (t : TokenRecord) : Type 0 where
  pub in_bounds : IsInBounds t
  pub line : t.dst_line ≤ slice_index_or r.positions 0 0
  pub column : t.dst_col ≤ slice_index_or r.positions 1 0
  pub source : id_limit t.source_id ≤ slice_index_or r.ids 0 0
  pub name : id_limit t.name_id ≤ slice_index_or r.ids 1 0

-- What is worked out for a map after a join: how its tokens are moved, how many at the front are left out, and the chunk of
-- the others. The limits of tokens are left aside.
pub record IsAddition (r m : MapRecord) (place : Position) (a : Addition) : Type 0 where
  pub names : a.shift.names ≡ length r.names
  pub sources : a.shift.sources ≡ length r.sources
  pub position : a.shift.position ≡ place
  pub passed : a.passed ≤ length m.tokens
  pub kept : all_shifted a.shift (drop a.passed m.tokens) ≡ without_repeat is_same_token (last r.tokens) (all_shifted a.shift m.tokens)
  pub chunk : a.chunk ≡ added_chunk r m place
  pub entries : AreEntriesInBounds (raised_ignore_list a.shift.sources m.ignore_list)
  pub within : AreInBounds (all_shifted a.shift (drop a.passed m.tokens)) → IsWithinLimits (added r m place)
