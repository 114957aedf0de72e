-- Joins: several maps as one, each at the position where its code begins, its ids raised by the numbers of names and sources
-- before it.
use Rattle.std.specs.Prelude.{ℕ, zero, suc, ◌+◌, Bool, true, false, ◌&&◌, ◌≤◌, ◌<◌, List, [], ◌∷◌}
use Rattle.std.specs.Prelude.{◌++◌, map, length, Option, Some, None, if◌then◌else◌, ◌==◌, ◌≡◌, ◌↔◌}
use Rattle.std.specs.Prelude.{◌⊎◌, Result, IsErrOf, IfErr, OnOk, OnErr}
use Rattle.std.specs.Borrow.{Bor}
use Rattle.std.specs.List.{All}
use Rattle.std.specs.Option.{IfSome, option_map, unwrap_or}
use Rattle.oxc_sourcemap_tokens.specs.declared.errors.error.Error.{Error}
use Rattle.oxc_sourcemap_tokens.specs.declared.errors.error.Error.TheVariants.{OutOfMemory}
use Rattle.oxc_sourcemap_tokens.specs.declared.errors.error.Error.TheVariants.{TooLarge}
use Rattle.oxc_sourcemap_tokens.specs.declared.position.Position.{Position}
use Rattle.oxc_sourcemap_tokens.specs.declared.token.TokenChunk.{TokenChunk}
use Rattle.oxc_sourcemap_tokens.specs.Token.{TokenRecord, AreInBounds, last}
use Rattle.oxc_sourcemap_tokens.specs.State.{state_at}
use Rattle.oxc_sourcemap_tokens.specs.Chunks.{chunk_from}
use Rattle.oxc_sourcemap_parts.specs.Record.{Text, MapRecord}
use Rattle.oxc_sourcemap_parts.specs.Views.{record_of_parts}
use Rattle.oxc_sourcemap_parts.specs.declared.parts.SourceMapParts.{SourceMapParts}

-- contents padded with none, or cut, to this number
abbrev pub fitted : ℕ → List (Option Text) → List (Option Text)
fitted zero contents = []
fitted (suc n) [] = None ∷ fitted n []
fitted (suc n) (content ∷ contents) = content ∷ fitted n contents

-- an id raised by a number; none stays none
abbrev pub raised_id : ℕ → Option ℕ → Option ℕ
raised_id number id = option_map (λ i. i + number) id

-- the position of this line and column
abbrev pub position : ℕ → ℕ → Position
position line column = record { line = line; column = column }

-- the beginning of a line; joins at lines are joins at these positions
abbrev pub at_line : ℕ → Position
at_line line = record { line = line; column = 0 }

-- items, each at the beginning of a line
abbrev pub at_lines : {A : Type 0} → List (A × ℕ) → List (A × Position)
at_lines items = map (λ i. (i.0, at_line i.1)) items

-- items, each at a line and a column
abbrev pub at_positions : {A : Type 0} → List (A × ℕ × ℕ) → List (A × Position)
at_positions items = map (λ i. (i.0, record { line = i.1; column = i.2 })) items

-- The column in a join of a token on this line of a map: line 0 of the map begins at the column of its offset, all other
-- lines at column 0. (An offset is the position where the code of a map begins.)
abbrev pub shifted_column : Position → ℕ → ℕ → ℕ
shifted_column offset line column = if line == 0 then column + offset.column else column

-- a token of a map in a join, by the numbers of names and sources before the map, and its offset
abbrev pub shifted : ℕ → ℕ → Position → TokenRecord → TokenRecord
shifted names sources offset t = record t {
  dst_line = t.dst_line + offset.line;
  dst_col = shifted_column offset t.dst_line t.dst_col;
  source_id = raised_id sources t.source_id;
  name_id = raised_id names t.name_id;
}

-- equality of options, as a test
abbrev pub is_same_option : {A : Type 0} → (A → A → Bool) → Option A → Option A → Bool
is_same_option same None None = true
is_same_option same None (Some y) = false
is_same_option same (Some x) None = false
is_same_option same (Some x) (Some y) = same x y

-- equality of ids, or of none, as a test
abbrev pub is_same_id : Option ℕ → Option ℕ → Bool
is_same_id a b = is_same_option (λ i j. i == j) a b

-- equality of tokens in all six fields, as a test
abbrev pub is_same_token : TokenRecord → TokenRecord → Bool
is_same_token a b =
    a.dst_line == b.dst_line && (a.dst_col == b.dst_col && (a.src_line == b.src_line
    && (a.src_col == b.src_col && (is_same_id a.source_id b.source_id && is_same_id a.name_id b.name_id))))

-- A list after this item, if there is one: without its own first item if the two are the same. No other item is left out.
abbrev pub without_repeat : {A : Type 0} → (A → A → Bool) → Option A → List A → List A
without_repeat same None items = items
without_repeat same (Some x) [] = []
without_repeat same (Some x) (item ∷ items) = if same x item then items else item ∷ items

-- two lists end to end; if the second begins with the last item of the first, that is kept only once
abbrev pub seamed : {A : Type 0} → (A → A → Bool) → List A → List A → List A
seamed same xs ys = xs ++ without_repeat same (last xs) ys

-- the tokens of a join, and after them those of a map
abbrev pub added_tokens : MapRecord → MapRecord → Position → List TokenRecord
added_tokens r m offset = seamed is_same_token r.tokens (map (shifted (length r.names) (length r.sources) offset) m.tokens)

-- the chunk of the tokens of a map after a join: its header is the state after all tokens so far
abbrev pub added_chunk : MapRecord → MapRecord → Position → TokenChunk
added_chunk r m offset = chunk_from (state_at r.tokens (length r.tokens)) (length r.tokens) (length (added_tokens r m offset))

-- an ignore list with each entry raised by a number; none stays none
abbrev pub raised_ignore_list : ℕ → Option (List ℕ) → Option (List ℕ)
raised_ignore_list number list = option_map (λ ids. map (λ id. id + number) ids) list

-- Two ignore lists, one after the other, as one. None where neither is there; an empty one is there.
abbrev pub appended_ignore_lists : Option (List ℕ) → Option (List ℕ) → Option (List ℕ)
appended_ignore_lists list None = list
appended_ignore_lists None (Some ids) = Some ids
appended_ignore_lists (Some front) (Some ids) = Some (front ++ ids)

-- the ignore list of a join, and after it that of a map, whose entries refer to the same sources as before
abbrev pub added_ignore_list : MapRecord → MapRecord → Option (List ℕ)
added_ignore_list r m = appended_ignore_lists r.ignore_list (raised_ignore_list (length r.sources) m.ignore_list)

-- A join, and a map after it. The join has one content for each source and a chunk for each map. It has none of these: file,
-- source root, debug id.
abbrev pub added : MapRecord → MapRecord → Position → MapRecord
added r m offset = record {
  file = None;
  names = r.names ++ m.names;
  source_root = None;
  sources = r.sources ++ m.sources;
  source_contents = fitted (length (r.sources ++ m.sources)) (r.source_contents ++ m.source_contents);
  tokens = added_tokens r m offset;
  token_chunks = Some (unwrap_or r.token_chunks [] ++ added_chunk r m offset ∷ []);
  ignore_list = added_ignore_list r m;
  debug_id = None;
}

-- the join of no maps
abbrev pub nothing_joined : MapRecord
nothing_joined = record {
  file = None;
  names = [];
  source_root = None;
  sources = [];
  source_contents = [];
  tokens = [];
  token_chunks = Some [];
  ignore_list = None;
  debug_id = None;
}

-- a join, and after it these maps, each at its offset
abbrev pub added_all : MapRecord → List (MapRecord × Position) → MapRecord
added_all r [] = r
added_all r (m ∷ ms) = added_all (added r m.0 m.1) ms

-- the join of these maps, each at its offset
abbrev pub joined : List (MapRecord × Position) → MapRecord
joined maps = added_all nothing_joined maps

-- borrowed maps, each at the beginning of a line
abbrev pub lent_maps : List (Bor MapRecord × ℕ) → List (MapRecord × Position)
lent_maps maps = map (λ m. (m.0.now, at_line m.1)) maps

-- owned maps, each at its position
abbrev pub owned_records : List (SourceMapParts × Position) → List (MapRecord × Position)
owned_records maps = map (λ m. (record_of_parts m.0, m.1)) maps

-- an ignore list is none, or all its entries are 0 to 4294967294
abbrev pub AreEntriesInBounds : Option (List ℕ) → Type 0
AreEntriesInBounds list = IfSome list (All (λ id. id < 4294967295))

-- A map within limits: at most 4294967295 names, sources and tokens, and all tokens and entries of the ignore list in bounds.
pub record IsWithinLimits (r : MapRecord) : Type 0 where
  pub names : length r.names ≤ 4294967295
  pub sources : length r.sources ≤ 4294967295
  pub tokens : length r.tokens ≤ 4294967295
  pub in_bounds : AreInBounds r.tokens
  pub ignore_list : AreEntriesInBounds r.ignore_list

-- What an add of a map to a join gives: at Ok the join with the map after it, within limits; `TooLarge` exactly if that is not
-- within limits, and no error but that and `OutOfMemory`; at an error the join as it was.
pub record IsAdded (result : Result (Unit {0}) Error) (old new map : MapRecord) (offset : Position) : Type 0 where
  pub joined : OnOk result (new ≡ added old map offset)
  pub limits : OnOk result (IsWithinLimits (added old map offset))
  pub too_large : IsErrOf result TooLarge ↔ ¬ (IsWithinLimits (added old map offset))
  pub error : IfErr result (λ e. (e ≡ OutOfMemory) ⊎ (e ≡ TooLarge))
  pub unchanged : OnErr result (new ≡ old)
