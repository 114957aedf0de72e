-- How the private steps of a remapping are seen. No public contract cites this module.
use Rattle.std.specs.Prelude.{◌≡◌, ℕ, ◌+◌, ◌<◌, ◌≤◌, Bool, List, [], ◌∷◌, map, length, take, drop}
use Rattle.std.specs.Prelude.{slice_get, Option, Some, None, option_map, if◌then◌else◌, Vec, get_or}
use Rattle.std.specs.Prelude.{set, ◌==◌, ◌⊎◌, false}
use Rattle.std.specs.Borrow.{Bor}
use Rattle.std.specs.Cow.{cow_str_bytes}
use Rattle.std.specs.HashMap as hash
use Rattle.std.specs.HashMap.{HashMap}
use Rattle.std.specs.Str.{bytes_eq}
use Rattle.std.specs.declared.alloc.Global.{Global}
use Rattle.std.specs.Box.{boxed_slice_items}
use Rattle.std.specs.List.{AllByRecursion, flat_map}
use Rattle.std.specs.Option.{option_and_then}
use Rattle.oxc_sourcemap_tokens.specs.LineOrder.{first_out_of_order}
use Rattle.oxc_sourcemap_tokens.specs.Token.{TokenRecord}
use Rattle.oxc_sourcemap_parts.specs.DecodedMap.{DecodedSource, sources_of, decoded_map_of}
use Rattle.oxc_sourcemap_parts.specs.Record.{Text, MapRecord}
use Rattle.oxc_sourcemap_parts.specs.Texts.{index_of}
use Rattle.oxc_sourcemap_parts.specs.Views.{cow_texts, text_of, record_of_parts}
use Rattle.oxc_sourcemap_steps.specs.Composed.{Target}
use Rattle.oxc_sourcemap_steps.specs.InheritSteps.{HasIndices}
use Rattle.oxc_sourcemap_lookup.specs.LineSpans.{IsIndexOf}
use Rattle.oxc_sourcemap_steps.specs.Blocks.{flags_of, sources_for, marked_sources, marked_for}
use Rattle.oxc_sourcemap_steps.specs.Blocks.{unless_empty}
use Rattle.oxc_sourcemap_steps.specs.Inputs.{input_for, decoded_inputs}
use Rattle.oxc_sourcemap_steps.specs.Remapped.{listed_sources, Original, original_by, IsTargetBy}
use Rattle.oxc_sourcemap_steps.specs.declared.remap.blocks.Block.{Block}
use Rattle.oxc_sourcemap_steps.specs.declared.remap.inputs.Input.{Input}
use Rattle.oxc_sourcemap_steps.specs.declared.remap.moving.Source.{Source}
use Rattle.oxc_sourcemap_steps.specs.declared.remap.needed_names.NeededNames.{NeededNames}
use Rattle.oxc_sourcemap_steps.specs.declared.remap.remap.LentOriginal.{LentOriginal}

-- the map of an input
abbrev pub record_of_input : Input → MapRecord
record_of_input input = record_of_parts input.map.now

-- inputs that are ready, as inputs
abbrev pub ready_records : List Input → List (Text × MapRecord)
ready_records ready = map (λ input. (input.path.now, record_of_input input)) ready

-- the paths of inputs
abbrev pub input_paths : List Input → List Text
input_paths ready = map (λ input. input.path.now) ready

-- an input that is ready has the index of its lines, and whether each of its sources is ignored
pub record IsReady (input : Input) : Type 0 where
  pub index : IsIndexOf (boxed_slice_items input.map.now.tokens) input.index
  pub order : first_out_of_order (boxed_slice_items input.map.now.tokens) ≡ None
  pub flags : input.ignored.items ≡ flags_of (record_of_input input)

abbrev pub AreReady : List Input → Type 0
AreReady ready = AllByRecursion IsReady ready

-- what is found for a path
abbrev pub IsFor : List (Text × MapRecord) → Text → Option (Bor Input) → Type 0
IsFor inputs path None = input_for inputs path ≡ None
IsFor inputs path (Some input) = (input_for inputs path ≡ Some (record_of_input input.now)) × IsReady input.now

-- the sources of a block, with their contents
abbrev pub block_sources : Block → List DecodedSource
block_sources b = sources_of (cow_texts b.sources.now) (map text_of b.contents.now)

-- the map that the block's input has
abbrev pub block_input : Block → Option MapRecord
block_input b = option_map (λ input. record_of_input input.now) b.input

-- the sources and flags of the block of the source at an index of a map, if this is its input
abbrev pub HasSources : MapRecord → ℕ → Option (Bor Input) → Block → Type 0
HasSources a i None b =
    (block_sources b ≡ take 1 (drop i (listed_sources a))) × (b.ignored.now ≡ take 1 (drop i (flags_of a)))
HasSources a i (Some input) b =
    (block_sources b ≡ listed_sources (record_of_input input.now)) × (b.ignored.now ≡ input.now.ignored.items)

-- the block of a marked source, which begins at this id
pub record IsBlock (inputs : List (Text × MapRecord)) (start : ℕ) (source : DecodedSource × Bool) (b : Block) : Type 0 where
  pub starts : b.start ≡ start
  pub sources_are : block_sources b ≡ sources_for (decoded_inputs inputs) source.0
  pub ignored_are : b.ignored.now ≡ map (λ s. s.1) (marked_for (decoded_inputs inputs) source)
  pub room : start + length b.sources.now ≤ 4294967295
  pub input_is : IsFor inputs source.0.path b.input

-- the blocks of marked sources, the first of which begins at this id
abbrev pub AreBlocksFrom : List (Text × MapRecord) → ℕ → List (DecodedSource × Bool) → List Block → Type 0
AreBlocksFrom inputs start [] [] = Unit {0}
AreBlocksFrom inputs start [] (b ∷ bs) = ⊥
AreBlocksFrom inputs start (source ∷ sources) [] = ⊥
AreBlocksFrom inputs start (source ∷ sources) (b ∷ bs) =
    IsBlock inputs start source b × AreBlocksFrom inputs (start + length b.sources.now) sources bs

-- the blocks of a map
abbrev pub AreBlocks : List (Text × MapRecord) → MapRecord → List Block → Type 0
AreBlocks inputs a bs = AreBlocksFrom inputs 0 (marked_sources (decoded_map_of a)) bs

-- a block without an input is of one source, one with an input of all sources of the input
abbrev pub HasInput : Block → Option (Bor Input) → Type 0
HasInput b None = length b.sources.now ≡ 1
HasInput b (Some input) =
    (length b.sources.now ≡ length input.now.map.now.sources.items)
    × IsIndexOf (boxed_slice_items input.now.map.now.tokens) input.now.index

-- what steps that use a block rely on
pub record IsUsable (b : Block) : Type 0 where
  pub room : b.start + length b.sources.now ≤ 4294967295
  pub flags : length b.ignored.now ≡ length b.sources.now
  pub input_is : HasInput b b.input

abbrev pub AreUsable : List Block → Type 0
AreUsable bs = AllByRecursion IsUsable bs

-- a block behind a borrow
abbrev pub lent_block : Option (Bor Block) → Option Block
lent_block block = option_map (λ b. b.now) block

-- the block of a token's source
abbrev pub block_of : List Block → TokenRecord → Option Block
block_of bs t = option_and_then (slice_get bs) t.source_id

-- where a token leads whose source has this block
abbrev pub block_original : Option Block → List Text → Target → Option Original
block_original block names l = option_and_then (λ b. original_by (block_input b) b.start names l) block

-- a token leads to what it may lead to in the input of its source's block
abbrev pub IsBlockTarget : Option Block → Target → Type 0
IsBlockTarget block l = IsTargetBy (option_and_then block_input block) l

abbrev pub AreBlockTargets : List Block → List TokenRecord → List Target → Type 0
AreBlockTargets bs ts ls = (map (λ l. l.token) ls ≡ ts) × AllByRecursion (λ l. IsBlockTarget (block_of bs l.token) l) ls

-- the indices of flags that are set, the first of which has this index
abbrev pub set_from : ℕ → List Bool → List ℕ
set_from i [] = []
set_from i (flag ∷ flags) = if flag then i ∷ set_from (i + 1) flags else set_from (i + 1) flags

-- the ids of the ignored sources of blocks
abbrev pub block_ids : List Block → List ℕ
block_ids bs = flat_map (λ b. set_from b.start b.ignored.now) bs

-- where a token leads, with the name as a text
abbrev pub lent_original : LentOriginal → Original
lent_original o =
    record { source_id = o.source_id; src_line = o.src_line; src_col = o.src_col; name = option_map (λ name. name.text.now) o.name }

-- the names that are needed so far
abbrev pub names_in : NeededNames → List Text
names_in needed = map (λ name. name.now) needed.names.items

-- each text is at its own index alone
abbrev pub AreApart : List Text → Type 0
AreApart names = (i : ℕ) (name : Text) → slice_get names i ≡ Some name → index_of name names ≡ Some i

-- each has its place, no two are equal, and there are no more of them than ids
pub record AreIndexed (needed : NeededNames) : Type 0 where
  pub places : HasIndices (names_in needed) needed.places
  pub apart : AreApart (names_in needed)
  pub few : length needed.names.items ≤ 4294967295

-- the remapped map, from the first map and its blocks, with these tokens and names
abbrev pub put_together : MapRecord → List Block → List TokenRecord → List Text → MapRecord
put_together a bs tokens names = record {
  file = a.file;
  names = names;
  source_root = None;
  sources = flat_map (λ b. cow_texts b.sources.now) bs;
  source_contents = flat_map (λ b. map (λ source. source.content) (block_sources b)) bs;
  tokens = tokens;
  token_chunks = None;
  ignore_list = unless_empty (block_ids bs);
  debug_id = a.debug_id;
}

-- a source of its own, with its content
abbrev pub source_record : Source → DecodedSource
source_record source = record { path = cow_str_bytes source.path; content = text_of source.content }

abbrev pub source_records : List Source → List DecodedSource
source_records sources = map source_record sources

-- the paths of sources
abbrev pub source_paths : List Source → List Text
source_paths sources = map (λ source. cow_str_bytes source.path) sources

-- the sources of each input
abbrev pub source_lists : List (Vec Source Global) → List (List DecodedSource)
source_lists lists = map (λ sources. source_records sources.items) lists

-- the index that a map of indices has for a path
abbrev pub listed_index : {S : Type 0} → HashMap (Bor Text) ℕ S → Text → Option ℕ
listed_index places path = hash.get_by (λ key. bytes_eq path key.now) places

-- all of its indices are below this number
abbrev pub AreBelow : {S : Type 0} → ℕ → HashMap (Bor Text) ℕ S → Type 0
AreBelow count places = (path : Text) (k : ℕ) → listed_index places path ≡ Some k → k < count

-- of the first `n` of these paths, none that has an index stands after the one that is listed for it
abbrev pub AreLastUses : {S : Type 0} → ℕ → HashMap (Bor Text) ℕ S → List Text → List ℕ → Type 0
AreLastUses n places paths last = (i k : ℕ) → i < n → listed_index places (get_or paths i []) ≡ Some k → i ≤ get_or last k 0

-- what stands for a source, if its input is this one of these, or if it has none
abbrev pub sources_in : List (List DecodedSource) → Option ℕ → DecodedSource → List DecodedSource
sources_in lists None source = source ∷ []
sources_in lists (Some k) source = get_or lists k []

-- contents begin with this one, or are none where there are none
abbrev pub HasNext : List (Option Text) → Option Text → List (Option Text) → Type 0
HasNext olds content news = (olds ≡ content ∷ news) ⊎ ((olds ≡ []) × (news ≡ []) × (content ≡ None))

-- indices with one of them set, if there is one
abbrev pub with_last : List ℕ → Option ℕ → ℕ → List ℕ
with_last last None i = last
with_last last (Some k) i = set last k i

-- of lists, no other is changed than the one at this place, and that only if this is its last use
abbrev pub KeepsOthers : Option ℕ → List ℕ → ℕ → List (Vec Source Global) → List (Vec Source Global) → Type 0
KeepsOthers None last i olds news = news ≡ olds
KeepsOthers (Some k) last i olds news =
    (new : Vec Source Global) × (news ≡ set olds k new)
    × ((get_or last k 0 == i) ≡ false → source_records new.items ≡ get_or (source_lists olds) k [])

-- a map with its sources and their contents left out
abbrev pub without_sources : MapRecord → MapRecord
without_sources a = record a { sources = []; source_contents = [] }
