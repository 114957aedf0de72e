-- The bytes of a compiled map.
use Rattle.std.specs.Prelude.{◌≡◌, ℕ, zero, suc, ◌+◌, ◌-◌, ◌*◌, ◌/◌, ◌%◌, ◌^◌, ◌<◌, ◌≤◌, List, []}
use Rattle.std.specs.Prelude.{◌∷◌, ◌++◌, map, take, drop, length}
use Rattle.std.specs.Prelude.{get_or, slice_get, Option, Some, None, min, if◌then◌else◌, Bool, true}
use Rattle.std.specs.Prelude.{false, is_some, nat_lt, ◌==◌}
use Rattle.std.specs.List.{flat_map, range_with_len}
use Rattle.std.specs.Option.{option_and_then, unwrap_or}
use Rattle.oxc_sourcemap_tokens.specs.Token.{TokenRecord}
use Rattle.oxc_sourcemap_parts.specs.Record.{MapRecord, Text}
use Rattle.oxc_sourcemap_parts.specs.Views.{record_of_parts}
use Rattle.oxc_sourcemap_parts.specs.declared.parts.SourceMapParts.{SourceMapParts}
use Rattle.oxc_sourcemap_lookup.specs.LineSpans.{count_before_line}
use Rattle.oxc_sourcemap_parts.specs.Sorted.{are_tokens_sorted}
use Rattle.oxc_sourcemap_compiled.specs.Layout.{texts_base, block_groups, block_size, blocks_for}
use Rattle.oxc_sourcemap_compiled.specs.declared.layout.Header.{Header}
use Rattle.oxc_sourcemap_compiled.specs.declared.writing.blocks.Packing.{Packing}
use Rattle.oxc_sourcemap_compiled.specs.declared.writing.blocks.Block.{Block}
use Rattle.oxc_sourcemap_compiled.specs.declared.writing.blocks.Rest.{Rest}

-- a number as this many bytes, the lowest first
unfoldable pub bytes_of : ℕ → ℕ → List ℕ
bytes_of zero n = []
bytes_of (suc width) n = n % 256 ∷ bytes_of width (n / 256)

-- numbers of four bytes each
abbrev pub table : List ℕ → List ℕ
table numbers = flat_map (bytes_of 4) numbers

-- ---- lines
-- lines that rise, and that have those of all tokens
pub record AreLinesOf (tokens : List TokenRecord) (lines : List ℕ) : Type 0 where
  pub rise : (k : ℕ) → k + 1 < length lines → get_or lines k 0 < get_or lines (k + 1) 0
  pub each : (i : ℕ) (d : TokenRecord) → i < length tokens → (k : ℕ) × (k < length lines) × (get_or lines k 0 ≡ (get_or tokens i d).dst_line)

-- where the tokens of each line begin, and where all tokens end
abbrev pub line_starts : List TokenRecord → List ℕ → List ℕ
line_starts tokens lines = map (λ n. count_before_line n tokens) lines ++ length tokens ∷ []

-- ---- blocks
-- an id as it is stored: one more, and 0 for none
abbrev pub id_number : Option ℕ → ℕ
id_number None = 0
id_number (Some n) = n + 1

-- a field of a token, by its number
abbrev pub field_number : ℕ → TokenRecord → ℕ
field_number zero t = t.dst_col
field_number (suc zero) t = id_number t.source_id
field_number (suc (suc zero)) t = t.src_line
field_number (suc (suc (suc zero))) t = t.src_col
field_number (suc (suc (suc (suc k)))) t = id_number t.name_id

-- How a field of these tokens is written: from each value the least one is taken, which one of the tokens has, and what is left
-- fits into the bits of the width, which are no more than one of the tokens needs, and so many to spare.
pub record IsPacked (k spare : ℕ) (tokens : List TokenRecord) (p : Packing) : Type 0 where
  pub width : p.width ≤ 32
  pub least : (i : ℕ) (d : TokenRecord) → i < length tokens → p.least ≤ field_number k (get_or tokens i d)
  pub fits : (i : ℕ) (d : TokenRecord) → i < length tokens → field_number k (get_or tokens i d) - p.least < 2 ^ p.width
  pub reached : (d : TokenRecord) → (i : ℕ) × (i < length tokens) × (p.least ≡ field_number k (get_or tokens i d))
  pub needed : spare < p.width → (d : TokenRecord)
      → (i : ℕ) × (i < length tokens) × (2 ^ (p.width - spare - 1) ≤ field_number k (get_or tokens i d) - p.least)

-- How all fields of these tokens are written: the last one may have some bits to spare, so that a token has whole bytes.
pub record ArePacked (tokens : List TokenRecord) (b : Block) : Type 0 where
  pub column : IsPacked 0 0 tokens b.column
  pub source : IsPacked 1 0 tokens b.source
  pub src_line : IsPacked 2 0 tokens b.src_line
  pub src_col : IsPacked 3 0 tokens b.src_col
  pub name : IsPacked 4 4 tokens b.name

-- the tokens of a block, by its number
abbrev pub block_tokens : List TokenRecord → ℕ → List TokenRecord
block_tokens tokens b =
    let size = block_size (length tokens) in
    take size (drop (size * b) tokens)

-- the blocks of tokens
pub record AreBlocksOf (tokens : List TokenRecord) (blocks : List Block) : Type 0 where
  pub count : length blocks ≡ blocks_for (length tokens)
  pub each : (b : ℕ) (d : Block) → b < length blocks → ArePacked (block_tokens tokens b) (get_or blocks b d)

-- in how many bits the fields of a block are written, in the order of their numbers
abbrev pub widths_of : Block → List ℕ
widths_of b = b.column.width ∷ b.source.width ∷ b.src_line.width ∷ b.src_col.width ∷ b.name.width ∷ []

-- how many bits a token of a block takes, and so how many bytes a group of eight
abbrev pub stride_of : Block → ℕ
stride_of b = b.column.width + b.source.width + b.src_line.width + b.src_col.width + b.name.width

-- how many bytes the groups of blocks take, if there are so many groups in each block but the last, and so many in all
abbrev pub group_bytes_of : ℕ → ℕ → List Block → ℕ
group_bytes_of each groups [] = 0
group_bytes_of each groups (b ∷ bs) = min groups each * stride_of b + group_bytes_of each (groups - each) bs

-- and those of all tokens
abbrev pub all_group_bytes : List TokenRecord → List Block → ℕ
all_group_bytes tokens blocks = group_bytes_of (block_groups (length tokens)) ((length tokens + 7) / 8) blocks

-- the row of a block
abbrev pub row_of : ℕ → Block → List ℕ
row_of place b = bytes_of 4 place ++ bytes_of 4 b.column.least ++ bytes_of 4 b.source.least ++ bytes_of 4 b.src_line.least
    ++ bytes_of 4 b.src_col.least ++ bytes_of 4 b.name.least ++ widths_of b

-- the rows of blocks whose groups begin at this place, so many in each but for the last, and so many in all
abbrev pub rows_of : ℕ → ℕ → ℕ → List Block → List ℕ
rows_of place each groups [] = []
rows_of place each groups (b ∷ bs) = row_of place b ++ rows_of (place + min groups each * stride_of b) each (groups - each) bs

-- what is written of a field in a token; 0 where there is none
abbrev pub above_in : ℕ → Packing → Option TokenRecord → ℕ
above_in k p None = 0
above_in k p (Some t) = field_number k t - p.least

-- what is written of each field of a token fits into its bits
pub record FieldsFit (b : Block) (t : Option TokenRecord) : Type 0 where
  pub column : above_in 0 b.column t < 2 ^ b.column.width
  pub source : above_in 1 b.source t < 2 ^ b.source.width
  pub src_line : above_in 2 b.src_line t < 2 ^ b.src_line.width
  pub src_col : above_in 3 b.src_col t < 2 ^ b.src_col.width
  pub name : above_in 4 b.name t < 2 ^ b.name.width

-- what is written of a token, in one number, its column lowest
abbrev pub token_bits : Block → Option TokenRecord → ℕ
token_bits b t =
    above_in 0 b.column t + 2 ^ b.column.width * (above_in 1 b.source t + 2 ^ b.source.width * (above_in 2 b.src_line t
    + 2 ^ b.src_line.width * (above_in 3 b.src_col t + 2 ^ b.src_col.width * above_in 4 b.name t)))

-- all widths of a block are those of numbers of 32 bits
pub record AreNarrow (b : Block) : Type 0 where
  pub column : b.column.width ≤ 32
  pub source : b.source.width ≤ 32
  pub src_line : b.src_line.width ≤ 32
  pub src_col : b.src_col.width ≤ 32
  pub name : b.name.width ≤ 32

-- the first tokens of a group, in one number, the first one lowest; what is written of one that is not there is 0
abbrev pub first_bits : Block → List TokenRecord → ℕ → ℕ
first_bits b ts zero = 0
first_bits b ts (suc n) = first_bits b ts n + 2 ^ (n * stride_of b) * token_bits b (slice_get ts n)

-- all tokens of a group, of which there are up to eight
abbrev pub group_bits : Block → List TokenRecord → ℕ
group_bits b ts = first_bits b ts 8

-- Of a number of so many bits the whole bytes are written, and the rest of it is left.
pub record IsWritten (old out : List ℕ) (rest : Rest) (bits number : ℕ) : Type 0 where
  pub items : out ≡ old ++ bytes_of (bits / 8) number
  pub left : rest.bits ≡ number / 256 ^ (bits / 8)
  pub count : rest.count ≡ bits % 8
  pub small : number < 2 ^ bits

-- the bytes of a group
abbrev pub group_of : Block → List TokenRecord → List ℕ
group_of b ts = bytes_of (stride_of b) (group_bits b ts)

-- a block, for reads past the end
abbrev pub no_packing : Packing
no_packing = record { least = 0; width = 0 }

abbrev pub no_block : Block
no_block = record { column = no_packing; source = no_packing; src_line = no_packing; src_col = no_packing; name = no_packing }

-- the groups of all tokens
abbrev pub groups_of : List Block → List TokenRecord → List ℕ
groups_of blocks tokens =
    flat_map (λ g. group_of (get_or blocks (g / block_groups (length tokens)) no_block) (take 8 (drop (8 * g) tokens)))
    (range_with_len 0 ((length tokens + 7) / 8))

-- ---- texts
-- a text that may be absent, with one byte in front of it where it is there
abbrev pub marked : Option Text → Text
marked None = []
marked (Some text) = 1 ∷ text

-- the content that is listed for a source
abbrev pub content_at : List (Option Text) → ℕ → Option Text
content_at contents i = option_and_then (λ text. text) (slice_get contents i)

-- how many texts are stored: sources, contents, names, file, source root and debug id
abbrev pub stored_count : MapRecord → ℕ
stored_count r = 2 * length r.sources + length r.names + 3

-- a text as it is stored, by its number among all
unfoldable pub stored_text : MapRecord → ℕ → Text
stored_text r t =
    let sources = length r.sources in
    let names = length r.names in
    if nat_lt t sources then unwrap_or (slice_get r.sources t) []
    else if nat_lt t (2 * sources) then marked (content_at r.source_contents (t - sources))
    else if nat_lt t (2 * sources + names) then unwrap_or (slice_get r.names (t - 2 * sources)) []
    else if t == 2 * sources + names then marked r.file
    else if t == 2 * sources + names + 1 then marked r.source_root
    else marked r.debug_id

-- where a text begins among all
abbrev pub text_offset : MapRecord → ℕ → ℕ
text_offset r zero = 0
text_offset r (suc t) = text_offset r t + length (stored_text r t)

-- ---- the whole
-- the entries of the ignore list; none where there is no list
abbrev pub ignored_of : MapRecord → List ℕ
ignored_of r = unwrap_or r.ignore_list []

-- all that a header counts of a map has 32 bits
pub record AreSmall (r : MapRecord) : Type 0 where
  pub tokens : length r.tokens ≤ 4294967295
  pub sources : length r.sources ≤ 4294967295
  pub names : length r.names ≤ 4294967295
  pub ignored : length (ignored_of r) ≤ 4294967295

-- A map fits into a compiled map: by what a header counts, by its texts, and by its groups of at most 160 bytes.
pub record FitsCompiled (r : MapRecord) : Type 0 where
  pub small : AreSmall r
  pub few_texts : text_offset r (stored_count r) ≤ 4294967295
  pub few_groups : 160 * ((length r.tokens + 7) / 8) ≤ 4294967295

abbrev pub AreCountsOf : SourceMapParts → Type 0
AreCountsOf parts = AreSmall (record_of_parts parts)

-- 1 for true, 0 for false
abbrev pub flag_of : Bool → ℕ
flag_of true = 1
flag_of false = 0

-- the header of a compiled map of this length
abbrev pub header_bytes : Header → ℕ → ℕ → List ℕ → List ℕ
header_bytes h length text_length stamp =
    bytes_of 4 1885433203 ++ (bytes_of 4 1 ++ (bytes_of 8 length ++ (bytes_of 8 text_length ++ (stamp ++ (bytes_of 4 h.tokens
    ++ (bytes_of 4 h.lines ++ (bytes_of 4 h.sources ++ (bytes_of 4 h.names ++ (bytes_of 4 h.ignored ++ (bytes_of 4 (flag_of h.has_ignore_list)
    ++ (bytes_of 4 (flag_of h.has_line_numbers) ++ bytes_of 4 h.group_bytes)))))))))))

-- the numbers of lines, where they are listed
abbrev pub listed_table : Bool → List ℕ → List ℕ
listed_table true lines = table lines
listed_table false lines = []

-- the parts behind the header
abbrev pub parts_bytes : MapRecord → List ℕ → Bool → List Block → List ℕ
parts_bytes r lines listed blocks =
    table (line_starts r.tokens lines) ++ (rows_of 0 (block_groups (length r.tokens)) ((length r.tokens + 7) / 8) blocks ++ (table (ignored_of r)
    ++ (table (map (text_offset r) (range_with_len 0 (stored_count r + 1))) ++ (listed_table listed lines ++ (groups_of blocks r.tokens
    ++ (flat_map (stored_text r) (range_with_len 0 (stored_count r)) ++ bytes_of 16 0))))))

-- what the header of a map counts
abbrev pub header_of_map : MapRecord → List ℕ → Bool → List Block → Header
header_of_map r lines listed blocks = record {
  tokens = length r.tokens;
  lines = length lines;
  sources = length r.sources;
  names = length r.names;
  ignored = length (ignored_of r);
  has_ignore_list = is_some r.ignore_list;
  has_line_numbers = listed;
  group_bytes = all_group_bytes r.tokens blocks;
}

-- how long the compiled map of a map is
abbrev pub compiled_length : MapRecord → List ℕ → Bool → List Block → ℕ
compiled_length r lines listed blocks = texts_base (header_of_map r lines listed blocks) + text_offset r (stored_count r) + 16

-- the bytes of a map, with these lines and blocks
abbrev pub map_bytes : MapRecord → List ℕ → Bool → List Block → ℕ → List ℕ → List ℕ
map_bytes r lines listed blocks text_length stamp =
    header_bytes (header_of_map r lines listed blocks) (compiled_length r lines listed blocks) text_length stamp ++ parts_bytes r lines listed blocks

-- The bytes are those of a map, with some lines and blocks of its tokens.
pub record AreBytesOf (r : MapRecord) (text_length : ℕ) (stamp bytes : List ℕ) : Type 0 where
  pub lines : List ℕ
  pub listed : Bool
  pub blocks : List Block
  pub small : AreSmall r
  pub sorted : are_tokens_sorted r.tokens ≡ true
  pub lines_of : AreLinesOf r.tokens lines
  pub few_lines : length lines ≤ 4294967295
  pub small_lines : (k : ℕ) → k < length lines → get_or lines k 0 ≤ 4294967295
  pub all_listed : listed ≡ false → (k : ℕ) → k < length lines → get_or lines k 0 ≡ k
  pub blocks_of : AreBlocksOf r.tokens blocks
  pub few_groups : all_group_bytes r.tokens blocks ≤ 4294967295
  pub few_texts : text_offset r (stored_count r) ≤ 4294967295
  pub are : bytes ≡ map_bytes r lines listed blocks text_length stamp
