-- Where the parts of a compiled map lie, and whether bytes are one.
use Rattle.std.specs.Prelude.{ℕ, ◌+◌, ◌-◌, ◌*◌, ◌/◌, ◌≤◌, List, length, Option, Some, None, not}
use Rattle.std.specs.Prelude.{min, nat_lt}
use Rattle.std.specs.Prelude.{nat_le}
use Rattle.std.specs.Prelude.{◌==◌}
use Rattle.std.specs.Prelude.{◌||◌, if◌then◌else◌}
use Rattle.oxc_sourcemap_compiled.specs.Numbers.{number_at}
use Rattle.oxc_sourcemap_compiled.specs.declared.errors.CompiledError.{CompiledError}
use Rattle.oxc_sourcemap_compiled.specs.declared.errors.CompiledError.TheVariants.{NotCompiled}
use Rattle.oxc_sourcemap_compiled.specs.declared.errors.CompiledError.TheVariants.{Version, Length}
use Rattle.oxc_sourcemap_compiled.specs.declared.errors.CompiledError.TheVariants.{Sizes}
use Rattle.oxc_sourcemap_compiled.specs.declared.layout.Header.{Header}
use Rattle.oxc_sourcemap_compiled.specs.declared.layout.Layout.{Layout}

-- what the header of bytes counts
unfoldable pub header_in : List ℕ → Header
header_in bytes = record {
  tokens = number_at 4 bytes 56;
  lines = number_at 4 bytes 60;
  sources = number_at 4 bytes 64;
  names = number_at 4 bytes 68;
  ignored = number_at 4 bytes 72;
  has_ignore_list = not (number_at 4 bytes 76 == 0);
  has_line_numbers = not (number_at 4 bytes 80 == 0);
  group_bytes = number_at 4 bytes 84;
}

-- how many groups of eight tokens a block has at most, of a map with this many tokens: 2048 where there are at most 16384, else 8
abbrev pub block_groups : ℕ → ℕ
block_groups tokens = if nat_le tokens 16384 then 2048 else 8

-- how many tokens a block has at most
abbrev pub block_size : ℕ → ℕ
block_size tokens = 8 * block_groups tokens

-- how many blocks this many tokens take: all but the last have as many as a block may
abbrev pub blocks_for : ℕ → ℕ
blocks_for tokens = (tokens + (block_size tokens - 1)) / block_size tokens

abbrev pub block_count : Header → ℕ
block_count h = blocks_for h.tokens

-- how many groups of eight tokens a block has: the last one may have fewer than the others
abbrev pub groups_in : Header → ℕ → ℕ
groups_in h b =
    let each = block_groups h.tokens in
    min ((h.tokens + 7) / 8 - each * b) each

-- sources, contents and names, and the three texts that are in no list
abbrev pub text_count : Header → ℕ
text_count h = 2 * h.sources + h.names + 3

-- how many entries of lines have a number
abbrev pub listed_count : Header → ℕ
listed_count h = if h.has_line_numbers then h.lines else 0

-- where the rows of the blocks begin: behind where each line begins, and where the last one ends
abbrev pub rows_base : Header → ℕ
rows_base h = 88 + 4 * (h.lines + 1)

abbrev pub ignored_base : Header → ℕ
ignored_base h = rows_base h + 29 * block_count h

abbrev pub offsets_base : Header → ℕ
offsets_base h = ignored_base h + 4 * h.ignored

abbrev pub line_numbers_base : Header → ℕ
line_numbers_base h = offsets_base h + 4 * (text_count h + 1)

abbrev pub groups_base : Header → ℕ
groups_base h = line_numbers_base h + 4 * listed_count h

abbrev pub texts_base : Header → ℕ
texts_base h = groups_base h + h.group_bytes

-- where the parts begin
abbrev pub layout_in : Header → Layout
layout_in h = record {
  rows = rows_base h;
  ignored = ignored_base h;
  offsets = offsets_base h;
  line_numbers = line_numbers_base h;
  groups = groups_base h;
  texts = texts_base h;
}

-- all counts have 32 bits
pub record AreCounts (h : Header) : Type 0 where
  pub tokens : h.tokens ≤ 4294967295
  pub lines : h.lines ≤ 4294967295
  pub sources : h.sources ≤ 4294967295
  pub names : h.names ≤ 4294967295
  pub ignored : h.ignored ≤ 4294967295
  pub group_bytes : h.group_bytes ≤ 4294967295

-- the parts that a header counts fit into this many bytes, with sixteen more behind them
pub record HasParts (size : ℕ) (h : Header) : Type 0 where
  pub counts : AreCounts h
  pub room : texts_base h + 16 ≤ size

-- Why bytes are not a compiled map, the first reason: they do not begin with "smap" and four bytes more, the version is not 1,
-- there are fewer than 104 bytes or another number than the header says, or the parts do not fit. None if they are one.
unfoldable pub compiled_fault : List ℕ → Option CompiledError
compiled_fault bytes =
    if nat_lt (length bytes) 8 || not (number_at 4 bytes 0 == 1885433203) then Some NotCompiled
    else if not (number_at 4 bytes 4 == 1) then Some (Version (number_at 4 bytes 4))
    else if nat_lt (length bytes) 104 || not (number_at 8 bytes 8 == length bytes) then Some Length
    else if nat_lt (length bytes) (texts_base (header_in bytes) + 16) then Some Sizes
    else None
