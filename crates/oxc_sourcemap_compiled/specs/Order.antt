-- Compiled maps in which lookups by halving are exact: the lines and columns in their bytes are in order.
use Rattle.std.specs.Prelude.{◌≡◌, ℕ, ◌+◌, ◌-◌, ◌*◌, ◌/◌, ◌<◌, ◌≤◌, true, List, map, Option, IfSome}
use Rattle.std.specs.Prelude.{option_map}
use Rattle.std.specs.List.{range_with_len}
use Rattle.oxc_sourcemap_tokens.specs.Token.{TokenRecord}
use Rattle.oxc_sourcemap_parts.specs.Sorted.{token_column}
use Rattle.oxc_sourcemap_tokens.specs.declared.position.Position.{Position}
use Rattle.oxc_sourcemap_lookup.specs.Biased.{index_by}
use Rattle.oxc_sourcemap_lookup.specs.Lookup.{no_column_goes_back}
use Rattle.oxc_sourcemap_lookup.specs.declared.bias.Bias.{Bias}
use Rattle.oxc_sourcemap_compiled.specs.Numbers.{number_at}
use Rattle.oxc_sourcemap_compiled.specs.Layout.{header_in, block_count, block_size}
use Rattle.oxc_sourcemap_compiled.specs.Fields.{value_of, row_base}
use Rattle.oxc_sourcemap_compiled.specs.CompiledMeaning.{token_in, start_in, line_in, entry_tokens}
use Rattle.oxc_sourcemap_compiled.specs.CompiledMeaning.{entry_begin, entry_end, tokens_in}
use Rattle.oxc_sourcemap_compiled.specs.Decompiled.{DoLinesFollow}
use Rattle.oxc_sourcemap_compiled.specs.declared.layout.Header.{Header}
use Rattle.oxc_sourcemap_compiled.specs.declared.lookup.Span.{Span}

-- the generated column of a token
abbrev pub column_of : List ℕ → Header → ℕ → ℕ
column_of bytes h i = value_of bytes h 0 i

-- the generated columns of so many tokens from an index on
abbrev pub columns_in : List ℕ → Header → ℕ → ℕ → List ℕ
columns_in bytes h first count = map (column_of bytes h) (range_with_len first count)

-- the least column that the bytes of a block's row have, whether its groups lie within those of all or not
abbrev pub least_column_of : List ℕ → Header → ℕ → ℕ
least_column_of bytes h b = number_at 4 bytes (row_base h b + 4)

-- Where the first token of a block has the least column there, the row of the block has this column.
abbrev pub AreRowsExact : List ℕ → Header → Type 0
AreRowsExact bytes h = (b : ℕ) → b < block_count h
    → ((i : ℕ) → i < h.tokens → i / block_size h.tokens ≡ b → column_of bytes h (block_size h.tokens * b) ≤ column_of bytes h i)
    → least_column_of bytes h b ≡ column_of bytes h (block_size h.tokens * b)

-- The first line begins at the first token, none begins before the one in front of it, and the last ends with the last token; their
-- numbers rise, no column goes back on a line, and rows are exact. All of it can be computed from the bytes; it holds of what
-- `compile` makes.
pub record AreInOrder (bytes : List ℕ) (h : Header) : Type 0 where
  pub first : start_in bytes 0 ≡ 0
  pub last : start_in bytes h.lines ≡ h.tokens
  pub starts : DoLinesFollow bytes h
  pub lines : (k : ℕ) → k + 1 < h.lines → line_in bytes h k < line_in bytes h (k + 1)
  pub columns : (k : ℕ) → k < h.lines → no_column_goes_back token_column (entry_tokens bytes h k) ≡ true
  pub rows : AreRowsExact bytes h

abbrev pub IsInOrder : List ℕ → Type 0
IsInOrder bytes = AreInOrder bytes (header_in bytes)

-- an index is one of those of an entry's tokens
pub record IsInEntry (bytes : List ℕ) (h : Header) (k i : ℕ) : Type 0 where
  pub reached : entry_begin bytes h k ≤ i
  pub within : i < entry_end bytes h k

-- a span lies among the tokens
pub record IsSpan (span : Span) (h : Header) : Type 0 where
  pub order : span.start ≤ span.end
  pub there : span.end ≤ h.tokens

-- an index is one of a span, or its end
pub record IsUpToEnd (span : Span) (i : ℕ) : Type 0 where
  pub reached : span.start ≤ i
  pub within : i ≤ span.end

-- A line has the columns of the tokens of a span; none of them goes back, and the rows of blocks are exact.
pub record AreColumnsOf (bytes : List ℕ) (h : Header) (span : Span) (line : List TokenRecord) : Type 0 where
  pub are : columns_in bytes h span.start (span.end - span.start) ≡ map token_column line
  pub up : no_column_goes_back token_column line ≡ true
  pub rows : AreRowsExact bytes h

-- a token is one of those of a line's entry
pub record IsOn (bytes : List ℕ) (h : Header) (line i k : ℕ) : Type 0 where
  pub there : k < h.lines
  pub line_is : line_in bytes h k ≡ line
  pub reached : entry_begin bytes h k ≤ i
  pub within : i < entry_end bytes h k

-- a token is on a line: an entry of this line has it
abbrev pub IsOnLine : List ℕ → Header → ℕ → ℕ → Type 0
IsOnLine bytes h line i = (k : ℕ) × IsOn bytes h line i k

-- a token is that of an index, on a line of some entry
abbrev pub IsTokenAt : List ℕ → Header → ℕ → TokenRecord → Type 0
IsTokenAt bytes h i t = (k : ℕ) × (k < h.lines) × (i < h.tokens) × (t ≡ token_in bytes h (line_in bytes h k) i)

-- a token is on a line: it is that of an index that an entry of this line has
abbrev pub IsTokenOn : List ℕ → Header → ℕ → TokenRecord → Type 0
IsTokenOn bytes h line t = (i : ℕ) × IsOnLine bytes h line i × (t ≡ token_in bytes h line i)

-- What is found at a position: in bytes that are in order the index of the token that answers; in any bytes that of some token of the
-- line, or none.
pub record IsIndexIn (bytes : List ℕ) (h : Header) (bias : Bias) (at : Position) (found : Option ℕ) : Type 0 where
  pub is : AreInOrder bytes h → found ≡ index_by bias (tokens_in bytes h) at.line at.column
  pub among : IfSome found (IsOnLine bytes h at.line)

-- the same with the token of that index
pub record IsFoundIn (bytes : List ℕ) (h : Header) (bias : Bias) (at : Position) (found : Option (ℕ × TokenRecord)) : Type 0 where
  pub index : IsIndexIn bytes h bias at (option_map (λ f. f.0) found)
  pub token : IfSome found (λ f. f.1 ≡ token_in bytes h at.line f.0)

-- the index that is found, by the header that the bytes have
abbrev pub IsIndexFor : Bias → List ℕ → Position → Option ℕ → Type 0
IsIndexFor bias bytes at found = IsIndexIn bytes (header_in bytes) bias at found
