-- The index of the lines of a list of tokens: `IsIndexOf`, its parts, and where the tokens of a line lie in the list.
use Rattle.std.specs.Prelude.{◌≡◌, ◌≢◌, ℕ, ◌+◌, ◌-◌, ◌*◌, ◌<◌, ◌≤◌, nat_lt, min, List, [], length}
use Rattle.std.specs.Prelude.{take, drop, get_or, map, count_by, max, IfSome}
use Rattle.std.specs.Option.{option_map_or}
use Rattle.std.specs.List.{All, range_with_len}
use Rattle.oxc_sourcemap_tokens.specs.Token.{TokenRecord, last}
use Rattle.oxc_sourcemap_tokens.specs.LineOrder.{IsInLineOrder}
use Rattle.oxc_sourcemap_parts.specs.Sorted.{token_line, token_column}
use Rattle.oxc_sourcemap_lookup.specs.Lookup.{on_line, lines_through}
use Rattle.oxc_sourcemap_lookup.specs.declared.line_index.LineSpan.{LineSpan}
use Rattle.oxc_sourcemap_lookup.specs.declared.line_index.Lines.{Lines}
use Rattle.oxc_sourcemap_lookup.specs.declared.line_index.Lines.TheVariants.{Starts, Spans, Few}
use Rattle.oxc_sourcemap_lookup.specs.declared.line_index.LineIndex.{LineIndex}
use Rattle.oxc_sourcemap_lookup.specs.declared.line_index.UsualIndex.{UsualIndex}

-- how many tokens lie on lines before this one
abbrev pub count_before_line : ℕ → List TokenRecord → ℕ
count_before_line n tokens = count_by (λ t. nat_lt (token_line t) n) tokens

-- where the lines of tokens in line order begin: for each line up to the last token's, and for the one after it, how many
-- tokens lie on the lines before; and there are at most four lines for each token, and 16 more
pub record AreStarts (tokens : List TokenRecord) (starts : List ℕ) : Type 0 where
  pub order : IsInLineOrder tokens
  pub each : starts ≡ map (λ n. count_before_line n tokens) (range_with_len 0 (lines_through (last tokens) + 1))
  pub few : lines_through (last tokens) ≤ 4 * length tokens + 16

-- each line ends there, or where the line before ends
abbrev pub EndsOf : List TokenRecord → List ℕ → Type 0
EndsOf tokens ends = (n d : ℕ) → n < length ends → max (count_before_line n tokens) (get_or ends n d) ≡ count_before_line (n + 1) tokens

-- how many tokens lie up to the last of each line that has some, for tokens in line order; 0 for the other lines
pub record AreEnds (tokens : List TokenRecord) (ends : List ℕ) : Type 0 where
  pub order : IsInLineOrder tokens
  pub lines : length ends ≡ lines_through (last tokens)
  pub each : EndsOf tokens ends

-- a span has exactly the tokens of its line, and there are some
pub record IsSpan (tokens : List TokenRecord) (span : LineSpan) : Type 0 where
  pub some : span.start < span.end
  pub within : span.end ≤ length tokens
  pub tokens_on : take (span.end - span.start) (drop span.start tokens) ≡ on_line token_line span.line tokens

-- each span lies on a line after that of the span before
abbrev pub DoLinesRise : List LineSpan → Type 0
DoLinesRise spans = (i j : ℕ) (d : LineSpan) → i < j → j < length spans → (get_or spans i d).line < (get_or spans j d).line

-- the spans of tokens in line order: one for each line that has tokens, and no other
pub record AreSpans (tokens : List TokenRecord) (spans : List LineSpan) : Type 0 where
  pub order : IsInLineOrder tokens
  pub each : All (IsSpan tokens) spans
  pub rise : DoLinesRise spans
  pub others : (n : ℕ) → All (λ span. span.line ≢ n) spans → on_line token_line n tokens ≡ []

-- where the tokens of each line lie, in any form
abbrev pub AreLines : List TokenRecord → Lines → Type 0
AreLines tokens (Starts starts) = AreStarts tokens starts.items
AreLines tokens (Spans spans) = AreSpans tokens spans.items
AreLines tokens Few = IsInLineOrder tokens

-- the index of the lines of these tokens, which may have the column of each
abbrev pub IsIndexOf : List TokenRecord → LineIndex → Type 0
IsIndexOf tokens index = AreLines tokens index.lines × IfSome index.columns (λ columns. columns.items ≡ map token_column tokens)

-- where each line of these tokens begins, and the column of each token
abbrev pub IsUsualIndexOf : List TokenRecord → UsualIndex → Type 0
IsUsualIndexOf tokens index = AreStarts tokens index.starts.now × (index.columns.now ≡ map token_column tokens)

-- some tokens lie side by side in a list, from this index on
pub record IsPartAt (start : ℕ) (part tokens : List TokenRecord) : Type 0 where
  pub within : start + length part ≤ length tokens
  pub is : part ≡ take (length part) (drop start tokens)

-- a list of columns has those of some tokens, from this index on
pub record AreColumnsAt (start : ℕ) (part : List TokenRecord) (columns : List ℕ) : Type 0 where
  pub within : start + length part ≤ length columns
  pub are : take (length part) (drop start columns) ≡ map token_column part

-- the number of bytes of memory that lines take: 4 for where a line begins, or 24 for a span
abbrev pub bytes_of_lines : Lines → ℕ
bytes_of_lines (Starts starts) = length starts.items * 4
bytes_of_lines (Spans spans) = length spans.items * 24
bytes_of_lines Few = 0

-- the number of bytes of memory that an index holds, with 4 for each column; at most 2^64 - 1
abbrev pub index_bytes : LineIndex → ℕ
index_bytes index = min (bytes_of_lines index.lines + option_map_or (λ columns. length columns.items * 4) index.columns 0) 18446744073709551615
