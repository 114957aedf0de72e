-- The lines of a text that is read as JSON, by bytes. They end in line feeds.
use Rattle.std.specs.Prelude.{◌≡◌, ◌≤◌, ℕ, ◌+◌, Bool, length, take, count_by, sum_by, ◌==◌}
use Rattle.std.specs.List.{slice_split}
use Rattle.oxc_sourcemap_parts.specs.Record.{Text}

abbrev pub is_line_feed : ℕ → Bool
is_line_feed byte = byte == 10

-- how many line feeds a text has
abbrev pub line_feeds : Text → ℕ
line_feeds text = count_by is_line_feed text

-- where the line of this number begins: behind the lines before it, each with its line feed
abbrev pub line_start : Text → ℕ → ℕ
line_start text n = sum_by (λ line. length line + 1) (take n (slice_split is_line_feed text))

-- The byte at this index, or the end of the text, is on this line, and this column is how many bytes of the line are before it.
abbrev pub IsByteAt : Text → ℕ → ℕ → ℕ → Type 0
IsByteAt text line column byte =
    (byte ≤ length text) × (line ≡ line_feeds (take byte text)) × (line_start text line + column ≡ byte)
