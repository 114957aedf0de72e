-- What `coverage` prints of the lines of an original: lines with code, by their numbers from 0, with how often they ran.
use Rattle.std.specs.Prelude.{◌≡◌, ℕ, ◌+◌, ◌-◌, ◌<◌, ◌^◌, false, List, ◌++◌}
use Rattle.std.specs.Prelude.{codes, map, IsUtf8}
use Rattle.std.specs.Prelude.{decimal, length, count_by, nat_lt, ◌==◌, if◌then◌else◌}
use Rattle.std.specs.List.{flat_map, filter, join_by, list_any}
use Rattle.std.specs.List.{AllByRecursion}
use Rattle.oxc_sourcemap_parts.specs.Record.{Text}
use Rattle.sourcemap_run.specs.Counts.{is_missed, missed_ranges}
use Rattle.sourcemap_run.specs.Texts.{text_member, number_member, object_text}

-- how many lines ran
abbrev pub ran : List (ℕ × ℕ) → ℕ
ran lines = count_by (λ line. nat_lt 0 line.1) lines

-- a range of lines, from 1: `7-9`, or the number of one line
abbrev pub range_text : ℕ × ℕ → Text
range_text range = if range.0 == range.1 then decimal (range.0 + 1) else decimal (range.0 + 1) ++ (codes "-" ++ decimal (range.1 + 1))

-- the lines that did not run, from 1, as `3, 7-9`
abbrev pub missed_text : List (ℕ × ℕ) → Text
missed_text lines = join_by range_text (codes ", ") (missed_ranges lines)

-- what lcov reads of a line, from 1
abbrev pub lcov_line : ℕ × ℕ → Text
lcov_line line = codes "DA:" ++ (decimal (line.0 + 1) ++ (codes "," ++ (decimal line.1 ++ codes "\n")))

-- how many lines there are and how many ran, behind the lines
abbrev pub lcov_end : List (ℕ × ℕ) → Text
lcov_end lines = codes "LF:" ++ (decimal (length lines) ++ (codes "\nLH:" ++ (decimal (ran lines) ++ codes "\nend_of_record\n")))

-- what lcov reads of an original: its path, and its lines
abbrev pub lcov_text : Text → List (ℕ × ℕ) → Text
lcov_text path lines = codes "TN:\nSF:" ++ (path ++ (codes "\n" ++ (flat_map lcov_line lines ++ lcov_end lines)))

-- the number of a line and its count fit 64 bits
abbrev pub FitsLcov : ℕ × ℕ → Type 0
FitsLcov line = (line.0 + 1 < 2 ^ 64) × (line.1 < 2 ^ 64)

-- An original can be told: its path has no line feed, and its numbers fit.
abbrev pub CanBeTold : Text × List (ℕ × ℕ) → Type 0
CanBeTold original = (list_any (λ b. b == 10) original.0 ≡ false) × AllByRecursion FitsLcov original.1

-- what lcov reads of originals
abbrev pub lcov_texts : List (Text × List (ℕ × ℕ)) → Text
lcov_texts originals = flat_map (λ original. lcov_text original.0 original.1) originals

-- The text for lcov tells originals apart: two lists that have one text are the same, each path, each line and each count.
abbrev pub LcovTellsApart : Type 0
LcovTellsApart =
    (first second : List (Text × List (ℕ × ℕ))) → AllByRecursion CanBeTold first → AllByRecursion CanBeTold second
    → lcov_texts first ≡ lcov_texts second → first ≡ second

-- the numbers of the lines that did not run, from 1
abbrev pub missed_numbers : List (ℕ × ℕ) → Text
missed_numbers lines = join_by (λ line. decimal (line.0 + 1)) (codes ",") (filter is_missed lines)

-- the members of an original: its path, how many lines ran and how many did not, and the lines that did not
unfoldable pub covered_members : Text → List (ℕ × ℕ) → Text
covered_members path lines =
    text_member (codes "source") path ++ (number_member (codes "ran") (ran lines)
    ++ (number_member (codes "missed") (length lines - ran lines) ++ (codes ",\"lines\":[" ++ (missed_numbers lines ++ codes "]"))))

-- the line of an original, a JSON object
abbrev pub covered_line : Text → List (ℕ × ℕ) → Text
covered_line path lines = object_text (covered_members path lines) ++ codes "\n"

-- what `--json` prints of originals
abbrev pub covered_lines : List (Text × List (ℕ × ℕ)) → Text
covered_lines originals = flat_map (λ original. covered_line original.0 original.1) originals

-- the path of an original is UTF-8, and its numbers fit 64 bits
abbrev pub FitsCovered : Text × List (ℕ × ℕ) → Type 0
FitsCovered original =
    IsUtf8 original.0 × (length original.1 < 2 ^ 64) × AllByRecursion (λ line. line.0 + 1 < 2 ^ 64) original.1

-- what is told of an original: its path, how many lines ran and how many did not, and the numbers of those, from 0
abbrev pub told : Text × List (ℕ × ℕ) → Text × ℕ × ℕ × List ℕ
told original =
    (original.0, ran original.1, length original.1 - ran original.1, map (λ line. line.0) (filter is_missed original.1))

-- The text of `--json` tells originals apart: of two lists of originals that have one text the same is told, of each in turn.
abbrev pub CoveredTellsApart : Type 0
CoveredTellsApart =
    (first second : List (Text × List (ℕ × ℕ))) → AllByRecursion FitsCovered first → AllByRecursion FitsCovered second
    → covered_lines first ≡ covered_lines second → map told first ≡ map told second
