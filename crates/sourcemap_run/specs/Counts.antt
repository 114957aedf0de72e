-- How often lines of originals ran in a script. An original is the source, or all sources, with one path.
use Rattle.std.specs.Prelude.{ℕ, Bool, ◌&&◌, ◌==◌, List, [], ◌∷◌, map, false}
use Rattle.std.specs.Prelude.{Option, Some, None, nat_lt, if◌then◌else◌, slice_get}
use Rattle.std.specs.Borrow.{Bor}
use Rattle.std.specs.Option.{unwrap_or}
use Rattle.std.specs.Ordering.{nat_cmp, ordering_then}
use Rattle.std.specs.Cmp.Lexicographic.{slice_cmp}
use Rattle.std.specs.List.{filter}
use Rattle.std.specs.Str.{bytes_eq}
use Rattle.std.specs.BTreeMap.{BTreeMap, get_by}
use Rattle.oxc_sourcemap_parts.specs.Record.{Text}
use Rattle.sourcemap_run.specs.declared.counting.Mark.{Mark}

-- the path of a source, of these paths of all sources; empty for a source that is not there
abbrev pub path_at : List Text → ℕ → Text
path_at paths id = unwrap_or (slice_get paths id) []

-- the greater of a count that may be there and another one
abbrev pub raised : Option ℕ → ℕ → ℕ
raised None n = n
raised (Some most) n = if nat_lt n most then most else n

-- the greatest of some counts
abbrev pub greatest : List ℕ → Option ℕ
greatest [] = None
greatest (n ∷ ns) = Some (raised (greatest ns) n)

-- a mark is of a source with this path, and of this line
abbrev pub is_mark_of : List Text → Text → ℕ → Mark → Bool
is_mark_of paths path line m = bytes_eq (path_at paths m.source_id) path && m.line == line

-- How often a line of the original with this path ran in a script: the greatest count of its marks, of whichever sources with the path
-- they are; none if it has no mark.
abbrev pub original_count : List Text → List Mark → Text → ℕ → Option ℕ
original_count paths marks path line = greatest (map (λ m. m.count) (filter (is_mark_of paths path line) marks))

-- the count of a line of the original with this path, of counts by number and path
abbrev pub count_at : BTreeMap (ℕ × Bor Text) ℕ → Text → ℕ → Option ℕ
count_at counts path line = get_by (λ k. ordering_then (nat_cmp line k.0) (slice_cmp nat_cmp path k.1.now)) counts

-- a line that did not run
abbrev pub is_missed : ℕ × ℕ → Bool
is_missed line = line.1 == 0

-- these lines begin with one that did not run
abbrev pub begins_missed : List (ℕ × ℕ) → Bool
begins_missed [] = false
begins_missed (line ∷ lines) = is_missed line

-- these ranges, the first one from this line on
abbrev pub first_from : ℕ → List (ℕ × ℕ) → List (ℕ × ℕ)
first_from number [] = []
first_from number (range ∷ ranges) = (number, range.1) ∷ ranges

-- The ranges of lines that did not run, of lines with their counts: each maximal run of such lines, by its first and its last one. A number
-- that is not among the lines does not end a range.
abbrev pub missed_ranges : List (ℕ × ℕ) → List (ℕ × ℕ)
missed_ranges [] = []
missed_ranges (line ∷ lines) =
    if is_missed line then (if begins_missed lines then first_from line.0 (missed_ranges lines) else (line.0, line.0) ∷ missed_ranges lines)
    else missed_ranges lines

-- a range that may be open, closed
abbrev pub closed : Option (ℕ × ℕ) → List (ℕ × ℕ)
closed None = []
closed (Some range) = range ∷ []

-- a range that may be open, up to this line
abbrev pub opened : Option (ℕ × ℕ) → ℕ → ℕ × ℕ
opened None number = (number, number)
opened (Some range) number = (range.0, number)
