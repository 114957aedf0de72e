-- The parts of a `mappings` text: lines, segments and runs (ECMA-426, "Mappings structure").
use Rattle.std.specs.Prelude.{ℕ, Bool, true, false, ◌||◌, List, [], ◌∷◌, map, get_or, ℤ, pos}
use Rattle.std.specs.Prelude.{filter, if◌then◌else◌, ◌==◌}
use Rattle.std.specs.List.{slice_split, onto_first}
use Rattle.oxc_sourcemap_mappings.specs.Number.{digit, ends_run, number}

-- the runs of a list of digits: it is cut after each digit that ends a run
abbrev pub runs : List ℕ → List (List ℕ)
runs [] = []
runs (d ∷ ds) = if ends_run d then (d ∷ []) ∷ runs ds else onto_first d (runs ds)

-- a segment, as its runs of digits
abbrev pub Segment : Type 0
Segment = List (List ℕ)

-- the segment that some bytes spell
abbrev pub segment : List ℕ → Segment
segment bytes = runs (map digit bytes)

-- `;`, after which the next generated line begins
abbrev pub is_semicolon : ℕ → Bool
is_semicolon byte = byte == 59

-- `,`, which separates two segments of a line
abbrev pub is_comma : ℕ → Bool
is_comma byte = byte == 44

-- a list that is not empty
abbrev pub is_filled : List ℕ → Bool
is_filled [] = false
is_filled (byte ∷ bytes) = true

-- the segments of a line, the empty ones left out
abbrev pub segments : List ℕ → List Segment
segments line = map segment (filter is_filled (slice_split is_comma line))

-- the lines of a text, each as its segments
abbrev pub lines : List ℕ → List (List Segment)
lines text = map segments (slice_split is_semicolon text)

-- field k of a segment: 0 is the generated column, 1 the source id, 2 and 3 the source line and column, 4 the name id; the
-- number 0 where the segment is shorter
abbrev pub field : ℕ → Segment → ℤ
field k s = get_or (map number s) k (pos 0)

-- a segment of this many fields gives a source
abbrev pub has_source : ℕ → Bool
has_source size = size == 4 || size == 5

-- a segment of this many fields gives a name
abbrev pub has_name : ℕ → Bool
has_name size = size == 5
