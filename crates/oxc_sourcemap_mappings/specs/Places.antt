-- What a segment points to: sums of fields, with no state (ECMA-426, "Mappings structure").
use Rattle.std.specs.Prelude.{ℕ, Bool, true, List, [], ◌∷◌, ◌++◌, length, ℤ, pos, ◌+ℤ◌}
use Rattle.std.specs.Prelude.{if◌then◌else◌}
use Rattle.oxc_sourcemap_mappings.specs.Parts.{Segment, field, has_source, has_name}

-- the sum of field k of those segments whose size passes a test
abbrev pub field_sum : (ℕ → Bool) → ℕ → List Segment → ℤ
field_sum test k [] = pos 0
field_sum test k (s ∷ ss) = if test (length s) then field_sum test k ss +ℤ field k s else field_sum test k ss

-- the test that segments of every size pass
abbrev pub of_any_size : ℕ → Bool
of_any_size size = true

-- The segments before a segment, in order: those of its line, and those of the whole text.
pub record Before : Type 0 where
  pub on_line : List Segment
  pub in_text : List Segment

-- before the first segment of a text
abbrev pub nothing_before : Before
nothing_before = record { on_line = []; in_text = [] }

-- these segments, with one more on the line
abbrev pub past_segment : Before → Segment → Before
past_segment before s = record { on_line = before.on_line ++ s ∷ []; in_text = before.in_text ++ s ∷ [] }

-- the segments before the start of the next line: those of this line belong only to the text then
abbrev pub past_line : Before → List Segment → Before
past_line before line = record { on_line = []; in_text = before.in_text ++ line }

-- Where a segment points to. Numbers out of range are faults of the segment (`Faults`).
pub record Place : Type 0 where
  pub dst_col : ℤ
  pub source_id : ℤ
  pub src_line : ℤ
  pub src_col : ℤ
  pub name_id : ℤ

-- The place that some segments reach. The place of a segment is the one that the segments up to it reach.
abbrev pub place : Before → Place
place before = record {
  dst_col = field_sum of_any_size 0 before.on_line;
  source_id = field_sum has_source 1 before.in_text;
  src_line = field_sum has_source 2 before.in_text;
  src_col = field_sum has_source 3 before.in_text;
  name_id = field_sum has_name 4 before.in_text;
}
