-- What is really wrong with a segment, by the sums of its fields.
use Rattle.std.specs.Prelude.{◌≡◌, ℕ, ℤ, pos, ◌+ℤ◌, ◌<ℤ◌}
use Rattle.oxc_sourcemap_mappings.specs.declared.reason.SegmentReason.{SegmentReason}
use Rattle.oxc_sourcemap_mappings.specs.declared.reason.SegmentReason.TheVariants.{NoDigit}
use Rattle.oxc_sourcemap_mappings.specs.declared.reason.SegmentReason.TheVariants.{ColumnBelowZero}
use Rattle.oxc_sourcemap_mappings.specs.declared.reason.SegmentReason.TheVariants.{SourceIdBelowZero}
use Rattle.oxc_sourcemap_mappings.specs.declared.reason.SegmentReason.TheVariants.{SourceLineBelowZero}
use Rattle.oxc_sourcemap_mappings.specs.declared.reason.SegmentReason.TheVariants.{SourceColumnBelowZero}
use Rattle.oxc_sourcemap_mappings.specs.declared.reason.SegmentReason.TheVariants.{NameIdBelowZero}
use Rattle.oxc_sourcemap_mappings.specs.declared.reason.SegmentReason.TheVariants.{SourceId, NameId}
use Rattle.oxc_sourcemap_mappings.specs.Places.{Place}

-- a place further on by these five fields
abbrev pub moved_by_all : Place → (ℕ → ℤ) → Place
moved_by_all p f = record {
  dst_col = p.dst_col +ℤ f 0;
  source_id = p.source_id +ℤ f 1;
  src_line = p.src_line +ℤ f 2;
  src_col = p.src_col +ℤ f 3;
  name_id = p.name_id +ℤ f 4;
}

-- what a reason says of a segment holds, whose own place this is
abbrev pub IsReasonOf : Place → SegmentReason → Type 0
IsReasonOf here (NoDigit byte) = ⊥
IsReasonOf here ColumnBelowZero = here.dst_col <ℤ pos 0
IsReasonOf here SourceIdBelowZero = here.source_id <ℤ pos 0
IsReasonOf here SourceLineBelowZero = here.src_line <ℤ pos 0
IsReasonOf here SourceColumnBelowZero = here.src_col <ℤ pos 0
IsReasonOf here NameIdBelowZero = here.name_id <ℤ pos 0
IsReasonOf here (SourceId id) = here.source_id ≡ pos id
IsReasonOf here (NameId id) = here.name_id ≡ pos id
