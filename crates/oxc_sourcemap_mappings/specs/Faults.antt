-- The faults of a segment, in the order in which it is checked.
use Rattle.std.specs.Prelude.{ℕ, ◌^◌, Bool, false, ◌||◌, [], ◌∷◌, length, ℤ, pos, negsuc, min}
use Rattle.std.specs.Prelude.{Option, Some, None, if◌then◌else◌, nat_lt, nat_le, ◌==◌}
use Rattle.std.specs.Int.{int_rem_euclid}
use Rattle.oxc_sourcemap_tokens.specs.declared.errors.error.Error.{Error}
use Rattle.oxc_sourcemap_tokens.specs.declared.errors.error.Error.TheVariants.{VlqLeftover}
use Rattle.oxc_sourcemap_tokens.specs.declared.errors.error.Error.TheVariants.{VlqOverflow}
use Rattle.oxc_sourcemap_tokens.specs.declared.errors.error.Error.TheVariants.{BadSegmentSize}
use Rattle.oxc_sourcemap_tokens.specs.declared.errors.error.Error.TheVariants.{BadSourceReference}
use Rattle.oxc_sourcemap_tokens.specs.declared.errors.error.Error.TheVariants.{BadNameReference}
use Rattle.oxc_sourcemap_mappings.specs.Number.{is_fitting, is_open}
use Rattle.oxc_sourcemap_mappings.specs.Parts.{Segment, has_source, has_name}
use Rattle.oxc_sourcemap_mappings.specs.Places.{Place}

-- the first fault, else the second
infixl 10 ◌orelse◌
abbrev pub ◌orelse◌ : Option Error → Option Error → Option Error
None orelse later = later
(Some fault) orelse later = Some fault

-- the fault of the first bad run of a segment: that it does not fit, or else that it is open
unfoldable pub digit_fault : Segment → Option Error
digit_fault [] = None
digit_fault (run ∷ more) =
    if is_fitting run then (if is_open run then Some VlqLeftover else digit_fault more)
    else Some VlqOverflow

-- the fault of a generated column, source line or source column outside of 0 to 4294967295
abbrev pub range_fault : ℤ → Option Error
range_fault (pos n) = if nat_le n 4294967295 then None else Some VlqOverflow
range_fault (negsuc n) = Some (BadSegmentSize 0)

-- the fault of a segment that has neither 1, 4 nor 5 fields
abbrev pub size_fault : ℕ → Option Error
size_fault size = if size == 1 || (size == 4 || size == 5) then None else Some (BadSegmentSize (min size 4294967295))

-- how many names and sources there are to refer to
pub record Counts : Type 0 where
  pub names : ℕ
  pub sources : ℕ

-- each count is taken as at most 4294967295, since an id of that number would mean none
abbrev pub counts_of : ℕ → ℕ → Counts
counts_of names sources = record { names = min names 4294967295; sources = min sources 4294967295 }

-- an id that is not negative and below the count
abbrev pub is_id_below : ℤ → ℕ → Bool
is_id_below (pos id) count = nat_lt id count
is_id_below (negsuc n) count = false

-- the natural number that an integer is, and 0 where it is none
abbrev pub nat_of : ℤ → ℕ
nat_of (pos n) = n
nat_of (negsuc n) = 0

-- the low 32 bits of an integer
abbrev pub low_bits : ℤ → ℕ
low_bits z = nat_of (int_rem_euclid z (pos (2 ^ 32)))

-- From here on `reached` is the place that the segments before a segment reach, and `here` is the place of that segment.

-- The fault of the source id, source line and source column. The error of a bad source id holds the source id before it.
abbrev pub source_fault : Counts → Place → Place → Option Error
source_fault counts reached here =
    (if is_id_below here.source_id counts.sources then None else Some (BadSourceReference (nat_of reached.source_id)))
    orelse range_fault here.src_line
    orelse range_fault here.src_col

-- the fault of the name id
abbrev pub name_fault : Counts → Place → Option Error
name_fault counts here =
    if is_id_below here.name_id counts.names then None else Some (BadNameReference (low_bits here.name_id))

-- the first fault of a segment of this size, its digits aside: column, number of fields, source, name
unfoldable pub place_fault : Counts → Place → ℕ → Place → Option Error
place_fault counts reached size here =
    range_fault here.dst_col
    orelse size_fault size
    orelse (if has_source size then source_fault counts reached here else None)
    orelse (if has_name size then name_fault counts here else None)

-- the first fault of a segment: of its digits, then of its place
abbrev pub segment_fault : Counts → Place → Segment → Place → Option Error
segment_fault counts reached s here = digit_fault s orelse place_fault counts reached (length s) here
