-- What was mended, as numbers and back.
use Rattle.std.specs.Prelude.{ℕ, Option, Some, None, option_map, if◌then◌else◌, ◌==◌}
use Rattle.oxc_sourcemap_found.specs.declared.mending.mend.Mend.{Mend}
use Rattle.oxc_sourcemap_found.specs.declared.mending.mend.MendKind.{MendKind}
use Rattle.oxc_sourcemap_found.specs.declared.mending.mend.MendKind.TheVariants.{ByteOrderMark}
use Rattle.oxc_sourcemap_found.specs.declared.mending.mend.MendKind.TheVariants.{JsonPrefix}
use Rattle.oxc_sourcemap_found.specs.declared.mending.mend.MendKind.TheVariants.{DataUrl, Version}
use Rattle.oxc_sourcemap_found.specs.declared.mending.mend.MendKind.TheVariants.{NoSources}
use Rattle.oxc_sourcemap_found.specs.declared.mending.mend.MendKind.TheVariants.{NullSource}
use Rattle.oxc_sourcemap_found.specs.declared.mending.mend.MendKind.TheVariants.{NoContents}
use Rattle.oxc_sourcemap_found.specs.declared.mending.mend.MendKind.TheVariants.{BadContent}
use Rattle.oxc_sourcemap_found.specs.declared.mending.mend.MendKind.TheVariants.{NullNames}
use Rattle.oxc_sourcemap_found.specs.declared.mending.mend.MendKind.TheVariants.{NoIgnoreList}
use Rattle.oxc_sourcemap_found.specs.declared.mending.mend.MendKind.TheVariants.{BadIgnoredId}
use Rattle.oxc_sourcemap_found.specs.declared.mending.mend.MendKind.TheVariants.{NoGoogleIgnoreList}
use Rattle.oxc_sourcemap_found.specs.declared.mending.mend.MendKind.TheVariants.{BadGoogleIgnoredId}
use Rattle.oxc_sourcemap_found.specs.declared.mending.mend.MendKind.TheVariants.{SourceIds, NameIds}
use Rattle.oxc_sourcemap_found.specs.declared.mending.mend.MendKind.TheVariants.{Unsorted, Cut}
use Rattle.oxc_sourcemap_c.specs.declared.reading.mends.MendNumbers.{MendNumbers}
use Rattle.oxc_sourcemap_c.specs.PlaceNumbers.{number_told, told_number}

-- the numbers of a mend of this kind
abbrev pub kind_numbers : ℕ → ℕ → MendNumbers
kind_numbers kind number = record { kind = kind; section = 0; number = number }

-- the numbers of what was mended, without a section
abbrev pub numbers_of_kind : MendKind → MendNumbers
numbers_of_kind ByteOrderMark = kind_numbers 1 0
numbers_of_kind JsonPrefix = kind_numbers 2 0
numbers_of_kind DataUrl = kind_numbers 3 0
numbers_of_kind Version = kind_numbers 4 0
numbers_of_kind NoSources = kind_numbers 5 0
numbers_of_kind (NullSource k) = kind_numbers 6 k
numbers_of_kind NoContents = kind_numbers 7 0
numbers_of_kind (BadContent k) = kind_numbers 8 k
numbers_of_kind NullNames = kind_numbers 9 0
numbers_of_kind NoIgnoreList = kind_numbers 10 0
numbers_of_kind (BadIgnoredId k) = kind_numbers 11 k
numbers_of_kind NoGoogleIgnoreList = kind_numbers 12 0
numbers_of_kind (BadGoogleIgnoredId k) = kind_numbers 13 k
numbers_of_kind (SourceIds count) = kind_numbers 14 count
numbers_of_kind (NameIds count) = kind_numbers 15 count
numbers_of_kind Unsorted = kind_numbers 16 0
numbers_of_kind (Cut count) = kind_numbers 17 count

-- the numbers of a mend; 18446744073709551615 stands for no section
abbrev pub numbers_of_mend : Mend → MendNumbers
numbers_of_mend mend = record (numbers_of_kind mend.kind) { section = number_told mend.section }

-- what was mended, by its numbers
abbrev pub kind_of_numbers : MendNumbers → Option MendKind
kind_of_numbers m =
    if m.kind == 1 then Some ByteOrderMark
    else if m.kind == 2 then Some JsonPrefix
    else if m.kind == 3 then Some DataUrl
    else if m.kind == 4 then Some Version
    else if m.kind == 5 then Some NoSources
    else if m.kind == 6 then Some (NullSource m.number)
    else if m.kind == 7 then Some NoContents
    else if m.kind == 8 then Some (BadContent m.number)
    else if m.kind == 9 then Some NullNames
    else if m.kind == 10 then Some NoIgnoreList
    else if m.kind == 11 then Some (BadIgnoredId m.number)
    else if m.kind == 12 then Some NoGoogleIgnoreList
    else if m.kind == 13 then Some (BadGoogleIgnoredId m.number)
    else if m.kind == 14 then Some (SourceIds m.number)
    else if m.kind == 15 then Some (NameIds m.number)
    else if m.kind == 16 then Some Unsorted
    else if m.kind == 17 then Some (Cut m.number)
    else None

-- the mend with these numbers
abbrev pub mend_of_numbers : MendNumbers → Option Mend
mend_of_numbers m = option_map (λ kind. record { section = told_number m.section; kind = kind }) (kind_of_numbers m)
