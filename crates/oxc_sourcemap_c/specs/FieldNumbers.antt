-- The numbers of the fields of a JSON source map.
use Rattle.std.specs.Prelude.{ℕ, Option, Some, None, if◌then◌else◌, ◌==◌}
use Rattle.oxc_sourcemap_tokens.specs.declared.errors.error.Field.{Field}
use Rattle.oxc_sourcemap_tokens.specs.declared.errors.error.Field.TheVariants.{Object}
use Rattle.oxc_sourcemap_tokens.specs.declared.errors.error.Field.TheVariants.{Version as VersionField}
use Rattle.oxc_sourcemap_tokens.specs.declared.errors.error.Field.TheVariants.{File, Mappings}
use Rattle.oxc_sourcemap_tokens.specs.declared.errors.error.Field.TheVariants.{SourceRoot, Sources}
use Rattle.oxc_sourcemap_tokens.specs.declared.errors.error.Field.TheVariants.{SourcesContent}
use Rattle.oxc_sourcemap_tokens.specs.declared.errors.error.Field.TheVariants.{Names, DebugId}
use Rattle.oxc_sourcemap_tokens.specs.declared.errors.error.Field.TheVariants.{IgnoreList}
use Rattle.oxc_sourcemap_tokens.specs.declared.errors.error.Field.TheVariants.{GoogleIgnoreList}
use Rattle.oxc_sourcemap_tokens.specs.declared.errors.error.Field.TheVariants.{Sections, Offset}
use Rattle.oxc_sourcemap_tokens.specs.declared.errors.error.Field.TheVariants.{Map as MapField}

-- the number of a field
abbrev pub number_of_field : Field → ℕ
number_of_field Object = 0
number_of_field VersionField = 1
number_of_field File = 2
number_of_field Mappings = 3
number_of_field SourceRoot = 4
number_of_field Sources = 5
number_of_field SourcesContent = 6
number_of_field Names = 7
number_of_field DebugId = 8
number_of_field IgnoreList = 9
number_of_field GoogleIgnoreList = 10
number_of_field Sections = 11
number_of_field Offset = 12
number_of_field MapField = 13

-- the field of a number
abbrev pub field_of : ℕ → Option Field
field_of n =
    if n == 0 then Some Object
    else if n == 1 then Some VersionField
    else if n == 2 then Some File
    else if n == 3 then Some Mappings
    else if n == 4 then Some SourceRoot
    else if n == 5 then Some Sources
    else if n == 6 then Some SourcesContent
    else if n == 7 then Some Names
    else if n == 8 then Some DebugId
    else if n == 9 then Some IgnoreList
    else if n == 10 then Some GoogleIgnoreList
    else if n == 11 then Some Sections
    else if n == 12 then Some Offset
    else if n == 13 then Some MapField
    else None
