-- What becomes of sources that are extracted.
use Rattle.std.specs.Prelude.{Option, Some, None, string_bytes}
use Rattle.oxc_sourcemap_parts.specs.Record.{Text}
use Rattle.sourcemap_editing.specs.declared.extract.Fate.{Fate}
use Rattle.sourcemap_editing.specs.declared.extract.Fate.TheVariants as fates

-- the file of a source, if it has one
abbrev pub file_of : Fate → Option Text
file_of (fates.File path) = Some (string_bytes path)
file_of (fates.None why) = None
