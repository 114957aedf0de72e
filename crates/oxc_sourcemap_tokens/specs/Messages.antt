-- The messages of errors, as bytes.
use Rattle.std.specs.Prelude.{ℕ, List, ◌++◌, codes, Option, Some, None}
use Rattle.std.specs.Fmt.{decimal}
use Rattle.oxc_sourcemap_tokens.specs.declared.errors.error.Field.{Field}
use Rattle.oxc_sourcemap_tokens.specs.declared.errors.error.Field.TheVariants.{Object}
use Rattle.oxc_sourcemap_tokens.specs.declared.errors.error.Field.TheVariants.{Version as VersionField}
use Rattle.oxc_sourcemap_tokens.specs.declared.errors.error.Field.TheVariants.{File, Mappings}
use Rattle.oxc_sourcemap_tokens.specs.declared.errors.error.Field.TheVariants.{SourceRoot, Sources}
use Rattle.oxc_sourcemap_tokens.specs.declared.errors.error.Field.TheVariants.{SourcesContent}
use Rattle.oxc_sourcemap_tokens.specs.declared.errors.error.Field.TheVariants.{Names, DebugId}
use Rattle.oxc_sourcemap_tokens.specs.declared.errors.error.Field.TheVariants.{IgnoreList}
use Rattle.oxc_sourcemap_tokens.specs.declared.errors.error.Field.TheVariants.{GoogleIgnoreList}
use Rattle.oxc_sourcemap_tokens.specs.declared.errors.error.Field.TheVariants.{Sections, Offset}
use Rattle.oxc_sourcemap_tokens.specs.declared.errors.error.Field.TheVariants.{Map}
use Rattle.oxc_sourcemap_tokens.specs.declared.errors.error.JsonFault.{JsonFault}
use Rattle.oxc_sourcemap_tokens.specs.declared.errors.error.JsonFault.TheVariants.{Reading, Shape}
use Rattle.oxc_sourcemap_tokens.specs.declared.errors.error.JsonFault.TheVariants.{Version}
use Rattle.oxc_sourcemap_tokens.specs.declared.errors.error.Error.{Error}
use Rattle.oxc_sourcemap_tokens.specs.declared.errors.error.Error.TheVariants.{VlqLeftover}
use Rattle.oxc_sourcemap_tokens.specs.declared.errors.error.Error.TheVariants.{VlqNoValues}
use Rattle.oxc_sourcemap_tokens.specs.declared.errors.error.Error.TheVariants.{VlqOverflow, BadJson}
use Rattle.oxc_sourcemap_tokens.specs.declared.errors.error.Error.TheVariants.{BadSegmentSize}
use Rattle.oxc_sourcemap_tokens.specs.declared.errors.error.Error.TheVariants.{BadSourceReference}
use Rattle.oxc_sourcemap_tokens.specs.declared.errors.error.Error.TheVariants.{BadNameReference}
use Rattle.oxc_sourcemap_tokens.specs.declared.errors.error.Error.TheVariants.{OutOfMemory}
use Rattle.oxc_sourcemap_tokens.specs.declared.errors.error.Error.TheVariants.{TooLarge, LineOrder}
use Rattle.oxc_sourcemap_tokens.specs.declared.errors.error.Error.TheVariants.{BadChunks}
use Rattle.oxc_sourcemap_tokens.specs.declared.errors.error.Error.TheVariants.{SeveralSources}
use Rattle.oxc_sourcemap_tokens.specs.declared.errors.error.Error.TheVariants.{SectionOrder}
use Rattle.oxc_sourcemap_tokens.specs.declared.errors.error.Error.TheVariants.{InputLineOrder}

-- the key of a field of the JSON object, and none for the object itself
abbrev pub key_of : Field → Option (List ℕ)
key_of Object = None
key_of VersionField = Some (codes "version")
key_of File = Some (codes "file")
key_of Mappings = Some (codes "mappings")
key_of SourceRoot = Some (codes "sourceRoot")
key_of Sources = Some (codes "sources")
key_of SourcesContent = Some (codes "sourcesContent")
key_of Names = Some (codes "names")
key_of DebugId = Some (codes "debugId")
key_of IgnoreList = Some (codes "ignoreList")
key_of GoogleIgnoreList = Some (codes "x_google_ignoreList")
key_of Sections = Some (codes "sections")
key_of Offset = Some (codes "offset")
key_of Map = Some (codes "map")

-- the message for a value that is no object, or for the field of this key, missing or of the wrong type
abbrev pub shape_text : Option (List ℕ) → List ℕ
shape_text None = codes "the value is not an object"
shape_text (Some key) = codes "field " ++ key ++ codes " is missing or has the wrong type"

-- the message for a text or a JSON value that is not a source map
abbrev pub json_fault_text : JsonFault → List ℕ
json_fault_text Reading = codes "the text is not JSON"
json_fault_text (Shape field) = shape_text (key_of field)
json_fault_text (Version n) = codes "unsupported source map version: " ++ decimal n

-- the message of an error
abbrev pub error_text : Error → List ℕ
error_text VlqLeftover = codes "VLQ string was malformed and data was left over"
error_text VlqNoValues = codes "VLQ string was empty and no values could be decoded"
error_text VlqOverflow = codes "The input encoded a number that didn't fit into i64"
error_text (BadJson fault) = codes "JSON parsing error: " ++ json_fault_text fault
error_text (BadSegmentSize n) = codes "Mapping segment had an unsupported size of " ++ decimal n
error_text (BadSourceReference n) = codes "Reference to non-existing source at position " ++ decimal n
error_text (BadNameReference n) = codes "Reference to non-existing name at position " ++ decimal n
error_text OutOfMemory = codes "Out of memory"
error_text TooLarge = codes "A line, an id or a count is too large"
error_text (LineOrder i) = codes "Token " ++ decimal i ++ codes " lies on a line before the token in front of it"
error_text (BadChunks k) = codes "Token chunk " ++ decimal k ++ codes " does not fit the tokens"
error_text (SeveralSources n) = codes "Cannot compose a transformation map with " ++ decimal n ++ codes " sources"
error_text (SectionOrder k) = codes "Section " ++ decimal k ++ codes " begins before the end of what is in front of it"
error_text (InputLineOrder k) = codes "The tokens of input " ++ decimal k ++ codes " go back in lines"
