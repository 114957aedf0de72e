-- The lines that tell what was mended, as bytes.
use Rattle.std.specs.Prelude.{ℕ, List, ◌++◌, codes, Option, Some, None}
use Rattle.std.specs.Fmt.{decimal}
use Rattle.oxc_sourcemap_found.specs.declared.mending.mend.Mend.{Mend}
use Rattle.oxc_sourcemap_found.specs.declared.mending.mend.MendKind.{MendKind}
use Rattle.oxc_sourcemap_found.specs.declared.mending.mend.MendKind.TheVariants.{ByteOrderMark}
use Rattle.oxc_sourcemap_found.specs.declared.mending.mend.MendKind.TheVariants.{JsonPrefix}
use Rattle.oxc_sourcemap_found.specs.declared.mending.mend.MendKind.TheVariants.{DataUrl, Version}
use Rattle.oxc_sourcemap_found.specs.declared.mending.mend.MendKind.TheVariants.{NoSources}
use Rattle.oxc_sourcemap_found.specs.declared.mending.mend.MendKind.TheVariants.{NullSource}
use Rattle.oxc_sourcemap_found.specs.declared.mending.mend.MendKind.TheVariants.{NoContents}
use Rattle.oxc_sourcemap_found.specs.declared.mending.mend.MendKind.TheVariants.{BadContent}
use Rattle.oxc_sourcemap_found.specs.declared.mending.mend.MendKind.TheVariants.{NullNames}
use Rattle.oxc_sourcemap_found.specs.declared.mending.mend.MendKind.TheVariants.{NoIgnoreList}
use Rattle.oxc_sourcemap_found.specs.declared.mending.mend.MendKind.TheVariants.{BadIgnoredId}
use Rattle.oxc_sourcemap_found.specs.declared.mending.mend.MendKind.TheVariants.{NoGoogleIgnoreList}
use Rattle.oxc_sourcemap_found.specs.declared.mending.mend.MendKind.TheVariants.{BadGoogleIgnoredId}
use Rattle.oxc_sourcemap_found.specs.declared.mending.mend.MendKind.TheVariants.{SourceIds, NameIds}
use Rattle.oxc_sourcemap_found.specs.declared.mending.mend.MendKind.TheVariants.{Unsorted, Cut}

-- what was mended
abbrev pub kind_text : MendKind → List ℕ
kind_text ByteOrderMark = codes "the byte order mark in front is passed over"
kind_text JsonPrefix = codes "the first line, which begins with )]}', is passed over"
kind_text DataUrl = codes "the text is a data URL, and the text in it is read"
kind_text Version = codes "version is 3.0 or the text 3, and is read as 3"
kind_text NoSources = codes "sources is missing, and is read as an empty list"
kind_text (NullSource k) = codes "source " ++ decimal k ++ codes " is null, and is read as an empty text"
kind_text NoContents = codes "sourcesContent is no list, and is read as missing"
kind_text (BadContent k) = codes "content " ++ decimal k ++ codes " is neither a text nor null, and is read as null"
kind_text NullNames = codes "names is null, and is read as missing"
kind_text NoIgnoreList = codes "ignoreList is no list, and is read as missing"
kind_text (BadIgnoredId k) = codes "entry " ++ decimal k ++ codes " of ignoreList is no id of a source, and is left out"
kind_text NoGoogleIgnoreList = codes "x_google_ignoreList is no list, and is read as missing"
kind_text (BadGoogleIgnoredId k) = codes "entry " ++ decimal k ++ codes " of x_google_ignoreList is no id of a source, and is left out"
kind_text (SourceIds count) = codes "tokens with a source id out of range, which are read as unmapped: " ++ decimal count
kind_text (NameIds count) = codes "tokens with a name id out of range, which are read without a name: " ++ decimal count
kind_text Unsorted = codes "the tokens are not in order, and are sorted"
kind_text (Cut count) = codes "tokens behind the beginning of the next section, which are left out: " ++ decimal count

-- the section in front of it, if there is one
abbrev pub section_text : Option ℕ → List ℕ
section_text None = codes ""
section_text (Some k) = codes "section " ++ decimal k ++ codes ": "

-- a mend, as one line
abbrev pub mend_text : Mend → List ℕ
mend_text mend = section_text mend.section ++ kind_text mend.kind
