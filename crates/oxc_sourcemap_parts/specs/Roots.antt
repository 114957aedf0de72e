-- Source roots: the text that stands before each source of a map.
use Rattle.std.specs.Prelude.{ℕ, Bool, false, ◌&&◌, ◌||◌, ◌==◌, List, [], ◌∷◌, ◌++◌, map}
use Rattle.std.specs.Prelude.{codes, Option, Some, None, if◌then◌else◌, not, eqb, length}
use Rattle.std.specs.List.{starts_with, ends_with}
use Rattle.std.specs.Char.{is_ascii_alphabetic, is_ascii_alphanumeric}
use Rattle.oxc_sourcemap_parts.specs.Record.{Text, MapRecord}

-- what a scheme may have after its first letter: letters, digits, `+`, `-` and `.` (RFC 3986, section 3.1)
abbrev pub is_of_scheme : ℕ → Bool
is_of_scheme b = is_ascii_alphanumeric b || (b == 43 || (b == 45 || b == 46))

-- the rest of a scheme, and then a colon
abbrev pub ends_scheme : List ℕ → Bool
ends_scheme [] = false
ends_scheme (b ∷ bs) = b == 58 || (is_of_scheme b && ends_scheme bs)

-- whether a text begins with a scheme and a colon, as a URL does
abbrev pub has_scheme : Text → Bool
has_scheme [] = false
has_scheme (b ∷ bs) = is_ascii_alphabetic b && ends_scheme bs

-- whether no root is put before a source: it begins with `/`, or with a scheme and a colon
abbrev pub is_absolute : Text → Bool
is_absolute source = starts_with eqb source (codes "/") || has_scheme source

-- whether a `/` has to stand between a root and a source
abbrev pub needs_slash : Text → Bool
needs_slash root = not (length root == 0) && not (ends_with eqb root (codes "/"))

-- the root as it stands before a source
abbrev pub before_sources : Text → Text
before_sources root = root ++ (if needs_slash root then codes "/" else [])

-- a source with a root before it
abbrev pub rooted_source : Text → Text → Text
rooted_source root source = if is_absolute source then source else before_sources root ++ source

-- the sources with a root before them, if there is one
abbrev pub rooted_sources : Option Text → List Text → List Text
rooted_sources None sources = sources
rooted_sources (Some root) sources = map (rooted_source root) sources

-- The map whose sources have its source root before them; it has none then.
abbrev pub rooted : MapRecord → MapRecord
rooted r = record r { source_root = None; sources = rooted_sources r.source_root r.sources }
