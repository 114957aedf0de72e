-- Which code a path of an engine names. A path is given by its bytes, without dots and empty parts; a prefix ends in a slash.
use Rattle.std.specs.Prelude.{◌≡◌, ◌<◌, ◌≤◌, ℕ, Bool, not, ◌&&◌, ◌||◌, ◌==◌, List, [], ◌∷◌, Option}
use Rattle.std.specs.Prelude.{Some}
use Rattle.std.specs.Prelude.{None, false, nat_lt, length, slice_get, string_bytes, if◌then◌else◌}
use Rattle.std.specs.List.{list_any, position_from, starts_with, ends_with}
use Rattle.std.specs.Str.{bytes_eq}
use Rattle.std.proofs.Math.Dec.{eqb}
use Rattle.oxc_sourcemap_tokens.specs.Results.{lent_item}
use Rattle.oxc_sourcemap_parts.specs.Record.{Text}
use Rattle.sourcemap_texts.specs.declared.matching.Prefix.{Prefix}
use Rattle.sourcemap_texts.specs.declared.matching.Candidate.{Candidate}
use Rattle.sourcemap_texts.specs.declared.matching.Choice.{Choice}
use Rattle.sourcemap_texts.specs.declared.matching.Choice.TheVariants.{Determined, MaybeFirst}
use Rattle.sourcemap_texts.specs.declared.matching.Choice.TheVariants.{Nothing}

-- the length of a prefix, if a path has something below it, else 0
abbrev pub below_length : Text → Text → ℕ
below_length path prefix =
    if nat_lt (length prefix) (length path) && starts_with eqb path prefix then length prefix else 0

-- Of the prefixes that the path is below, that at this index is one; none of them is longer, and each before it is shorter.
pub record IsLongest (path : Text) (prefixes : List Prefix) (i : ℕ) : Type 0 where
  pub longest : Prefix
  pub at : slice_get prefixes i ≡ Some longest
  pub is_below : 0 < below_length path (string_bytes longest.left)
  pub none_longer : (p : Prefix) (j : ℕ) → slice_get prefixes j ≡ Some p
      → below_length path (string_bytes p.left) ≤ below_length path (string_bytes longest.left)
  pub is_first : (p : Prefix) (j : ℕ) → slice_get prefixes j ≡ Some p → j < i
      → below_length path (string_bytes p.left) < below_length path (string_bytes longest.left)

-- a prefix ends in the folder whose name is between these slashes: it has it at its end, or is it but for the slash before it
abbrev pub ends_in_folder : Text → Text → Bool
ends_in_folder [] prefix = false
ends_in_folder (slash ∷ bare) prefix =
    slash == 47 && (bytes_eq prefix bare || ends_with eqb prefix (slash ∷ bare))

-- a path leads through a folder
abbrev pub has_slash : Text → Bool
has_slash path = list_any (λ byte. byte == 47) path

-- what an earlier path has below a prefix is another file, and at least one of the two is in a folder
abbrev pub tells_apart : Option Text → Text → Bool
tells_apart None rest = false
tells_apart (Some earlier) rest = not (bytes_eq earlier rest) && (has_slash earlier || has_slash rest)

-- A prefix is that of the input if it ends in the folder's own name, unless the path is a URL, or if two paths below it are two files in
-- the folder, at least one of them in a folder there.
abbrev pub determines : Text → Bool → Candidate → Bool
determines own is_remote c =
    (not is_remote && ends_in_folder own c.prefix.now) || tells_apart (lent_item c.earlier) c.rest.now

-- the choice, by the first candidate that determines the prefix
abbrev pub choice_by : Option ℕ → List Candidate → Choice
choice_by (Some i) candidates = Determined i
choice_by None [] = Nothing
choice_by None (c ∷ cs) = MaybeFirst

-- which of these candidates is the prefix of the input
abbrev pub chosen : Text → Bool → List Candidate → Choice
chosen own is_remote candidates = choice_by (position_from (determines own is_remote) 0 candidates) candidates
