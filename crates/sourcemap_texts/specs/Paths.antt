-- Paths of sources, and what they name. A place in the tree of folders is given by its parts from the root on.
use Rattle.std.specs.Prelude.{◌≡◌, ◌≢◌, ◌<◌, ◌≤◌, ◌+◌, ◌-◌, ℕ, Bool, not, true, false, ◌&&◌, ◌||◌}
use Rattle.std.specs.Prelude.{◌==◌, List, [], ◌∷◌, ◌++◌, Some, slice_get}
use Rattle.std.specs.Prelude.{codes, take, length, map, slice_index, if◌then◌else◌, String}
use Rattle.std.specs.Prelude.{string_bytes, vec_len}
use Rattle.std.specs.List.{fold, list_any, list_all, slice_split, join_by, repeat, AllZip}
use Rattle.std.specs.Str.{bytes_eq}
use Rattle.std.specs.declared.alloc.Global.{Global}
use Rattle.oxc_sourcemap_parts.specs.Record.{Text, MapRecord}
use Rattle.oxc_sourcemap_parts.specs.Roots.{rooted, has_scheme}
use Rattle.oxc_sourcemap_tokens.specs.Results.{lent_items}
use Rattle.sourcemap_texts.specs.declared.paths.Place.{Place}

abbrev pub is_slash : ℕ → Bool
is_slash byte = byte == 47

-- the parts of a path, between its slashes
abbrev pub parts_of : Text → List Text
parts_of path = slice_split is_slash path

-- a part leads nowhere: it is empty, or `.`
abbrev pub is_here : Text → Bool
is_here part = bytes_eq part [] || bytes_eq part (codes ".")

-- where a part leads from a place: `..` to the folder that it is in, of which the root has none, and a name into the folder
abbrev pub stepped : List Text → Text → List Text
stepped place part =
    if is_here part then place
    else if bytes_eq part (codes "..") then take (length place - 1) place else place ++ part ∷ []

-- where a path leads from a place
abbrev pub led : List Text → Text → List Text
led place path = fold stepped place (parts_of path)

-- the folder that a folder is in: the root if its path begins with a slash, else `current`
abbrev pub outer_folder : Text → Text → Text
outer_folder current folder = if slice_index folder 0 == 47 then [] else current

-- the place of a folder
abbrev pub place_of : Text → Text → List Text
place_of current folder = led (led [] (outer_folder current folder)) folder

-- the place that a path names in a folder
abbrev pub named : Text → Text → Text → List Text
named current folder path = led (place_of current folder) path

-- a way of parts from the root: how often it went above the root, and the place that it led to
abbrev pub Way : Type 0
Way = ℕ × List Text

-- a way that goes on to the folder that its place is in, or from the root once more above it
abbrev pub gone_up : Way → Way
gone_up way = if length way.1 == 0 then (way.0 + 1, []) else (way.0, take (length way.1 - 1) way.1)

-- a way that goes on where a part leads
abbrev pub climbed : Way → Text → Way
climbed way part =
    if is_here part then way
    else if bytes_eq part (codes "..") then gone_up way else (way.0, way.1 ++ part ∷ [])

-- a way that goes on where a path leads
abbrev pub climbed_along : Way → Text → Way
climbed_along way path = fold climbed way (parts_of path)

-- the way to a folder
abbrev pub way_of : Text → Text → Way
way_of current folder = climbed_along (climbed_along (0, []) (outer_folder current folder)) folder

-- how far above the root a path of a folder goes
abbrev pub above : Text → Text → Text → ℕ
above current folder path = (climbed_along (way_of current folder) path).0

-- a path begins with a slash of some system
abbrev pub begins_with_slash : Text → Bool
begins_with_slash path = slice_index path 0 == 47 || slice_index path 0 == 92

-- a path stands by itself: it is from the root, or begins with a scheme, as a URL does, or with a drive
abbrev pub stands_by_itself : Text → Bool
stands_by_itself path = begins_with_slash path || has_scheme path

-- a path begins with a scheme of two bytes or more, and a colon
abbrev pub is_url : Text → Bool
is_url path = has_scheme path && not (slice_index path 1 == 58)

-- a path names something by the folder that it is in
abbrev pub is_in_folder : Text → Bool
is_in_folder path = not (bytes_eq path [] || stands_by_itself path)

-- there is a first part, and it is not empty and begins with no backslash, drive or scheme
abbrev pub begins_plainly : List Text → Bool
begins_plainly [] = false
begins_plainly (part ∷ parts) = is_in_folder part

-- a part of a place: one that leads from a folder into it, without a slash
abbrev pub is_name : Text → Bool
is_name part = not (is_here part || bytes_eq part (codes "..") || list_any is_slash part)

-- `./`, where a path that goes up by none would be empty, or begin with a backslash, a drive or a scheme
abbrev pub front_of : ℕ → List Text → Text
front_of up parts = if up == 0 && not (begins_plainly parts) then codes "./" else []

-- the path of parts, a slash between each two
abbrev pub joined : List Text → Text
joined parts = join_by (λ part. part) (codes "/") parts

-- the path that goes up so many folders, and then has these parts
abbrev pub climbing : ℕ → List Text → Text
climbing up parts = repeat up (codes "../") ++ (front_of up parts ++ joined parts)

-- A path does not lead out of a folder, which is empty or ends in a slash: behind the folder it has names alone, each of which leads into
-- the folder before it.
pub record IsBelow (folder path : Text) : Type 0 where
  pub names : List Text
  pub are_names : list_all is_name names ≡ true
  pub is_path : path ≡ folder ++ joined names

-- A path goes up so many folders, and then down by names: not into a folder that it just left, and above the root only as far as the
-- path was that it stands for.
pub record IsDirect (base : List Text) (above : ℕ) (path : Text) : Type 0 where
  pub up : ℕ
  pub names : List Text
  pub is_path : path ≡ climbing up names
  pub are_names : list_all is_name names ≡ true
  pub apart : (name : Text) → up ≤ length base → slice_get base (length base - up) ≡ Some name → slice_get names 0 ≢ Some name
  pub no_higher : above ≡ 0 → up ≤ length base
  pub as_high : 0 < above → up ≡ length base + above

-- A path of the folder `from` that became one of the folder `to`. If the path named something by its folder, the new one names it in
-- the folder `to`, without a detour, and is no URL and from no root or drive. Else it stays, and so does every path where both folders
-- are one.
pub record IsMoved (current from to path moved : Text) : Type 0 where
  pub same_place : is_in_folder path ≡ true → named current to moved ≡ named current from path
  pub plain : is_in_folder path ≡ true → is_in_folder moved ≡ true
  pub absolute_stays : is_in_folder path ≡ false → moved ≡ path
  pub stays : place_of current to ≡ place_of current from → moved ≡ path
  pub direct : is_in_folder path ≡ true → ¬ (place_of current to ≡ place_of current from)
      → IsDirect (place_of current to) (above current from path) moved

-- A map of the folder `from` that became one of the folder `to`: its source root is put before its sources, these are led there, and all
-- else is as it was.
pub record IsRebased (current from to : Text) (old new : MapRecord) : Type 0 where
  pub paths : List Text
  pub moved : AllZip (IsMoved current from to) (rooted old).sources paths
  pub whole : new ≡ record (rooted old) { sources = paths }

-- ---- words of functions that are not public
-- the bytes of texts
abbrev pub written : List (String Global) → List Text
written texts = map string_bytes texts

-- the way to a place
abbrev pub way : Place → Way
way place = (vec_len place.above, lent_items place.parts.items)

-- A path leads from the place `base` where a way leads without a detour, and is neither from the root or from a drive, nor a URL.
pub record LeadsTo (base : List Text) (way : Way) (path : Text) : Type 0 where
  pub there : led base path ≡ way.1
  pub direct : IsDirect base way.0 path
  pub plain : is_in_folder path ≡ true
