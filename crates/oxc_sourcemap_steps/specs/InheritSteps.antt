-- What code keeps of the names inherited from the first of two maps. No public contract cites this module.
use Rattle.std.specs.Prelude.{◌≡◌, ℕ, ◌<◌, List, [], ◌++◌, length, map, slice_get, Some}
use Rattle.std.specs.Borrow.{Bor}
use Rattle.std.specs.Str.{bytes_eq}
use Rattle.std.specs.HashMap as hash
use Rattle.std.specs.HashMap.{HashMap}
use Rattle.oxc_sourcemap_parts.specs.Record.{Text}
use Rattle.oxc_sourcemap_parts.specs.Texts.{index_of}
use Rattle.oxc_sourcemap_steps.specs.declared.compose.inherited_names.InheritedNames.{InheritedNames}

-- the names of the second map, and those inherited after them
abbrev pub names_with : List Text → InheritedNames → List Text
names_with second inherited = second ++ map (λ name. name.now) inherited.names.items

-- this map has the index of each of these texts, and no other text
abbrev pub HasIndices : {S : Type 0} → List Text → HashMap (Bor Text) ℕ S → Type 0
HasIndices texts places = (text : Text) → hash.get_by (λ key. bytes_eq text key.now) places ≡ index_of text texts

-- the map of indices is filled, or no name was inherited so far
pub record HasNames (second : List Text) (inherited : InheritedNames) : Type 0 where
  pub places : 0 < length inherited.places.entries → HasIndices (names_with second inherited) inherited.places
  pub none : length inherited.places.entries ≡ 0 → inherited.names.items ≡ []

-- the map of indices is right, and so is each id that is kept for a name of the first map
pub record IsInheriting (first second : List Text) (inherited : InheritedNames) : Type 0 where
  pub names : HasNames second inherited
  pub each : length inherited.ids.items ≡ length first
  pub ids : (i id : ℕ) (name : Text) → slice_get first i ≡ Some name → slice_get inherited.ids.items i ≡ Some (Some id)
      → (index_of name (names_with second inherited) ≡ Some id) × (id < 4294967295)
