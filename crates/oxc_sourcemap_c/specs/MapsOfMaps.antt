-- Compositions, remappings and joins of maps that handles lend.
use Rattle.std.specs.Prelude.{◌≡◌, ◌≢◌, ◌⊎◌, List, [], ◌∷◌, map, length, Option, Some, Ok, Err}
use Rattle.std.specs.Prelude.{option_map, MatchOption}
use Rattle.std.specs.Option.{option_and_then}
use Rattle.oxc_sourcemap_tokens.specs.declared.errors.error.Error.{Error}
use Rattle.oxc_sourcemap_tokens.specs.declared.errors.error.Error.TheVariants.{TooLarge}
use Rattle.oxc_sourcemap_tokens.specs.declared.position.Position.{Position}
use Rattle.oxc_sourcemap_parts.specs.Record.{Text, MapRecord}
use Rattle.oxc_sourcemap_join.specs.Joined.{joined, IsWithinLimits}
use Rattle.oxc_sourcemap_steps.specs.Composed.{composition, SomeComposition, NoColumnGoesBack}
use Rattle.oxc_sourcemap_steps.specs.Composed.{composition_fault}
use Rattle.oxc_sourcemap_steps.specs.Inputs.{NoInputColumnGoesBack}
use Rattle.oxc_sourcemap_steps.specs.Remapped.{remapping, SomeRemapping}
use Rattle.oxc_sourcemap_c.specs.declared.numbers.call_error.CallError.{CallError}
use Rattle.oxc_sourcemap_c.specs.declared.numbers.call_error.CallError.TheVariants.{NullHandle}
use Rattle.oxc_sourcemap_c.specs.declared.numbers.call_error.CallError.TheVariants.{Lengths}
use Rattle.oxc_sourcemap_c.specs.declared.holding.held.Held.{Held}
use Rattle.oxc_sourcemap_c.specs.declared.holding.lent.Lent.{Lent}
use Rattle.oxc_sourcemap_c.specs.CallErrors.{of_map}
use Rattle.oxc_sourcemap_c.specs.Holding.{held_map}
use Rattle.oxc_sourcemap_c.specs.Lists.{AreTexts, IsNotTexts}
use Rattle.oxc_sourcemap_c.specs.Joining.{IsPartsError}

-- what each of these handles holds
abbrev pub all_lent : List Lent → List (Option Held)
all_lent handles = map (λ h. h.held) handles

-- the maps that handles hold; none if one of them holds no map
abbrev pub all_maps : List (Option Held) → Option (List MapRecord)
all_maps [] = Some []
all_maps (h ∷ hs) = option_and_then (λ m. option_map (λ ms. m ∷ ms) (all_maps hs)) (held_map h)

-- the two handles hold maps of which this holds
abbrev pub HoldMaps : Option Held → Option Held → (MapRecord → MapRecord → Type 0) → Type 0
HoldMaps first second P = MatchOption (held_map first) ⊥ (λ a. MatchOption (held_map second) ⊥ (λ b. P a b))

-- ---- compositions

-- a map is a composition of two, and the one that is defined if columns do not go back in the second
pub record IsComposition (a b m : MapRecord) : Type 0 where
  pub some : SomeComposition a b (Ok m)
  pub defined : NoColumnGoesBack b.tokens → composition a b ≡ Ok m

-- ---- remappings

-- each path with its map
abbrev pub by_path : List Text → List MapRecord → List (Text × MapRecord)
by_path [] ms = []
by_path (path ∷ paths) [] = []
by_path (path ∷ paths) (m ∷ ms) = (path, m) ∷ by_path paths ms

-- a map is a remapping, and the one that is defined if columns do not go back in the inputs
pub record IsRemapping (a : MapRecord) (inputs : List (Text × MapRecord)) (m : MapRecord) : Type 0 where
  pub some : SomeRemapping a inputs (Ok m)
  pub defined : NoInputColumnGoesBack inputs → remapping a inputs ≡ Ok m

-- a map is the remapping of the map that a handle holds, through those that others hold for these paths
abbrev pub IsRemapped : Option Held → List Text → List (Option Held) → MapRecord → Type 0
IsRemapped held paths inputs m =
    MatchOption (held_map held) ⊥ (λ a. MatchOption (all_maps inputs) ⊥
    (λ ms. (length paths ≡ length ms) × AreTexts paths × IsRemapping a (by_path paths ms) m))

-- an error of remapping maps: there are not as many paths as maps, a path is not UTF-8, or there is no remapping
abbrev pub IsRemappingError : MapRecord → List Text → List MapRecord → CallError → Type 0
IsRemappingError a paths ms r =
    ((r ≡ Lengths) × (length paths ≢ length ms)) ⊎ ((length paths ≡ length ms) × (IsNotTexts paths r
    ⊎ (AreTexts paths × (e : Error) × SomeRemapping a (by_path paths ms) (Err e) × (r ≡ of_map e))))

-- an error of remapping what handles hold
abbrev pub IsRemapError : Option Held → List Text → List (Option Held) → CallError → Type 0
IsRemapError held paths inputs r =
    MatchOption (held_map held) (r ≡ NullHandle) (λ a. MatchOption (all_maps inputs) (r ≡ NullHandle)
    (λ ms. IsRemappingError a paths ms r))

-- ---- joins

-- each map with its position
abbrev pub at_places : List MapRecord → List Position → List (MapRecord × Position)
at_places [] ps = []
at_places (m ∷ ms) [] = []
at_places (m ∷ ms) (p ∷ ps) = (m, p) ∷ at_places ms ps

-- a map is the join of these
abbrev pub IsJoinOfMaps : List MapRecord → List Position → MapRecord → Type 0
IsJoinOfMaps ms ps m = (length ms ≡ length ps) × (m ≡ joined (at_places ms ps))

-- a map is the join of the maps that these handles hold
abbrev pub IsJoinOfLent : List (Option Held) → List Position → MapRecord → Type 0
IsJoinOfLent hs ps m = MatchOption (all_maps hs) ⊥ (λ ms. IsJoinOfMaps ms ps m)

-- an error of adding what a handle holds to a join: it holds no map, or the join would pass a limit
abbrev pub IsAddErrorOf : MapRecord → Option MapRecord → Position → CallError → Type 0
IsAddErrorOf join held p r = MatchOption held (r ≡ NullHandle) (λ m. IsPartsError join m p r)

-- an error of joining these maps: there are not as many positions as maps, or the join is past a limit
abbrev pub IsJoinErrorOfMaps : List MapRecord → List Position → CallError → Type 0
IsJoinErrorOfMaps ms ps r =
    ((r ≡ Lengths) × (length ms ≢ length ps)) ⊎ ((length ms ≡ length ps) × (r ≡ of_map TooLarge)
    × ¬ (IsWithinLimits (joined (at_places ms ps))))

-- an error of joining the maps that handles hold: one holds no map, or the maps have no join
abbrev pub IsJoinErrorOf : List (Option Held) → List Position → CallError → Type 0
IsJoinErrorOf hs ps r = MatchOption (all_maps hs) (r ≡ NullHandle) (λ ms. IsJoinErrorOfMaps ms ps r)

-- an error of composing two maps: they have no composition
abbrev pub IsComposingError : MapRecord → MapRecord → CallError → Type 0
IsComposingError a b r = (e : Error) × SomeComposition a b (Err e) × (r ≡ of_map e)

-- an error of composing what two handles hold: one holds no map, or the maps have no composition
abbrev pub IsCompositionError : Option MapRecord → Option MapRecord → CallError → Type 0
IsCompositionError first second r =
    MatchOption first (r ≡ NullHandle) (λ a. MatchOption second (r ≡ NullHandle) (λ b. IsComposingError a b r))

-- what composing what two handles hold reports whatever the memory: that one holds no map, or the fault of the two maps
abbrev pub IsSureComposeError : Option MapRecord → Option MapRecord → CallError → Type 0
IsSureComposeError first second r =
    MatchOption first (r ≡ NullHandle) (λ a. MatchOption second (r ≡ NullHandle)
    (λ b. (e : Error) × (composition_fault a b ≡ Some e) × (r ≡ of_map e)))

-- the same of joining what handles hold: that one holds no map, or that there are not as many positions as maps
abbrev pub IsSureJoinError : List (Option Held) → List Position → CallError → Type 0
IsSureJoinError hs ps r = MatchOption (all_maps hs) (r ≡ NullHandle) (λ ms. (r ≡ Lengths) × (length ms ≢ length ps))

-- the same of remapping what handles hold: that one holds no map, or that there are not as many paths as maps
abbrev pub IsSureRemapError : Option Held → List Text → List (Option Held) → CallError → Type 0
IsSureRemapError held paths inputs r =
    MatchOption (held_map held) (r ≡ NullHandle) (λ a. MatchOption (all_maps inputs) (r ≡ NullHandle)
    (λ ms. (r ≡ Lengths) × (length paths ≢ length ms)))
