-- The results of the private steps of an evaluation, by the outcomes of parts. No public contract cites this.
use Rattle.std.specs.Prelude.{◌≡◌, ◌≤◌, true, List, length, Ok, Some, None, ◌⊎◌}
use Rattle.std.specs.List.{AllByRecursion, AllZip}
use Rattle.oxc_sourcemap_tokens.specs.declared.errors.error.Error.TheVariants.{OutOfMemory}
use Rattle.oxc_sourcemap_tokens.specs.Token.{AreInBounds}
use Rattle.oxc_sourcemap_parts.specs.Record.{Text, MapRecord}
use Rattle.oxc_sourcemap_parts.specs.Views.{record_of_parts}
use Rattle.oxc_sourcemap_parts.specs.declared.parts.SourceMapParts.{SourceMapParts}
use Rattle.oxc_sourcemap_parts.specs.DecodedMap.{DecodedMap}
use Rattle.oxc_sourcemap_json.specs.ReadMap.{read_map}
use Rattle.oxc_sourcemap_plan.specs.MapLaws.{rewritten}
use Rattle.oxc_sourcemap_tokens.specs.declared.position.Position.{Position}
use Rattle.oxc_sourcemap_plan.specs.JoinLaws.{StandsFor}
use Rattle.oxc_sourcemap_tokens.specs.declared.errors.plan_error.PlanError.{PlanError}
use Rattle.oxc_sourcemap_tokens.specs.declared.errors.plan_error.PlanError.TheVariants.{Map}
use Rattle.oxc_sourcemap_plan.specs.Outcome.{Outcome}
use Rattle.oxc_sourcemap_plan.specs.Evaluated.{are_among, IsErrorOf}

-- a text that can be read, and texts that all can
abbrev pub IsRead : Text → Type 0
IsRead text = (r : MapRecord) × (read_map text ≡ Ok r)

abbrev pub AreRead : List Text → Type 0
AreRead texts = AllByRecursion IsRead texts

-- A map realizes an outcome, seen from inside the evaluation: it stands for the decoded map that is meant, with no more tokens
-- and names than the outcome counts.
pub record Realizes (m : MapRecord) (o : Outcome) : Type 0 where
  pub decoded_map : DecodedMap
  pub means : o.meaning ≡ Ok decoded_map
  pub stands : StandsFor m decoded_map
  pub in_bounds : AreInBounds m.tokens
  pub map_record : o.map_record ≡ Some m
  pub texts : AreRead o.texts
  pub tokens : length m.tokens ≤ length decoded_map.mappings
  pub names : length m.names ≤ length o.names
  pub contents : length m.source_contents ≤ o.contents
  pub known : are_among o.names m.names ≡ true
  pub within_limits : o.is_within_limits ≡ true → length decoded_map.mappings ≤ 4294967295
  pub rewritten : o.is_rewritten ≡ true → (m.token_chunks ≡ None) × ((rewritten m).tokens ≡ m.tokens)

-- Parts of a map realize an outcome, as the map does.
abbrev pub PartsRealize : SourceMapParts → Outcome → Type 0
PartsRealize parts o = Realizes (record_of_parts parts) o

-- An error is the one that is meant, or want of memory, or `TooLarge` if the plan is not within the limits.
abbrev pub FailsAs : PlanError → Outcome → Type 0
FailsAs e o = (e ≡ Map OutOfMemory) ⊎ IsErrorOf o.meaning o.is_within_limits e

-- each map realizes the outcome at its index in the other list, at the same offset
abbrev pub AllRealize : List (MapRecord × Position) → List (Outcome × Position) → Type 0
AllRealize ms os = AllZip (λ m o. Realizes m.0 o.0 × (m.1 ≡ o.1)) ms os

-- each input realizes the outcome at its index in the other list, for the same path
abbrev pub InputsRealize : List (Text × MapRecord) → List (Text × Outcome) → Type 0
InputsRealize ms os = AllZip (λ m o. (m.0 ≡ o.0) × Realizes m.1 o.1) ms os
