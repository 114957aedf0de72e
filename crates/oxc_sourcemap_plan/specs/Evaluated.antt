-- What is promised of the map that the evaluation of a plan returns, and of its errors.
use Rattle.std.specs.Prelude.{◌≡◌, ◌≤◌, Bool, true, List, length, Ok, Err, Some, None, false, ◌⊎◌}
use Rattle.std.specs.List.{list_all, list_any}
use Rattle.std.specs.Str.{bytes_eq}
use Rattle.oxc_sourcemap_mappings.specs.Reading.{reading}
use Rattle.oxc_sourcemap_mappings.specs.Canonical.{canonical}
use Rattle.oxc_sourcemap_parts.specs.Record.{Text, MapRecord}
use Rattle.oxc_sourcemap_parts.specs.DecodedMap.{DecodedMap, decoded_map_of}
use Rattle.oxc_sourcemap_parts.specs.Sound.{IsSound}
use Rattle.oxc_sourcemap_plan.specs.Repeats.{EqualUpToRepeats, EqualButForMappings}
use Rattle.oxc_sourcemap_json.specs.Encoded.{encoded, encoded_record}
use Rattle.oxc_sourcemap_plan.specs.MapLaws.{ComesBack}
use Rattle.oxc_sourcemap_plan.specs.JoinLaws.{HaveSameTraces}
use Rattle.oxc_sourcemap_tokens.specs.declared.errors.plan_error.PlanError.{PlanError}
use Rattle.oxc_sourcemap_tokens.specs.declared.errors.plan_error.PlanError.TheVariants.{Map}
use Rattle.oxc_sourcemap_tokens.specs.declared.errors.error.Error.TheVariants.{TooLarge}
use Rattle.oxc_sourcemap_plan.specs.Meaning.{Meaning}
use Rattle.oxc_sourcemap_plan.specs.Outcome.{Outcome}

-- whether a name is one of these
abbrev pub is_among : List Text → Text → Bool
is_among names name = list_any (bytes_eq name) names

-- whether all of the second names are among the first
abbrev pub are_among : List Text → List Text → Bool
are_among names others = list_all (is_among names) others

-- A map has no chunks, and its mappings text is read as exactly its tokens.
pub record IsReadBack (m : MapRecord) : Type 0 where
  pub chunks : m.token_chunks ≡ None
  pub tokens : reading (canonical m.tokens) (length m.names) (length m.sources) ≡ Ok m.tokens

-- An error of an evaluation other than `OutOfMemory`: the one that is meant, or `TooLarge` if a part is not within the limits.
abbrev pub IsErrorOf : Meaning → Bool → PlanError → Type 0
IsErrorOf meaning is_within_limits e = (meaning ≡ Err e) ⊎ ((e ≡ Map TooLarge) × (is_within_limits ≡ false))

-- What the theorem promises of the map that an evaluation returns, by what the plan means.
pub record IsEvaluated (m : MapRecord) (meaning : Meaning) : Type 0 where
  -- the plan means a decoded map, and the map is sound and means the same but for repeated mappings
  pub decoded_map : DecodedMap
  pub means : meaning ≡ Ok decoded_map
  pub sound : IsSound m
  pub up_to_repeats : EqualUpToRepeats (decoded_map_of m) decoded_map
  pub traces : HaveSameTraces (decoded_map_of m) decoded_map
  pub metadata : EqualButForMappings (decoded_map_of m) decoded_map
  -- it has no more tokens than the meant mappings
  pub tokens : length m.tokens ≤ length decoded_map.mappings
  -- if it is not too large, it is written; and what is written comes back
  pub written : length m.tokens ≤ 4294967295 → encoded m ≡ Ok (encoded_record m)
  pub comes_back : ComesBack m

-- What is promised of it besides, by the outcome of the plan: for proofs of callers that go on with the map.
pub record HasOutcome (m : MapRecord) (o : Outcome) : Type 0 where
  -- it is exactly the map that the steps make
  pub map_record : o.map_record ≡ Some m
  -- it has no more names than the texts, and each is a name of one of these; no more contents than `o` counts
  pub names : length m.names ≤ length o.names
  pub known : are_among o.names m.names ≡ true
  pub contents : length m.source_contents ≤ o.contents
  -- after a rewriting, its mappings text is read as exactly its tokens
  pub rewritten : o.is_rewritten ≡ true → IsReadBack m
  -- it is not too large to be written if all parts are within the limits
  pub within_limits : o.is_within_limits ≡ true → length m.tokens ≤ 4294967295
