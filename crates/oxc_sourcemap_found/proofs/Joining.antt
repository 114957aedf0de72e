-- The join of sections, if it is within the limits.
use Rattle.std.proofs.Common.{◌≡◌, Bool, true, false, List, refl, Option, Ok, Err}
use Rattle.oxc_sourcemap_tokens.specs.declared.errors.error.Error.TheVariants.{TooLarge}
use Rattle.oxc_sourcemap_tokens.specs.declared.position.Position.{Position}
use Rattle.oxc_sourcemap_parts.specs.Record.{Text, MapRecord}
use Rattle.oxc_sourcemap_join.specs.Joined.{joined, IsWithinLimits}
use Rattle.oxc_sourcemap_json.specs.JoinLimits.{is_map_within_limits}
use Rattle.oxc_sourcemap_json.specs.ReadMap.{indexed_record}
use Rattle.oxc_sourcemap_json.proofs.JoinLimits.{limits_decided}
use Rattle.oxc_sourcemap_found.specs.FoundMaps.{joined_map}

pub within_joined : (maps : List (MapRecord × Position)) (file : Option Text) → IsWithinLimits (joined maps) → joined_map maps file ≡ Ok (indexed_record file (joined maps))
within_joined maps file w = let t : is_map_within_limits (joined maps) ≡ true = (limits_decided (joined maps)).1 w in rw t refl

past-at : (b : Bool) (maps : List (MapRecord × Position)) (file : Option Text) → is_map_within_limits (joined maps) ≡ b → ¬ (IsWithinLimits (joined maps)) → joined_map maps file ≡ Err TooLarge
past-at true maps file e n = absurd (n ((limits_decided (joined maps)).0 e))
past-at false maps file e n = rw e refl

pub past_joined : (maps : List (MapRecord × Position)) (file : Option Text) → ¬ (IsWithinLimits (joined maps)) → joined_map maps file ≡ Err TooLarge
past_joined maps file n = past-at (is_map_within_limits (joined maps)) maps file refl n
