-- Calls on the joins that handles hold, and their errors.
use Rattle.std.specs.Prelude.{◌≡◌, Option, Some, MatchOption, IfSome}
use Rattle.oxc_sourcemap_tokens.specs.Chunks.{ChunksFit}
use Rattle.oxc_sourcemap_tokens.specs.declared.errors.error.Error.TheVariants.{TooLarge}
use Rattle.oxc_sourcemap_tokens.specs.declared.position.Position.{Position}
use Rattle.oxc_sourcemap_parts.specs.Record.{MapRecord}
use Rattle.oxc_sourcemap_join.specs.Joined.{added, nothing_joined, IsWithinLimits}
use Rattle.oxc_sourcemap_c.specs.declared.holding.held.Held.{Held}
use Rattle.oxc_sourcemap_c.specs.declared.numbers.call_error.CallError.{CallError}
use Rattle.oxc_sourcemap_c.specs.declared.numbers.call_error.CallError.TheVariants.{NullHandle}
use Rattle.oxc_sourcemap_c.specs.CallErrors.{of_map}
use Rattle.oxc_sourcemap_c.specs.Holding.{held_join, held_map}

-- a handle holds a join before a call and one after it, to which the map of another handle is added at a position
abbrev pub IsJoined : Option Held → Option Held → Option Held → Position → Type 0
IsJoined old new map p =
    MatchOption (held_join old) ⊥ (λ j. MatchOption (held_map map) ⊥ (λ m. (held_join new ≡ Some (added j m p)) × IsWithinLimits (added j m p)))

-- an error of adding a map to a join: the join would be past a limit
abbrev pub IsPartsError : MapRecord → MapRecord → Position → CallError → Type 0
IsPartsError j m p r = ¬ (IsWithinLimits (added j m p)) × (r ≡ of_map TooLarge)

-- an error of adding the map in a handle to the join in another: one holds none, or the join would be past a limit
abbrev pub IsAddError : Option Held → Option Held → Position → CallError → Type 0
IsAddError join map p r = MatchOption (held_join join) (r ≡ NullHandle) (λ j. MatchOption (held_map map) (r ≡ NullHandle) (λ m. IsPartsError j m p r))

-- the error of a call on a join and a map in handles, of which one holds none
abbrev pub IsOneNull : Option Held → Option Held → CallError → Type 0
IsOneNull join map r = MatchOption (held_join join) (r ≡ NullHandle) (λ j. MatchOption (held_map map) (r ≡ NullHandle) (λ m. ⊥))

-- the error of a call on the join in a handle: the handle holds none
abbrev pub IsNullJoin : Option Held → CallError → Type 0
IsNullJoin join r = MatchOption (held_join join) (r ≡ NullHandle) (λ j. ⊥)

-- a handle held a join and now holds one as new, and another handle holds the joined map, which is within the limits, with chunks
-- that fit
abbrev pub IsJoinFinished : Option Held → Option Held → Option Held → Type 0
IsJoinFinished old new made =
    MatchOption (held_join old) ⊥ (λ j. (held_map made ≡ Some j) × IsWithinLimits j × IfSome j.token_chunks (ChunksFit j.tokens) × (held_join new ≡ Some nothing_joined))
