-- Worked examples of first differences, computed by the definitions themselves.
use Rattle.std.specs.Prelude.{◌≡◌, refl, ℕ, zero, suc, ◌<◌, List, [], ◌∷◌, Option, Some, None}
use Rattle.std.proofs.Common.{arith, inl, inr, ap}
use Rattle.oxc_sourcemap_tokens.specs.Token.{TokenRecord}
use Rattle.oxc_sourcemap_parts.specs.DecodedMap.{decoded_map_of, OriginalPosition}
use Rattle.oxc_sourcemap_parts.specs.Record.{Text, MapRecord}
use Rattle.oxc_sourcemap_parts.specs.Views.{empty_record}
use Rattle.oxc_sourcemap_lookup.specs.Trace.{trace}
use Rattle.oxc_sourcemap_queries.specs.Differences.{HaveSameTraceAt, IsFirstDifference}

abbrev x : Text
x = 120 ∷ []

abbrev y : Text
y = 121 ∷ []

-- a generated position, a source line, and ids
abbrev token : ℕ → ℕ → ℕ → ℕ → ℕ → TokenRecord
token line col mark source name = record { dst_line = line; dst_col = col; src_line = mark; src_col = 0; source_id = Some source; name_id = Some name }

abbrev unmapped : ℕ → ℕ → TokenRecord
unmapped line col = record { dst_line = line; dst_col = col; src_line = 0; src_col = 0; source_id = None; name_id = None }

-- a map of two sources and two names
abbrev of_tokens : List TokenRecord → MapRecord
of_tokens tokens = record empty_record { names = x ∷ y ∷ []; sources = x ∷ y ∷ []; tokens = tokens }

-- the same with its lists in the other order
abbrev swapped : List TokenRecord → MapRecord
swapped tokens = record empty_record { names = y ∷ x ∷ []; sources = y ∷ x ∷ []; tokens = tokens }

abbrev single : MapRecord
single = of_tokens (token 0 2 1 0 1 ∷ [])

-- other ids, equal texts
ignores-ids : HaveSameTraceAt single (swapped (token 0 2 1 1 0 ∷ [])) 0 7
ignores-ids = refl

-- equal ids, other texts
abbrev first_byte : Text → ℕ
first_byte [] = 0
first_byte (byte ∷ bytes) = byte

abbrev path_byte : Option (Option OriginalPosition) → ℕ
path_byte (Some (Some o)) = first_byte o.source.path
path_byte (Some None) = 0
path_byte None = 0

compares-texts : HaveSameTraceAt single (swapped (token 0 2 1 0 1 ∷ [])) 0 7 → ⊥
compares-texts e = (let f : 120 ≡ 121 = ap path_byte e in omega (arith, f))

abbrev content_of : Option (Option OriginalPosition) → Option Text
content_of (Some (Some o)) = o.source.content
content_of (Some None) = None
content_of None = None

compares-contents : HaveSameTraceAt single (record single { source_contents = Some x ∷ [] }) 0 7 → ⊥
compares-contents e = (let f : None ≡ Some x = ap content_of e in cc (f))

-- a content that is not known is none, listed or not
ignores-unknown_contents : HaveSameTraceAt single (record single { source_contents = None ∷ None ∷ None ∷ [] }) 0 7
ignores-unknown_contents = refl

-- an unmapped token is not nothing, and an id out of range is none
tells-unmapped_from_nothing : HaveSameTraceAt (of_tokens (unmapped 0 2 ∷ [])) (of_tokens []) 0 2 → ⊥
tells-unmapped_from_nothing e = cc (e)

takes-out_of_range_for_none : HaveSameTraceAt (of_tokens (unmapped 0 2 ∷ [])) (of_tokens (token 0 2 7 2 0 ∷ [])) 0 2
takes-out_of_range_for_none = refl

-- a token that repeats the one before it changes nothing
ignores-repeats : HaveSameTraceAt single (of_tokens (token 0 2 1 0 1 ∷ token 0 5 1 0 1 ∷ [])) 0 6
ignores-repeats = refl

-- a token holds to the end of its line
ends-at_the_line : trace (decoded_map_of single) 1 7 ≡ None
ends-at_the_line = refl

-- of two tokens in the last column the second is found nowhere
is_found-nowhere : HaveSameTraceAt (of_tokens (token 0 4294967295 1 0 1 ∷ [])) (of_tokens (token 0 4294967295 1 0 1 ∷ token 0 4294967295 2 0 1 ∷ [])) 0 4294967295
is_found-nowhere = refl

-- of two tokens in a column the second is found from the next column on, and there the maps differ first
abbrev doubled : MapRecord
doubled = of_tokens (token 0 2 1 0 1 ∷ token 0 2 2 0 1 ∷ [])

abbrev source_line : Option (Option OriginalPosition) → ℕ
source_line (Some (Some o)) = o.src_line
source_line (Some None) = 0
source_line None = 0

same-before : (line col : ℕ) → line ≡ 0 → col < 3 → HaveSameTraceAt single doubled line col
same-before (suc line) col e h = absurd (omega (arith, e))
same-before zero zero e h = refl
same-before zero (suc zero) e h = refl
same-before zero (suc (suc zero)) e h = refl
same-before zero (suc (suc (suc col))) e h = absurd (omega (arith, h))

differ-in_the_next_column : IsFirstDifference single doubled (record { line = 0; column = 3 })
differ-in_the_next_column = record {
  differ = λ e. (let f : 1 ≡ 2 = ap source_line e in omega (arith, f));
  same_before = λ line col fits before. elim before [ inl h ↦ absurd (omega (arith, h)) | inr h ↦ same-before line col h.0 h.1 ];
}
