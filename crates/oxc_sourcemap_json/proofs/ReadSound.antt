-- A map that is decoded has its ids in range and no chunks, and its tokens are in bounds and in line order.
use Rattle.std.proofs.Common.{◌≡◌, ℕ, ◌<◌, ◌==◌, Bool, true, false, cond, nat_lt, List, [], ◌∷◌}
use Rattle.std.proofs.Common.{length, get_or, drop, arith, refl, ap, sym, subst, ◌∙◌, inl, inr}
use Rattle.std.proofs.Common.{Option, Some, None, option_map, Result, Ok, Err}
use Rattle.std.specs.List.{AllByRecursion}
use Rattle.std.specs.Option.{IfSome, is_some, option_map_or}
use Rattle.std.proofs.lemmas.Bool.{cases_lt}
use Rattle.std.proofs.lemmas.Bool.Decides.{nat_tests}
use Rattle.oxc_sourcemap_tokens.specs.declared.errors.error.Error.{Error}
use Rattle.oxc_sourcemap_tokens.specs.declared.errors.error.Error.TheVariants.{BadSourceReference}
use Rattle.oxc_sourcemap_tokens.specs.Errors.{unless}
use Rattle.oxc_sourcemap_tokens.specs.Token.{TokenRecord, AreInBounds, mapped_name, name_beside}
use Rattle.oxc_sourcemap_json.specs.JsonRecord.{JsonRecord}
use Rattle.oxc_sourcemap_mappings.specs.Reading.{reading}
use Rattle.oxc_sourcemap_tokens.specs.State.{State, initial}
use Rattle.oxc_sourcemap_mappings.specs.Canonical.{carried_token}
use Rattle.oxc_sourcemap_tokens.specs.LineOrder.{back_from}
use Rattle.oxc_sourcemap_tokens.specs.Steps.{advanced}
use Rattle.oxc_sourcemap_mappings.proofs.Again.{reads_of, bounds_within}
use Rattle.oxc_sourcemap_mappings.proofs.RoundTrip.{IsWithin, carrying}
use Rattle.oxc_sourcemap_parts.specs.Record.{MapRecord}
use Rattle.oxc_sourcemap_parts.specs.Sound.{IsInRange, AreIdsInRange}
use Rattle.oxc_sourcemap_json.specs.Decoded.{first_not_below, ignore_list_fault, decoded_record}
use Rattle.oxc_sourcemap_json.specs.Decoded.{with_tokens, json_fault, decoded}

-- ---- ids

pub carried-name : (s : State) (t : TokenRecord) → (carried_token s t).name_id ≡ mapped_name t
carried-name s t =
    elim t.source_id as (λ o. (cond (is_some o) t (record t { src_line = s.src_line; src_col = s.src_col; name_id = None })).name_id ≡ name_beside o t.name_id) [
      | Some i ↦ refl
      | None ↦ refl
    ]

in-range : (names sources : ℕ) (s : State) (t : TokenRecord) → IsWithin names sources t → carried_token s t ≡ t → IsInRange names sources t
in-range names sources s t w c = record {
  source_id = w.source_id;
  name_id = subst (λ o. IfSome o (λ id. id < names)) (sym (carried-name s t) ∙ ap (λ u. u.name_id) c) w.name_id;
}

all-in-range : (names sources : ℕ) (s : State) (ts : List TokenRecord) → AllByRecursion (IsWithin names sources) ts → carrying s ts ≡ ts → AllByRecursion (IsInRange names sources) ts
all-in-range names sources s [] w c = tt
all-in-range names sources s (t ∷ ts) w c = (
  in-range names sources s t w.0 (ap (λ l. get_or l 0 t) c),
  all-in-range names sources (advanced s t) ts w.1 (ap (drop 1) c),
)

all-below : (count : ℕ) (ids : List ℕ) → first_not_below count ids ≡ None → AllByRecursion (λ id. id < count) ids
all-below count [] e = tt
all-below count (id ∷ ids) e =
    elim (cases_lt id count) [
      | inl l ↦ (let t : nat_lt id count ≡ true = grind (arith, nat_tests) in (l, all-below count ids (rw t at e)))
      | inr g ↦ (let t : nat_lt id count ≡ false = grind (arith, nat_tests) in let k = rw t at e in cc)
    ]

list-below : (count : ℕ) (list : Option (List ℕ)) → option_map_or (first_not_below count) list None ≡ None → IfSome list (AllByRecursion (λ id. id < count))
list-below count None e = tt
list-below count (Some ids) e = all-below count ids e

-- ---- a map that is read

of-fault : (o : Option Error) (x : Result MapRecord Error) (r : MapRecord) → unless o x ≡ Ok r → (o ≡ None) × (x ≡ Ok r)
of-fault None x r e = (refl, e)
of-fault (Some fault) x r e = cc

no-fault : (o : Option ℕ) → option_map BadSourceReference o ≡ None → o ≡ None
no-fault None e = refl
no-fault (Some id) e = cc

list-fits : (b : Bool) (fault : Error) (o : Option ℕ) → cond b (option_map BadSourceReference o) (Some fault) ≡ None → o ≡ None
list-fits true fault o e = no-fault o e
list-fits false fault o e = cc

record Tokens (j : JsonRecord) (x : Result (List TokenRecord) Error) (r : MapRecord) : Type 0 where
  tokens : List TokenRecord
  are_read : x ≡ Ok tokens
  is_map : decoded_record j tokens ≡ r

of-tokens : (j : JsonRecord) (x : Result (List TokenRecord) Error) (r : MapRecord) → with_tokens j x ≡ Ok r → Tokens j x r
of-tokens j (Ok ts) r e = record { tokens = ts; are_read = refl; is_map = cc }
of-tokens j (Err fault) r e = cc

ids-in-range : (j : JsonRecord) (ts : List TokenRecord) → ignore_list_fault j ≡ None → reading j.mappings (length j.names) (length j.sources) ≡ Ok ts → AreIdsInRange (decoded_record j ts)
ids-in-range j ts l e =
    let r = reads_of j.mappings (length j.names) (length j.sources) ts e in
    record {
      tokens = all-in-range (length j.names) (length j.sources) initial ts r.within r.carries;
      ignore_list = list-below (length j.sources) j.ignore_list l;
    }

-- What is known of a map that was decoded: its ids are in range, it has no chunks, and its tokens are in bounds and in line
-- order.
pub record IsWellRead (r : MapRecord) : Type 0 where
  pub in_range : AreIdsInRange r
  pub chunks : r.token_chunks ≡ None
  pub in_bounds : AreInBounds r.tokens
  pub order : (i : ℕ) → back_from 0 i r.tokens ≡ None

pub decoded-well : (j : JsonRecord) (r : MapRecord) → decoded j ≡ Ok r → IsWellRead r
decoded-well j r e =
    let well = of-fault (json_fault j) _ r e in
    let found = of-tokens j _ r well.1 in
    let reads = reads_of j.mappings (length j.names) (length j.sources) found.tokens found.are_read in
    subst IsWellRead found.is_map (record {
      in_range = ids-in-range j found.tokens (list-fits (j.version == 3) _ (ignore_list_fault j) well.0) found.are_read;
      chunks = refl;
      in_bounds = bounds_within (length j.names) (length j.sources) found.tokens reads.within;
      order = reads.order;
    })
