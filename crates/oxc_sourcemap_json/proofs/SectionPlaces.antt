-- Sections are read one by one: the place of the first fault, by what is known of those so far.
use Rattle.std.proofs.Common.{◌≡◌, ℕ, false, cond, List, [], ◌∷◌, ◌++◌, length, refl, sym, ap, ◌∙◌}
use Rattle.std.proofs.Common.{subst, Option, Some, None, option_map, Result, Ok, Err}
use Rattle.std.proofs.lemmas.Bool.{false_from_ne_true}
use Rattle.std.specs.Option.{unwrap_or}
use Rattle.serde_json.specs.Data.{Data, Items, no_items, item}
use Rattle.oxc_sourcemap_tokens.specs.declared.errors.error.Error.{Error}
use Rattle.oxc_sourcemap_tokens.specs.declared.position.Position.{Position}
use Rattle.oxc_sourcemap_parts.specs.Record.{MapRecord}
use Rattle.oxc_sourcemap_join.specs.Joined.{added, nothing_joined, joined, IsWithinLimits}
use Rattle.oxc_sourcemap_join.proofs.Adding.{nothing-within}
use Rattle.oxc_sourcemap_json.specs.Sections.{section_map}
use Rattle.oxc_sourcemap_json.specs.JoinLimits.{is_map_within_limits}
use Rattle.oxc_sourcemap_json.proofs.JoinLimits.{limits_decided}
use Rattle.oxc_sourcemap_json.proofs.SectionSteps.{Placed, SoFar, SaysOfPlace, chunk-count}
use Rattle.oxc_sourcemap_json.proofs.SectionSteps.{joined-more}
use Rattle.oxc_sourcemap_json.proofs.SectionSteps.{last-more, taken}
use Rattle.oxc_sourcemap_tokens.specs.declared.errors.fault.FaultPlace.{FaultPlace}
use Rattle.oxc_sourcemap_json.specs.ValuePlaces.{or_place, offset_place, map_place, limit_place}
use Rattle.oxc_sourcemap_json.specs.ValuePlaces.{sections_place}

-- the sections of a list before those that are left, with this join, of which the last begins at `before`
pub record Passed (all left : Items) (j : MapRecord) (before : Option Position) : Type 0 where
  pub so_far : SoFar all left j before
  pub place : sections_place so_far.front left ≡ sections_place [] all

pub none-passed : (all : Items) → Passed all all nothing_joined None
none-passed all = record {
  so_far = record { front = []; is_join = refl; is_before = refl; same = refl; within = nothing-within };
  place = refl;
}

module _ (all : Items) (d : Data) (ds : Items) (j : MapRecord) (before : Option Position) (p : Passed all (item d ds) j before) (k : ℕ) (is_count : k ≡ length (unwrap_or j.token_chunks [])) where
  -- a join has as many chunks as maps
  count : length p.so_far.front ≡ k
  count = sym (is_count ∙ ap (λ (r : MapRecord). length (unwrap_or r.token_chunks [])) p.so_far.is_join ∙ chunk-count p.so_far.front)

  abbrev front : List Placed
  front = p.so_far.front

  -- what follows the offset of the section, and its map
  abbrev after_map : Position → MapRecord → Option FaultPlace
  after_map place m = cond (is_map_within_limits (joined (front ++ (m, place) ∷ []))) (sections_place (front ++ (m, place) ∷ []) ds) (Some (limit_place (length front)))

  abbrev after_place : Position → Option FaultPlace
  after_place place = or_place (section_map d) (λ fault. map_place (length front) d) (after_map place)

  by-place : (r : Result Position Error) → SaysOfPlace j before d r → sections_place [] all ≡ or_place r (λ fault. Some (offset_place (length front) d)) after_place
  by-place r h =
      sym p.place ∙ ap (λ r. or_place r (λ fault. Some (offset_place (length front) d)) after_place) (h front p.so_far.is_join p.so_far.is_before)

  by-map : (place : Position) (r : Result MapRecord Error) → SaysOfPlace j before d (Ok place) → section_map d ≡ r
      → sections_place [] all ≡ or_place r (λ fault. map_place (length front) d) (after_map place)
  by-map place r h g = by-place (Ok place) h ∙ ap (λ r. or_place r (λ fault. map_place (length front) d) (after_map place)) g

  -- the section has a bad offset
  pub at-offset : (e : Error) → SaysOfPlace j before d (Err e) → sections_place [] all ≡ Some (offset_place k d)
  at-offset e h = by-place (Err e) h ∙ ap (λ n. Some (offset_place n d)) count

  -- its map has a fault
  pub at-map : (place : Position) (e : Error) → SaysOfPlace j before d (Ok place) → section_map d ≡ Err e → sections_place [] all ≡ map_place k d
  at-map place e h g = by-map place (Err e) h g ∙ ap (λ n. map_place n d) count

  is-next : (place : Position) (m : MapRecord) → added j m place ≡ joined (front ++ (m, place) ∷ [])
  is-next place m = ap (λ r. added r m place) p.so_far.is_join ∙ sym (joined-more front m place)

  -- its map makes the join pass a limit
  pub at-limit : (place : Position) (m : MapRecord) → SaysOfPlace j before d (Ok place) → section_map d ≡ Ok m → ¬ (IsWithinLimits (added j m place))
      → sections_place [] all ≡ Some (limit_place k)
  at-limit place m h g n =
      let past : is_map_within_limits (joined (front ++ (m, place) ∷ [])) ≡ false =
      false_from_ne_true _ (λ t. n (subst IsWithinLimits (sym (is-next place m)) ((limits_decided (joined (front ++ (m, place) ∷ []))).0 t))) in
      by-map place (Ok m) h g
      ∙ ap (λ b. cond b (sections_place (front ++ (m, place) ∷ []) ds) (Some (limit_place (length front)))) past
      ∙ ap (λ n. Some (limit_place n)) count

  -- it is added
  pub more-passed : (place : Position) (m : MapRecord) → SaysOfPlace j before d (Ok place) → section_map d ≡ Ok m → IsWithinLimits (added j m place)
      → Passed all ds (added j m place) (Some place)
  more-passed place m h g w =
      let within = subst IsWithinLimits (is-next place m) w in record {
        so_far = record {
          front = front ++ (m, place) ∷ [];
          is_join = is-next place m;
          is_before = ap (option_map (λ (s : Placed). s.1)) (sym (last-more front (m, place)));
          same = p.so_far.same ∙ taken front d ds place m (h front p.so_far.is_join p.so_far.is_before) g;
          within = within;
        };
        place = ap (λ b. cond b (sections_place (front ++ (m, place) ∷ []) ds) (Some (limit_place (length front)))) (sym ((limits_decided (joined (front ++ (m, place) ∷ []))).1 within))
            ∙ sym (by-map place (Ok m) h g);
      }

pub none-left : (all : Items) (j : MapRecord) (before : Option Position) → Passed all no_items j before → sections_place [] all ≡ None
none-left all j before p = sym p.place
