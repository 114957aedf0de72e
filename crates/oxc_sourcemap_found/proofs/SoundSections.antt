-- The join of mended sections, each cut if it reaches into the next one, has its ids in range.
use Rattle.std.proofs.Common.{◌≡◌, ℕ, ◌+◌, Bool, true, false, cond, not, List, [], ◌∷◌, length}
use Rattle.std.proofs.Common.{subst, Option, Some, None, Result, Ok}
use Rattle.std.specs.List.{AllByRecursion, filter}
use Rattle.serde_json.specs.Data.{Data, Items, no_items, item}
use Rattle.serde_json.specs.Find.{as_object}
use Rattle.oxc_sourcemap_tokens.specs.declared.errors.error.Error.{Error}
use Rattle.oxc_sourcemap_tokens.specs.declared.errors.error.Field.TheVariants.{Object}
use Rattle.oxc_sourcemap_tokens.specs.declared.position.Position.{Position}
use Rattle.oxc_sourcemap_tokens.specs.Token.{TokenRecord}
use Rattle.oxc_sourcemap_parts.specs.Record.{MapRecord}
use Rattle.oxc_sourcemap_parts.specs.Sound.{IsInRange, AreIdsInRange}
use Rattle.oxc_sourcemap_json.specs.Shape.{◌>>=◌, or_misshapen}
use Rattle.oxc_sourcemap_join.specs.Joined.{added, added_all, nothing_joined, joined}
use Rattle.oxc_sourcemap_json.specs.Section.{map_in}
use Rattle.oxc_sourcemap_json.proofs.InRange.{added-in-range}
use Rattle.oxc_sourcemap_found.specs.MendedMaps.{MendedMap, plain_map}
use Rattle.oxc_sourcemap_found.specs.MendedSections.{MendedSection, offset_from, map_from}
use Rattle.oxc_sourcemap_found.specs.MendedSections.{section_from, sections_from, is_behind}
use Rattle.oxc_sourcemap_found.specs.MendedSections.{reaches_into, next_place, cut_map, cut_maps}
use Rattle.oxc_sourcemap_found.proofs.Kept.{step}
use Rattle.oxc_sourcemap_found.proofs.PlainMaps.{plain-ranged}

abbrev fine : {A : Type 0} → A → Result A Error
fine x = Ok x

same-ok : {A : Type 0} (x y : A) → fine x ≡ fine y → x ≡ y
same-ok x y e = cc

-- ---- sections that are read

-- the ids of sections are in range
abbrev pub AreInRange : List MendedSection → Type 0
AreInRange [] = Unit {0}
AreInRange (s ∷ ss) = AreIdsInRange s.0.map × AreInRange ss

map-ranged : (d : Data) (m : MendedMap) → map_from d ≡ Ok m → AreIdsInRange m.map
map-ranged d m e =
    let v = step (map_in d) (λ value. or_misshapen Object (as_object value) >>= plain_map) m e in
    let ms = step (or_misshapen Object (as_object v.value)) plain_map m v.later in
    (plain-ranged ms.value m ms.later).in_range

section-ranged : (before : Option Position) (k : ℕ) (d : Data) (s : MendedSection) → section_from before k d ≡ Ok s → AreIdsInRange s.0.map
section-ranged before k d s e =
    let p = step (offset_from before k d) (λ place. map_from d >>= (λ m. Ok (m, place))) s e in
    let m = step (map_from d) (λ m. Ok (m, p.value)) s p.later in
    let is : (m.value, p.value) ≡ s = same-ok (m.value, p.value) s m.later in
    subst (λ (q : MendedSection). AreIdsInRange q.0.map) is (map-ranged d m.value m.first)

pub sections-ranged : (before : Option Position) (k : ℕ) (items : Items) (ss : List MendedSection) → sections_from before k items ≡ Ok ss → AreInRange ss
sections-ranged before k no_items ss e =
    let is : [] ≡ ss = same-ok [] ss e in
    subst (λ (l : List MendedSection). AreInRange l) is tt
sections-ranged before k (item d ds) ss e =
    let s = step (section_from before k d) (λ s. sections_from (Some s.1) (k + 1) ds >>= (λ ss. Ok (s ∷ ss))) ss e in
    let more = step (sections_from (Some s.value.1) (k + 1) ds) (λ ss. Ok (s.value ∷ ss)) ss s.later in
    let is : s.value ∷ more.value ≡ ss = same-ok (s.value ∷ more.value) ss more.later in
    subst (λ (l : List MendedSection). AreInRange l) is
    (section-ranged before k d s.value s.first, sections-ranged (Some s.value.1) (k + 1) ds more.value more.first)

-- ---- cut sections

all-filter : (P : TokenRecord → Type 0) (p : TokenRecord → Bool) (ts : List TokenRecord) → AllByRecursion P ts → AllByRecursion P (filter p ts)
all-filter P p [] h = tt
all-filter P p (t ∷ ts) h = elim (p t) as (λ b. AllByRecursion P (cond b (t ∷ filter p ts) (filter p ts))) [ true ↦ (h.0, all-filter P p ts h.1) | false ↦ all-filter P p ts h.1 ]

left-in-range : (p : TokenRecord → Bool) (r : MapRecord) → AreIdsInRange r → AreIdsInRange (record r { tokens = filter p r.tokens })
left-in-range p r h = record { tokens = all-filter (IsInRange (length r.names) (length r.sources)) p r.tokens h.tokens; ignore_list = h.ignore_list }

cut-in-range : (next : Option Position) (p : Position) (r : MapRecord) → AreIdsInRange r → AreIdsInRange (cut_map next p r)
cut-in-range None p r h = h
cut-in-range (Some next) p r h =
    elim (reaches_into next p r.tokens) as (λ b. AreIdsInRange (cond b (record r { tokens = filter (λ t. not (is_behind next p t)) r.tokens }) r)) [
      | true ↦ left-in-range (λ t. not (is_behind next p t)) r h
      | false ↦ h
    ]

all-in-range : (r : MapRecord) (ss : List MendedSection) → AreIdsInRange r → AreInRange ss → AreIdsInRange (added_all r (cut_maps ss))
all-in-range r [] g h = g
all-in-range r (s ∷ ss) g h =
    let m = cut_map (next_place ss) s.1 s.0.map in
    all-in-range (added r m s.1) ss (added-in-range r m s.1 g (cut-in-range (next_place ss) s.1 s.0.map h.0)) h.1

-- the join of these
pub joined-ranged : (ss : List MendedSection) → AreInRange ss → AreIdsInRange (joined (cut_maps ss))
joined-ranged ss h = all-in-range nothing_joined ss (record { tokens = tt; ignore_list = tt }) h
