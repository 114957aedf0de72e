-- The map of a JSON text or value has its ids in range and no chunks, and its tokens are in bounds and in line order.
use Rattle.std.proofs.Common.{◌≡◌, ◌↔◌, Bool, true, false, cond, List, [], ◌∷◌, ◌++◌, length, refl}
use Rattle.std.proofs.Common.{sym, ap, ◌∙◌, subst, Option, Some, None, option_map, Result, Ok, Err}
use Rattle.std.proofs.lemmas.Bool.{and_parts}
use Rattle.std.specs.List.{AllByRecursion}
use Rattle.std.specs.Option.{IfSome}
use Rattle.serde_json.specs.Data.{Data, Items, no_items, item}
use Rattle.serde_json.specs.Read.{read}
use Rattle.oxc_sourcemap_tokens.specs.declared.errors.error.Error.{Error}
use Rattle.oxc_sourcemap_tokens.specs.declared.errors.error.Error.TheVariants.{SectionOrder}
use Rattle.oxc_sourcemap_tokens.specs.declared.errors.error.Error.TheVariants.{TooLarge}
use Rattle.oxc_sourcemap_tokens.specs.Errors.{unless}
use Rattle.oxc_sourcemap_tokens.specs.Token.{AreInBounds, last}
use Rattle.oxc_sourcemap_tokens.specs.LineOrder.{IsInLineOrder}
use Rattle.oxc_sourcemap_tokens.specs.Chunks.{ChunksFit}
use Rattle.oxc_sourcemap_parts.specs.Record.{Text, MapRecord}
use Rattle.oxc_sourcemap_parts.specs.Sorted.{are_tokens_sorted}
use Rattle.oxc_sourcemap_parts.specs.Sound.{AreIdsInRange, IsSound}
use Rattle.oxc_sourcemap_json.specs.JsonRecord.{JsonRecord}
use Rattle.oxc_sourcemap_json.specs.Shape.{◌>>=◌, shape, file_of}
use Rattle.oxc_sourcemap_json.specs.Decoded.{decoded}
use Rattle.oxc_sourcemap_json.proofs.ReadSound.{IsWellRead as IsWellDecoded, decoded-well}
use Rattle.oxc_sourcemap_tokens.specs.declared.position.Position.{Position}
use Rattle.oxc_sourcemap_join.specs.Joined.{is_same_token, joined}
use Rattle.oxc_sourcemap_json.specs.Section.{is_indexed, offset_in, map_in}
use Rattle.oxc_sourcemap_json.specs.Sections.{Sections, may_follow, may_begin, token_positions}
use Rattle.oxc_sourcemap_json.specs.Sections.{in_order, offset_after, section_map, section_after}
use Rattle.oxc_sourcemap_json.specs.Sections.{onto_section, sections_after, all_sections}
use Rattle.oxc_sourcemap_json.specs.Sections.{joined_sections}
use Rattle.oxc_sourcemap_json.specs.JoinLimits.{is_map_within_limits}
use Rattle.oxc_sourcemap_json.specs.ReadMap.{plain, indexed, sections_in, indexed_form}
use Rattle.oxc_sourcemap_json.specs.ReadMap.{form_of_value, indexed_record, map_of_form}
use Rattle.oxc_sourcemap_json.specs.ReadMap.{form_of_json, form_of_text, read_map, read_value}
use Rattle.oxc_sourcemap_json.proofs.Ends.{last_position}
use Rattle.oxc_sourcemap_json.proofs.JoinLimits.{limits_decided}
use Rattle.oxc_sourcemap_json.proofs.LineOrder.{RunsFrom, runs-of, runs-order, runs-joined}
use Rattle.oxc_sourcemap_json.proofs.InRange.{added-in-range}
use Rattle.oxc_sourcemap_json.proofs.SectionSteps.{Placed, joined-more}

pub record IsWellRead (r : MapRecord) : Type 0 where
  pub in_range : AreIdsInRange r
  pub chunks : r.token_chunks ≡ None
  pub in_bounds : AreInBounds r.tokens
  pub order : RunsFrom 0 r.tokens

-- ---- steps that gave a value
record Given {A B : Type 0} (x : Result A Error) (next : A → Result B Error) (b : B) : Type 0 where
  value : A
  first : x ≡ Ok value
  second : next value ≡ Ok b

given : {A B : Type 0} (x : Result A Error) (next : A → Result B Error) (b : B) → (x >>= next) ≡ Ok b → Given x next b
given (Ok a) next b e = record { value = a; first = refl; second = e }
given (Err f) next b e = cc

-- ---- a map by itself
of-decoded : (r : MapRecord) → IsWellDecoded r → IsWellRead r
of-decoded r w = record { in_range = w.in_range; chunks = w.chunks; in_bounds = w.in_bounds; order = runs-of 0 0 r.tokens (w.order 0) }

plain-well : (x : Result JsonRecord Error) (r : MapRecord) → (x >>= decoded) ≡ Ok r → IsWellRead r
plain-well x r e = let g = given x decoded r e in of-decoded r (decoded-well g.value r g.second)

section-well : (d : Data) (m : MapRecord) → section_map d ≡ Ok m → IsWellRead m
section-well d m e = let g = given (map_in d) (λ v. shape v >>= decoded) m e in plain-well (shape g.value) m g.second

-- ---- sections
-- the join of these maps has its ids in range and its tokens in line order
record IsGood (front : List Placed) : Type 0 where
  in_range : AreIdsInRange (joined front)
  order : RunsFrom 0 (joined front).tokens

where-begun : (b : Bool) (place p : Position) (fault : Error) → cond b (Ok place) (Err fault) ≡ Ok p → (b ≡ true) × (place ≡ p)
where-begun true place p fault e = (refl, cc)
where-begun false place p fault e = cc

good-more : (front : List Placed) (m : MapRecord) (place : Position) → IsGood front → IsWellRead m → may_begin front place ≡ true → IsGood (front ++ (m, place) ∷ [])
good-more front m place g w b =
    let is = sym (joined-more front m place) in
    let r = joined front in
    let begins = (and_parts (may_follow (option_map (λ s. s.1) (last front)) place) (may_follow (last (token_positions front)) place) b).1 in
    let follows = ap (λ o. may_follow o place) (last_position front) ∙ begins in
    record {
      in_range = subst AreIdsInRange is (added-in-range r m place g.in_range w.in_range);
      order = subst (λ (s : MapRecord). RunsFrom 0 s.tokens) is (runs-joined is_same_token (length r.names) (length r.sources) place r.tokens m.tokens g.order w.order follows);
    }

good-after : (front : List Placed) (d : Data) (s : Placed) → IsGood front → section_after front d ≡ Ok s → IsGood (front ++ s ∷ [])
good-after front d s g e =
    let a = given (offset_after front d) (λ place. section_map d >>= (λ m. Ok (m, place))) s e in
    let m = given (section_map d) (λ m. Ok (m, a.value)) s a.second in
    let p = given (offset_in d) (in_order front) a.value a.first in
    let begun = where-begun (may_begin front p.value) p.value a.value (SectionOrder (length front)) p.second in
    let is : (m.value, a.value) ≡ s = cc (m.second) in
    subst (λ (s : Placed). IsGood (front ++ s ∷ [])) is
    (good-more front m.value a.value g (section-well d m.value m.first) (subst (λ q. may_begin front q ≡ true) begun.1 begun.0))

good-all : (front : List Placed) (items : Items) → IsGood front → IsGood (sections_after front items).maps
good-all front no_items g = g
good-all front (item d ds) g =
    elim (section_after front d) as (λ r. section_after front d ≡ r → IsGood (onto_section front (λ s. sections_after (front ++ s ∷ []) ds) r).maps) [
      | Ok s ↦ (λ e. good-all (front ++ s ∷ []) ds (good-after front d s g e))
      | Err f ↦ (λ e. g)
    ] refl

good-none : IsGood []
good-none = record { in_range = record { tokens = tt; ignore_list = tt }; order = tt }

-- ---- a map that is read
where-joined : (b : Bool) (fault : Option Error) (r s : MapRecord) → cond b (unless fault (Ok r)) (Err TooLarge) ≡ Ok s → (b ≡ true) × (r ≡ s)
where-joined true None r s e = (refl, cc)
where-joined true (Some f) r s e = cc
where-joined false fault r s e = cc

indexed-well : (file : Option Text) (items : Items) (r : MapRecord) → map_of_form (indexed file (sections_after [] items)) ≡ Ok r → IsWellRead r
indexed-well file items r e =
    let found = sections_after [] items in
    let j = joined found.maps in
    let g = given (joined_sections found) (λ r. Ok (indexed_record file r)) r e in
    let w = where-joined (is_map_within_limits j) found.fault j g.value g.first in
    let good = good-all [] items good-none in
    let is : indexed_record file j ≡ r = ap (indexed_record file) w.1 ∙ cc (g.second) in
    subst IsWellRead is (record {
      in_range = record { tokens = good.in_range.tokens; ignore_list = good.in_range.ignore_list };
      chunks = refl;
      in_bounds = ((limits_decided j).0 w.0).in_bounds;
      order = good.order;
    })

of-indexed : (file : Result (Option Text) Error) (items : Result Items Error) (r : MapRecord) → map_of_form (indexed_form file items) ≡ Ok r → IsWellRead r
of-indexed (Err f) items r e = cc
of-indexed (Ok file) (Err f) r e = cc
of-indexed (Ok file) (Ok items) r e = indexed-well file items r e

said-well : (d : Data) (r : MapRecord) → map_of_form (form_of_value d) ≡ Ok r → IsWellRead r
said-well d r =
    elim (is_indexed d) as (λ b. map_of_form (cond b (indexed_form (file_of d) (sections_in d)) (plain (shape d >>= decoded))) ≡ Ok r → IsWellRead r) [
      | true ↦ (λ e. of-indexed (file_of d) (sections_in d) r e)
      | false ↦ (λ e. plain-well (shape d) r e)
    ]

of-value : (o : Option Data) (r : MapRecord) → map_of_form (form_of_json o) ≡ Ok r → IsWellRead r
of-value None r e = cc
of-value (Some d) r e = said-well d r e

pub read_well : (text : Text) (r : MapRecord) → read_map text ≡ Ok r → IsWellRead r
unfolding read_map
read_well text r e = of-value (read text) r e

-- ---- the maps of sections
after-well : (front : List Placed) (d : Data) (s : Placed) → section_after front d ≡ Ok s → IsWellRead s.0
after-well front d s e =
    let a = given (offset_after front d) (λ place. section_map d >>= (λ m. Ok (m, place))) s e in
    let m = given (section_map d) (λ m. Ok (m, a.value)) s a.second in
    let is : (m.value, a.value) ≡ s = cc (m.second) in
    subst (λ (s : Placed). IsWellRead s.0) is (section-well d m.value m.first)

push-well : (front : List Placed) (s : Placed) → AllByRecursion (λ m. IsWellRead m.0) front → IsWellRead s.0 → AllByRecursion (λ m. IsWellRead m.0) (front ++ s ∷ [])
push-well [] s h w = (w, tt)
push-well (m ∷ ms) s h w = (h.0, push-well ms s h.1 w)

all-well : (front : List Placed) (items : Items) → AllByRecursion (λ m. IsWellRead m.0) front → AllByRecursion (λ m. IsWellRead m.0) (sections_after front items).maps
all-well front no_items h = h
all-well front (item d ds) h =
    elim (section_after front d) as (λ r. section_after front d ≡ r → AllByRecursion (λ m. IsWellRead m.0) (onto_section front (λ s. sections_after (front ++ s ∷ []) ds) r).maps) [
      | Ok s ↦ (λ e. all-well (front ++ s ∷ []) ds (push-well front s h (after-well front d s e)))
      | Err f ↦ (λ e. h)
    ] refl

indexed-sections : (file : Result (Option Text) Error) (items : Result Items Error) (f : Option Text) (found : Sections) → indexed_form file items ≡ indexed f found
    → (list : Items) × (all_sections list ≡ found)
indexed-sections (Err e) items f found h = cc
indexed-sections (Ok file) (Err e) f found h = cc
indexed-sections (Ok file) (Ok list) f found h = (list, cc)

said-sections : (d : Data) (f : Option Text) (found : Sections) → form_of_value d ≡ indexed f found → (list : Items) × (all_sections list ≡ found)
said-sections d f found =
    elim (is_indexed d) as (λ b. cond b (indexed_form (file_of d) (sections_in d)) (plain (shape d >>= decoded)) ≡ indexed f found → (list : Items) × (all_sections list ≡ found)) [
      | true ↦ (λ e. indexed-sections (file_of d) (sections_in d) f found e)
      | false ↦ (λ e. cc)
    ]

of-sections : (o : Option Data) (f : Option Text) (found : Sections) → form_of_json o ≡ indexed f found → (list : Items) × (all_sections list ≡ found)
of-sections None f found e = cc
of-sections (Some d) f found e = said-sections d f found e

-- the maps of the sections in front of the first fault
pub sections_well : (text : Text) (file : Option Text) (found : Sections) → form_of_text text ≡ indexed file found → AllByRecursion (λ m. IsWellRead m.0) found.maps
sections_well text file found e =
    let s = of-sections (read text) file found e in
    subst (λ (q : Sections). AllByRecursion (λ m. IsWellRead m.0) q.maps) s.1 (all-well [] s.0 tt)

pub read_is_form : (text : Text) → read_map text ≡ map_of_form (form_of_text text)
unfolding read_map
read_is_form text = refl

well-sound : (r : MapRecord) → IsWellRead r → IsSound r ↔ (are_tokens_sorted r.tokens ≡ true)
well-sound r w = (λ s. s.sorted, λ o. record { sorted = o; in_range = w.in_range; chunks = subst (λ o. IfSome o (ChunksFit r.tokens)) (sym w.chunks) tt })

pub read_map_sound : (text : Text) (r : MapRecord) → read_map text ≡ Ok r → IsSound r ↔ (are_tokens_sorted r.tokens ≡ true)
read_map_sound text r e = well-sound r (read_well text r e)

pub read_in_bounds : (text : Text) (r : MapRecord) → read_map text ≡ Ok r → AreInBounds r.tokens
read_in_bounds text r e = (read_well text r e).in_bounds

pub read_in_order : (text : Text) (r : MapRecord) → read_map text ≡ Ok r → IsInLineOrder r.tokens
read_in_order text r e = runs-order 0 r.tokens (read_well text r e).order

-- ---- a map that is read from a JSON value
pub value_is_form : (d : Data) → read_value d ≡ map_of_form (form_of_value d)
unfolding read_value
value_is_form d = refl

value-well : (d : Data) (r : MapRecord) → read_value d ≡ Ok r → IsWellRead r
value-well d r e = said-well d r (sym (value_is_form d) ∙ e)

pub value_sound : (d : Data) (r : MapRecord) → read_value d ≡ Ok r → IsSound r ↔ (are_tokens_sorted r.tokens ≡ true)
value_sound d r e = well-sound r (value-well d r e)

pub value_in_order : (d : Data) (r : MapRecord) → read_value d ≡ Ok r → IsInLineOrder r.tokens
value_in_order d r e = runs-order 0 r.tokens (value-well d r e).order

pub value_sections_well : (d : Data) (file : Option Text) (found : Sections) → form_of_value d ≡ indexed file found → AllByRecursion (λ m. IsWellRead m.0) found.maps
value_sections_well d file found e =
    let s = said-sections d file found e in
    subst (λ (q : Sections). AllByRecursion (λ m. IsWellRead m.0) q.maps) s.1 (all-well [] s.0 tt)
