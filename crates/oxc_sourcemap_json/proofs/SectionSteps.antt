-- Sections are read one by one: what is known of those so far, and what each step does to that.
use Rattle.std.proofs.Common.{◌≡◌, ℕ, ◌&&◌, arith, true, false, cond, List, [], ◌∷◌, ◌++◌, length}
use Rattle.std.proofs.Common.{refl, sym, ap, ◌∙◌, subst, append_assoc, Option, Some, None}
use Rattle.std.proofs.Common.{option_map, Result, Ok, Err}
use Rattle.std.specs.Option.{unwrap_or}
use Rattle.std.proofs.lemmas.List.{append-nil}
use Rattle.serde_json.specs.Data.{Data, Items, no_items, item}
use Rattle.oxc_sourcemap_tokens.specs.declared.errors.error.Error.{Error}
use Rattle.oxc_sourcemap_tokens.specs.declared.errors.error.Error.TheVariants.{SectionOrder}
use Rattle.oxc_sourcemap_tokens.specs.declared.errors.error.Error.TheVariants.{TooLarge}
use Rattle.oxc_sourcemap_tokens.specs.Errors.{unless}
use Rattle.oxc_sourcemap_parts.specs.Record.{MapRecord}
use Rattle.oxc_sourcemap_tokens.specs.Token.{last}
use Rattle.oxc_sourcemap_json.specs.Shape.{◌>>=◌}
use Rattle.oxc_sourcemap_tokens.specs.declared.position.Position.{Position}
use Rattle.oxc_sourcemap_join.specs.Joined.{added, nothing_joined, added_all, joined}
use Rattle.oxc_sourcemap_join.specs.Joined.{IsWithinLimits}
use Rattle.oxc_sourcemap_join.proofs.Joining.{added_all-append, fitting_chunks}
use Rattle.oxc_sourcemap_join.proofs.Adding.{front-within, nothing-within}
use Rattle.oxc_sourcemap_json.specs.Section.{offset_in}
use Rattle.oxc_sourcemap_json.specs.Sections.{Sections, position_of, may_follow, may_begin}
use Rattle.oxc_sourcemap_json.specs.Sections.{token_positions, in_order, offset_after, section_map}
use Rattle.oxc_sourcemap_json.specs.Sections.{section_after, onto_section, sections_after}
use Rattle.oxc_sourcemap_json.specs.Sections.{all_sections, joined_sections}
use Rattle.oxc_sourcemap_json.specs.JoinLimits.{is_map_within_limits}
use Rattle.oxc_sourcemap_json.proofs.Ends.{last_position}
use Rattle.oxc_sourcemap_json.proofs.JoinLimits.{limits_decided}

-- a map at its offset
abbrev pub Placed : Type 0
Placed = MapRecord × Position

-- the join with one more map
pub joined-more : (front : List Placed) (m : MapRecord) (place : Position) → joined (front ++ (m, place) ∷ []) ≡ added (joined front) m place
joined-more front m place = added_all-append nothing_joined front ((m, place) ∷ [])

pub last-more : {A : Type 0} (xs : List A) (x : A) → last (xs ++ x ∷ []) ≡ Some x
last-more [] x = refl
last-more (y ∷ []) x = refl
last-more (y ∷ z ∷ ys) x = last-more (z ∷ ys) x

-- a join has as many chunks as maps
pub chunk-count : (front : List Placed) → length (unwrap_or (joined front).token_chunks []) ≡ length front
chunk-count front = let f = fitting_chunks front in ap (λ o. length (unwrap_or o [])) f.has ∙ f.count

-- whether a section may begin, by the join of those in front of it
begun-by : (front : List Placed) (place : Position) (j : MapRecord) (before : Option Position) → j ≡ joined front → before ≡ option_map (λ s. s.1) (last front)
    → (may_follow before place && may_follow (option_map position_of (last j.tokens)) place) ≡ may_begin front place
begun-by front place j before i b =
    let lasts : option_map position_of (last j.tokens) ≡ last (token_positions front) = ap (λ (r : MapRecord). option_map position_of (last r.tokens)) i ∙ last_position front in
    ap (λ o. may_follow o place && may_follow (option_map position_of (last j.tokens)) place) b
    ∙ ap (λ o. may_follow (option_map (λ s. s.1) (last front)) place && may_follow o place) lasts

-- a section whose offset is in order
pub well-placed : (front : List Placed) (d : Data) (place : Position) (j : MapRecord) (before : Option Position) → j ≡ joined front
    → before ≡ option_map (λ s. s.1) (last front) → offset_in d ≡ Ok place
    → (may_follow before place && may_follow (option_map position_of (last j.tokens)) place) ≡ true → offset_after front d ≡ Ok place
well-placed front d place j before i b e h =
    ap (λ (r : Result Position Error). r >>= in_order front) e
    ∙ ap (λ t. cond t (Ok place) (Err (SectionOrder (length front)))) (sym (begun-by front place j before i b) ∙ h)

-- a section whose offset is out of order
pub out-of-order : (front : List Placed) (d : Data) (place : Position) (j : MapRecord) (before : Option Position) (count : ℕ) → j ≡ joined front
    → before ≡ option_map (λ s. s.1) (last front) → count ≡ length (unwrap_or j.token_chunks []) → offset_in d ≡ Ok place
    → (may_follow before place && may_follow (option_map position_of (last j.tokens)) place) ≡ false → offset_after front d ≡ Err (SectionOrder count)
out-of-order front d place j before count i b n e h =
    let number : length front ≡ count = sym (n ∙ ap (λ (r : MapRecord). length (unwrap_or r.token_chunks [])) i ∙ chunk-count front) in
    ap (λ (r : Result Position Error). r >>= in_order front) e
    ∙ ap (λ t. cond t (Ok place) (Err (SectionOrder (length front)))) (sym (begun-by front place j before i b) ∙ h)
    ∙ ap (λ k. Err (SectionOrder k)) number

-- ---- one section
abbrev ended : List Placed → Error → Sections
ended front fault = record { maps = front; fault = Some fault }

error-place : (front : List Placed) (d : Data) (ds : Items) (e : Error) → offset_after front d ≡ Err e → sections_after front (item d ds) ≡ ended front e
error-place front d ds e h =
    ap (λ (r : Result Position Error). onto_section front (λ s. sections_after (front ++ s ∷ []) ds) (r >>= (λ place. section_map d >>= (λ m. Ok (m, place))))) h

error-map : (front : List Placed) (d : Data) (ds : Items) (place : Position) (e : Error) → offset_after front d ≡ Ok place → section_map d ≡ Err e
    → sections_after front (item d ds) ≡ ended front e
error-map front d ds place e h g =
    ap (λ (r : Result Position Error). onto_section front (λ s. sections_after (front ++ s ∷ []) ds) (r >>= (λ place. section_map d >>= (λ m. Ok (m, place))))) h
    ∙ ap (λ (r : Result MapRecord Error). onto_section front (λ s. sections_after (front ++ s ∷ []) ds) (r >>= (λ m. Ok (m, place)))) g

pub taken : (front : List Placed) (d : Data) (ds : Items) (place : Position) (m : MapRecord) → offset_after front d ≡ Ok place → section_map d ≡ Ok m
    → sections_after front (item d ds) ≡ sections_after (front ++ (m, place) ∷ []) ds
taken front d ds place m h g =
    ap (λ (r : Result Position Error). onto_section front (λ s. sections_after (front ++ s ∷ []) ds) (r >>= (λ place. section_map d >>= (λ m. Ok (m, place))))) h
    ∙ ap (λ (r : Result MapRecord Error). onto_section front (λ s. sections_after (front ++ s ∷ []) ds) (r >>= (λ m. Ok (m, place)))) g

-- ---- all sections
-- reading more sections keeps the maps in front
begins : (front : List Placed) (items : Items) → (more : List Placed) × ((sections_after front items).maps ≡ front ++ more)
begins front no_items = ([], sym (append-nil front))
begins front (item d ds) =
    elim (section_after front d) as (λ r. (more : List Placed) × ((onto_section front (λ s. sections_after (front ++ s ∷ []) ds) r).maps ≡ front ++ more)) [
      | Ok s ↦ (let b = begins (front ++ s ∷ []) ds in (s ∷ b.0, b.1 ∙ append_assoc front (s ∷ []) b.0))
      | Err e ↦ ([], sym (append-nil front))
    ]

is-answer : (front : List Placed) (fault : Option Error) → IsWithinLimits (joined front) → joined_sections (record { maps = front; fault = fault }) ≡ unless fault (Ok (joined front))
is-answer front fault w = ap (λ b. cond b (unless fault (Ok (joined front))) (Err TooLarge)) ((limits_decided (joined front)).1 w)

-- if the join of the sections so far is past the limits, so is that of all
too-large : (front : List Placed) (items : Items) → ¬ (IsWithinLimits (joined front)) → joined_sections (sections_after front items) ≡ Err TooLarge
too-large front items n =
    let found = sections_after front items in
    let b = begins front items in
    let all : joined found.maps ≡ added_all (joined front) b.0 = ap joined b.1 ∙ added_all-append nothing_joined front b.0 in
    elim (is_map_within_limits (joined found.maps)) as (λ t. is_map_within_limits (joined found.maps) ≡ t → cond t (unless found.fault (Ok (joined found.maps))) (Err TooLarge) ≡ Err TooLarge) [
      | true ↦ (λ e. absurd (n (front-within (joined front) b.0 (subst IsWithinLimits all ((limits_decided (joined found.maps)).0 e)))))
      | false ↦ (λ e. refl)
    ] refl

-- ---- the sections so far
-- the sections of a list before those that are left: their join is `j`, and the last of them begins at `before`
pub record SoFar (all left : Items) (j : MapRecord) (before : Option Position) : Type 0 where
  pub front : List Placed
  pub is_join : j ≡ joined front
  pub is_before : before ≡ option_map (λ s. s.1) (last front)
  pub same : all_sections all ≡ sections_after front left
  pub within : IsWithinLimits (joined front)

pub none-so-far : (all : Items) → SoFar all all nothing_joined None
none-so-far all = record { front = []; is_join = refl; is_before = refl; same = refl; within = nothing-within }

-- the contract of `offset_after`: its result for the section after those with this join
abbrev pub SaysOfPlace : MapRecord → Option Position → Data → Result Position Error → Type 0
SaysOfPlace j before d answer = (front : List Placed) → j ≡ joined front → before ≡ option_map (λ s. s.1) (last front) → offset_after front d ≡ answer

module _ (all : Items) (d : Data) (ds : Items) (j : MapRecord) (before : Option Position) (s : SoFar all (item d ds) j before) where
  pub place-error : (e : Error) → SaysOfPlace j before d (Err e) → joined_sections (all_sections all) ≡ Err e
  place-error e h =
      ap joined_sections (s.same ∙ error-place s.front d ds e (h s.front s.is_join s.is_before)) ∙ is-answer s.front (Some e) s.within

  pub map-error : (place : Position) (e : Error) → SaysOfPlace j before d (Ok place) → section_map d ≡ Err e → joined_sections (all_sections all) ≡ Err e
  map-error place e h g =
      ap joined_sections (s.same ∙ error-map s.front d ds place e (h s.front s.is_join s.is_before) g) ∙ is-answer s.front (Some e) s.within

  next : (place : Position) (m : MapRecord) → SaysOfPlace j before d (Ok place) → section_map d ≡ Ok m → all_sections all ≡ sections_after (s.front ++ (m, place) ∷ []) ds
  next place m h g = s.same ∙ taken s.front d ds place m (h s.front s.is_join s.is_before) g

  is-next : (place : Position) (m : MapRecord) → added j m place ≡ joined (s.front ++ (m, place) ∷ [])
  is-next place m = ap (λ r. added r m place) s.is_join ∙ sym (joined-more s.front m place)

  pub add-error : (place : Position) (m : MapRecord) → SaysOfPlace j before d (Ok place) → section_map d ≡ Ok m → ¬ (IsWithinLimits (added j m place))
      → joined_sections (all_sections all) ≡ Err TooLarge
  add-error place m h g n =
      ap joined_sections (next place m h g) ∙ too-large (s.front ++ (m, place) ∷ []) ds (λ w. n (subst IsWithinLimits (sym (is-next place m)) w))

  pub more-so-far : (place : Position) (m : MapRecord) → SaysOfPlace j before d (Ok place) → section_map d ≡ Ok m → IsWithinLimits (added j m place)
      → SoFar all ds (added j m place) (Some place)
  more-so-far place m h g w = record {
    front = s.front ++ (m, place) ∷ [];
    is_join = is-next place m;
    is_before = ap (option_map (λ (s : Placed). s.1)) (sym (last-more s.front (m, place)));
    same = next place m h g;
    within = subst IsWithinLimits (is-next place m) w;
  }

pub all-joined : (all : Items) (j : MapRecord) (before : Option Position) → SoFar all no_items j before → joined_sections (all_sections all) ≡ Ok j
all-joined all j before s = ap joined_sections s.same ∙ is-answer s.front None s.within ∙ ap (λ r. Ok r) (sym s.is_join)

pub none-left : {A : Type 0} (xs : List A) → length xs ≡ 0 → xs ≡ []
none-left [] e = refl
none-left (x ∷ xs) e = absurd (omega arith)
