-- Sections of an indexed map that the exact reader reads: nothing is mended in them, and none is cut.
use Rattle.std.proofs.Common.{◌≡◌, ℕ, ◌+◌, Bool, true, false, cond, not, List, [], ◌∷◌, ◌++◌, map}
use Rattle.std.proofs.Common.{length, refl, ap, sym, ◌∙◌, subst, append_assoc, Option, Some, None}
use Rattle.std.proofs.Common.{option_map, Result, Ok, Err}
use Rattle.std.specs.List.{last_or}
use Rattle.std.specs.Option.{option_map_or}
use Rattle.std.proofs.lemmas.Bool.{and_parts}
use Rattle.std.proofs.lemmas.List.{append-nil, length-append}
use Rattle.serde_json.specs.Data.{Data, null, boolean, number, string, array, object, Items}
use Rattle.serde_json.specs.Data.{no_items, item}
use Rattle.serde_json.specs.Find.{as_object}
use Rattle.oxc_sourcemap_tokens.specs.declared.errors.error.Error.{Error}
use Rattle.oxc_sourcemap_tokens.specs.declared.errors.error.Error.TheVariants.{SectionOrder}
use Rattle.oxc_sourcemap_tokens.specs.declared.errors.error.Field.TheVariants.{Object}
use Rattle.oxc_sourcemap_tokens.specs.declared.position.Position.{Position}
use Rattle.oxc_sourcemap_tokens.specs.Token.{TokenRecord, last}
use Rattle.oxc_sourcemap_parts.specs.Record.{MapRecord}
use Rattle.oxc_sourcemap_json.specs.Shape.{◌>>=◌, or_misshapen, shape}
use Rattle.oxc_sourcemap_json.specs.Decoded.{decoded}
use Rattle.oxc_sourcemap_json.specs.Section.{offset_in, map_in}
use Rattle.oxc_sourcemap_json.specs.Sections.{Sections, may_follow, moved_position, token_positions}
use Rattle.oxc_sourcemap_json.specs.Sections.{may_begin, in_order, offset_after, section_map}
use Rattle.oxc_sourcemap_json.specs.Sections.{section_after, onto_section, sections_after}
use Rattle.oxc_sourcemap_found.specs.MendedMaps.{plain_map}
use Rattle.oxc_sourcemap_found.specs.MendedSections.{MendedSection, offset_from, map_from}
use Rattle.oxc_sourcemap_found.specs.MendedSections.{section_from, sections_from, is_behind}
use Rattle.oxc_sourcemap_found.specs.MendedSections.{reaches_into, next_place, cut_map, cut_kinds}
use Rattle.oxc_sourcemap_found.specs.MendedSections.{cut_maps, section_mends}
use Rattle.oxc_sourcemap_found.proofs.Kept.{step}
use Rattle.oxc_sourcemap_found.proofs.PlainMaps.{mended_as, plain-kept}

abbrev pub Placed : Type 0
Placed = MapRecord × Position

-- an exact section, of which nothing is mended
abbrev pub unmended : Placed → MendedSection
unmended s = (mended_as s.0 [], s.1)

abbrev fine : {A : Type 0} → A → Result A Error
fine x = Ok x

same-ok : {A : Type 0} (x y : A) → fine x ≡ fine y → x ≡ y
same-ok x y e = cc

-- ---- one section

value-kept : (d : Data) (m : MapRecord) → (shape d >>= decoded) ≡ Ok m → (or_misshapen Object (as_object d) >>= plain_map) ≡ Ok (mended_as m [])
unfolding shape
value-kept null m e = cc
value-kept (boolean x) m e = cc
value-kept (number n) m e = cc
value-kept (string t) m e = cc
value-kept (array ds) m e = cc
value-kept (object ms) m e = plain-kept ms m e

map-kept : (d : Data) (m : MapRecord) → section_map d ≡ Ok m → map_from d ≡ Ok (mended_as m [])
map-kept d m e =
    let v = step (map_in d) (λ v. shape v >>= decoded) m e in
    let first = v.first in
    rw first (value-kept v.value m v.later)

-- what is known of the place of a section that the exact reader reads
record IsBegun (front : List Placed) (d : Data) (place : Position) : Type 0 where
  follows : may_follow (option_map (λ s. s.1) (last front)) place ≡ true
  behind_tokens : may_follow (last (token_positions front)) place ≡ true
  is : offset_from (option_map (λ s. s.1) (last front)) (length front) d ≡ Ok place

begun-by : (b : Bool) (p place : Position) (e : Error) → cond b (Ok p) (Err e) ≡ fine place → (b ≡ true) × (p ≡ place)
begun-by true p place e h = (refl, same-ok p place h)
begun-by false p place e h = cc

place-kept : (front : List Placed) (d : Data) (place : Position) → offset_after front d ≡ Ok place → IsBegun front d place
place-kept front d place e =
    let before = option_map (λ s. s.1) (last front) in
    let p = step (offset_in d) (in_order front) place e in
    let b = begun-by (may_begin front p.value) p.value place (SectionOrder (length front)) p.later in
    let parts = and_parts (may_follow before p.value) (may_follow (last (token_positions front)) p.value) b.0 in
    let first = p.first in
    let follows = parts.0 in
    record {
      follows = subst (λ q. may_follow before q ≡ true) b.1 parts.0;
      behind_tokens = subst (λ q. may_follow (last (token_positions front)) q ≡ true) b.1 parts.1;
      is = rw (first, follows) (ap (λ q. Ok q) b.1);
    }

-- what is known of a section that the exact reader reads
record IsTaken (front : List Placed) (d : Data) (s : Placed) : Type 0 where
  begun : IsBegun front d s.1
  map : section_map d ≡ Ok s.0

taken : (front : List Placed) (d : Data) (s : Placed) → section_after front d ≡ Ok s → IsTaken front d s
taken front d s e =
    let p = step (offset_after front d) (λ place. section_map d >>= (λ m. Ok (m, place))) s e in
    let m = step (section_map d) (λ m. Ok (m, p.value)) s p.later in
    let is : (m.value, p.value) ≡ s = same-ok (m.value, p.value) s m.later in
    subst (λ (q : Placed). IsTaken front d q) is (record { begun = place-kept front d p.value p.first; map = m.first })

section-kept : (front : List Placed) (d : Data) (s : Placed) → IsTaken front d s → section_from (option_map (λ s. s.1) (last front)) (length front) d ≡ Ok (unmended s)
section-kept front d s t =
    let place = t.begun.is in
    let m = map-kept d s.0 t.map in
    rw (place, m) refl

-- ---- the last token is in front of the next section

behind-last : (next offset : Position) (t : TokenRecord) (ts : List TokenRecord) → may_follow (last_or (Some (moved_position offset t)) (map (moved_position offset) ts)) next ≡ true
    → option_map_or (is_behind next offset) (last_or (Some t) ts) false ≡ false
behind-last next offset t [] h = ap not h
behind-last next offset t (u ∷ ts) h = behind-last next offset u ts h

before-last : (next offset : Position) (o : Option Position) (ts : List TokenRecord) → may_follow (last_or o (map (moved_position offset) ts)) next ≡ true
    → reaches_into next offset ts ≡ false
before-last next offset o [] h = refl
before-last next offset o (t ∷ ts) h = behind-last next offset t ts h

last-after : {A : Type 0} (o : Option A) (xs ys : List A) → last_or o (xs ++ ys) ≡ last_or (last_or o xs) ys
last-after o [] ys = refl
last-after o (x ∷ xs) ys = last-after (Some x) xs ys

-- the tokens of the last of some maps are the last of all
record EndsWith (o : Option Position) (front : List Placed) (p : Placed) : Type 0 where
  before : Option Position
  is : last_or o (token_positions front) ≡ last_or before (map (moved_position p.1) p.0.tokens)

ends-with : (o : Option Position) (s : Placed) (front : List Placed) (p : Placed) → last_or (Some s) front ≡ Some p → EndsWith o (s ∷ front) p
ends-with o s [] p e =
    let is : s ≡ p = cc in
    record { before = o; is = ap (last_or o) (append-nil (map (moved_position s.1) s.0.tokens)) ∙ ap (λ (q : Placed). last_or o (map (moved_position q.1) q.0.tokens)) is }
ends-with o s (t ∷ front) p e =
    let more = ends-with (last_or o (map (moved_position s.1) s.0.tokens)) t front p e in
    record { before = more.before; is = last-after o (map (moved_position s.1) s.0.tokens) (token_positions (t ∷ front)) ∙ more.is }

-- a map does not reach into the section after it
abbrev IsWhole : Position → Placed → Type 0
IsWhole next s = reaches_into next s.1 s.0.tokens ≡ false

-- no map does, the first of which is after this one
abbrev AreWhole : Option Placed → List Placed → Type 0
AreWhole o [] = Unit {0}
AreWhole None (s ∷ ss) = AreWhole (Some s) ss
AreWhole (Some p) (s ∷ ss) = IsWhole s.1 p × AreWhole (Some s) ss

whole-last : (front : List Placed) (p : Placed) (place : Position) → last front ≡ Some p → may_follow (last (token_positions front)) place ≡ true → IsWhole place p
whole-last [] p place e h = cc
whole-last (t ∷ front) p place e h =
    let end = ends-with None t front p e in
    before-last place p.1 end.before p.0.tokens (ap (λ o. may_follow o place) (sym end.is) ∙ h)

whole-more : (o : Option Placed) (front : List Placed) (s : Placed) (ss : List Placed) → last front ≡ o
    → may_follow (last (token_positions front)) s.1 ≡ true → AreWhole (Some s) ss → AreWhole o (s ∷ ss)
whole-more None front s ss e h more = more
whole-more (Some p) front s ss e h more = (whole-last front p s.1 e h, more)

-- ---- all sections

last-more : {A : Type 0} (xs : List A) (x : A) → last (xs ++ x ∷ []) ≡ Some x
last-more [] x = refl
last-more (y ∷ []) x = refl
last-more (y ∷ z ∷ ys) x = last-more (z ∷ ys) x

-- the sections behind those in front
record AreKept (front all : List Placed) (items : Items) : Type 0 where
  rest : List Placed
  are : front ++ rest ≡ all
  found : sections_from (option_map (λ s. s.1) (last front)) (length front) items ≡ Ok (map unmended rest)
  whole : AreWhole (last front) rest

kept-more : (front all : List Placed) (d : Data) (ds : Items) (s : Placed) → IsTaken front d s → AreKept (front ++ s ∷ []) all ds → AreKept front all (item d ds)
kept-more front all d ds s t k =
    let are : front ++ s ∷ k.rest ≡ all = sym (append_assoc front (s ∷ []) k.rest) ∙ k.are in
    let one = section-kept front d s t in
    let count : length (front ++ s ∷ []) ≡ length front + 1 = length-append front (s ∷ []) in
    let more : sections_from (Some s.1) (length front + 1) ds ≡ Ok (map unmended k.rest) =
    ap (λ n. sections_from (Some s.1) n ds) (sym count)
    ∙ ap (λ o. sections_from (option_map (λ s. s.1) o) (length (front ++ s ∷ [])) ds) (sym (last-more front s)) ∙ k.found in
    record {
      rest = s ∷ k.rest;
      are = are;
      found = rw (one, more) refl;
      whole = whole-more (last front) front s k.rest refl t.begun.behind_tokens (subst (λ o. AreWhole o k.rest) (last-more front s) k.whole);
    }

abbrev read_as : List Placed → Option Error → Sections
read_as maps fault = record { maps = maps; fault = fault }

sections-kept : (front all : List Placed) (items : Items) → sections_after front items ≡ read_as all None → AreKept front all items
sections-kept front all no_items e =
    let is : front ≡ all = ap (λ (q : Sections). q.maps) e in
    record { rest = []; are = append-nil front ∙ is; found = refl; whole = tt }
sections-kept front all (item d ds) e =
    elim (section_after front d) as (λ r. section_after front d ≡ r → onto_section front (λ s. sections_after (front ++ s ∷ []) ds) r ≡ read_as all None → AreKept front all (item d ds)) [
      | Ok s ↦ (λ t f. kept-more front all d ds s (taken front d s t) (sections-kept (front ++ s ∷ []) all ds f))
      | Err x ↦ (λ t f. let no : Some x ≡ None = ap (λ (q : Sections). q.fault) f in cc)
    ] refl e

-- ---- nothing is cut

record IsUncut (next : Option Position) (s : Placed) : Type 0 where
  map : cut_map next s.1 s.0 ≡ s.0
  kinds : cut_kinds next s.1 s.0 ≡ []

whole-uncut : (next : Position) (s : Placed) → IsWhole next s → IsUncut (Some next) s
whole-uncut next s h = record { map = rw h refl; kinds = rw h refl }

uncut-last : (s : Placed) → IsUncut None s
uncut-last s = record { map = refl; kinds = refl }

uncut-next : (s : Placed) (ss : List Placed) → AreWhole (Some s) ss → IsUncut (next_place (map unmended ss)) s
uncut-next s [] h = uncut-last s
uncut-next s (t ∷ ss) h = whole-uncut t.1 s h.0

whole-tail : (s : Placed) (ss : List Placed) → AreWhole (Some s) ss → AreWhole None ss
whole-tail s [] h = tt
whole-tail s (t ∷ ss) h = h.1

pub maps-uncut : (ss : List Placed) → AreWhole None ss → cut_maps (map unmended ss) ≡ ss
maps-uncut [] h = refl
maps-uncut (s ∷ ss) h =
    ap (λ r. (r, s.1) ∷ cut_maps (map unmended ss)) (uncut-next s ss h).map ∙ ap (λ l. s ∷ l) (maps-uncut ss (whole-tail s ss h))

pub no-mends : (k : ℕ) (ss : List Placed) → AreWhole None ss → section_mends k (map unmended ss) ≡ []
no-mends k [] h = refl
no-mends k (s ∷ ss) h =
    let none = (uncut-next s ss h).kinds in
    rw none (no-mends (k + 1) ss (whole-tail s ss h))

-- what is known of sections that the exact reader reads
pub record AreUnmended (all : List Placed) (items : Items) : Type 0 where
  pub found : sections_from None 0 items ≡ Ok (map unmended all)
  pub maps : cut_maps (map unmended all) ≡ all
  pub mends : section_mends 0 (map unmended all) ≡ []

pub sections-unmended : (all : List Placed) (items : Items) → sections_after [] items ≡ read_as all None → AreUnmended all items
sections-unmended all items e =
    let k = sections-kept [] all items e in
    let are = k.are in
    let found = k.found in
    let whole = k.whole in
    subst (λ (l : List Placed). AreUnmended l items) are (record { found = found; maps = maps-uncut k.rest whole; mends = no-mends 0 k.rest whole })
