-- Sections are read one by one, and cut one by one: what is known of those so far.
use Rattle.std.proofs.Common.{◌≡◌, ◌+◌, List, [], ◌∷◌, ◌++◌, map, drop, length, refl, ap, sym, ◌∙◌}
use Rattle.std.proofs.Common.{append_assoc, Option, Some, None, Result, Ok, Err}
use Rattle.std.specs.List.{slice_get}
use Rattle.std.proofs.lemmas.List.{append-nil, length-append}
use Rattle.serde_json.specs.Data.{Data, Items, no_items, item}
use Rattle.oxc_sourcemap_tokens.specs.declared.errors.error.Error.{Error}
use Rattle.oxc_sourcemap_tokens.specs.declared.position.Position.{Position}
use Rattle.oxc_sourcemap_parts.specs.Record.{MapRecord}
use Rattle.oxc_sourcemap_json.specs.Shape.{◌>>=◌}
use Rattle.oxc_sourcemap_found.specs.declared.mending.mend.Mend.{Mend}
use Rattle.oxc_sourcemap_found.specs.MendedMaps.{mends_in}
use Rattle.oxc_sourcemap_found.specs.MendedSections.{MendedSection, section_from, sections_from}
use Rattle.oxc_sourcemap_found.specs.MendedSections.{next_place, cut_map, cut_kinds, cut_maps}
use Rattle.oxc_sourcemap_found.specs.MendedSections.{section_mends}
use Rattle.oxc_sourcemap_found.specs.declared.mending.sections.Section.{Section}
use Rattle.oxc_sourcemap_found.specs.Views.{section_view}

-- ---- sections that are read

abbrev behind : List MendedSection → List MendedSection → Result (List MendedSection) Error
behind got ss = Ok (got ++ ss)

-- what was read of a list, and what is left: the last that was read is at `before`
abbrev pub AreRead : Items → Items → Option Position → List MendedSection → Type 0
AreRead all left before got = sections_from None 0 all ≡ (sections_from before (length got) left >>= behind got)

bind-ok : {A : Type 0} (x : Result (List A) Error) → x ≡ (x >>= (λ ss. Ok ([] ++ ss)))
bind-ok (Ok ss) = refl
bind-ok (Err e) = refl

pub none-read : (all : Items) → AreRead all all None []
none-read all = bind-ok (sections_from None 0 all)

put-first : (s : MendedSection) (got : List MendedSection) (x : Result (List MendedSection) Error)
    → ((x >>= (λ ss. Ok (s ∷ ss))) >>= behind got) ≡ (x >>= behind (got ++ s ∷ []))
put-first s got (Ok ss) = ap (λ l. Ok l) (sym (append_assoc got (s ∷ []) ss))
put-first s got (Err e) = refl

pub one-read : (all : Items) (d : Data) (ds : Items) (before : Option Position) (got : List MendedSection) (s : MendedSection)
    → AreRead all (item d ds) before got → section_from before (length got) d ≡ Ok s → AreRead all ds (Some s.1) (got ++ s ∷ [])
one-read all d ds before got s h e =
    let count : length (got ++ s ∷ []) ≡ length got + 1 = length-append got (s ∷ []) in
    h
    ∙ ap (λ (r : Result MendedSection Error). (r >>= (λ s. sections_from (Some s.1) (length got + 1) ds >>= (λ ss. Ok (s ∷ ss)))) >>= behind got) e
    ∙ put-first s got (sections_from (Some s.1) (length got + 1) ds)
    ∙ ap (λ n. sections_from (Some s.1) n ds >>= behind (got ++ s ∷ [])) (sym count)

pub bad-section : (all : Items) (d : Data) (ds : Items) (before : Option Position) (got : List MendedSection) (e : Error)
    → AreRead all (item d ds) before got → section_from before (length got) d ≡ Err e → sections_from None 0 all ≡ Err e
bad-section all d ds before got e h f =
    h ∙ ap (λ (r : Result MendedSection Error). (r >>= (λ s. sections_from (Some s.1) (length got + 1) ds >>= (λ ss. Ok (s ∷ ss)))) >>= behind got) f

pub all-read : (all : Items) (before : Option Position) (got : List MendedSection) → AreRead all no_items before got → sections_from None 0 all ≡ Ok got
all-read all before got h = h ∙ ap (λ l. Ok l) (append-nil got)

-- ---- sections that are cut

pub record AreCut (all left : List MendedSection) (maps : List (MapRecord × Position)) (mends : List Mend) (nexts : List Position) : Type 0 where
  pub maps_are : maps ++ cut_maps left ≡ cut_maps all
  pub mends_are : mends ++ section_mends (length maps) left ≡ section_mends 0 all
  pub nexts_are : nexts ≡ map (λ s. s.1) left

pub none-cut : (all : List MendedSection) (nexts : List Position) → nexts ≡ map (λ s. s.1) all → AreCut all all [] [] nexts
none-cut all nexts e = record { maps_are = refl; mends_are = refl; nexts_are = e }

pub one-cut : (all : List MendedSection) (s : MendedSection) (ss : List MendedSection) (maps : List (MapRecord × Position)) (mends told : List Mend) (nexts : List Position) (m : MapRecord)
    → AreCut all (s ∷ ss) maps mends nexts → m ≡ cut_map (next_place ss) s.1 s.0.map
    → told ≡ mends_in (Some (length maps)) (s.0.kinds ++ cut_kinds (next_place ss) s.1 s.0.map)
    → AreCut all ss (maps ++ (m, s.1) ∷ []) (mends ++ told) (drop 1 nexts)
one-cut all s ss maps mends told nexts m c e f =
    let count : length (maps ++ (m, s.1) ∷ []) ≡ length maps + 1 = length-append maps ((m, s.1) ∷ []) in
    record {
      maps_are = append_assoc maps ((m, s.1) ∷ []) (cut_maps ss) ∙ ap (λ r. maps ++ (r, s.1) ∷ cut_maps ss) e ∙ c.maps_are;
      mends_are = append_assoc mends told (section_mends (length (maps ++ (m, s.1) ∷ [])) ss)
          ∙ ap (λ n. mends ++ (told ++ section_mends n ss)) count
          ∙ ap (λ t. mends ++ (t ++ section_mends (length maps + 1) ss)) f
          ∙ c.mends_are;
      nexts_are = ap (drop 1) c.nexts_are;
    }

pub all-cut-maps : (all : List MendedSection) (maps : List (MapRecord × Position)) (mends : List Mend) (nexts : List Position) → AreCut all [] maps mends nexts → maps ≡ cut_maps all
all-cut-maps all maps mends nexts c = sym (append-nil maps) ∙ c.maps_are

pub all-cut-mends : (all : List MendedSection) (maps : List (MapRecord × Position)) (mends : List Mend) (nexts : List Position) → AreCut all [] maps mends nexts → mends ≡ section_mends 0 all
all-cut-mends all maps mends nexts c = sym (append-nil mends) ∙ c.mends_are

-- where sections begin
pub places-of : (vs : List Section) → map (λ s. s.place) vs ≡ map (λ s. s.1) (map section_view vs)
places-of [] = refl
places-of (v ∷ vs) = ap (λ ps. v.place ∷ ps) (places-of vs)

pub first-next : (ss : List MendedSection) → slice_get (map (λ s. s.1) ss) 0 ≡ next_place ss
first-next [] = refl
first-next (s ∷ ss) = refl
