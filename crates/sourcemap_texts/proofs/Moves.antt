-- Paths that are led from one folder to another.
use Rattle.std.proofs.Common.{◌≡◌, true, false, List, [], ◌∷◌, ◌++◌, refl, sym}
use Rattle.std.proofs.Common.{ap, subst, ◌∙◌, true≢false}
use Rattle.std.proofs.Common.{Bor, String, string_bytes, Global}
use Rattle.std.specs.List.{list_all, AllZip}
use Rattle.std.proofs.lemmas.List.{map-append}
use Rattle.std.proofs.lemmas.List.Elements.{AllZip-push}
use Rattle.oxc_sourcemap_tokens.specs.Results.{lent_items}
use Rattle.oxc_sourcemap_parts.specs.Record.{Text}
use Rattle.sourcemap_texts.specs.Paths.{led, outer_folder, place_of, named}
use Rattle.sourcemap_texts.specs.Paths.{Way, climbed_along, way_of}
use Rattle.sourcemap_texts.specs.Paths.{is_in_folder, is_name}
use Rattle.sourcemap_texts.specs.Paths.{LeadsTo}
use Rattle.sourcemap_texts.specs.Paths.{IsMoved, written}
use Rattle.sourcemap_texts.proofs.Climbs.{along_place, way_place}
use Rattle.sourcemap_texts.proofs.Ways.{names_led}

-- ---- places have names
pub place_names : (current folder : Text) → list_all is_name (place_of current folder) ≡ true
place_names current folder = names_led (led [] (outer_folder current folder)) folder (names_led [] (outer_folder current folder) refl)

module _ (current from to path : Text) where
  named_place : (climbed_along (way_of current from) path).1 ≡ named current from path
  named_place = along_place (way_of current from) path ∙ ap (λ place. led place path) (way_place current from)

  named_names : list_all is_name (named current from path) ≡ true
  named_names = names_led (place_of current from) path (place_names current from)

  pub absolute_kept : is_in_folder path ≡ false → IsMoved current from to path path
  absolute_kept e = record {
    same_place = λ h. absurd (true≢false (sym h ∙ e));
    plain = λ h. absurd (true≢false (sym h ∙ e));
    absolute_stays = λ _. refl;
    stays = λ _. refl;
    direct = λ h. absurd (true≢false (sym h ∙ e));
  }

  pub same_kept : place_of current to ≡ place_of current from → IsMoved current from to path path
  same_kept e = record {
    same_place = λ _. ap (λ place. led place path) e;
    plain = λ inside. inside;
    absolute_stays = λ _. refl;
    stays = λ _. refl;
    direct = λ _ differ. absurd (differ e);
  }

  leads_on : (text : Text) (base : List Text) (way : Way) → base ≡ place_of current to → way ≡ climbed_along (way_of current from) path
      → (list_all is_name way.1 ≡ true → LeadsTo base way text) → LeadsTo (place_of current to) (climbed_along (way_of current from) path) text
  leads_on text base way is_base is_way leads =
      let names : list_all is_name way.1 ≡ true = ap (λ (w : Way). list_all is_name w.1) is_way ∙ ap (list_all is_name) named_place ∙ named_names in
      subst (λ b. LeadsTo b (climbed_along (way_of current from) path) text) is_base (subst (λ (w : Way). LeadsTo base w text) is_way (leads names))

  led_there : (text : Text) → is_in_folder path ≡ true → ¬ (place_of current to ≡ place_of current from)
      → LeadsTo (place_of current to) (climbed_along (way_of current from) path) text → IsMoved current from to path text
  led_there text inside differ leads = record {
    same_place = λ _. leads.there ∙ named_place;
    plain = λ _. leads.plain;
    absolute_stays = λ e. absurd (true≢false (sym inside ∙ e));
    stays = λ e. absurd (differ e);
    direct = λ _ _. leads.direct;
  }

  pub moved : (text : Text) (base : List Text) (way : Way) → is_in_folder path ≡ true → ¬ (place_of current to ≡ place_of current from)
      → base ≡ place_of current to → way ≡ climbed_along (way_of current from) path
      → (list_all is_name way.1 ≡ true → LeadsTo base way text) → IsMoved current from to path text
  moved text base way inside differ is_base is_way leads = led_there text inside differ (leads_on text base way is_base is_way leads)

-- one more source of a map, and its path
pub one_more_source : (current from to : Text) (sources : List (Bor Text)) (paths all : List (String Global)) (source : Bor Text) (path : String Global)
    → all ≡ paths ++ path ∷ [] → AllZip (IsMoved current from to) (lent_items sources) (written paths) → IsMoved current from to source.now (string_bytes path)
    → AllZip (IsMoved current from to) (lent_items (sources ++ source ∷ [])) (written all)
one_more_source current from to sources paths all source path e before next =
    rw (e, map-append (λ (s : Bor Text). s.now) sources (source ∷ []), map-append (λ (p : String Global). string_bytes p) paths (path ∷ [])) (AllZip-push (IsMoved current from to) (lent_items sources) (written paths) source.now (string_bytes path) before next)
