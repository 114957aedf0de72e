use Rattle.std.proofs.Common.{◌≡◌, ◌++◌, ◌∷◌, [], List, rules, map, drop, length, arith, ap, sym}
use Rattle.std.proofs.Common.{◌∙◌, subst, Some}
use Rattle.std.specs.List.{slice_get}
use Rattle.std.specs.Vec.Iter.{into_iter_items}
use Rattle.std.proofs.lemmas.Grind.{common_steps}
use Rattle.std.proofs.lemmas.List.{length-map, map-append}
use Rattle.oxc_sourcemap_tokens.specs.declared.position.Position.{Position}
use Rattle.oxc_sourcemap_parts.specs.Record.{MapRecord}
use Rattle.oxc_sourcemap_parts.specs.Views.{record_of_parts}
use Rattle.oxc_sourcemap_parts.specs.declared.parts.SourceMapParts.{SourceMapParts}
use Rattle.oxc_sourcemap_join.specs.Joined.{owned_records}
use Rattle.oxc_sourcemap_found.specs.declared.mending.mend.Mend.{Mend}
use Rattle.oxc_sourcemap_found.specs.declared.mending.sections.Section.{Section}
use Rattle.oxc_sourcemap_found.specs.MendedMaps.{mends_in}
use Rattle.oxc_sourcemap_found.specs.MendedSections.{next_place, cut_map, cut_kinds}
use Rattle.oxc_sourcemap_found.specs.Views.{section_view}
use Rattle.oxc_sourcemap_found.proofs.SoFar.{AreCut, none-cut, one-cut, places-of, first-next}
use Rattle.oxc_sourcemap_found.proofs.mending.cut.cut_sections.Goals as goal

pub loop-section-init : goal.loop-section-init
loop-section-init c =
    let all = map section_view c.args.sections.items in
    let nexts : c.as_slice-nexts.result.now ≡ map (λ s. s.1) all =
    c.as_slice-nexts.ensures.value ∙ c.in_ok-places.ensures ∙ ap (map (λ s. s.place)) c.as_slice.ensures.value ∙ places-of c.args.sections.items in
    let left = subst (λ (vs : List Section). AreCut all (map section_view vs) [] [] c.as_slice-nexts.result.now) (sym c.into_iter-section-iterator.ensures.into_iter_gives.0)
    (none-cut all c.as_slice-nexts.result.now nexts) in
    let maps = subst (λ (ms : List (SourceMapParts × Position)). AreCut all (map section_view (into_iter_items c.into_iter-section-iterator.result)) (owned_records ms) [] c.as_slice-nexts.result.now)
    (sym c.in_ok-maps.ensures.items) left in
    record {
      are_cut = subst (λ (ts : List Mend). AreCut all (map section_view (into_iter_items c.into_iter-section-iterator.result)) (owned_records c.in_ok-maps.maps.items) ts c.as_slice-nexts.result.now)
          (sym c.new-mends.ensures.items) maps;
      len = search rules;
    }

pub loop-section-preserved : goal.loop-section-preserved
loop-section-preserved c =
    let all = map section_view c.args.sections.items in
    let s = section_view c.in-Some.section in
    let ss = map section_view (into_iter_items c.next.new.self) in
    let maps = owned_records c.loop-section.maps.items in
    let mends = c.loop-section.mends.items in
    let nexts = c.loop-section.nexts.now in
    let left : AreCut all (s ∷ ss) maps mends nexts =
    subst (λ (vs : List Section). AreCut all (map section_view vs) maps mends nexts) c.in-Some.ensures.steps.0 c.loop-section.invariant.are_cut in
    let next : c.copied.result ≡ next_place ss =
    c.copied.ensures ∙ c.first.ensures.value ∙ ap (λ l. slice_get l 0) (c.behind_first-nexts.ensures ∙ ap (drop 1) left.nexts_are) ∙ first-next ss in
    let m = record_of_parts c.in_ok-map.map.parts in
    let kinds = s.0.kinds ++ cut_kinds (next_place ss) s.1 s.0.map in
    let is_cut : m ≡ cut_map (next_place ss) s.1 s.0.map = c.in_ok-map.ensures.map ∙ ap (λ n. cut_map n s.1 s.0.map) next in
    let kinds_are : c.in_ok-map.map.kinds.items ≡ kinds = c.in_ok-map.ensures.kinds ∙ ap (λ n. s.0.kinds ++ cut_kinds n s.1 s.0.map) next in
    let size : c.len-in-loop-section.result ≡ length c.loop-section.maps.items = grind (arith, common_steps) in
    let count : c.len-in-loop-section.result ≡ length maps = size ∙ sym (length-map c.loop-section.maps.items _) in
    let told : c.in_ok-told.told.items ≡ mends_in (Some (length maps)) kinds =
    c.in_ok-told.ensures ∙ ap (mends_in (Some c.len-in-loop-section.result)) (c.as_slice-in-loop-section.ensures.value ∙ kinds_are) ∙ ap (λ n. mends_in (Some n) kinds) count in
    let more = one-cut all s ss maps mends c.in_ok-told.told.items nexts m left is_cut told in
    let pushed : owned_records c.push.new.self.items ≡ maps ++ (m, s.1) ∷ [] =
    ap owned_records c.in_ok-push.ensures.items ∙ map-append (λ (m : SourceMapParts × Position). (record_of_parts m.0, m.1)) c.loop-section.maps.items ((c.in_ok-map.map.parts, c.in-Some.section.place) ∷ []) in
    let first = subst (λ (ms : List (MapRecord × Position)). AreCut all ss ms (mends ++ c.in_ok-told.told.items) (drop 1 nexts)) (sym pushed) more in
    let second = subst (λ (ts : List Mend). AreCut all ss (owned_records c.push.new.self.items) ts (drop 1 nexts)) (sym c.in_ok-append.ensures.items) first in
    record {
      are_cut = subst (λ (ps : List Position). AreCut all ss (owned_records c.push.new.self.items) c.append.new.self.items ps) (sym c.behind_first-nexts.ensures) second;
      len = search rules;
    }
