use Rattle.std.proofs.Common.{◌≡◌, ◌∷◌, [], rules, map, length, arith, ap, sym, ◌∙◌, subst, Some}
use Rattle.std.proofs.Common.{None, ◌+◌}
use Rattle.std.specs.Vec.Iter.{into_iter_items}
use Rattle.std.proofs.lemmas.Grind.{common_steps}
use Rattle.std.proofs.lemmas.List.{length-map, map-append, length-append}
use Rattle.serde_json.specs.Data.{item}
use Rattle.serde_json.specs.View.{view, items_view}
use Rattle.oxc_sourcemap_tokens.proofs.Carried.{failed-answer}
use Rattle.oxc_sourcemap_json.proofs.SectionSteps.{none-left}
use Rattle.oxc_sourcemap_found.specs.FoundPlaces.{found_sections_place}
use Rattle.oxc_sourcemap_found.specs.Views.{section_view}
use Rattle.oxc_sourcemap_found.specs.MendedSections.{section_from}
use Rattle.oxc_sourcemap_found.proofs.SoFar.{AreRead, one-read, bad-section, all-read}
use Rattle.oxc_sourcemap_found.proofs.Placed.{first-refused, then-others}
use Rattle.oxc_sourcemap_found.proofs.mending.sections.read_sections.Goals as goal

pub returns-in_err-section-clause-sections : goal.returns-in_err-section-clause-sections
returns-in_err-section-clause-sections c =
    let got = map section_view c.loop-item.sections.items in
    let left = subst (λ left. AreRead (items_view c.args.items.items) left c.loop-item.before got) (ap items_view (c.in-Some.ensures.steps.0)) c.loop-item.invariant.read in
    let size : c.len-in-loop-item.result ≡ length c.loop-item.sections.items = grind (arith, common_steps) in
    let count = size ∙ sym (length-map c.loop-item.sections.items section_view) in
    failed-answer c.from_residual-in_err-section.result c.in_err-section.field-0.0 _ _ c.from_residual-in_err-section.ensures.1
    (λ n. bad-section (items_view c.args.items.items) (view c.in-Some.item) (items_view c.next.new.self.rest.items) c.loop-item.before got c.in_err-section.field-0.0.error left
    (ap (λ k. section_from c.loop-item.before k (view c.in-Some.item)) (sym count) ∙ c.in_err-section.ensures.section.1 n))

pub returns-in_err-section-clause-place : goal.returns-in_err-section-clause-place
returns-in_err-section-clause-place c =
    let fault = c.in_err-section.field-0.0 in
    let d = view c.in-Some.item in
    let ds = items_view c.next.new.self.rest.items in
    let before = c.loop-item.before in
    let size : c.len-in-loop-item.result ≡ length c.loop-item.sections.items = grind (arith, common_steps) in
    let left = subst (λ left. found_sections_place before (length c.loop-item.sections.items) left ≡ found_sections_place None 0 (items_view c.args.items.items)) (ap items_view (c.in-Some.ensures.steps.0)) c.loop-item.invariant.place in
    failed-answer c.from_residual-in_err-section.result fault _ _ c.from_residual-in_err-section.ensures.1
    (λ n. let h = c.in_err-section.ensures.place.1 n in (
      sym left ∙ ap (λ k. found_sections_place before k (item d ds)) (sym size) ∙ first-refused before c.len-in-loop-item.result d ds fault.place h.0 h.1,
      h.1,
    ))

pub loop-item-preserved : goal.loop-item-preserved
loop-item-preserved c =
    let got = map section_view c.loop-item.sections.items in
    let d = view c.in-Some.item in
    let ds = items_view (into_iter_items c.next.new.self) in
    let before = c.loop-item.before in
    let left = subst (λ left. AreRead (items_view c.args.items.items) left before got) (ap items_view (c.in-Some.ensures.steps.0)) c.loop-item.invariant.read in
    let placed = subst (λ left. found_sections_place before (length c.loop-item.sections.items) left ≡ found_sections_place None 0 (items_view c.args.items.items)) (ap items_view (c.in-Some.ensures.steps.0)) c.loop-item.invariant.place in
    let size : c.len-in-loop-item.result ≡ length c.loop-item.sections.items = grind (arith, common_steps) in
    let count = size ∙ sym (length-map c.loop-item.sections.items section_view) in
    let more = one-read (items_view c.args.items.items) d ds before got (section_view c.in_ok-section.section) left
    (ap (λ k. section_from before k d) (sym count) ∙ c.in_ok-section.ensures.section.0) in
    let longer = ap length c.in_ok-push.ensures.items ∙ length-append c.loop-item.sections.items (c.in_ok-section.section ∷ []) ∙ ap (λ k. k + 1) (sym size) in
    record {
      read = subst (λ got. AreRead (items_view c.args.items.items) ds (Some c.in_ok-section.section.place) got)
          (sym (ap (map section_view) c.in_ok-push.ensures.items ∙ map-append section_view c.loop-item.sections.items (c.in_ok-section.section ∷ []))) more;
      place = ap (λ k. found_sections_place (Some c.in_ok-section.section.place) k ds) longer
          ∙ sym (then-others before c.len-in-loop-item.result d ds (section_view c.in_ok-section.section) c.in_ok-section.ensures.section.0 c.in_ok-section.ensures.place.0)
          ∙ ap (λ k. found_sections_place before k (item d ds)) size
          ∙ placed;
      len = search rules;
    }

pub returns-clause-sections : goal.returns-clause-sections
returns-clause-sections c = (
  all-read (items_view c.args.items.items) c.loop-item.before (map section_view c.loop-item.sections.items)
      (subst (λ left. AreRead (items_view c.args.items.items) left c.loop-item.before (map section_view c.loop-item.sections.items))
      (ap items_view (none-left (into_iter_items c.loop-item.item-iterator) (sym c.loop-item.invariant.len ∙ c.in-None.ensures.steps.0))) c.loop-item.invariant.read),
  tt,
)

pub returns-clause-place : goal.returns-clause-place
returns-clause-place c =
    let left = ap items_view (none-left (into_iter_items c.loop-item.item-iterator) (sym c.loop-item.invariant.len ∙ c.in-None.ensures.steps.0)) in
    (sym c.loop-item.invariant.place ∙ ap (found_sections_place c.loop-item.before (length c.loop-item.sections.items)) left, tt)
