use Rattle.std.proofs.Common.{rules, ap, sym, ◌∙◌, subst, refl, inl, inr, option_map, is_some, Some}
use Rattle.std.proofs.Common.{Err, None}
use Rattle.std.specs.Vec.Iter.{into_iter_items}
use Rattle.serde_json.specs.View.{view, items_view}
use Rattle.oxc_sourcemap_parts.specs.Views.{record_of_parts}
use Rattle.oxc_sourcemap_tokens.specs.Places.{placed_in}
use Rattle.oxc_sourcemap_json.specs.ValuePlaces.{plain_map, map_spot}
use Rattle.oxc_sourcemap_json.proofs.SectionSteps.{place-error, map-error, add-error, all-joined}
use Rattle.oxc_sourcemap_json.proofs.SectionSteps.{none-left as no-items}
use Rattle.oxc_sourcemap_json.proofs.ReadPlaces.{in-place, some-place}
use Rattle.oxc_sourcemap_json.proofs.SectionPlaces.{Passed, none-passed, at-offset, at-map}
use Rattle.oxc_sourcemap_json.proofs.SectionPlaces.{at-limit, more-passed, none-left}
use Rattle.oxc_sourcemap_json.proofs.read.sections.join_sections.Goals as goal

pub loop-section-init : goal.loop-section-init
loop-section-init c =
    let all = items_view c.args.sections.items in
    let gives = c.into_iter-section-iterator.ensures.into_iter_gives.0 in
    record {
      passed = subst (λ left. Passed all (items_view left) c.empty-joined.result None) (sym gives)
          (subst (λ j. Passed all all j None) (sym c.empty-joined.ensures) (none-passed all));
      len = search rules;
    }

pub returns-in-Err-clause-map : goal.returns-in-Err-clause-map
returns-in-Err-clause-map c =
    let all = items_view c.args.sections.items in
    let p = subst (λ left. Passed all left c.loop-section.joined c.loop-section.before) (ap items_view (c.in-Some.ensures.steps.0)) c.loop-section.invariant.passed in
    (tt, λ n. place-error all (view c.in-Some.section) (items_view c.next.new.self.rest.items) c.loop-section.joined c.loop-section.before p.so_far c.in-Err.error (λ front i b. sym (c.in-Err.ensures front i b)))

pub returns-in-Err-clause-place : goal.returns-in-Err-clause-place
returns-in-Err-clause-place c =
    let all = items_view c.args.sections.items in
    let p = subst (λ left. Passed all left c.loop-section.joined c.loop-section.before) (ap items_view (c.in-Some.ensures.steps.0)) c.loop-section.invariant.passed in (
      tt,
      λ n. (
        at-offset all (view c.in-Some.section) (items_view c.next.new.self.rest.items) c.loop-section.joined c.loop-section.before p c.map_count-number.result c.map_count-number.ensures c.in-Err.error (λ front i b. sym (c.in-Err.ensures front i b))
            ∙ ap Some (sym c.offset_place.ensures),
        refl,
      ),
    )

pub returns-in-Err-read_section-clause-map : goal.returns-in-Err-read_section-clause-map
returns-in-Err-read_section-clause-map c =
    let all = items_view c.args.sections.items in
    let p = subst (λ left. Passed all left c.loop-section.joined c.loop-section.before) (ap items_view (c.in-Some.ensures.steps.0)) c.loop-section.invariant.passed in
    let e = c.in-Err-read_section.fault.error in
    rw c.in_section.ensures (tt, λ n. map-error all (view c.in-Some.section) (items_view c.next.new.self.rest.items) c.loop-section.joined c.loop-section.before p.so_far c.in-Ok.position e (λ front i b. sym (c.in-Ok.ensures front i b)) (c.in-Err-read_section.ensures.map.1 n))

pub returns-in-Err-read_section-clause-place : goal.returns-in-Err-read_section-clause-place
returns-in-Err-read_section-clause-place c =
    let all = items_view c.args.sections.items in
    let p = subst (λ left. Passed all left c.loop-section.joined c.loop-section.before) (ap items_view (c.in-Some.ensures.steps.0)) c.loop-section.invariant.passed in
    let d = view c.in-Some.section in
    let k = c.map_count-number.result in
    let e = c.in-Err-read_section.fault.error in
    rw c.in_section.ensures (
      tt,
      λ n. let h = c.in-Err-read_section.ensures.place.1 n in (
        at-map all d (items_view c.next.new.self.rest.items) c.loop-section.joined c.loop-section.before p k c.map_count-number.ensures c.in-Ok.position e (λ front i b. sym (c.in-Ok.ensures front i b)) (c.in-Err-read_section.ensures.map.1 n)
            ∙ sym (in-place k (map_spot (plain_map d))) ∙ ap (option_map (placed_in k)) h.0,
        some-place k c.in-Err-read_section.fault.place ∙ h.1,
      ),
    )

pub returns-in-Err-add_moved-clause-map : goal.returns-in-Err-add_moved-clause-map
returns-in-Err-add_moved-clause-map c =
    let all = items_view c.args.sections.items in
    let p = subst (λ left. Passed all left c.loop-section.joined c.loop-section.before) (ap items_view (c.in-Some.ensures.steps.0)) c.loop-section.invariant.passed in
    let same = c.limit_fault.ensures.error in (
      tt,
      λ n. elim c.in-Err-add_moved.ensures.error [
        | inl m ↦ absurd (n (same ∙ m))
        | inr t ↦ (add-error all (view c.in-Some.section) (items_view c.next.new.self.rest.items) c.loop-section.joined c.loop-section.before p.so_far c.in-Ok.position (record_of_parts c.in-Ok-read_section.parts) (λ front i b. sym (c.in-Ok.ensures front i b)) c.in-Ok-read_section.ensures.map.0 (c.in-Err-add_moved.ensures.too_large.0 (ap (λ x. Err x) t))
            ∙ ap (λ x. Err x) (sym (same ∙ t)))
      ],
    )

pub returns-in-Err-add_moved-clause-place : goal.returns-in-Err-add_moved-clause-place
returns-in-Err-add_moved-clause-place c =
    let all = items_view c.args.sections.items in
    let p = subst (λ left. Passed all left c.loop-section.joined c.loop-section.before) (ap items_view (c.in-Some.ensures.steps.0)) c.loop-section.invariant.passed in
    let same = c.limit_fault.ensures.error in (
      tt,
      λ n. elim c.in-Err-add_moved.ensures.error [
        | inl m ↦ absurd (n (same ∙ m))
        | inr t ↦ (let told = c.limit_fault.ensures.place (λ e. n (same ∙ e)) in (
          at-limit all (view c.in-Some.section) (items_view c.next.new.self.rest.items) c.loop-section.joined c.loop-section.before p c.map_count-number.result c.map_count-number.ensures c.in-Ok.position (record_of_parts c.in-Ok-read_section.parts) (λ front i b. sym (c.in-Ok.ensures front i b)) c.in-Ok-read_section.ensures.map.0 (c.in-Err-add_moved.ensures.too_large.0 (ap (λ x. Err x) t))
              ∙ sym told,
          ap is_some told,
        ))
      ],
    )

pub loop-section-preserved : goal.loop-section-preserved
loop-section-preserved c =
    let all = items_view c.args.sections.items in
    let p = subst (λ left. Passed all left c.loop-section.joined c.loop-section.before) (ap items_view (c.in-Some.ensures.steps.0)) c.loop-section.invariant.passed in
    record {
      passed = subst (λ j. Passed all (items_view (into_iter_items c.next.new.self)) j (Some c.in-Ok.position)) (sym c.in-Ok-add_moved.ensures.joined)
          (more-passed all (view c.in-Some.section) (items_view (into_iter_items c.next.new.self)) c.loop-section.joined c.loop-section.before p c.map_count-number.result c.map_count-number.ensures c.in-Ok.position (record_of_parts c.in-Ok-read_section.parts) (λ front i b. sym (c.in-Ok.ensures front i b)) c.in-Ok-read_section.ensures.map.0 c.in-Ok-add_moved.ensures.limits);
      len = search rules;
    }

pub returns-clause-map : goal.returns-clause-map
returns-clause-map c =
    let left = ap items_view (no-items (into_iter_items c.loop-section.section-iterator) (sym c.loop-section.invariant.len ∙ c.in-None.ensures.steps.0)) in
    let p = subst (λ left. Passed (items_view c.args.sections.items) left c.loop-section.joined c.loop-section.before) left c.loop-section.invariant.passed in
    (all-joined (items_view c.args.sections.items) c.loop-section.joined c.loop-section.before p.so_far, tt)

pub returns-clause-place : goal.returns-clause-place
returns-clause-place c =
    let left = ap items_view (no-items (into_iter_items c.loop-section.section-iterator) (sym c.loop-section.invariant.len ∙ c.in-None.ensures.steps.0)) in
    let p = subst (λ left. Passed (items_view c.args.sections.items) left c.loop-section.joined c.loop-section.before) left c.loop-section.invariant.passed in
    (none-left (items_view c.args.sections.items) c.loop-section.joined c.loop-section.before p, tt)
