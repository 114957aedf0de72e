use Rattle.std.proofs.Common.{◌≡◌, ◌+◌, ◌∙◌, sym, ap, arith, refl, drop, length, Some}
use Rattle.std.proofs.Common.{slice_get}
use Rattle.std.proofs.Common.{false}
use Rattle.std.proofs.lemmas.Bool.Decides.{nat_tests}
use Rattle.std.proofs.lemmas.List.{take_rest, length-drop}
use Rattle.oxc_sourcemap_mappings.specs.Faults.{counts_of}
use Rattle.oxc_sourcemap_mappings.specs.Decoding.{place_of, ends_segment}
use Rattle.oxc_sourcemap_mappings.specs.SegmentPlaces.{line_on}
use Rattle.oxc_sourcemap_mappings.proofs.Left.{front-byte}
use Rattle.oxc_sourcemap_mappings.proofs.FaultPlaces.{rest_place, rest_fault, fault_place-is}
use Rattle.oxc_sourcemap_mappings.proofs.FaultPlaces.{fault-is, place-comma, fault-comma}
use Rattle.oxc_sourcemap_mappings.proofs.FaultPlaces.{place-semicolon, fault-semicolon}
use Rattle.oxc_sourcemap_mappings.proofs.FaultPlaces.{place-last_line, fault-last_line}
use Rattle.oxc_sourcemap_mappings.proofs.FaultPlaces.{place-token, fault-token, place-fault}
use Rattle.oxc_sourcemap_mappings.proofs.FaultPlaces.{front-some, err_from}
use Rattle.oxc_sourcemap_mappings.proofs.fault_at.first_fault.Goals as goal

pub loop-byte-init : goal.loop-byte-init
loop-byte-init c = record {
  place = rw (c.new-sums.ensures, c.as_bytes-rest.ensures.value) (sym (fault_place-is c.args.text.now c.args.names c.args.sources));
  fault = rw (c.new-sums.ensures, c.as_bytes-rest.ensures.value) (sym (fault-is c.args.text.now c.args.names c.args.sources));
  size = omega (arith, c.as_bytes-rest.ensures.len);
  few = omega arith;
}

pub loop-byte-preserved-then-byte-eq44 : goal.loop-byte-preserved-then-byte-eq44
loop-byte-preserved-then-byte-eq44 c =
    let rest = c.loop-byte.rest.now in
    let counts = counts_of c.args.names c.args.sources in
    let reached = place_of c.loop-byte.sums in
    let g = front-byte rest 44 (sym c.in-Some.ensures.value ∙ ap Some c.if-byte-eq44.true) in
    let size = ap length g in
    record {
      place = ap (rest_place counts _ reached) (take_rest rest 1) ∙ sym (place-comma counts c.loop-byte.place reached (drop 1 rest))
          ∙ ap (rest_place counts c.loop-byte.place reached) (sym g) ∙ c.loop-byte.invariant.place;
      fault = ap (rest_fault counts c.loop-byte.place.line reached) (take_rest rest 1) ∙ sym (fault-comma counts c.loop-byte.place.line reached (drop 1 rest))
          ∙ ap (rest_fault counts c.loop-byte.place.line reached) (sym g) ∙ c.loop-byte.invariant.fault;
      size = omega (arith, ap length (take_rest rest 1), size, c.loop-byte.invariant.size);
      few = omega (arith, c.loop-byte.invariant.few);
    }

pub loop-byte-preserved-then-byte-eq59 : goal.loop-byte-preserved-then-byte-eq59
loop-byte-preserved-then-byte-eq59 c =
    let rest = c.loop-byte.rest.now in
    let counts = counts_of c.args.names c.args.sources in
    let reached = place_of c.loop-byte.sums in
    let g = front-byte rest 59 (sym c.in-Some.ensures.value ∙ ap Some c.if-byte-eq59.true) in
    let size = ap length g in
    record {
      place = ap (rest_place counts (line_on c.loop-byte.place) (place_of c.begin_line.new.self)) (take_rest rest 1)
          ∙ ap (λ q. rest_place counts (line_on c.loop-byte.place) q (drop 1 rest)) c.begin_line.ensures
          ∙ sym (place-semicolon counts c.loop-byte.place reached (drop 1 rest) (omega arith))
          ∙ ap (rest_place counts c.loop-byte.place reached) (sym g) ∙ c.loop-byte.invariant.place;
      fault = ap (rest_fault counts (c.loop-byte.place.line + 1) (place_of c.begin_line.new.self)) (take_rest rest 1)
          ∙ ap (λ q. rest_fault counts (c.loop-byte.place.line + 1) q (drop 1 rest)) c.begin_line.ensures
          ∙ sym (fault-semicolon counts c.loop-byte.place.line reached (drop 1 rest) (omega arith))
          ∙ ap (rest_fault counts c.loop-byte.place.line reached) (sym g) ∙ c.loop-byte.invariant.fault;
      size = omega (arith, ap length (take_rest rest 1), size, c.loop-byte.invariant.size);
      few = omega arith;
    }

pub loop-byte-preserved : goal.loop-byte-preserved
loop-byte-preserved c =
    let rest = c.loop-byte.rest.now in
    let counts = counts_of c.args.names c.args.sources in
    let reached = place_of c.loop-byte.sums in
    let here = place_of c.any_token.new.self in
    let is = c.in-Ok.ensures.token in
    let g : slice_get rest 0 ≡ Some c.in-Some.byte.now = sym c.in-Some.ensures.value in
    let m : ends_segment c.in-Some.byte.now ≡ false = grind (arith, nat_tests) in
    let some = front-some rest c.in-Some.byte.now g m in
    record {
      place = ap (rest_place counts _ here) (take_rest rest c.in-Ok.len)
          ∙ sym (place-token counts c.loop-byte.place reached here rest _ _ _ g m is) ∙ c.loop-byte.invariant.place;
      fault = ap (rest_fault counts c.loop-byte.place.line here) (take_rest rest c.in-Ok.len)
          ∙ sym (fault-token counts c.loop-byte.place.line reached here rest _ _ _ g m is) ∙ c.loop-byte.invariant.fault;
      size = omega (arith, ap length (take_rest rest c.in-Ok.len), length-drop c.in-Ok.len rest, is.within, c.loop-byte.invariant.size);
      few = omega (arith, is.len_is, some, c.loop-byte.invariant.few);
    }

pub returns-then-place-clause-place : goal.returns-then-place-clause-place
returns-then-place-clause-place c =
    let rest = c.loop-byte.rest.now in
    let g = front-byte rest 59 (sym c.in-Some.ensures.value ∙ ap Some c.if-byte-eq59.true) in
    sym (place-last_line (counts_of c.args.names c.args.sources) c.loop-byte.place (place_of c.loop-byte.sums) (drop 1 rest) c.if-place.true)
    ∙ ap (rest_place (counts_of c.args.names c.args.sources) c.loop-byte.place (place_of c.loop-byte.sums)) (sym g) ∙ c.loop-byte.invariant.place

pub returns-then-place-clause-fault : goal.returns-then-place-clause-fault
returns-then-place-clause-fault c =
    let rest = c.loop-byte.rest.now in
    let g = front-byte rest 59 (sym c.in-Some.ensures.value ∙ ap Some c.if-byte-eq59.true) in
    let bad = fault-last_line (counts_of c.args.names c.args.sources) c.loop-byte.place.line (place_of c.loop-byte.sums) (drop 1 rest) c.if-place.true in (
      λ _. err_from _ bad.0 (sym c.loop-byte.invariant.fault ∙ ap (rest_fault (counts_of c.args.names c.args.sources) c.loop-byte.place.line (place_of c.loop-byte.sums)) g ∙ bad.1),
      λ _. refl,
    )

-- where the segment has a fault
pub returns-in_default-any_token-clause-place : goal.returns-in_default-any_token-clause-place
returns-in_default-any_token-clause-place c =
    let m : ends_segment c.in-Some.byte.now ≡ false = grind (arith, nat_tests) in
    let bad = place-fault (counts_of c.args.names c.args.sources) c.loop-byte.place (place_of c.loop-byte.sums) c.loop-byte.rest.now _ _ (sym c.in-Some.ensures.value) m c.in_default-any_token.ensures.fault in
    sym bad.0 ∙ c.loop-byte.invariant.place

pub returns-in_default-any_token-clause-fault : goal.returns-in_default-any_token-clause-fault
returns-in_default-any_token-clause-fault c =
    let m : ends_segment c.in-Some.byte.now ≡ false = grind (arith, nat_tests) in
    let bad = place-fault (counts_of c.args.names c.args.sources) c.loop-byte.place (place_of c.loop-byte.sums) c.loop-byte.rest.now _ _ (sym c.in-Some.ensures.value) m c.in_default-any_token.ensures.fault in
    (λ _. err_from _ _ (sym c.loop-byte.invariant.fault ∙ bad.1), λ _. refl)
