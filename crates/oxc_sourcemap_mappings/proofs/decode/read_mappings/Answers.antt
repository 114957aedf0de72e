use Rattle.std.proofs.Common.{arith, ◌≡◌, ℕ, ◌+◌, ◌-◌, ◌++◌, List, [], ◌∷◌, ◌⊎◌, length, drop}
use Rattle.std.proofs.Common.{false, ◌<◌, true, Option, Some, Err, slice_get, ◌∙◌, sym, ap, subst}
use Rattle.std.proofs.Common.{refl, vec_len}
use Rattle.std.proofs.lemmas.List.{take_rest}
use Rattle.std.proofs.lemmas.Bool.Decides.{nat_tests}
use Rattle.oxc_sourcemap_tokens.specs.Token.{TokenRecord}
use Rattle.oxc_sourcemap_mappings.specs.Places.{Place}
use Rattle.oxc_sourcemap_mappings.specs.Faults.{Counts, counts_of}
use Rattle.oxc_sourcemap_mappings.specs.Reading.{gathered}
use Rattle.oxc_sourcemap_mappings.specs.Decoding.{place_of, ends_segment, front_digits}
use Rattle.oxc_sourcemap_mappings.specs.Decoding.{segments_after, IsFrontOf, at_line_start}
use Rattle.oxc_sourcemap_mappings.specs.SegmentPlaces.{fault_place}
use Rattle.oxc_sourcemap_mappings.proofs.Left.{onto_all, onto_all-none, onto_all-token}
use Rattle.oxc_sourcemap_mappings.proofs.Left.{onto_all-fault, left_outcomes, left-after}
use Rattle.oxc_sourcemap_mappings.proofs.Left.{left-too_large, left-segment, front-byte}
use Rattle.oxc_sourcemap_mappings.proofs.Left.{left-semicolon, left-comma, front-filled, reading-is}
use Rattle.oxc_sourcemap_mappings.proofs.FaultPlaces.{IsHere, here-first, here-comma}
use Rattle.oxc_sourcemap_mappings.proofs.FaultPlaces.{here-semicolon, here-token, here-fault}
use Rattle.oxc_sourcemap_mappings.proofs.FaultPlaces.{here-last, here-none, here-told}
use Rattle.oxc_sourcemap_mappings.proofs.Room.{segments-token, segments-comma, segments-mark}
use Rattle.oxc_sourcemap_mappings.proofs.Room.{begins-inside}
use Rattle.oxc_sourcemap_mappings.proofs.decode.read_mappings.Goals as goal

-- one token further, past a `,` behind it
module _ (counts : Counts) (line : ℕ) (p here : Place) (rest left after : List ℕ) (token : TokenRecord) (len byte : ℕ) (is : IsFrontOf counts line p rest here token len) (begins : slice_get rest 0 ≡ Some byte) (inside : ends_segment byte ≡ false) (behind : left ≡ drop len rest) (comma : (left ≡ after) ⊎ (left ≡ 44 ∷ after)) where
  left-is : drop (length (front_digits rest)) rest ≡ left
  left-is = sym (behind ∙ ap (λ k. drop k rest) is.len_is)

  read-on : (tokens : List TokenRecord) → onto_all (tokens ++ token ∷ []) (gathered (left_outcomes counts line here after)) ≡ onto_all tokens (gathered (left_outcomes counts line p rest))
  read-on tokens =
      sym (ap (λ os. onto_all tokens (gathered os)) (left-segment counts line p rest (front-filled rest byte begins inside))
      ∙ onto_all-token tokens token _ _ is.result
      ∙ ap (λ os. onto_all (tokens ++ token ∷ []) (gathered os)) (ap (λ q. left_outcomes counts line q (drop (length (front_digits rest)) rest)) (sym is.place)
      ∙ ap (left_outcomes counts line here) left-is ∙ left-after counts line here left after comma))

  segments-on : segments_after false rest ≡ 1 + segments_after false after
  segments-on =
      segments-token rest byte begins inside ∙ ap (λ text. 1 + segments_after false text) left-is
      ∙ ap (λ n. 1 + n) (sym (segments-comma left after comma))

-- one byte further, past a `,` or a `;`
module _ (counts : Counts) (line : ℕ) (p : Place) (rest left : List ℕ) (behind : left ≡ drop 1 rest) where
  past-comma : slice_get rest 0 ≡ Some 44 → left_outcomes counts line p left ≡ left_outcomes counts line p rest
  past-comma g =
      ap (left_outcomes counts line p) behind ∙ sym (left-comma counts line p (drop 1 rest)) ∙ ap (left_outcomes counts line p) (sym (front-byte rest 44 g))

  past-semicolon : (next : ℕ) → slice_get rest 0 ≡ Some 59 → next ≡ line + 1 → line < 4294967295
      → left_outcomes counts next (at_line_start p) left ≡ left_outcomes counts line p rest
  past-semicolon next g is few =
      ap (left_outcomes counts next (at_line_start p)) behind ∙ ap (λ n. left_outcomes counts n (at_line_start p) (drop 1 rest)) is
      ∙ sym (left-semicolon counts line p (drop 1 rest) (omega (arith, few))) ∙ ap (left_outcomes counts line p) (sym (front-byte rest 59 g))

  segments-past : (b : ℕ) → slice_get rest 0 ≡ Some b → ends_segment b ≡ true → segments_after false left ≡ segments_after false rest
  segments-past b g mark = ap (segments_after false) behind ∙ segments-mark rest b g mark

pub loop-byte-init : goal.loop-byte-init
loop-byte-init c = record {
  reading = rw (c.in_ok-tokens.ensures.items, c.new-sums.ensures, c.as_bytes-rest.ensures.value)
      (onto_all-none _ ∙ sym (reading-is c.args.text.now c.args.names c.args.sources));
  room = omega (arith, c.in_ok-tokens.ensures.len, c.in_ok-tokens.ensures.capacity, c.segment_count.ensures);
  here = here-first c.args.text.now c.as_bytes-rest.result.now c.args.names c.args.sources (vec_len c.in_ok-tokens.tokens) (place_of c.new-sums.result)
      (omega (arith, c.in_ok-tokens.ensures.len)) c.new-sums.ensures c.as_bytes-rest.ensures.value;
}

pub push_reserved-requires-in_default-byte : goal.push_reserved-requires-in_default-byte
push_reserved-requires-in_default-byte c =
    let rest = c.loop-byte.rest.now in
    let g : slice_get rest 0 ≡ Some c.in-Some.byte.now = sym c.in-Some.ensures.value in
    let m : ends_segment c.in-Some.byte.now ≡ false = grind (arith, nat_tests) in
    omega (arith, c.loop-byte.invariant.room, segments-token rest c.in-Some.byte.now g m)

-- at the `;` behind the last line
pub returns-in_default-next_line-clause-tokens : goal.returns-in_default-next_line-clause-tokens
returns-in_default-next_line-clause-tokens c =
    let rest = c.loop-byte.rest.now in
    let counts = counts_of c.args.names c.args.sources in
    let g : slice_get rest 0 ≡ Some 59 = sym c.in-Some.ensures.value ∙ ap Some c.in-59.is in
    rw c.fault_of.ensures (
      tt,
      λ _. sym c.loop-byte.invariant.reading
          ∙ ap (λ text. onto_all c.loop-byte.tokens.items (gathered (left_outcomes counts c.loop-byte.line (place_of c.loop-byte.sums) text))) (front-byte rest 59 g)
          ∙ ap (λ os. onto_all c.loop-byte.tokens.items (gathered os)) (left-too_large counts c.loop-byte.line (place_of c.loop-byte.sums) (drop 1 rest) c.in_default-next_line.ensures.last),
    )

pub returns-in_default-next_line-clause-place : goal.returns-in_default-next_line-clause-place
returns-in_default-next_line-clause-place c =
    let rest = c.loop-byte.rest.now in
    let counts = counts_of c.args.names c.args.sources in
    let answer = fault_place c.args.text.now c.args.names c.args.sources in
    let g : slice_get rest 0 ≡ Some 59 = sym c.in-Some.ensures.value ∙ ap Some c.in-59.is in
    let before = c.loop-byte.before in
    let h = subst (λ xs. IsHere counts c.args.text.now answer xs c.loop-byte.line (vec_len c.loop-byte.tokens) before (place_of c.loop-byte.sums)) (front-byte rest 59 g) c.loop-byte.invariant.here in
    let found = here-last counts c.args.text.now answer (drop 1 rest) c.loop-byte.line (vec_len c.loop-byte.tokens) before (place_of c.loop-byte.sums) c.in_default-next_line.ensures.last h in
    let size = ap length (front-byte rest 59 g) in
    rw c.fault_of.ensures (
      tt,
      λ _. (
        here-told counts c.args.text.now answer (59 ∷ drop 1 rest) c.loop-byte.line (vec_len c.loop-byte.tokens) before (place_of c.loop-byte.sums) (length c.args.text.now - length rest) (c.len.result - before) h found
            (omega (arith, h.byte, size)) (omega (arith, h.segment, c.len.ensures)),
        refl,
      ),
    )

-- at a segment with a fault
pub returns-in-Err-clause-tokens : goal.returns-in-Err-clause-tokens
returns-in-Err-clause-tokens c =
    let rest = c.loop-byte.rest.now in
    let place = place_of c.usual_token.new.self in
    let counts = counts_of c.args.names c.args.sources in
    let g : slice_get rest 0 ≡ Some c.in-Some.byte.now = sym c.in-Some.ensures.value in
    let m : ends_segment c.in-Some.byte.now ≡ false = grind (arith, nat_tests) in
    let unchanged : c.usual_token.new.self ≡ c.loop-byte.sums = c.in_default-usual_token.ensures.unchanged in
    rw c.fault_of-in-Err.ensures (
      tt,
      λ _. sym c.loop-byte.invariant.reading
          ∙ ap (λ sums. onto_all c.loop-byte.tokens.items (gathered (left_outcomes counts c.loop-byte.line (place_of sums) rest))) (sym unchanged)
          ∙ ap (λ os. onto_all c.loop-byte.tokens.items (gathered os)) (left-segment counts c.loop-byte.line place rest (front-filled rest c.in-Some.byte.now g m))
          ∙ onto_all-fault c.loop-byte.tokens.items _ _ _ c.in-Err.ensures.fault,
    )

pub returns-in-Err-clause-place : goal.returns-in-Err-clause-place
returns-in-Err-clause-place c =
    let rest = c.loop-byte.rest.now in
    let counts = counts_of c.args.names c.args.sources in
    let answer = fault_place c.args.text.now c.args.names c.args.sources in
    let g : slice_get rest 0 ≡ Some c.in-Some.byte.now = sym c.in-Some.ensures.value in
    let m : ends_segment c.in-Some.byte.now ≡ false = grind (arith, nat_tests) in
    let unchanged : c.usual_token.new.self ≡ c.loop-byte.sums = c.in_default-usual_token.ensures.unchanged in
    let h = subst (λ s. IsHere counts c.args.text.now answer rest c.loop-byte.line (vec_len c.loop-byte.tokens) c.loop-byte.before (place_of s)) (sym unchanged) c.loop-byte.invariant.here in
    let found = here-fault counts c.args.text.now answer rest c.loop-byte.line (vec_len c.loop-byte.tokens) c.loop-byte.before c.in-Some.byte.now (place_of c.usual_token.new.self) c.in-Err.error g m c.in-Err.ensures.fault h in
    rw c.fault_of-in-Err.ensures (
      tt,
      λ _. (
        here-told counts c.args.text.now answer rest c.loop-byte.line (vec_len c.loop-byte.tokens) c.loop-byte.before (place_of c.usual_token.new.self) (length c.args.text.now - length rest) (c.len-in-Err.result - c.loop-byte.before) h found
            (omega (arith, h.byte)) (omega (arith, h.segment, c.len-in-Err.ensures)),
        refl,
      ),
    )

pub loop-byte-preserved-in-59 : goal.loop-byte-preserved-in-59
loop-byte-preserved-in-59 c =
    let rest = c.loop-byte.rest.now in
    let counts = counts_of c.args.names c.args.sources in
    let answer = fault_place c.args.text.now c.args.names c.args.sources in
    let g : slice_get rest 0 ≡ Some 59 = sym c.in-Some.ensures.value ∙ ap Some c.in-59.is in
    let unchanged : c.usual_token.new.self ≡ c.loop-byte.sums = c.in_default-usual_token.ensures.unchanged in
    let reached = place_of c.usual_token.new.self in
    let few : c.loop-byte.line < 4294967295 = omega (arith, c.in-Some-next_line.ensures.line) in
    let here = subst (λ s. IsHere counts c.args.text.now answer rest c.loop-byte.line (vec_len c.loop-byte.tokens) c.loop-byte.before (place_of s)) (sym unchanged) c.loop-byte.invariant.here in
    let front = subst (λ xs. IsHere counts c.args.text.now answer xs c.loop-byte.line (vec_len c.loop-byte.tokens) c.loop-byte.before reached) (front-byte rest 59 g) here in
    let past = here-semicolon counts c.args.text.now answer (drop 1 rest) c.loop-byte.line c.in-Some-next_line.next (vec_len c.loop-byte.tokens) c.loop-byte.before c.len-before.result reached c.in-Some-next_line.ensures.line few (omega (arith, c.len-before.ensures)) front in
    record {
      reading = ap (λ os. onto_all c.loop-byte.tokens.items (gathered os)) (past-semicolon counts c.loop-byte.line reached rest _ (take_rest rest 1) c.in-Some-next_line.next g c.in-Some-next_line.ensures.line few)
          ∙ ap (λ sums. onto_all c.loop-byte.tokens.items (gathered (left_outcomes counts c.loop-byte.line (place_of sums) rest))) unchanged
          ∙ c.loop-byte.invariant.reading;
      room = omega (arith, c.loop-byte.invariant.room, segments-past counts c.loop-byte.line reached rest _ (take_rest rest 1) 59 g refl);
      here = subst (λ xs. IsHere counts c.args.text.now answer xs c.in-Some-next_line.next (vec_len c.loop-byte.tokens) c.len-before.result (at_line_start reached)) (sym (take_rest rest 1)) past;
    }

pub loop-byte-preserved-in-44 : goal.loop-byte-preserved-in-44
loop-byte-preserved-in-44 c =
    let rest = c.loop-byte.rest.now in
    let counts = counts_of c.args.names c.args.sources in
    let answer = fault_place c.args.text.now c.args.names c.args.sources in
    let g : slice_get rest 0 ≡ Some 44 = sym c.in-Some.ensures.value ∙ ap Some c.in-44.is in
    let unchanged : c.usual_token.new.self ≡ c.loop-byte.sums = c.in_default-usual_token.ensures.unchanged in
    let reached = place_of c.usual_token.new.self in
    let here = subst (λ s. IsHere counts c.args.text.now answer rest c.loop-byte.line (vec_len c.loop-byte.tokens) c.loop-byte.before (place_of s)) (sym unchanged) c.loop-byte.invariant.here in
    let front = subst (λ xs. IsHere counts c.args.text.now answer xs c.loop-byte.line (vec_len c.loop-byte.tokens) c.loop-byte.before reached) (front-byte rest 44 g) here in
    let past = here-comma counts c.args.text.now answer (drop 1 rest) c.loop-byte.line (vec_len c.loop-byte.tokens) c.loop-byte.before reached front in
    record {
      reading = ap (λ os. onto_all c.loop-byte.tokens.items (gathered os)) (past-comma counts c.loop-byte.line reached rest _ (take_rest rest 1) g)
          ∙ ap (λ sums. onto_all c.loop-byte.tokens.items (gathered (left_outcomes counts c.loop-byte.line (place_of sums) rest))) unchanged
          ∙ c.loop-byte.invariant.reading;
      room = omega (arith, c.loop-byte.invariant.room, segments-past counts c.loop-byte.line reached rest _ (take_rest rest 1) 44 g refl);
      here = subst (λ xs. IsHere counts c.args.text.now answer xs c.loop-byte.line (vec_len c.loop-byte.tokens) c.loop-byte.before reached) (sym (take_rest rest 1)) past;
    }

pub loop-byte-preserved-in-Some-usual_token :
    goal.loop-byte-preserved-in-Some-usual_token
loop-byte-preserved-in-Some-usual_token c =
    let rest = c.loop-byte.rest.now in
    let place = place_of c.loop-byte.sums in
    let here = place_of c.usual_token.new.self in
    let counts = counts_of c.args.names c.args.sources in
    let read = c.in-Some-usual_token in
    let is = read.ensures.token in
    let g : slice_get rest 0 ≡ Some c.in-Some.byte.now = sym c.in-Some.ensures.value in
    let m = begins-inside rest c.in-Some.byte.now g (omega (arith, is.len_is, read.ensures.some)) in
    let answer = fault_place c.args.text.now c.args.names c.args.sources in
    record {
      reading = rw c.push_reserved.ensures.items (read-on counts c.loop-byte.line place here rest _ _ _ _ _ is g m (take_rest rest _) c.after_comma-rest.ensures c.loop-byte.tokens.items ∙ c.loop-byte.invariant.reading);
      room = omega (arith, c.loop-byte.invariant.room, c.push_reserved.ensures.len, c.push_reserved.ensures.capacity, segments-on counts c.loop-byte.line place here rest _ _ _ _ _ is g m (take_rest rest _) c.after_comma-rest.ensures);
      here = here-token counts c.args.text.now answer rest _ _ c.loop-byte.line (vec_len c.loop-byte.tokens) _ c.loop-byte.before c.in-Some.byte.now _ place here _ g m is (take_rest rest _) c.after_comma-rest.ensures (omega (arith, c.push_reserved.ensures.len)) c.loop-byte.invariant.here;
    }

pub loop-byte-preserved : goal.loop-byte-preserved
loop-byte-preserved c =
    let rest = c.loop-byte.rest.now in
    let place = place_of c.usual_token.new.self in
    let here = place_of c.any_token.new.self in
    let counts = counts_of c.args.names c.args.sources in
    let is = c.in-Ok.ensures.token in
    let unchanged : c.usual_token.new.self ≡ c.loop-byte.sums = c.in_default-usual_token.ensures.unchanged in
    let g : slice_get rest 0 ≡ Some c.in-Some.byte.now = sym c.in-Some.ensures.value in
    let m : ends_segment c.in-Some.byte.now ≡ false = grind (arith, nat_tests) in
    let answer = fault_place c.args.text.now c.args.names c.args.sources in
    let h = subst (λ s. IsHere counts c.args.text.now answer rest c.loop-byte.line (vec_len c.loop-byte.tokens) c.loop-byte.before (place_of s)) (sym unchanged) c.loop-byte.invariant.here in
    record {
      reading = rw c.push_reserved-in_default-byte.ensures.items (read-on counts c.loop-byte.line place here rest _ _ _ _ _ is g m (take_rest rest _) c.after_comma-rest-in_default-byte.ensures c.loop-byte.tokens.items
          ∙ ap (λ sums. onto_all c.loop-byte.tokens.items (gathered (left_outcomes counts c.loop-byte.line (place_of sums) rest))) unchanged ∙ c.loop-byte.invariant.reading);
      room = omega (arith, c.loop-byte.invariant.room, c.push_reserved-in_default-byte.ensures.len, c.push_reserved-in_default-byte.ensures.capacity, segments-on counts c.loop-byte.line place here rest _ _ _ _ _ is g m (take_rest rest _) c.after_comma-rest-in_default-byte.ensures);
      here = here-token counts c.args.text.now answer rest _ _ c.loop-byte.line (vec_len c.loop-byte.tokens) _ c.loop-byte.before c.in-Some.byte.now _ place here _ g m is (take_rest rest _) c.after_comma-rest-in_default-byte.ensures (omega (arith, c.push_reserved-in_default-byte.ensures.len)) h;
    }
