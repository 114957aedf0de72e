-- The place of the first fault, one segment at a time.
use Rattle.std.proofs.Common.{◌≡◌, ℕ, ◌+◌, ◌<◌, true, false, List, [], ◌∷◌, ◌==◌, length, drop}
use Rattle.std.proofs.Common.{Option, Some, None, Result, Ok, Err, if◌then◌else◌, arith, refl, sym}
use Rattle.std.proofs.Common.{ap, ◌∙◌, subst, add-zero, slice_get, suc, IsErr, ◌⊎◌, inl, inr}
use Rattle.std.proofs.lemmas.List.{length-drop}
use Rattle.std.specs.Option.{option_map}
use Rattle.std.specs.Result.{result_err}
use Rattle.std.proofs.lemmas.Bool.{eq-eqb}
use Rattle.std.proofs.lemmas.Bool.Decides.{nat_tests}
use Rattle.oxc_sourcemap_tokens.specs.declared.errors.error.Error.{Error}
use Rattle.oxc_sourcemap_tokens.specs.Token.{TokenRecord}
use Rattle.oxc_sourcemap_tokens.specs.declared.errors.fault.FaultSpot.TheVariants.{Segment}
use Rattle.oxc_sourcemap_tokens.specs.declared.errors.fault.SegmentPlace.{SegmentPlace}
use Rattle.oxc_sourcemap_tokens.specs.Places.{place_in}
use Rattle.oxc_sourcemap_mappings.specs.Parts.{is_semicolon, is_comma}
use Rattle.oxc_sourcemap_mappings.specs.Places.{Place, place, nothing_before}
use Rattle.oxc_sourcemap_mappings.specs.Faults.{Counts, counts_of}
use Rattle.oxc_sourcemap_mappings.specs.Reading.{segment_result, gathered, onto, reading}
use Rattle.oxc_sourcemap_mappings.specs.Decoding.{ends_segment, front_digits, front_segment}
use Rattle.oxc_sourcemap_mappings.specs.Decoding.{moved_by, at_line_start, IsFrontOf}
use Rattle.oxc_sourcemap_mappings.specs.Number.{digit}
use Rattle.oxc_sourcemap_mappings.specs.SegmentPlaces.{text_start, bytes_on, line_on, segment_on}
use Rattle.oxc_sourcemap_mappings.specs.SegmentPlaces.{places_from, first_fault, fault_place}
use Rattle.oxc_sourcemap_mappings.proofs.Left.{left_outcomes, results-left, reading-is}
use Rattle.oxc_sourcemap_mappings.proofs.Left.{left-semicolon, left-comma, left-too_large}
use Rattle.oxc_sourcemap_mappings.proofs.Left.{left-segment, front-filled}

-- the place of the first fault in the rest of a text, which begins at this place of it
abbrev pub rest_place : Counts → SegmentPlace → Place → List ℕ → Option SegmentPlace
rest_place c p reached rest = first_fault (left_outcomes c p.line reached rest) (places_from p false rest)

-- the fault in the rest of a text
abbrev pub rest_fault : Counts → ℕ → Place → List ℕ → Option Error
rest_fault c line reached rest = result_err (gathered (left_outcomes c line reached rest))

pub fault_place-is : (text : List ℕ) (names sources : ℕ) → fault_place text names sources ≡ rest_place (counts_of names sources) text_start (place nothing_before) text
unfolding fault_place
fault_place-is text names sources =
    ap (λ os. first_fault os (places_from text_start false text)) (results-left text (counts_of names sources))

pub fault-is : (text : List ℕ) (names sources : ℕ) → result_err (reading text names sources) ≡ rest_fault (counts_of names sources) 0 (place nothing_before) text
fault-is text names sources = ap result_err (reading-is text names sources)

-- ---- past a `;` and a `,`

pub place-semicolon : (c : Counts) (p : SegmentPlace) (reached : Place) (rest : List ℕ) → p.line < 4294967295
    → rest_place c p reached (59 ∷ rest) ≡ rest_place c (line_on p) (at_line_start reached) rest
unfolding places_from
place-semicolon c p reached rest h =
    let other : (p.line == 4294967295) ≡ false = grind (arith, nat_tests) in
    rw other (ap (λ os. first_fault os (places_from (line_on p) false rest)) (left-semicolon c p.line reached rest (omega arith)))

pub fault-semicolon : (c : Counts) (line : ℕ) (reached : Place) (rest : List ℕ) → line < 4294967295
    → rest_fault c line reached (59 ∷ rest) ≡ rest_fault c (line + 1) (at_line_start reached) rest
fault-semicolon c line reached rest h = ap (λ os. result_err (gathered os)) (left-semicolon c line reached rest (omega arith))

pub place-last_line : (c : Counts) (p : SegmentPlace) (reached : Place) (rest : List ℕ) → p.line ≡ 4294967295
    → rest_place c p reached (59 ∷ rest) ≡ Some p
unfolding places_from
place-last_line c p reached rest e =
    let last : (p.line == 4294967295) ≡ true = eq-eqb p.line 4294967295 e in
    rw last (ap (λ os. first_fault os (p ∷ [])) (left-too_large c p.line reached rest e))

pub fault-last_line : (c : Counts) (line : ℕ) (reached : Place) (rest : List ℕ) → line ≡ 4294967295
    → (e : Error) × (rest_fault c line reached (59 ∷ rest) ≡ Some e)
fault-last_line c line reached rest e = (_, ap (λ os. result_err (gathered os)) (left-too_large c line reached rest e))

pub place-comma : (c : Counts) (p : SegmentPlace) (reached : Place) (rest : List ℕ)
    → rest_place c p reached (44 ∷ rest) ≡ rest_place c (bytes_on p 1) reached rest
unfolding places_from
place-comma c p reached rest = ap (λ os. first_fault os (places_from (bytes_on p 1) false rest)) (left-comma c p.line reached rest)

pub fault-comma : (c : Counts) (line : ℕ) (reached : Place) (rest : List ℕ) → rest_fault c line reached (44 ∷ rest) ≡ rest_fault c line reached rest
fault-comma c line reached rest = ap (λ os. result_err (gathered os)) (left-comma c line reached rest)

-- ---- past a segment

bytes_on-none : (p : SegmentPlace) → bytes_on p 0 ≡ p
bytes_on-none p = ap (λ n. record p { byte = n }) (add-zero p.byte)

bytes_on-next : (p : SegmentPlace) (n : ℕ) → bytes_on (bytes_on p 1) n ≡ bytes_on p (suc n)
bytes_on-next p n = ap (λ k. record p { byte = k }) (omega arith)

-- at a mark it does not matter whether a segment is before it
places-mark : (p : SegmentPlace) (b : ℕ) (bs : List ℕ) → ends_segment b ≡ true → places_from p true (b ∷ bs) ≡ places_from p false (b ∷ bs)
unfolding places_from
places-mark p b bs h =
    elim (is_semicolon b) as (λ v. is_semicolon b ≡ v → (if v then (if p.line == 4294967295 then p ∷ [] else places_from (line_on p) false bs)
    else if is_comma b then places_from (bytes_on p 1) false bs else places_from (bytes_on p 1) true bs)
    ≡ (if v then (if p.line == 4294967295 then p ∷ [] else places_from (line_on p) false bs)
    else if is_comma b then places_from (bytes_on p 1) false bs else p ∷ places_from (segment_on p) true bs)) [
      | true ↦ (λ e. refl)
      | false ↦ (λ e. let k : is_comma b ≡ true = grind (arith, nat_tests) in rw k refl)
    ] refl

-- the rest of a segment is passed over
places-inside : (p : SegmentPlace) (rest : List ℕ)
    → places_from p true rest ≡ places_from (bytes_on p (length (front_digits rest))) false (drop (length (front_digits rest)) rest)
unfolding places_from
places-inside p [] = refl
places-inside p (b ∷ bs) =
    elim (ends_segment b) as (λ v. ends_segment b ≡ v → places_from p true (b ∷ bs)
    ≡ (let ds = (if v then [] else digit b ∷ front_digits bs) in places_from (bytes_on p (length ds)) false (drop (length ds) (b ∷ bs)))) [
      | true ↦ (λ e. places-mark p b bs e ∙ ap (λ q. places_from q false (b ∷ bs)) (sym (bytes_on-none p)))
      | false ↦ (λ e.
          let s : is_semicolon b ≡ false = grind (arith, nat_tests) in
          let k : is_comma b ≡ false = grind (arith, nat_tests) in
          rw (s, k) (places-inside (bytes_on p 1) bs ∙ ap (λ q. places_from q false (drop (length (front_digits bs)) bs)) (bytes_on-next p (length (front_digits bs)))))
    ] refl

-- a segment begins at its place
places-segment : (p : SegmentPlace) (rest : List ℕ) (b : ℕ) → slice_get rest 0 ≡ Some b → ends_segment b ≡ false
    → places_from p false rest ≡ p ∷ places_from (record p { byte = p.byte + length (front_digits rest); segment = p.segment + 1 }) false (drop (length (front_digits rest)) rest)
unfolding places_from
places-segment p [] b g m = cc
places-segment p (a ∷ bs) b g m =
    let same : a ≡ b = cc in
    let e : ends_segment a ≡ false = rw same m in
    let s : is_semicolon a ≡ false = grind (arith, nat_tests) in
    let k : is_comma a ≡ false = grind (arith, nat_tests) in
    rw (e, s, k) (ap (λ ps. p ∷ ps) (places-inside (segment_on p) bs
    ∙ ap (λ n. places_from (record p { byte = n; segment = p.segment + 1 }) false (drop (length (front_digits bs)) bs)) (omega arith)))

result_err-onto : (token : TokenRecord) (r : Result (List TokenRecord) Error) → result_err (onto token r) ≡ result_err r
result_err-onto token (Ok tokens) = refl
result_err-onto token (Err e) = refl

-- past a segment with no fault
pub place-token : (c : Counts) (p : SegmentPlace) (reached here : Place) (rest : List ℕ) (b len : ℕ) (token : TokenRecord)
    → slice_get rest 0 ≡ Some b → ends_segment b ≡ false → IsFrontOf c p.line reached rest here token len
    → rest_place c p reached rest ≡ rest_place c (record p { byte = p.byte + len; segment = p.segment + 1 }) here (drop len rest)
place-token c p reached here rest b len token g m is =
    ap (λ os. first_fault os (places_from p false rest)) (left-segment c p.line reached rest (front-filled rest b g m))
    ∙ ap (first_fault (segment_result c p.line reached (front_segment rest) (moved_by reached (front_segment rest)) ∷ left_outcomes c p.line (moved_by reached (front_segment rest)) (drop (length (front_digits rest)) rest))) (places-segment p rest b g m)
    ∙ rw (is.result, ← is.place, ← is.len_is) refl

pub fault-token : (c : Counts) (line : ℕ) (reached here : Place) (rest : List ℕ) (b len : ℕ) (token : TokenRecord)
    → slice_get rest 0 ≡ Some b → ends_segment b ≡ false → IsFrontOf c line reached rest here token len
    → rest_fault c line reached rest ≡ rest_fault c line here (drop len rest)
fault-token c line reached here rest b len token g m is =
    let s = front_segment rest in
    let n = length (front_digits rest) in
    ap (λ os. result_err (gathered os)) (left-segment c line reached rest (front-filled rest b g m))
    ∙ ap (λ r. result_err (gathered (r ∷ left_outcomes c line (moved_by reached s) (drop n rest)))) is.result
    ∙ result_err-onto token (gathered (left_outcomes c line (moved_by reached s) (drop n rest)))
    ∙ ap (λ q. rest_fault c line q (drop n rest)) (sym is.place)
    ∙ ap (λ k. rest_fault c line here (drop k rest)) (sym is.len_is)

-- at a segment with a fault
pub place-fault : (c : Counts) (p : SegmentPlace) (reached : Place) (rest : List ℕ) (b : ℕ) (e : Error)
    → slice_get rest 0 ≡ Some b → ends_segment b ≡ false → segment_result c p.line reached (front_segment rest) (moved_by reached (front_segment rest)) ≡ Err e
    → (rest_place c p reached rest ≡ Some p) × (rest_fault c p.line reached rest ≡ Some e)
place-fault c p reached rest b e g m bad =
    let left = left-segment c p.line reached rest (front-filled rest b g m) in (
      ap (λ os. first_fault os (places_from p false rest)) left
          ∙ ap (first_fault (segment_result c p.line reached (front_segment rest) (moved_by reached (front_segment rest)) ∷ left_outcomes c p.line (moved_by reached (front_segment rest)) (drop (length (front_digits rest)) rest))) (places-segment p rest b g m)
          ∙ rw bad refl,
      ap (λ os. result_err (gathered os)) left ∙ rw bad refl,
    )

-- a segment is not empty
pub front-some : (rest : List ℕ) (b : ℕ) → slice_get rest 0 ≡ Some b → ends_segment b ≡ false → 0 < length (front_digits rest)
front-some [] b g m = cc
front-some (a ∷ bs) b g m =
    let same : a ≡ b = cc in
    let e : ends_segment a ≡ false = rw same m in
    rw e (omega arith)

pub err_from : {A : Type 0} (r : Result A Error) (e : Error) → result_err r ≡ Some e → IsErr r
err_from (Ok x) e h = cc
err_from (Err f) e h = refl

-- ---- where a reading is

-- What is left of a text begins at a place, behind so many tokens, of which so many are on lines before. The first fault of the text,
-- whose place is the answer, is that of what is left.
pub record IsHere (c : Counts) (text : List ℕ) (answer : Option SegmentPlace) (rest : List ℕ) (line tokens before : ℕ) (reached : Place) : Type 0 where
  pub at : SegmentPlace
  pub byte : at.byte + length rest ≡ length text
  pub on : at.line ≡ line
  pub segment : at.segment + before ≡ tokens
  pub place : rest_place c at reached rest ≡ answer

pub here-first : (text rest : List ℕ) (names sources tokens : ℕ) (reached : Place) → tokens ≡ 0 → reached ≡ place nothing_before → rest ≡ text
    → IsHere (counts_of names sources) text (fault_place text names sources) rest 0 tokens 0 reached
here-first text rest names sources tokens reached none start same = record {
  at = text_start;
  byte = omega (arith, ap length same);
  on = refl;
  segment = omega (arith, none);
  place = ap (λ q. rest_place (counts_of names sources) text_start q rest) start
      ∙ ap (rest_place (counts_of names sources) text_start (place nothing_before)) same
      ∙ sym (fault_place-is text names sources);
}

told-place : (p : SegmentPlace) (byte line segment : ℕ) → byte ≡ p.byte → line ≡ p.line → segment ≡ p.segment
    → p ≡ record { byte = byte; line = line; segment = segment }
told-place p byte line segment e f g = rw (e, f, g) refl

module _ (c : Counts) (text : List ℕ) (answer : Option SegmentPlace) where
  pub here-comma : (rest : List ℕ) (line tokens before : ℕ) (reached : Place) → IsHere c text answer (44 ∷ rest) line tokens before reached
      → IsHere c text answer rest line tokens before reached
  here-comma rest line tokens before reached h = record {
    at = bytes_on h.at 1;
    byte = omega (arith, h.byte);
    on = h.on;
    segment = h.segment;
    place = sym (place-comma c h.at reached rest) ∙ h.place;
  }

  pub here-semicolon : (rest : List ℕ) (line next tokens before start : ℕ) (reached : Place) → next ≡ line + 1 → line < 4294967295 → start ≡ tokens
      → IsHere c text answer (59 ∷ rest) line tokens before reached → IsHere c text answer rest next tokens start (at_line_start reached)
  here-semicolon rest line next tokens before start reached is few none h = record {
    at = line_on h.at;
    byte = omega (arith, h.byte);
    on = omega (arith, h.on, is);
    segment = omega (arith, none);
    place = sym (place-semicolon c h.at reached rest (omega (arith, h.on, few))) ∙ h.place;
  }

  here-after : (left after : List ℕ) (line tokens before : ℕ) (reached : Place) → (left ≡ after) ⊎ (left ≡ 44 ∷ after)
      → IsHere c text answer left line tokens before reached → IsHere c text answer after line tokens before reached
  here-after left after line tokens before reached comma h =
      elim comma [
        | inl e ↦ subst (λ xs. IsHere c text answer xs line tokens before reached) e h
        | inr e ↦ here-comma after line tokens before reached (subst (λ xs. IsHere c text answer xs line tokens before reached) e h)
      ]

  -- one token further, past a `,` behind it
  pub here-token : (rest left after : List ℕ) (line tokens more before b len : ℕ) (reached here : Place) (token : TokenRecord)
      → slice_get rest 0 ≡ Some b → ends_segment b ≡ false → IsFrontOf c line reached rest here token len → left ≡ drop len rest
      → (left ≡ after) ⊎ (left ≡ 44 ∷ after) → more ≡ tokens + 1 → IsHere c text answer rest line tokens before reached
      → IsHere c text answer after line more before here
  here-token rest left after line tokens more before b len reached here token g m is behind comma one h =
      let front : IsFrontOf c h.at.line reached rest here token len = subst (λ n. IsFrontOf c n reached rest here token len) (sym h.on) is in
      here-after left after line more before here comma (record {
        at = record { byte = h.at.byte + len; line = h.at.line; segment = h.at.segment + 1 };
        byte = omega (arith, ap length behind, length-drop len rest, is.within, h.byte);
        on = h.on;
        segment = omega (arith, h.segment, one);
        place = ap (rest_place c (record { byte = h.at.byte + len; line = h.at.line; segment = h.at.segment + 1 }) here) behind
            ∙ sym (place-token c h.at reached here rest b len token g m front) ∙ h.place;
      })

  -- at a segment with a fault
  pub here-fault : (rest : List ℕ) (line tokens before b : ℕ) (reached : Place) (e : Error) → slice_get rest 0 ≡ Some b → ends_segment b ≡ false
      → segment_result c line reached (front_segment rest) (moved_by reached (front_segment rest)) ≡ Err e
      → (h : IsHere c text answer rest line tokens before reached) → answer ≡ Some h.at
  here-fault rest line tokens before b reached e g m bad h =
      let same : segment_result c h.at.line reached (front_segment rest) (moved_by reached (front_segment rest)) ≡ Err e =
      ap (λ n. segment_result c n reached (front_segment rest) (moved_by reached (front_segment rest))) h.on ∙ bad in
      sym h.place ∙ (place-fault c h.at reached rest b e g m same).0

  pub here-last : (rest : List ℕ) (line tokens before : ℕ) (reached : Place) → line ≡ 4294967295
      → (h : IsHere c text answer (59 ∷ rest) line tokens before reached) → answer ≡ Some h.at
  here-last rest line tokens before reached last h = sym h.place ∙ place-last_line c h.at reached rest (h.on ∙ last)

  -- at the end
  pub here-none : (line tokens before : ℕ) (reached : Place) → IsHere c text answer [] line tokens before reached → answer ≡ None
  unfolding places_from
  here-none line tokens before reached h = sym h.place

  -- the place of that fault, told by its numbers
  pub here-told : (rest : List ℕ) (line tokens before : ℕ) (reached : Place) (byte segment : ℕ) (h : IsHere c text answer rest line tokens before reached)
      → answer ≡ Some h.at → byte + length rest ≡ length text → segment + before ≡ tokens
      → option_map (λ p. place_in None (Segment p)) answer ≡ Some (place_in None (Segment (record { byte = byte; line = line; segment = segment })))
  here-told rest line tokens before reached byte segment h found e f =
      ap (option_map (λ p. place_in None (Segment p))) found
      ∙ ap (λ p. Some (place_in None (Segment p))) (told-place h.at byte line segment (omega (arith, e, h.byte)) (sym h.on) (omega (arith, f, h.segment)))
