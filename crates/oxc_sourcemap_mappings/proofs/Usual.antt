-- Segments of four or five fields of one to three digits.
use Rattle.std.proofs.Common.{◌≡◌, ℕ, suc, ◌+◌, ◌*◌, ◌%◌, ◌^◌, ◌<◌, ◌≤◌, true, false, List, []}
use Rattle.std.proofs.Common.{◌∷◌, length, get_or, drop, ℤ, ◌+ℤ◌, nat_abs, None, Ok, nat_le}
use Rattle.std.proofs.Common.{arith, refl, sym, ap, ◌∙◌, zero-add, drop-cons, rules, to_z, of_z}
use Rattle.std.proofs.Common.{w64}
use Rattle.std.proofs.lemmas.Bool.Decides.{nat_tests}
use Rattle.std.proofs.lemmas.Int.{ints, to_z-of_z}
use Rattle.oxc_sourcemap_mappings.specs.Number.{digit, ends_run, signed, is_fitting}
use Rattle.oxc_sourcemap_mappings.specs.Number.{is_open}
use Rattle.oxc_sourcemap_mappings.specs.Parts.{Segment, runs}
use Rattle.oxc_sourcemap_mappings.specs.Places.{Place}
use Rattle.oxc_sourcemap_mappings.specs.Faults.{Counts, digit_fault, range_fault, is_id_below}
use Rattle.oxc_sourcemap_mappings.specs.Faults.{place_fault}
use Rattle.oxc_sourcemap_mappings.specs.Reading.{segment_result, token_at}
use Rattle.oxc_sourcemap_mappings.specs.Decoding.{ends_segment, front_digits, front_segment}
use Rattle.oxc_sourcemap_mappings.specs.Decoding.{IsNumberAt, moved_by}

-- the digit at an index of a text
pub front-at : (text : List ℕ) (i j d : ℕ) → i < length text → j ≡ i + 1 → (ends_segment (get_or text i 0) ≡ false) × (d ≡ digit (get_or text i 0)) → front_digits (drop i text) ≡ d ∷ front_digits (drop j text)
front-at text i j d h e m =
    let c : drop i text ≡ get_or text i 0 ∷ drop (suc i) text = drop-cons text i 0 h in
    let k : j ≡ suc i = omega arith in
    rw (k, c, m.0, m.1) refl

-- the end of the segment
pub front-end : (text : List ℕ) (i : ℕ) → i < length text → ends_segment (get_or text i 0) ≡ true → front_digits (drop i text) ≡ []
front-end text i h m =
    let c : drop i text ≡ get_or text i 0 ∷ drop (suc i) text = drop-cons text i 0 h in
    rw (c, m) refl

runs-end : (d : ℕ) (more : List ℕ) → d < 32 → runs (d ∷ more) ≡ (d ∷ []) ∷ runs more
runs-end d more h = let t : ends_run d ≡ true = grind (arith, nat_tests) in rw t

runs-on : (d : ℕ) (more run : List ℕ) (rest : Segment) → 32 ≤ d → runs more ≡ run ∷ rest → runs (d ∷ more) ≡ (d ∷ run) ∷ rest
runs-on d more run rest h e = let t : ends_run d ≡ false = grind (arith, nat_tests) in rw (t, e)

closed : (d : ℕ) → d < 32 → nat_le 32 d ≡ false
closed d h = grind (arith, nat_tests)

signed-small : (d : ℕ) → d < 32 → nat_abs (signed d) < 2 ^ 62
signed-small d h = grind (arith, ints, nat_tests)

-- a number of one digit
pub number-1 : (text : List ℕ) (at d : ℕ) (n : ℤ) → front_digits (drop at text) ≡ d ∷ front_digits (drop (at + 1) text) → d < 32 → n ≡ signed d → IsNumberAt text at n 1
number-1 text at d n e h v = record {
  run = d ∷ [];
  front = ap runs e ∙ runs-end d (front_digits (drop (at + 1) text)) h;
  digits = omega (arith, ap length e);
  number = (let r : (d % 32) * 1 + 0 ≡ d = omega arith in ap signed r) ∙ sym v;
  fits = refl;
  closed = closed d h;
  small = rw v (signed-small d h);
}

-- a number of two digits
pub number-2 : (text : List ℕ) (at d c : ℕ) (n : ℤ) → front_digits (drop at text) ≡ d ∷ front_digits (drop (at + 1) text) → front_digits (drop (at + 1) text) ≡ c ∷ front_digits (drop (at + 2) text) → 32 ≤ d → c < 32 → n ≡ signed (d % 32 + c * 32) → nat_abs n < 2 ^ 62 → IsNumberAt text at n 2
number-2 text at d c n e f l h v s = record {
  run = d ∷ c ∷ [];
  front = ap runs e ∙ runs-on d (front_digits (drop (at + 1) text)) _ _ l (ap runs f ∙ runs-end c (front_digits (drop (at + 2) text)) h);
  digits = omega (arith, ap length e, ap length f);
  number = (let r : (d % 32) * 1 + ((c % 32) * 32 + 0) ≡ d % 32 + c * 32 = omega arith in ap signed r) ∙ sym v;
  fits = refl;
  closed = closed c h;
  small = s;
}

-- a number of three digits
pub number-3 : (text : List ℕ) (at d c b : ℕ) (n : ℤ) → front_digits (drop at text) ≡ d ∷ front_digits (drop (at + 1) text) → front_digits (drop (at + 1) text) ≡ c ∷ front_digits (drop (at + 2) text) → front_digits (drop (at + 2) text) ≡ b ∷ front_digits (drop (at + 3) text) → 32 ≤ d → 32 ≤ c → b < 32 → n ≡ signed (d % 32 + (c % 32) * 32 + b * 1024) → nat_abs n < 2 ^ 62 → IsNumberAt text at n 3
number-3 text at d c b n e f g l m h v s = record {
  run = d ∷ c ∷ b ∷ [];
  front =
      ap runs e
      ∙ runs-on d (front_digits (drop (at + 1) text)) _ _ l (ap runs f
      ∙ runs-on c (front_digits (drop (at + 2) text)) _ _ m (ap runs g ∙ runs-end b (front_digits (drop (at + 3) text)) h));
  digits = omega (arith, ap length e, ap length f, ap length g);
  number = (let r : (d % 32) * 1 + ((c % 32) * 32 + ((b % 32) * 1024 + 0)) ≡ d % 32 + (c % 32) * 32 + b * 1024 = omega arith in ap signed r) ∙ sym v;
  fits = refl;
  closed = closed b h;
  small = s;
}

fault-free : (run : List ℕ) (more : Segment) → is_fitting run ≡ true → is_open run ≡ false → digit_fault (run ∷ more) ≡ digit_fault more
unfolding digit_fault
fault-free run more f o = rw (f, o)

fault-none : digit_fault [] ≡ None
unfolding digit_fault
fault-none = refl

-- a small number is kept in 64 bits
pub kept : (z : ℤ) → nat_abs z < 2 ^ 62 → to_z w64 (of_z w64 z) ≡ z
kept z h = to_z-of_z w64 z (search rules)

-- numbers of one text, one after the other
module _ (text : List ℕ) (a b c d : ℕ) (x y z w : ℤ) (first : IsNumberAt text 0 x a) (second : IsNumberAt text a y b) (third : IsNumberAt text (a + b) z c) (fourth : IsNumberAt text (a + b + c) w d) where
  front-four : front_segment text ≡ first.run ∷ second.run ∷ third.run ∷ fourth.run ∷ front_segment (drop (a + b + c + d) text)
  front-four =
      let e : front_segment (drop (0 + a) text) ≡ front_segment (drop a text) = ap (λ k. front_segment (drop k text)) (zero-add a) in
      first.front ∙ rw (e, second.front, third.front, fourth.front)

  pub digits-four : front_digits (drop (a + b + c + d) text) ≡ [] → a + b + c + d ≡ length (front_digits text)
  digits-four ended =
      let e : length (front_digits (drop (0 + a) text)) ≡ length (front_digits (drop a text)) = ap (λ k. length (front_digits (drop k text))) (zero-add a) in
      omega (arith, e, first.digits, second.digits, third.digits, fourth.digits, ap length ended)

  clean-four : (more : Segment) → digit_fault (first.run ∷ second.run ∷ third.run ∷ fourth.run ∷ more) ≡ digit_fault more
  clean-four more =
      fault-free first.run _ first.fits first.closed ∙ fault-free second.run _ second.fits second.closed
      ∙ fault-free third.run _ third.fits third.closed ∙ fault-free fourth.run more fourth.fits fourth.closed

  -- the place after a segment of four, and its token, where no sum is out of range
  module _ (k : Counts) (line : ℕ) (p q : Place) (dst_col : q.dst_col ≡ p.dst_col +ℤ x) (source_id : q.source_id ≡ p.source_id +ℤ y) (src_line : q.src_line ≡ p.src_line +ℤ z) (src_col : q.src_col ≡ p.src_col +ℤ w) (no_dst_col : range_fault (p.dst_col +ℤ x) ≡ None) (has_source_id : true ≡ is_id_below (p.source_id +ℤ y) k.sources) (no_src_line : range_fault (p.src_line +ℤ z) ≡ None) (no_src_col : range_fault (p.src_col +ℤ w) ≡ None) where
    pub place-four : front_digits (drop (a + b + c + d) text) ≡ [] → q.name_id ≡ p.name_id → q ≡ moved_by p (front_segment text)
    place-four ended name_id =
        let s : front_segment text ≡ first.run ∷ second.run ∷ third.run ∷ fourth.run ∷ [] = front-four ∙ rw ended in
        rw (s, first.number, second.number, third.number, fourth.number, sym dst_col, sym source_id, sym src_line, sym src_col, sym name_id) refl

    pub token-four : front_digits (drop (a + b + c + d) text) ≡ [] → q.name_id ≡ p.name_id → segment_result k line p (front_segment text) (moved_by p (front_segment text)) ≡ Ok (token_at line 4 q)
    unfolding place_fault
    token-four ended name_id =
        let s : front_segment text ≡ first.run ∷ second.run ∷ third.run ∷ fourth.run ∷ [] = front-four ∙ rw ended in
        ap (segment_result k line p (front_segment text)) (sym (place-four ended name_id))
        ∙ ap (λ run. segment_result k line p run q) s
        ∙ rw (clean-four [] ∙ fault-none, dst_col, source_id, src_line, src_col, no_dst_col, sym has_source_id, no_src_line, no_src_col)

    -- the same after a segment of five
    module _ (e : ℕ) (v : ℤ) (fifth : IsNumberAt text (a + b + c + d) v e) (ended : front_digits (drop (a + b + c + d + e) text) ≡ []) (name_id : q.name_id ≡ p.name_id +ℤ v) where
      front-five : front_segment text ≡ first.run ∷ second.run ∷ third.run ∷ fourth.run ∷ fifth.run ∷ []
      front-five = front-four ∙ rw (fifth.front, ended)

      clean-five : digit_fault (first.run ∷ second.run ∷ third.run ∷ fourth.run ∷ fifth.run ∷ []) ≡ None
      clean-five = clean-four (fifth.run ∷ []) ∙ fault-free fifth.run [] fifth.fits fifth.closed ∙ fault-none

      pub digits-five : a + b + c + d + e ≡ length (front_digits text)
      digits-five =
          let k : length (front_digits (drop (0 + a) text)) ≡ length (front_digits (drop a text)) = ap (λ i. length (front_digits (drop i text))) (zero-add a) in
          omega (arith, k, first.digits, second.digits, third.digits, fourth.digits, fifth.digits, ap length ended)

      pub place-five : q ≡ moved_by p (front_segment text)
      place-five = rw (front-five, first.number, second.number, third.number, fourth.number, fifth.number, sym dst_col, sym source_id, sym src_line, sym src_col, sym name_id) refl

      pub token-five : true ≡ is_id_below (p.name_id +ℤ v) k.names → segment_result k line p (front_segment text) (moved_by p (front_segment text)) ≡ Ok (token_at line 5 q)
      unfolding place_fault
      token-five has_name_id =
          ap (segment_result k line p (front_segment text)) (sym place-five)
          ∙ ap (λ run. segment_result k line p run q) front-five
          ∙ rw (clean-five, dst_col, source_id, src_line, src_col, name_id, no_dst_col, sym has_source_id, no_src_line, no_src_col, sym has_name_id)
