-- What a written list reads as.
use Rattle.std.proofs.Common.{◌≡◌, ℕ, zero, suc, ◌+◌, ◌-◌, ◌<◌, ◌≤◌, Bool, true, false, cond, ◌==◌}
use Rattle.std.proofs.Common.{nat_lt, List, [], ◌∷◌, ◌++◌, length, replicate, min, arith, refl, sym}
use Rattle.std.proofs.Common.{ap, ◌∙◌, append_assoc, lit<, inl, inr, Option, Some, None, Result, Ok}
use Rattle.std.proofs.Common.{if◌then◌else◌, subst, add-zero}
use Rattle.std.specs.List.{AllByRecursion}
use Rattle.std.proofs.lemmas.Bool.{cases_lt}
use Rattle.std.proofs.lemmas.Bool.Decides.{nat_tests}
use Rattle.std.proofs.lemmas.List.{length-map}
use Rattle.std.specs.Option.{IfSome, is_some}
use Rattle.oxc_sourcemap_tokens.specs.declared.errors.error.Error.{Error}
use Rattle.oxc_sourcemap_tokens.specs.Token.{TokenRecord, IsInBounds, mapped_name}
use Rattle.oxc_sourcemap_mappings.specs.Parts.{Segment, segment, lines, is_filled}
use Rattle.oxc_sourcemap_mappings.specs.Places.{nothing_before, Place, place}
use Rattle.oxc_sourcemap_mappings.specs.Faults.{Counts, counts_of}
use Rattle.oxc_sourcemap_mappings.specs.Reading.{segment_result, gathered, onto, reading}
use Rattle.oxc_sourcemap_tokens.specs.State.{State, initial, state_after}
use Rattle.oxc_sourcemap_mappings.specs.Canonical.{digits, vlq_text, letter, separator, token_text}
use Rattle.oxc_sourcemap_mappings.specs.Canonical.{canonical, as_written, token_as_written, carried}
use Rattle.oxc_sourcemap_mappings.specs.Canonical.{carried_token, carried_after}
use Rattle.oxc_sourcemap_tokens.specs.LineOrder.{first_out_of_order, back_from}
use Rattle.oxc_sourcemap_mappings.specs.TextLaws.{AreWrittenIdsBelow}
use Rattle.oxc_sourcemap_mappings.specs.Decoding.{moved_by, at_line_start}
use Rattle.oxc_sourcemap_tokens.specs.Steps.{advanced}
use Rattle.oxc_sourcemap_mappings.specs.Encoding.{text_from}
use Rattle.oxc_sourcemap_tokens.proofs.InOrder.{back_from-all, in_order}
use Rattle.oxc_sourcemap_mappings.proofs.Length.{name_beside-id, IsBounded, IsBounded-advanced}
use Rattle.oxc_sourcemap_mappings.proofs.Digits.{length-digits-pos}
use Rattle.oxc_sourcemap_mappings.proofs.Left.{along, along_lines, moved_by_all, reading-lines}
use Rattle.oxc_sourcemap_mappings.proofs.Writing.{canonical-is}
use Rattle.oxc_sourcemap_mappings.proofs.Texts.{AreInside, Splits, splits-lines, splits-none}
use Rattle.oxc_sourcemap_mappings.proofs.Texts.{splits-comma, splits-lines-before, front-lines}
use Rattle.oxc_sourcemap_mappings.proofs.Segments.{base, raws, spell_all, read_all}
use Rattle.oxc_sourcemap_mappings.proofs.Segments.{segment-vlq_text, inside-all, body, body-is}
use Rattle.oxc_sourcemap_mappings.proofs.Segments.{token_text-is, IsId, standing, moved_by-written}
use Rattle.oxc_sourcemap_mappings.proofs.Segments.{segment_result-written, token-same}

-- a token in bounds whose ids are below these counts, as far as they are written
pub record IsWithin (names sources : ℕ) (t : TokenRecord) : Type 0 where
  pub in_bounds : IsInBounds t
  pub source_id : IfSome t.source_id (λ id. id < sources)
  pub name_id : IfSome (mapped_name t) (λ id. id < names)

pub are-within : (names sources : ℕ) (ts : List TokenRecord) → AllByRecursion IsInBounds ts → AllByRecursion (AreWrittenIdsBelow names sources) ts → AllByRecursion (IsWithin names sources) ts
are-within names sources [] b w = tt
are-within names sources (t ∷ ts) b w = (record { in_bounds = b.0; source_id = w.0.source_id; name_id = w.0.name_id }, are-within names sources ts b.1 w.1)

-- the list as it comes back, with the state carried along
abbrev pub carrying : State → List TokenRecord → List TokenRecord
carrying s [] = []
carrying s (t ∷ ts) = carried_token s t ∷ carrying (advanced s t) ts

-- the segment of a token
abbrev seg : State → TokenRecord → Segment
seg s t = read_all (raws t.source_id t.name_id s t)

abbrev text_of : State → TokenRecord → List ℕ
text_of s t = body t.source_id t.name_id s t

-- these segments of a line and lines below it, read from this line and place on, are these tokens
pub record ReadsAs (c : Counts) (line : ℕ) (p : Place) (here : List Segment) (below : List (List Segment)) (ts : List TokenRecord) : Type 0 where
  read : gathered (along c line p here ++ along_lines c (line + 1) (moved_by_all p here) below) ≡ Ok ts

text-inside : (s : State) (t : TokenRecord) → AreInside (text_of s t)
text-inside s t = subst AreInside (sym (body-is t.source_id t.name_id s t)) (inside-all (raws t.source_id t.name_id s t))

text-segment : (s : State) (t : TokenRecord) → segment (text_of s t) ≡ seg s t
text-segment s t = ap segment (body-is t.source_id t.name_id s t) ∙ segment-vlq_text (raws t.source_id t.name_id s t)

filled-front : (xs ys : List ℕ) → 0 < length xs → is_filled (xs ++ ys) ≡ true
filled-front [] ys h = absurd (omega arith)
filled-front (x ∷ xs) ys h = refl

length-vlq_text-pos : (n : ℕ) → 0 < length (vlq_text n)
unfolding vlq_text
length-vlq_text-pos n = rw (length-map (digits n n) letter) (length-digits-pos n n)

filled-all : (a b : Option ℕ) (s : State) (t : TokenRecord) → is_filled (spell_all (raws a b s t)) ≡ true
filled-all None b s t = filled-front _ _ (length-vlq_text-pos _)
filled-all (Some i) None s t = filled-front _ _ (length-vlq_text-pos _)
filled-all (Some i) (Some n) s t = filled-front _ _ (length-vlq_text-pos _)

text-filled : (s : State) (t : TokenRecord) → is_filled (text_of s t) ≡ true
text-filled s t = ap is_filled (body-is t.source_id t.name_id s t) ∙ filled-all t.source_id t.name_id s t

both-below : (a : Option ℕ) (k : ℕ) → IfSome a (λ n. n < k) → IsId a → IfSome a (λ n. n < min k 4294967295)
both-below None k x y = tt
both-below (Some n) k x y = omega arith

-- one more token before those that are read, on their line
reads-more : (names sources : ℕ) (s : State) (t : TokenRecord) (ts : List TokenRecord) (here : List Segment) (below : List (List Segment)) → IsBounded s → IsWithin names sources t
    → ReadsAs (counts_of names sources) t.dst_line (standing t.dst_col (advanced s t)) here below ts
    → ReadsAs (counts_of names sources) t.dst_line (standing (base s t) s) (seg s t ∷ here) below (carried_token s t ∷ ts)
reads-more names sources s t ts here below h w r =
    let c = counts_of names sources in
    let v : segment_result c t.dst_line (standing (base s t) s) (seg s t) (moved_by (standing (base s t) s) (seg s t)) ≡ Ok (carried_token s t) =
    segment_result-written t.source_id t.name_id c t.dst_line (standing (base s t) s) s t h w.in_bounds w.in_bounds.source_id w.in_bounds.name_id (both-below t.source_id sources w.source_id w.in_bounds.source_id) (both-below (mapped_name t) names w.name_id (name_beside-id t.source_id t.name_id w.in_bounds.name_id))
    ∙ ap Ok (token-same t.source_id t.name_id s t refl refl) in
    let a : moved_by (standing (base s t) s) (seg s t) ≡ standing t.dst_col (advanced s t) = moved_by-written t.source_id t.name_id s t in
    record {
      read = ap (λ u. gathered (u ∷ (along c t.dst_line (moved_by (standing (base s t) s) (seg s t)) here ++ along_lines c (t.dst_line + 1) (moved_by_all (moved_by (standing (base s t) s) (seg s t)) here) below))) v
          ∙ ap (λ q. onto (carried_token s t) (gathered (along c t.dst_line q here ++ along_lines c (t.dst_line + 1) (moved_by_all q here) below))) a
          ∙ ap (onto (carried_token s t)) r.read;
    }

-- empty lines
empty-lines : (c : Counts) (k line : ℕ) (p : Place) (l : List Segment) (ls : List (List Segment)) → line + k < 4294967296 → along_lines c line p (replicate k [] ++ (l ∷ ls)) ≡ along_lines c (line + k) p (l ∷ ls)
empty-lines c zero line p l ls h = rw add-zero
empty-lines c (suc k) line p l ls h =
    let t : nat_lt line 4294967296 ≡ true = grind (arith, nat_tests) in
    let e : line + 1 + k ≡ line + suc k = omega arith in
    rw t (empty-lines c k (line + 1) (at_line_start p) l ls (omega arith) ∙ ap (λ n. along_lines c n p (l ∷ ls)) e)

separator-same : (first : Bool) (s : State) (t : TokenRecord) → t.dst_line ≡ s.dst_line → separator first s t ≡ (if first then [] else 44 ∷ [])
unfolding separator
separator-same first s t e = let k : (t.dst_line == s.dst_line) ≡ true = grind (arith, nat_tests) in rw k

separator-later : (first : Bool) (s : State) (t : TokenRecord) → s.dst_line < t.dst_line → separator first s t ≡ replicate (suc (t.dst_line - s.dst_line - 1)) 59
unfolding separator
separator-later first s t l =
    let k : (t.dst_line == s.dst_line) ≡ false = grind (arith, nat_tests) in
    let e : t.dst_line - s.dst_line ≡ suc (t.dst_line - s.dst_line - 1) = omega arith in
    rw k (ap (λ n. replicate n 59) e)

base-same : (s : State) (t : TokenRecord) → t.dst_line ≡ s.dst_line → base s t ≡ s.dst_col
base-same s t e = let k : (t.dst_line == s.dst_line) ≡ true = grind (arith, nat_tests) in rw k

base-later : (s : State) (t : TokenRecord) → s.dst_line < t.dst_line → base s t ≡ 0
base-later s t l = let k : (t.dst_line == s.dst_line) ≡ false = grind (arith, nat_tests) in rw k

-- tokens that are read after some lines without a segment
reads-later : (c : Counts) (s : State) (line : ℕ) (ts : List TokenRecord) (here : List Segment) (below : List (List Segment)) (column : ℕ) → s.dst_line < line → line < 4294967296
    → ReadsAs c line (standing 0 s) here below ts
    → ReadsAs c s.dst_line (standing column s) [] (replicate (line - s.dst_line - 1) [] ++ (here ∷ below)) ts
reads-later c s line ts here below column l m r =
    let k = line - s.dst_line - 1 in
    let e : s.dst_line + 1 + k ≡ line = omega arith in
    let b : nat_lt line 4294967296 ≡ true = grind (arith, nat_tests) in
    record { read = ap gathered (empty-lines c k (s.dst_line + 1) (standing column s) here below (omega arith) ∙ ap (λ n. along_lines c n (standing column s) (here ∷ below)) e) ∙ rw b r.read }

record Goes (c : Counts) (s : State) (text : List ℕ) (ts : List TokenRecord) : Type 0 where
  here : List Segment
  below : List (List Segment)
  splits : Splits text here below
  reads : ReadsAs c s.dst_line (standing s.dst_col s) here below ts

text-same : (first : Bool) (s : State) (t : TokenRecord) (rest : List ℕ) → t.dst_line ≡ s.dst_line → token_text first s t ++ rest ≡ (if first then [] else 44 ∷ []) ++ (text_of s t ++ rest)
text-same first s t rest e =
    ap (λ xs. xs ++ rest) (token_text-is first s t ∙ ap (λ ms. ms ++ text_of s t) (separator-same first s t e)) ∙ append_assoc _ (text_of s t) rest

text-later : (first : Bool) (s : State) (t : TokenRecord) (rest : List ℕ) → s.dst_line < t.dst_line → token_text first s t ++ rest ≡ replicate (suc (t.dst_line - s.dst_line - 1)) 59 ++ (text_of s t ++ rest)
text-later first s t rest l =
    ap (λ xs. xs ++ rest) (token_text-is first s t ∙ ap (λ ms. ms ++ text_of s t) (separator-later first s t l)) ∙ append_assoc (replicate (suc (t.dst_line - s.dst_line - 1)) 59) (text_of s t) rest

-- a token on a later line, whether it is the first or not
later : (names sources : ℕ) (first : Bool) (s : State) (t : TokenRecord) (ts : List TokenRecord) (rest : List ℕ) → IsBounded s → IsWithin names sources t → s.dst_line < t.dst_line
    → Goes (counts_of names sources) (advanced s t) rest ts → Goes (counts_of names sources) s (token_text first s t ++ rest) (carried_token s t ∷ ts)
later names sources first s t ts rest h w l g =
    let c = counts_of names sources in
    let k = t.dst_line - s.dst_line - 1 in
    let rm = reads-more names sources s t ts g.here g.below h w g.reads in
    let sp = subst (λ sg. Splits (replicate (suc k) 59 ++ (text_of s t ++ rest)) [] (replicate k [] ++ ((sg ∷ g.here) ∷ g.below))) (text-segment s t)
    (splits-lines-before rest g.here g.below g.splits (text_of s t) (text-inside s t) (text-filled s t) k) in
    record {
      here = [];
      below = replicate k [] ++ ((seg s t ∷ g.here) ∷ g.below);
      splits = subst (λ x. Splits x [] (replicate k [] ++ ((seg s t ∷ g.here) ∷ g.below))) (sym (text-later first s t rest l)) sp;
      reads = reads-later c s t.dst_line (carried_token s t ∷ ts) (seg s t ∷ g.here) g.below s.dst_col l w.in_bounds.dst_line (subst (λ b. ReadsAs c t.dst_line (standing b s) (seg s t ∷ g.here) g.below (carried_token s t ∷ ts)) (base-later s t l) rm);
    }

same : (names sources : ℕ) (s : State) (t : TokenRecord) (ts : List TokenRecord) (rest : List ℕ) → IsBounded s → IsWithin names sources t → t.dst_line ≡ s.dst_line
    → Goes (counts_of names sources) (advanced s t) rest ts → Goes (counts_of names sources) s (token_text false s t ++ rest) (carried_token s t ∷ ts)
same names sources s t ts rest h w e g =
    let c = counts_of names sources in
    let rm = reads-more names sources s t ts g.here g.below h w g.reads in
    let sp = subst (λ sg. Splits (44 ∷ (text_of s t ++ rest)) (sg ∷ g.here) g.below) (text-segment s t)
    (splits-comma rest g.here g.below g.splits (text_of s t) (text-inside s t) (text-filled s t)) in
    record {
      here = seg s t ∷ g.here;
      below = g.below;
      splits = subst (λ x. Splits x (seg s t ∷ g.here) g.below) (sym (text-same false s t rest e)) sp;
      reads = subst (λ n. ReadsAs c n (standing s.dst_col s) (seg s t ∷ g.here) g.below (carried_token s t ∷ ts)) e
          (subst (λ b. ReadsAs c t.dst_line (standing b s) (seg s t ∷ g.here) g.below (carried_token s t ∷ ts)) (base-same s t e) rm);
    }

goes : (names sources : ℕ) (s : State) (i : ℕ) (ts : List TokenRecord) → IsBounded s → AllByRecursion (IsWithin names sources) ts → back_from s.dst_line i ts ≡ None → Goes (counts_of names sources) s (text_from false s ts) (carrying s ts)
goes names sources s i [] h w o = record { here = []; below = []; splits = splits-none; reads = record { read = refl } }
goes names sources s i (t ∷ ts) h w o =
    let q = in_order (nat_lt t.dst_line s.dst_line) i _ o in
    let l : s.dst_line ≤ t.dst_line = grind (arith, nat_tests, q.0) in
    let g = goes names sources (advanced s t) (i + 1) ts (IsBounded-advanced s t h w.0.in_bounds) w.1 q.1 in
    elim (cases_lt s.dst_line t.dst_line) [
      | inl m ↦ later names sources false s t (carrying (advanced s t) ts) (text_from false (advanced s t) ts) h w.0 m g
      | inr m ↦ same names sources s t (carrying (advanced s t) ts) (text_from false (advanced s t) ts) h w.0 (omega arith) g
    ]

pub carried-is : (seen ts : List TokenRecord) → carried_after seen ts ≡ carrying (state_after initial seen) ts
carried-is seen [] = refl
carried-is seen (t ∷ ts) = ap (λ us. carried_token (state_after initial seen) t ∷ us) (carried-is (t ∷ seen) ts)

finish : (names sources : ℕ) (text : List ℕ) (here : List Segment) (below : List (List Segment)) (ts : List TokenRecord) → canonical ts ≡ text → lines text ≡ here ∷ below → ReadsAs (counts_of names sources) 0 (standing 0 initial) here below (carrying initial ts) → reading (canonical ts) names sources ≡ Ok (carried ts)
finish names sources text here below ts e l r =
    ap (λ x. reading x names sources) e ∙ reading-lines text names sources ∙ ap (λ ls. gathered (along_lines (counts_of names sources) 0 (place nothing_before) ls)) l ∙ r.read ∙ ap Ok (sym (carried-is [] ts))

pub IsBounded-initial : IsBounded initial
IsBounded-initial = record { dst_line = lit< tt; dst_col = lit< tt; source_id = lit< tt; src_line = lit< tt; src_col = lit< tt; name_id = lit< tt }

pub round_trip : (names sources : ℕ) (ts : List TokenRecord) → AllByRecursion (IsWithin names sources) ts → first_out_of_order ts ≡ None → reading (canonical ts) names sources ≡ Ok (carried ts)
round_trip names sources [] w o = finish names sources [] [] [] [] (canonical-is []) refl (record { read = refl })
round_trip names sources (t ∷ ts) w o =
    let g = goes names sources (advanced initial t) 1 ts (IsBounded-advanced initial t IsBounded-initial w.0.in_bounds) w.1 (in_order (nat_lt t.dst_line 0) 0 _ (back_from-all (t ∷ ts) ∙ o)).1 in
    let rest = text_from false (advanced initial t) ts in
    elim (cases_lt 0 t.dst_line) [
      | inl m ↦ (let k = later names sources true initial t (carrying (advanced initial t) ts) rest IsBounded-initial w.0 m g in
          finish names sources (token_text true initial t ++ rest) k.here k.below (t ∷ ts) (canonical-is (t ∷ ts)) (splits-lines _ k.here k.below k.splits) k.reads)
      | inr m ↦ (let e : t.dst_line ≡ 0 = omega arith in
          let rm = reads-more names sources initial t (carrying (advanced initial t) ts) g.here g.below IsBounded-initial w.0 g.reads in
          let l : lines (text_of initial t ++ rest) ≡ (seg initial t ∷ g.here) ∷ g.below =
          front-lines rest g.here g.below g.splits (text_of initial t) (text-inside initial t) (text-filled initial t) ∙ ap (λ sg. (sg ∷ g.here) ∷ g.below) (text-segment initial t) in
          finish names sources (text_of initial t ++ rest) (seg initial t ∷ g.here) g.below (t ∷ ts) (canonical-is (t ∷ ts) ∙ text-same true initial t rest e) l
          (subst (λ n. ReadsAs (counts_of names sources) n (standing 0 initial) (seg initial t ∷ g.here) g.below (carrying initial (t ∷ ts))) e
          (subst (λ b. ReadsAs (counts_of names sources) t.dst_line (standing b initial) (seg initial t ∷ g.here) g.below (carrying initial (t ∷ ts))) (base-same initial t e) rm)))
    ]

-- ---- equal texts and equal bare lists
same-ok : (x y : List TokenRecord) → ◌≡◌ {A = Result (List TokenRecord) Error} (Ok x) (Ok y) → x ≡ y
same-ok x y e = cc

within-words : (ts : List TokenRecord) → AllByRecursion IsInBounds ts → AllByRecursion (IsWithin 4294967295 4294967295) ts
within-words [] w = tt
within-words (t ∷ ts) w = (record { in_bounds = w.0; source_id = w.0.source_id; name_id = name_beside-id t.source_id t.name_id w.0.name_id }, within-words ts w.1)

as_written-carried_token : (s : State) (t : TokenRecord) → token_as_written (carried_token s t) ≡ token_as_written t
as_written-carried_token s t =
    elim t.source_id as (λ o. t.source_id ≡ o → token_as_written (cond (is_some o) t (record t { src_line = s.src_line; src_col = s.src_col; name_id = None })) ≡ token_as_written t) [
      | Some i ↦ (λ e. refl)
      | None ↦ (λ e. rw e)
    ] refl

as_written-carried : (s : State) (ts : List TokenRecord) → as_written (carrying s ts) ≡ as_written ts
as_written-carried s [] = refl
as_written-carried s (t ∷ ts) = ap (λ u. u ∷ as_written (carrying (advanced s t) ts)) (as_written-carried_token s t) ∙ ap (λ us. token_as_written t ∷ us) (as_written-carried (advanced s t) ts)

pub as_written-of_carried : (ts : List TokenRecord) → as_written (carried ts) ≡ as_written ts
as_written-of_carried ts = ap as_written (carried-is [] ts) ∙ as_written-carried initial ts

pub as_written-from_canonical : (a b : List TokenRecord) → AllByRecursion IsInBounds a → AllByRecursion IsInBounds b → first_out_of_order a ≡ None → first_out_of_order b ≡ None → canonical a ≡ canonical b → as_written a ≡ as_written b
as_written-from_canonical a b w v o p e =
    let k : carried a ≡ carried b = same-ok (carried a) (carried b) (sym (round_trip 4294967295 4294967295 a (within-words a w) o) ∙ ap (λ x. reading x 4294967295 4294967295) e ∙ round_trip 4294967295 4294967295 b (within-words b v) p) in
    sym (as_written-of_carried a) ∙ ap as_written k ∙ as_written-of_carried b

token_text-as_written : (first : Bool) (s : State) (t : TokenRecord) → token_text first s (token_as_written t) ≡ token_text first s t
unfolding token_text separator
token_text-as_written first s t =
    elim t.source_id as (λ o. t.source_id ≡ o → token_text first s (cond (is_some o) t (record t { src_line = 0; src_col = 0; name_id = None })) ≡ token_text first s t) [
      | Some i ↦ (λ e. refl)
      | None ↦ (λ e. rw e)
    ] refl

advanced-as_written : (s : State) (t : TokenRecord) → advanced s (token_as_written t) ≡ advanced s t
advanced-as_written s t =
    elim t.source_id as (λ o. t.source_id ≡ o → advanced s (cond (is_some o) t (record t { src_line = 0; src_col = 0; name_id = None })) ≡ advanced s t) [
      | Some i ↦ (λ e. refl)
      | None ↦ (λ e. rw e)
    ] refl

text_from-as_written : (first : Bool) (s : State) (ts : List TokenRecord) → text_from first s (as_written ts) ≡ text_from first s ts
text_from-as_written first s [] = refl
text_from-as_written first s (t ∷ ts) =
    ap (λ xs. xs ++ text_from false (advanced s (token_as_written t)) (as_written ts)) (token_text-as_written first s t)
    ∙ ap (λ q. token_text first s t ++ text_from false q (as_written ts)) (advanced-as_written s t)
    ∙ ap (λ xs. token_text first s t ++ xs) (text_from-as_written false (advanced s t) ts)

pub canonical-from_bare : (a b : List TokenRecord) → as_written a ≡ as_written b → canonical a ≡ canonical b
canonical-from_bare a b e =
    canonical-is a ∙ sym (text_from-as_written true initial a) ∙ ap (text_from true initial) e ∙ text_from-as_written true initial b ∙ sym (canonical-is b)
