-- The tokens of a text are in order and in bounds, and its unmapped tokens have the source position of the state.
use Rattle.std.proofs.Common.{◌≡◌, ℕ, ◌+◌, ◌<◌, ◌≤◌, true, false, cond, ◌||◌, ◌==◌, nat_lt, nat_le}
use Rattle.std.proofs.Common.{List, [], ◌∷◌, ◌++◌, length, ℤ, pos, negsuc, min, arith, refl, sym}
use Rattle.std.proofs.Common.{ap, ◌∙◌, inl, inr, ◌⊎◌, Option, Some, None, Result, Ok, Err, subst}
use Rattle.std.specs.List.{AllByRecursion}
use Rattle.std.proofs.lemmas.Bool.{cases_lt, cases_eq}
use Rattle.std.proofs.lemmas.List.Elements.{All-from_recursion}
use Rattle.std.proofs.lemmas.Bool.Decides.{nat_tests}
use Rattle.oxc_sourcemap_tokens.specs.declared.errors.error.Error.{Error}
use Rattle.oxc_sourcemap_tokens.specs.Token.{TokenRecord, IsInBounds, AreInBounds}
use Rattle.oxc_sourcemap_mappings.specs.Parts.{Segment, lines, field}
use Rattle.oxc_sourcemap_mappings.specs.Places.{Place}
use Rattle.oxc_sourcemap_mappings.specs.Faults.{◌orelse◌, counts_of, range_fault, size_fault}
use Rattle.oxc_sourcemap_mappings.specs.Faults.{place_fault, is_id_below}
use Rattle.oxc_sourcemap_tokens.specs.Errors.{unless}
use Rattle.oxc_sourcemap_mappings.specs.Reading.{token_at, segment_result, gathered, onto, reading}
use Rattle.oxc_sourcemap_tokens.specs.State.{State, initial}
use Rattle.oxc_sourcemap_mappings.specs.Canonical.{carried_token, canonical}
use Rattle.oxc_sourcemap_tokens.specs.LineOrder.{back_from}
use Rattle.oxc_sourcemap_mappings.specs.Decoding.{moved, moved_by}
use Rattle.oxc_sourcemap_tokens.specs.Steps.{advanced}
use Rattle.oxc_sourcemap_tokens.proofs.InOrder.{back_from-all}
use Rattle.oxc_sourcemap_mappings.proofs.Length.{IsBounded, IsBounded-advanced}
use Rattle.oxc_sourcemap_mappings.proofs.Left.{along, along_lines, moved_by_all, reading-lines}
use Rattle.oxc_sourcemap_mappings.proofs.RoundTrip.{IsWithin, round_trip, carried-is, carrying}
use Rattle.oxc_sourcemap_mappings.proofs.RoundTrip.{IsBounded-initial}
use Rattle.oxc_sourcemap_mappings.proofs.Segments.{standing}

orelse-none : (a b : Option Error) → (a orelse b) ≡ None → (a ≡ None) × (b ≡ None)
orelse-none None b e = (refl, e)
orelse-none (Some d) b e = cc

-- a number in 0 to 4294967295
record InRange (z : ℤ) : Type 0 where
  value : ℕ
  is : z ≡ pos value
  small : value < 4294967296

in_range : (z : ℤ) → range_fault z ≡ None → InRange z
in_range (pos n) e =
    elim (cases_lt n 4294967296) [
      | inl l ↦ record { value = n; is = refl; small = l }
      | inr g ↦ (let t : nat_le n 4294967295 ≡ false = grind (arith, nat_tests) in let k = rw t at e in cc)
    ]
in_range (negsuc n) e = cc

record InCount (z : ℤ) (count : ℕ) : Type 0 where
  value : ℕ
  is : z ≡ pos value
  small : value < count

in_count : (z : ℤ) (count : ℕ) (d : Error) → cond (is_id_below z count) None (Some d) ≡ None → InCount z count
in_count (pos n) count d e =
    elim (cases_lt n count) [
      | inl l ↦ record { value = n; is = refl; small = l }
      | inr g ↦ (let t : nat_lt n count ≡ false = grind (arith, nat_tests) in let k = rw t at e in cc)
    ]
in_count (negsuc n) count d e = cc

sizes : (n : ℕ) → size_fault n ≡ None → (n ≡ 1) ⊎ ((n ≡ 4) ⊎ (n ≡ 5))
sizes n e =
    elim (cases_eq n 1) [
      | inl a ↦ inl a
      | inr x ↦ elim (cases_eq n 4) [
        | inl b ↦ inr (inl b)
        | inr y ↦ elim (cases_eq n 5) [
          | inl d ↦ inr (inr d)
          | inr z ↦ (let t : (n == 1 || (n == 4 || n == 5)) ≡ false = grind (arith, nat_tests) in let k = rw t at e in cc)
        ]
      ]
    ]

-- a token that is read after a state
pub record Follows (names sources line : ℕ) (s : State) (t : TokenRecord) (p : Place) : Type 0 where
  pub line_is : t.dst_line ≡ line
  pub within : IsWithin names sources t
  pub carries : carried_token s t ≡ t
  pub place_is : p ≡ standing t.dst_col (advanced s t)

abbrev place1 : ℤ → State → Place
place1 z s = record { dst_col = z; source_id = pos s.source_id; src_line = pos s.src_line; src_col = pos s.src_col; name_id = pos s.name_id }

abbrev place4 : ℤ → ℤ → ℤ → ℤ → State → Place
place4 z a l k s = record { dst_col = z; source_id = a; src_line = l; src_col = k; name_id = pos s.name_id }

abbrev place5 : ℤ → ℤ → ℤ → ℤ → ℤ → Place
place5 z a l k m = record { dst_col = z; source_id = a; src_line = l; src_col = k; name_id = m }

module _ (names sources line : ℕ) (s : State) (small : line < 4294967296) (h : IsBounded s) (reached : Place) where
  follows1 : (v : ℕ) → v < 4294967296 → Follows names sources line s (token_at line 1 (place1 (pos v) s)) (place1 (pos v) s)
  follows1 v l = record {
    line_is = refl;
    within = record {
      in_bounds = record { dst_line = small; dst_col = l; src_line = h.src_line; src_col = h.src_col; source_id = tt; name_id = tt };
      source_id = tt;
      name_id = tt;
    };
    carries = refl;
    place_is = refl;
  }

  follows4 : (v a l k : ℕ) → v < 4294967296 → a < min sources 4294967295 → l < 4294967296 → k < 4294967296 → Follows names sources line s (token_at line 4 (place4 (pos v) (pos a) (pos l) (pos k) s)) (place4 (pos v) (pos a) (pos l) (pos k) s)
  follows4 v a l k x y z w = record {
    line_is = refl;
    within = record {
      in_bounds = record { dst_line = small; dst_col = x; src_line = z; src_col = w; source_id = omega arith; name_id = tt };
      source_id = omega arith;
      name_id = tt;
    };
    carries = refl;
    place_is = refl;
  }

  follows5 : (v a l k n : ℕ) → v < 4294967296 → a < min sources 4294967295 → l < 4294967296 → k < 4294967296 → n < min names 4294967295 → Follows names sources line s (token_at line 5 (place5 (pos v) (pos a) (pos l) (pos k) (pos n))) (place5 (pos v) (pos a) (pos l) (pos k) (pos n))
  follows5 v a l k n x y z w u = record {
    line_is = refl;
    within = record {
      in_bounds = record { dst_line = small; dst_col = x; src_line = z; src_col = w; source_id = omega arith; name_id = omega arith };
      source_id = omega arith;
      name_id = omega arith;
    };
    carries = refl;
    place_is = refl;
  }

  reads1 : (z : ℤ) → place_fault (counts_of names sources) reached 1 (place1 z s) ≡ None → Follows names sources line s (token_at line 1 (place1 z s)) (place1 z s)
  unfolding place_fault
  reads1 z e =
      let r = in_range z (orelse-none _ _ (orelse-none _ _ (orelse-none _ _ e).0).0).0 in
      subst (λ y. Follows names sources line s (token_at line 1 (place1 y s)) (place1 y s)) (sym r.is) (follows1 r.value r.small)

  from4 : (z a l k : ℤ) (z' a' l' k' : ℕ) → z ≡ pos z' → a ≡ pos a' → l ≡ pos l' → k ≡ pos k' → z' < 4294967296 → a' < min sources 4294967295 → l' < 4294967296 → k' < 4294967296 → Follows names sources line s (token_at line 4 (place4 z a l k s)) (place4 z a l k s)
  from4 z a l k z' a' l' k' e1 e2 e3 e4 b1 b2 b3 b4 = rw (e1, e2, e3, e4) (follows4 z' a' l' k' b1 b2 b3 b4)

  from5 : (z a l k m : ℤ) (z' a' l' k' m' : ℕ) → z ≡ pos z' → a ≡ pos a' → l ≡ pos l' → k ≡ pos k' → m ≡ pos m' → z' < 4294967296 → a' < min sources 4294967295 → l' < 4294967296 → k' < 4294967296 → m' < min names 4294967295 → Follows names sources line s (token_at line 5 (place5 z a l k m)) (place5 z a l k m)
  from5 z a l k m z' a' l' k' m' e1 e2 e3 e4 e5 b1 b2 b3 b4 b5 = rw (e1, e2, e3, e4, e5) (follows5 z' a' l' k' m' b1 b2 b3 b4 b5)

  reads4 : (z a l k : ℤ) → place_fault (counts_of names sources) reached 4 (place4 z a l k s) ≡ None → Follows names sources line s (token_at line 4 (place4 z a l k s)) (place4 z a l k s)
  unfolding place_fault
  reads4 z a l k e =
      let front = orelse-none _ _ (orelse-none _ _ e).0 in
      let src = orelse-none _ _ front.1 in
      let two = orelse-none _ _ src.0 in
      let r = in_range z (orelse-none _ _ front.0).0 in
      let q = in_count a (min sources 4294967295) _ two.0 in
      let u = in_range l two.1 in
      let v = in_range k src.1 in
      from4 z a l k r.value q.value u.value v.value r.is q.is u.is v.is r.small q.small u.small v.small

  reads5 : (z a l k m : ℤ) → place_fault (counts_of names sources) reached 5 (place5 z a l k m) ≡ None → Follows names sources line s (token_at line 5 (place5 z a l k m)) (place5 z a l k m)
  unfolding place_fault
  reads5 z a l k m e =
      let whole = orelse-none _ _ e in
      let front = orelse-none _ _ whole.0 in
      let src = orelse-none _ _ front.1 in
      let two = orelse-none _ _ src.0 in
      let r = in_range z (orelse-none _ _ front.0).0 in
      let q = in_count a (min sources 4294967295) _ two.0 in
      let u = in_range l two.1 in
      let v = in_range k src.1 in
      let n = in_count m (min names 4294967295) _ whole.1 in
      from5 z a l k m r.value q.value u.value v.value n.value r.is q.is u.is v.is n.is r.small q.small u.small v.small n.small

  size-none : (n : ℕ) (p : Place) → place_fault (counts_of names sources) reached n p ≡ None → size_fault n ≡ None
  unfolding place_fault
  size-none n p e = (orelse-none _ _ (orelse-none _ _ (orelse-none _ _ e).0).0).1

  pub follows : (column n : ℕ) (f : ℕ → ℤ) → place_fault (counts_of names sources) reached n (moved (standing column s) n f) ≡ None → Follows names sources line s (token_at line n (moved (standing column s) n f)) (moved (standing column s) n f)
  follows column n f e =
      elim (sizes n (size-none n _ e)) [
        | inl a ↦ subst (λ k. place_fault (counts_of names sources) reached k (moved (standing column s) k f) ≡ None → Follows names sources line s (token_at line k (moved (standing column s) k f)) (moved (standing column s) k f)) (sym a) (reads1 _) e
        | inr b ↦ elim b [
          | inl a ↦ subst (λ k. place_fault (counts_of names sources) reached k (moved (standing column s) k f) ≡ None → Follows names sources line s (token_at line k (moved (standing column s) k f)) (moved (standing column s) k f)) (sym a) (reads4 _ _ _ _) e
          | inr a ↦ subst (λ k. place_fault (counts_of names sources) reached k (moved (standing column s) k f) ≡ None → Follows names sources line s (token_at line k (moved (standing column s) k f)) (moved (standing column s) k f)) (sym a) (reads5 _ _ _ _ _) e
        ]
      ]

ok-token : (o : Option Error) (t u : TokenRecord) → ◌≡◌ {A = Result TokenRecord Error} (unless o (Ok t)) (Ok u) → (o ≡ None) × (t ≡ u)
ok-token None t u e = (refl, cc)
ok-token (Some d) t u e = cc

-- the token of a segment that is read after a state
pub segment_result-follows : (names sources line column : ℕ) (s : State) (sg : Segment) (t : TokenRecord) → line < 4294967296 → IsBounded s
    → segment_result (counts_of names sources) line (standing column s) sg (moved_by (standing column s) sg) ≡ Ok t → Follows names sources line s t (moved_by (standing column s) sg)
segment_result-follows names sources line column s sg t small h e =
    let k = ok-token _ _ t e in
    let f = orelse-none _ _ k.0 in
    subst (λ u. Follows names sources line s u (moved_by (standing column s) sg)) k.1 (follows names sources line s small h (standing column s) column (length sg) (λ i. field i sg) f.1)

-- ---- whole lists
pub record Reads (names sources : ℕ) (s : State) (ts : List TokenRecord) : Type 0 where
  pub order : (i : ℕ) → back_from s.dst_line i ts ≡ None
  pub within : AllByRecursion (IsWithin names sources) ts
  pub carries : carrying s ts ≡ ts

record Head (v : Result TokenRecord Error) (xs : List (Result TokenRecord Error)) (ts : List TokenRecord) : Type 0 where
  first : TokenRecord
  others : List TokenRecord
  first_is : v ≡ Ok first
  others_are : gathered xs ≡ Ok others
  whole : ts ≡ first ∷ others

onto-head : (t : TokenRecord) (r : Result (List TokenRecord) Error) (xs : List (Result TokenRecord Error)) (ts : List TokenRecord) → gathered xs ≡ r → onto t r ≡ Ok ts → Head (Ok t) xs ts
onto-head t (Ok us) xs ts e o = record { first = t; others = us; first_is = refl; others_are = e; whole = cc }
onto-head t (Err d) xs ts e o = cc

head : (v : Result TokenRecord Error) (xs : List (Result TokenRecord Error)) (ts : List TokenRecord) → gathered (v ∷ xs) ≡ Ok ts → Head v xs ts
head (Ok t) xs ts e = onto-head t (gathered xs) xs ts refl e
head (Err d) xs ts e = cc

reads-cons : (names sources line : ℕ) (s : State) (t : TokenRecord) (ts : List TokenRecord) (p : Place) → s.dst_line ≤ line → Follows names sources line s t p → Reads names sources (advanced s t) ts → Reads names sources s (t ∷ ts)
reads-cons names sources line s t ts p l f r =
    let b : nat_lt t.dst_line s.dst_line ≡ false = (let e = f.line_is in grind (arith, nat_tests)) in
    record {
      order = λ i. rw b (r.order (i + 1));
      within = (f.within, r.within);
      carries = ap (λ u. u ∷ carrying (advanced s t) ts) f.carries ∙ ap (λ us. t ∷ us) r.carries;
    }

follow_line : (names sources line : ℕ) (ss : List Segment) (column : ℕ) (s : State) (ts : List TokenRecord) (rest : Place → List (Result TokenRecord Error)) → line < 4294967296 → IsBounded s → s.dst_line ≤ line
    → gathered (along (counts_of names sources) line (standing column s) ss ++ rest (moved_by_all (standing column s) ss)) ≡ Ok ts
    → ((column' : ℕ) (s' : State) (ts' : List TokenRecord) → IsBounded s' → s'.dst_line ≤ line → gathered (rest (standing column' s')) ≡ Ok ts' → Reads names sources s' ts')
    → Reads names sources s ts
follow_line names sources line [] column s ts rest small h l e k = k column s ts h l e
follow_line names sources line (sg ∷ more) column s ts rest small h l e k =
    let c = counts_of names sources in
    let d = head _ _ ts e in
    let f : Follows names sources line s d.first (moved_by (standing column s) sg) = segment_result-follows names sources line column s sg d.first small h d.first_is in
    let g : gathered (along c line (standing d.first.dst_col (advanced s d.first)) more ++ rest (moved_by_all (standing d.first.dst_col (advanced s d.first)) more)) ≡ Ok d.others =
    subst (λ q. gathered (along c line q more ++ rest (moved_by_all q more)) ≡ Ok d.others) f.place_is d.others_are in
    let w = f.line_is in
    let r = follow_line names sources line more d.first.dst_col (advanced s d.first) d.others rest small (IsBounded-advanced s d.first h f.within.in_bounds) (omega arith) g k in
    subst (λ us. Reads names sources s us) (sym d.whole) (reads-cons names sources line s d.first d.others (moved_by (standing column s) sg) l f r)

follow_lines : (names sources : ℕ) (ls : List (List Segment)) (line column : ℕ) (s : State) (ts : List TokenRecord) → IsBounded s → s.dst_line ≤ line → gathered (along_lines (counts_of names sources) line (standing column s) ls) ≡ Ok ts → Reads names sources s ts
follow_lines names sources [] line column s ts h l e =
    let n : ts ≡ [] = cc in
    subst (λ us. Reads names sources s us) (sym n) (record { order = λ i. refl; within = tt; carries = refl })
follow_lines names sources (here ∷ ls) line column s ts h l e =
    let c = counts_of names sources in
    elim (cases_lt line 4294967296) [
      | inl m ↦ (let b : nat_lt line 4294967296 ≡ true = grind (arith, nat_tests) in
          let g : gathered (along c line (standing 0 s) here ++ along_lines c (line + 1) (moved_by_all (standing 0 s) here) ls) ≡ Ok ts = rw b at e in
          follow_line names sources line here 0 s ts (λ q. along_lines c (line + 1) q ls) m h l g
          (λ column' s' ts' h' l' e'. follow_lines names sources ls (line + 1) column' s' ts' h' (omega arith) e'))
      | inr m ↦ (let b : nat_lt line 4294967296 ≡ false = grind (arith, nat_tests) in let k = rw b at e in cc)
    ]

pub reads_of : (text : List ℕ) (names sources : ℕ) (ts : List TokenRecord) → reading text names sources ≡ Ok ts → Reads names sources initial ts
reads_of text names sources ts e =
    follow_lines names sources (lines text) 0 0 initial ts IsBounded-initial (omega arith) (sym (reading-lines text names sources) ∙ e)

-- reading, writing and reading again
pub read_again : (text : List ℕ) (names sources : ℕ) (ts : List TokenRecord) → reading text names sources ≡ Ok ts → reading (canonical ts) names sources ≡ Ok ts
read_again text names sources ts e =
    let r = reads_of text names sources ts e in
    round_trip names sources ts r.within (sym (back_from-all ts) ∙ r.order 0) ∙ ap Ok (carried-is [] ts ∙ r.carries)

each-within : (names sources : ℕ) (ts : List TokenRecord) → AllByRecursion (IsWithin names sources) ts → AllByRecursion IsInBounds ts
each-within names sources [] w = tt
each-within names sources (t ∷ ts) w = (w.0.in_bounds, each-within names sources ts w.1)

-- what is within counts is in bounds
pub bounds_within : (names sources : ℕ) (ts : List TokenRecord) → AllByRecursion (IsWithin names sources) ts → AreInBounds ts
bounds_within names sources ts w = All-from_recursion IsInBounds ts (each-within names sources ts w)
