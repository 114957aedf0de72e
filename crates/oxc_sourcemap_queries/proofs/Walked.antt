-- What lookups find from a place up to the next where another token may be found, and where the traces of two maps are the same.
use Rattle.std.proofs.Common.{◌≡◌, ◌≢◌, refl, sym, ap, subst, ◌∙◌, ℕ, zero, suc, ◌+◌, ◌<◌, ◌≤◌}
use Rattle.std.proofs.Common.{◌==◌, nat_lt, min, Bool, true, false, List, [], ◌∷◌, length, get_or}
use Rattle.std.proofs.Common.{slice_get, Option, Some, None, option_map, if◌then◌else◌, inl, inr}
use Rattle.std.proofs.Common.{IfSome, arith}
use Rattle.std.proofs.lemmas.Bool.{cases_lt}
use Rattle.std.proofs.lemmas.Bool.Decides.{nat_tests}
use Rattle.std.specs.Option.{option_and_then}
use Rattle.oxc_sourcemap_tokens.specs.Token.{TokenRecord, AreInBounds}
use Rattle.oxc_sourcemap_parts.specs.Record.{MapRecord}
use Rattle.oxc_sourcemap_parts.specs.DecodedMap.{decoded_map_of}
use Rattle.oxc_sourcemap_parts.specs.Sorted.{are_tokens_sorted}
use Rattle.oxc_sourcemap_lookup.specs.Trace.{trace, original_in}
use Rattle.oxc_sourcemap_lookup.proofs.Numbers.{token_of-index_for}
use Rattle.oxc_sourcemap_lookup.proofs.Traces.{token_traced}
use Rattle.oxc_sourcemap_queries.specs.RangePieces.{place, line_of, column_of, index_at_position}
use Rattle.oxc_sourcemap_queries.specs.Cuts.{token_position, holder, holder_before, passed_count}
use Rattle.oxc_sourcemap_queries.specs.Cuts.{IsStart, no_token}
use Rattle.oxc_sourcemap_queries.proofs.Found.{found-is}
use Rattle.oxc_sourcemap_queries.proofs.Runs.{back}
use Rattle.oxc_sourcemap_queries.proofs.Cutting.{after-within, after-past, not_after, starts-at}
use Rattle.oxc_sourcemap_queries.proofs.Cutting.{found-here, found-before, no-hit, off-line}
use Rattle.oxc_sourcemap_queries.proofs.Cutting.{same-before}
use Rattle.oxc_sourcemap_queries.specs.Differences.{HaveSameTraceAt, HaveSameTraceEverywhere}
use Rattle.oxc_sourcemap_queries.specs.Differences.{IsFirstDifference}
use Rattle.oxc_sourcemap_queries.specs.Walk.{position_after, change_after, step_at, earlier}
use Rattle.oxc_sourcemap_queries.specs.declared.differ.walk.Step.{Step}
use Rattle.oxc_sourcemap_queries.specs.Originals.{found_with}

-- ---- places that may be there
-- a place lies before another, if there is that, or is not past it
abbrev pub LiesBefore : ℕ → Option ℕ → Type 0
LiesBefore q change = IfSome change (λ c. q < c)

abbrev pub IsUpTo : ℕ → Option ℕ → Type 0
IsUpTo q change = IfSome change (λ c. q ≤ c)

weaker : (q : ℕ) (o : Option ℕ) → LiesBefore q o → IsUpTo q o
weaker q None h = tt
weaker q (Some c) h = omega (arith, h)

stronger : (q : ℕ) (o : Option ℕ) → LiesBefore q o → IsUpTo (q + 1) o
stronger q None h = tt
stronger q (Some c) h = omega (arith, h)

pub before-first : (q : ℕ) (o p : Option ℕ) → LiesBefore q (earlier o p) → LiesBefore q o
before-first q None p h = tt
before-first q (Some c) None h = h
before-first q (Some c) (Some e) h = omega (arith, h)

pub before-second : (q : ℕ) (o p : Option ℕ) → LiesBefore q (earlier o p) → LiesBefore q p
before-second q o None h = tt
before-second q None (Some e) h = h
before-second q (Some c) (Some e) h = omega (arith, h)

pub up_to-first : (q : ℕ) (o p : Option ℕ) → earlier o p ≡ Some q → IsUpTo q o
up_to-first q None p e = tt
up_to-first q (Some c) None e = (let same : c ≡ q = cc (e) in omega (arith, same))
up_to-first q (Some c) (Some f) e = (let same : min c f ≡ q = cc (e) in omega (arith, same))

pub up_to-second : (q : ℕ) (o p : Option ℕ) → earlier o p ≡ Some q → IsUpTo q p
up_to-second q o None e = tt
up_to-second q None (Some f) e = (let same : f ≡ q = cc (e) in omega (arith, same))
up_to-second q (Some c) (Some f) e = (let same : min c f ≡ q = cc (e) in omega (arith, same))

pub later-of : (p q : ℕ) (o r : Option ℕ) → LiesBefore p o → LiesBefore p r → earlier o r ≡ Some q → p < q
later-of p q None None h k e = absurd (cc (e))
later-of p q None (Some f) h k e = (let same : f ≡ q = cc (e) in omega (arith, same, k))
later-of p q (Some c) None h k e = (let same : c ≡ q = cc (e) in omega (arith, same, h))
later-of p q (Some c) (Some f) h k e = (let same : min c f ≡ q = cc (e) in omega (arith, same, h, k))

get-some : (ts : List TokenRecord) (i : ℕ) (d : TokenRecord) → i < length ts → slice_get ts i ≡ Some (get_or ts i d)
get-some [] i d h = absurd (omega (arith, h))
get-some (t ∷ ts) zero d h = refl
get-some (t ∷ ts) (suc i) d h = get-some ts i d (omega (arith, h))

get-none : (ts : List TokenRecord) (i : ℕ) → length ts ≤ i → slice_get ts i ≡ None
get-none [] i h = refl
get-none (t ∷ ts) zero h = absurd (omega (arith, h))
get-none (t ∷ ts) (suc i) h = get-none ts i (omega (arith, h))

-- ---- one list of tokens
after_later : (p : ℕ) → LiesBefore p (position_after p)
after_later p = elim (nat_lt p 18446744073709551615) as (λ b. LiesBefore p (if b then Some (p + 1) else None)) [ true ↦ omega arith | false ↦ tt ]

-- places that may be there are numbers of 64 bits
abbrev pub Fits : Option ℕ → Type 0
Fits change = IfSome change (λ c. c ≤ 18446744073709551615)

after_fits : (p : ℕ) → Fits (position_after p)
after_fits p = elim (nat_lt p 18446744073709551615) as (λ b. nat_lt p 18446744073709551615 ≡ b → Fits (if b then Some (p + 1) else None)) [
  | true ↦ (λ e. let lt : p < 18446744073709551615 = grind (arith, nat_tests, e) in omega (arith, lt))
  | false ↦ (λ e. tt)
] refl

place-fits : (ts : List TokenRecord) (i : ℕ) → AreInBounds ts → i < length ts → token_position (get_or ts i no_token) ≤ 18446744073709551615
place-fits ts i bounds h = (let inside = bounds i no_token h in let line = inside.dst_line in let col = inside.dst_col in omega (arith, line, col))

pub change-fits : (ts : List TokenRecord) (next p : ℕ) → AreInBounds ts → Fits (change_after ts next p)
change-fits ts next p bounds =
    let past = next + passed_count ts next p in
    elim (nat_lt 1 (passed_count ts next p)) as (λ b. Fits (if b then position_after p else option_map token_position (slice_get ts past))) [
      | true ↦ after_fits p
      | false ↦ elim (cases_lt past (length ts)) [
        | inl lt ↦ subst (λ o. Fits (option_map token_position o)) (sym (get-some ts past no_token lt)) (place-fits ts past bounds lt)
        | inr ge ↦ subst (λ o. Fits (option_map token_position o)) (sym (get-none ts past ge)) tt
      ]
    ]

pub fits-of : (q : ℕ) (o r : Option ℕ) → Fits o → Fits r → earlier o r ≡ Some q → q < 18446744073709551616
fits-of q None None h k e = absurd (cc (e))
fits-of q None (Some f) h k e = (let same : f ≡ q = cc (e) in omega (arith, same, k))
fits-of q (Some c) None h k e = (let same : c ≡ q = cc (e) in omega (arith, same, h))
fits-of q (Some c) (Some f) h k e = (let same : min c f ≡ q = cc (e) in omega (arith, same, h, k))

-- the change lies after the place
pub change-later : (ts : List TokenRecord) (next p : ℕ) → next ≤ length ts → LiesBefore p (change_after ts next p)
change-later ts next p within =
    let past = next + passed_count ts next p in
    elim (nat_lt 1 (passed_count ts next p)) as (λ b. LiesBefore p (if b then position_after p else option_map token_position (slice_get ts past))) [
      | true ↦ after_later p
      | false ↦ elim (cases_lt past (length ts)) [
        | inl lt ↦ subst (λ o. LiesBefore p (option_map token_position o)) (sym (get-some ts past no_token lt)) (after-past ts next p within lt)
        | inr ge ↦ subst (λ o. LiesBefore p (option_map token_position o)) (sym (get-none ts past ge)) tt
      ]
    ]

module _ (ts : List TokenRecord) (sorted : are_tokens_sorted ts ≡ true) (bounds : AreInBounds ts) (next p : ℕ) (start : IsStart ts p next) where
  abbrev total : ℕ
  total = passed_count ts next p

  abbrev past : ℕ
  past = next + total

  abbrev change : Option ℕ
  change = change_after ts next p

  abbrev at : ℕ → TokenRecord
  at i = get_or ts i no_token

  fits : (i : ℕ) → i < length ts → token_position (at i) ≤ 18446744073709551615
  fits i h = place-fits ts i bounds h

  limit-several : (q : ℕ) → past < length ts → IsUpTo q (position_after p) → q ≤ token_position (at past)
  limit-several q lt = elim (nat_lt p 18446744073709551615) as (λ b. nat_lt p 18446744073709551615 ≡ b → IsUpTo q (if b then Some (p + 1) else None) → q ≤ token_position (at past)) [
    | true ↦ (λ e h. omega (arith, h, after-past ts next p start.within lt))
    | false ↦ (λ e h. let le : 18446744073709551615 ≤ p = grind (arith, nat_tests, e) in absurd (omega (arith, le, after-past ts next p start.within lt, fits past lt)))
  ] refl

  -- the next token does not lie before the change
  limit : (q : ℕ) → IsUpTo q change → past < length ts → q ≤ token_position (at past)
  limit q high lt = elim (nat_lt 1 total) as (λ b. IsUpTo q (if b then position_after p else option_map token_position (slice_get ts past)) → q ≤ token_position (at past)) [
    | true ↦ limit-several q lt
    | false ↦ (λ h. subst (λ o. IsUpTo q (option_map token_position o)) (get-some ts past no_token lt) h)
  ] high

  -- how many tokens lie before a place up to the change
  pub starts : (q : ℕ) → p < q → IsUpTo q change → IsStart ts q past
  starts q low high = starts-at ts sorted bounds next p (p + 1) start (omega arith) q low (limit q high)

  before-change : (q : ℕ) → p < q → LiesBefore q change → index_at_position ts q ≡ holder_before ts past q
  before-change q low high =
      found-is ts sorted bounds q past (starts q low (weaker q change high))
      ∙ no-hit ts past q (λ lt e. omega (arith, e, limit (q + 1) (stronger q change high) lt))

  few-by : (c : Bool) (q : ℕ) → nat_lt 1 total ≡ c → p < q → LiesBefore q (if c then position_after p else option_map token_position (slice_get ts past)) → line_of q ≡ line_of p → total ≤ 1
  few-by false q e low high line = grind (arith, nat_tests, e)
  few-by true q e low high line =
      let two : 1 < total = grind (arith, nat_tests, e) in
      let inside : next < length ts = omega (arith, two, after-within ts next p start.within) in
      let most : p ≤ 18446744073709551615 = omega (arith, start.others next (omega arith) inside, fits next inside) in
      elim (nat_lt p 18446744073709551615) as (λ b. nat_lt p 18446744073709551615 ≡ b → LiesBefore q (if b then Some (p + 1) else None) → total ≤ 1) [
        | true ↦ (λ f h. absurd (omega (arith, h, low)))
        | false ↦ (λ f h. let le : 18446744073709551615 ≤ p = grind (arith, nat_tests, f) in absurd (omega (arith, le, most, low, line)))
      ] refl high

  -- up to the change, the same is found on the line of the place
  pub same-line : (q : ℕ) → p < q → LiesBefore q change → line_of q ≡ line_of p → index_at_position ts q ≡ index_at_position ts p
  same-line q low high line =
      let few = few-by (nat_lt 1 total) q refl low high line in
      before-change q low high
      ∙ same-before ts past p q (after-within ts next p start.within) (not_after ts sorted bounds next p (p + 1) start (omega arith)) (omega (arith, low)) (λ _. omega (arith, line, back q))
      ∙ sym (found-before ts sorted bounds next p (p + 1) start (omega arith) total refl few)
      ∙ sym (found-here ts sorted bounds next p (p + 1) start (omega arith))

  none-before : (q : ℕ) → p < q → line_of q ≢ line_of p → (n : ℕ) → n ≡ past → holder_before ts n q ≡ None
  none-before q low line zero e = refl
  none-before q low line (suc i) e =
      let inside : i < length ts = omega (arith, e, after-within ts next p start.within) in
      let before = not_after ts sorted bounds next p (p + 1) start (omega arith) i (omega (arith, e)) in
      off-line ts i q inside (λ same. line (omega (arith, same, before, low)))

  -- and nothing on later lines
  pub other-line : (q : ℕ) → p < q → LiesBefore q change → line_of q ≢ line_of p → index_at_position ts q ≡ None
  other-line q low high line = before-change q low high ∙ none-before q low line past refl

-- ---- traces
-- what is read and looked up in tokens that are those of a map is what is found in the map
pub found-as : (r : MapRecord) (ts : List TokenRecord) (i p : ℕ) (o : Option ℕ) (t : Option TokenRecord) → ts ≡ r.tokens → o ≡ holder ts i p → t ≡ option_and_then (slice_get ts) o
    → found_with r t ≡ found_with r (option_and_then (slice_get r.tokens) (holder r.tokens i p))
found-as r ts i p o t e f g = ap (found_with r) (g ∙ ap (option_and_then (slice_get ts)) f ∙ ap (λ us. option_and_then (slice_get us) (holder us i p)) e)

-- steps in tokens that are others, too
pub step-passed : (ts us : List TokenRecord) (i p : ℕ) (s : Step) → ts ≡ us → s ≡ step_at ts i p → s.passed ≡ i + passed_count us i p
step-passed ts us i p s e f = ap (λ (s : Step). s.passed) (f ∙ ap (λ us. step_at us i p) e)

step-change : (ts us : List TokenRecord) (i p : ℕ) (s : Step) → ts ≡ us → s ≡ step_at ts i p → s.change ≡ change_after us i p
step-change ts us i p s e f = ap (λ (s : Step). s.change) (f ∙ ap (λ us. step_at us i p) e)

pub step-changes : (ts us a b : List TokenRecord) (i j p : ℕ) (s t : Step) → ts ≡ a → us ≡ b → s ≡ step_at ts i p → t ≡ step_at us j p
    → earlier s.change t.change ≡ earlier (change_after a i p) (change_after b j p)
step-changes ts us a b i j p s t e f g h =
    ap (λ o. earlier o t.change) (step-change ts a i p s e g) ∙ ap (λ o. earlier (change_after a i p) o) (step-change us b j p t f h)

-- the trace at a place, by what is found there
pub traced : (r : MapRecord) (q : ℕ) → found_with r (option_and_then (slice_get r.tokens) (index_at_position r.tokens q)) ≡ trace (decoded_map_of r) (line_of q) (column_of q)
traced r q = ap (option_map (original_in r)) (token_of-index_for r.tokens (line_of q) (column_of q)) ∙ token_traced r (line_of q) (column_of q)

traced-as : (r : MapRecord) (q p : ℕ) → index_at_position r.tokens q ≡ index_at_position r.tokens p → trace (decoded_map_of r) (line_of q) (column_of q) ≡ trace (decoded_map_of r) (line_of p) (column_of p)
traced-as r q p e = sym (traced r q) ∙ ap (λ i. found_with r (option_and_then (slice_get r.tokens) i)) e ∙ traced r p

traced-none : (r : MapRecord) (q : ℕ) → index_at_position r.tokens q ≡ None → trace (decoded_map_of r) (line_of q) (column_of q) ≡ None
traced-none r q e = sym (traced r q) ∙ ap (λ i. found_with r (option_and_then (slice_get r.tokens) i)) e

module _ (a b : MapRecord) where
  -- the two maps have the same trace at a place
  abbrev pub SameAt : ℕ → Type 0
  SameAt q = HaveSameTraceAt a b (line_of q) (column_of q)

  -- how far two maps are walked: to a place, before which their traces are the same; of the tokens of each so many lie before it
  pub record IsWalked (p i j : ℕ) : Type 0 where
    pub first : IsStart a.tokens p i
    pub second : IsStart b.tokens p j
    pub same : (q : ℕ) → q < p → SameAt q

  -- the position of the place of a position
  at-place : (line col : ℕ) → col < 4294967296 → SameAt (place line col) → HaveSameTraceAt a b line col
  at-place line col fits h =
      let same_line : line_of (place line col) ≡ line = omega (arith, fits) in
      let same_col : column_of (place line col) ≡ col = omega (arith, fits) in
      subst (λ n. HaveSameTraceAt a b n col) same_line (subst (λ c. HaveSameTraceAt a b (line_of (place line col)) c) same_col h)

  module _ (sorted_a : are_tokens_sorted a.tokens ≡ true) (sorted_b : are_tokens_sorted b.tokens ≡ true) (bounds_a : AreInBounds a.tokens) (bounds_b : AreInBounds b.tokens)
      (p i j : ℕ) (walked : IsWalked p i j) where
    abbrev change_a : Option ℕ
    change_a = change_after a.tokens i p

    abbrev change_b : Option ℕ
    change_b = change_after b.tokens j p

    -- what the walk compares at a place are the traces there
    pub compared : (found_with a (option_and_then (slice_get a.tokens) (holder a.tokens i p)) ≡ found_with b (option_and_then (slice_get b.tokens) (holder b.tokens j p)) → SameAt p)
        × (SameAt p → found_with a (option_and_then (slice_get a.tokens) (holder a.tokens i p)) ≡ found_with b (option_and_then (slice_get b.tokens) (holder b.tokens j p)))
    compared =
        let of_a = ap (λ k. found_with a (option_and_then (slice_get a.tokens) k)) (sym (found-is a.tokens sorted_a bounds_a p i walked.first)) ∙ traced a p in
        let of_b = ap (λ k. found_with b (option_and_then (slice_get b.tokens) k)) (sym (found-is b.tokens sorted_b bounds_b p j walked.second)) ∙ traced b p in
        ((λ e. sym of_a ∙ e ∙ of_b), (λ e. of_a ∙ e ∙ sym of_b))

    pub compared-by : (t u : Option TokenRecord) → found_with a t ≡ found_with a (option_and_then (slice_get a.tokens) (holder a.tokens i p))
        → found_with b u ≡ found_with b (option_and_then (slice_get b.tokens) (holder b.tokens j p))
        → (found_with a t ≡ found_with b u → SameAt p) × (SameAt p → found_with a t ≡ found_with b u)
    compared-by t u e f = ((λ h. compared.0 (sym e ∙ h ∙ f)), (λ h. e ∙ compared.1 h ∙ sym f))

    -- up to the earlier change, the traces are the same if they are at the place
    between : SameAt p → (q : ℕ) → p < q → LiesBefore q (earlier change_a change_b) → SameAt q
    between here q low high =
        let high_a = before-first q change_a change_b high in
        let high_b = before-second q change_a change_b high in
        elim (line_of q == line_of p) as (λ c. (line_of q == line_of p) ≡ c → SameAt q) [
          | true ↦ (λ c.
              let line : line_of q ≡ line_of p = grind (arith, nat_tests, c) in
              traced-as a q p (same-line a.tokens sorted_a bounds_a i p walked.first q low high_a line) ∙ here
              ∙ sym (traced-as b q p (same-line b.tokens sorted_b bounds_b j p walked.second q low high_b line)))
          | false ↦ (λ c.
              let line : line_of q ≢ line_of p = grind (arith, nat_tests, c) in
              traced-none a q (other-line a.tokens sorted_a bounds_a i p walked.first q low high_a line)
              ∙ sym (traced-none b q (other-line b.tokens sorted_b bounds_b j p walked.second q low high_b line)))
        ] refl

    through : SameAt p → (q : ℕ) → LiesBefore q (earlier change_a change_b) → SameAt q
    through here q high = elim (cases_lt q p) [
      | inl lt ↦ walked.same q lt
      | inr ge ↦ elim (cases_lt p q) [
        | inl lt ↦ between here q lt high
        | inr le ↦ (let same : p ≡ q = omega (arith, ge, le) in subst SameAt same here)
      ]
    ]

    -- the walk goes on at the earlier change
    pub walked-on : SameAt p → (q : ℕ) → earlier change_a change_b ≡ Some q → IsWalked q (i + passed_count a.tokens i p) (j + passed_count b.tokens j p)
    walked-on here q e =
        let low = later-of p q change_a change_b (change-later a.tokens i p walked.first.within) (change-later b.tokens j p walked.second.within) e in record {
          first = starts a.tokens sorted_a bounds_a i p walked.first q low (up_to-first q change_a change_b e);
          second = starts b.tokens sorted_b bounds_b j p walked.second q low (up_to-second q change_a change_b e);
          same = λ o lt. through here o (subst (λ c. LiesBefore o c) (sym e) lt);
        }

    -- without a change, the traces are the same everywhere
    pub walked-off : SameAt p → earlier change_a change_b ≡ None → HaveSameTraceEverywhere a b
    walked-off here e = λ line col fits. at-place line col fits (through here (place line col) (subst (λ c. LiesBefore (place line col) c) (sym e) tt))

    -- where the traces are not the same at the place, they are not the same everywhere, and differ there first
    pub differ-there : (SameAt p → ⊥) → HaveSameTraceEverywhere a b → ⊥
    differ-there other same = other (same (line_of p) (column_of p) (omega arith))

    pub differ-first : (SameAt p → ⊥) → IsFirstDifference a b (record { line = line_of p; column = column_of p })
    differ-first other = record {
      differ = other;
      same_before = λ line col fits before.
          let less : place line col < p = elim before [ inl h ↦ omega (arith, h, fits, back p) | inr h ↦ omega (arith, h.0, h.1, back p) ] in
          at-place line col fits (walked.same (place line col) less);
    }

  -- before the first place there is none
  pub walked-none : IsWalked 0 0 0
  walked-none = record {
    first = record { within = omega arith; before = λ k h. absurd (omega (arith, h)); others = λ k h l. omega arith };
    second = record { within = omega arith; before = λ k h. absurd (omega (arith, h)); others = λ k h l. omega arith };
    same = λ q h. absurd (omega (arith, h));
  }
