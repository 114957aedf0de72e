-- A tree stays nested as it grows.
use Rattle.std.proofs.Common.{◌⊎◌, ◌≡◌, ◌≢◌, ℕ, ◌+◌, ◌<◌, ◌≤◌, List, [], ◌∷◌, ◌++◌, length, set}
use Rattle.std.proofs.Common.{Some, None, refl, sym, ap, ◌∙◌, arith, inl, inr}
use Rattle.std.proofs.lemmas.Bool.{cases_lt, cases_eq}
use Rattle.std.proofs.lemmas.List.{get_or_append_left, get_or_push, get_or-set_same}
use Rattle.std.proofs.lemmas.List.{get_or-set_other}
use Rattle.std.proofs.lemmas.List.{length-set, length_push}
use Rattle.oxc_sourcemap_tokens.specs.declared.position.Position.{Position}
use Rattle.oxc_sourcemap_scopes.specs.declared.scopes.Span.{Span}
use Rattle.oxc_sourcemap_scopes.specs.Trees.{place_of, key, start_key, end_key, rank, no_span}
use Rattle.oxc_sourcemap_scopes.specs.Trees.{span_at}
use Rattle.oxc_sourcemap_scopes.specs.Trees.{Grown, reached, started, ended}
use Rattle.oxc_sourcemap_scopes.specs.Trees.{parent_rank, at_next_source, nothing_grown, IsGrowing}
use Rattle.oxc_sourcemap_scopes.specs.Trees.{IsOpen, AreWithin}

-- what holds of each span, and of one more
pub each-pushed : (spans : List Span) (s : Span) (P : ℕ → Span → Type 0) → ((i : ℕ) → i < length spans → P i (span_at spans i))
    → P (length spans) s → (i : ℕ) → i < length (spans ++ s ∷ []) → P i (span_at (spans ++ s ∷ []) i)
each-pushed spans s P all one i h = elim (cases_lt i (length spans)) [
  | inl l ↦ rw (get_or_append_left spans (s ∷ []) no_span i l) (all i l)
  | inr g ↦ (let e : length spans ≡ i = omega (arith, length_push spans s) in
      rw (get_or_push spans s no_span i e, sym e) one)
]

-- what holds of each span and each before it, and of one more and each before it
pairs-pushed : (spans : List Span) (s : Span) (P : ℕ → Span → ℕ → Span → Type 0)
    → ((i j : ℕ) → j < i → i < length spans → P i (span_at spans i) j (span_at spans j))
    → ((j : ℕ) → j < length spans → P (length spans) s j (span_at spans j))
    → (i j : ℕ) → j < i → i < length (spans ++ s ∷ []) → P i (span_at (spans ++ s ∷ []) i) j (span_at (spans ++ s ∷ []) j)
pairs-pushed spans s P all one i j b h =
    each-pushed spans s (λ k x. (m : ℕ) → m < k → P k x m (span_at (spans ++ s ∷ []) m))
    (λ k l m below. let u : m < length spans = omega arith in rw (get_or_append_left spans (s ∷ []) no_span m u) (all k m below l))
    (λ m below. rw (get_or_append_left spans (s ∷ []) no_span m below) (one m below))
    i h j b

pub growing-started : (t : Grown) (here : Position) → IsGrowing t → reached t ≤ key t.source (place_of here) → IsGrowing (started t here)
growing-started t here g h =
    let s : Span = record { source = t.source; start = here; end = here; parent = t.current } in
    let n = length t.spans in
    let long : length (t.spans ++ s ∷ []) ≡ n + 1 = length_push t.spans s in
    record {
      nested = record {
        in_order = pairs-pushed t.spans s (λ i x j y. start_key y ≤ start_key x) g.nested.in_order (λ j l. omega (arith, g.starts j l));
        parents = each-pushed t.spans s (λ i x. rank x.parent ≤ i) g.nested.parents g.current;
        sources = pairs-pushed t.spans s (λ i x j y. x.parent ≡ Some j → x.source ≡ y.source) g.nested.sources (λ j l e. sym (g.source j l e));
        apart = pairs-pushed t.spans s (λ i x j y. rank x.parent ≤ j → end_key y ≤ start_key x) g.nested.apart (λ j l _. omega (arith, g.ends j l));
      };
      starts = each-pushed t.spans s (λ i x. start_key x ≤ key t.source (place_of here)) (λ i l. omega (arith, g.starts i l)) (omega arith);
      ends = each-pushed t.spans s (λ i x. end_key x ≤ key t.source (place_of here)) (λ i l. omega (arith, g.ends i l)) (omega arith);
      current = omega (arith, long);
      source = each-pushed t.spans s (λ i x. Some n ≡ Some i → x.source ≡ t.source) (λ i l e. absurd (let q : n ≡ i = cc in omega arith)) (λ _. refl);
      laminar = pairs-pushed t.spans s (λ i x j y. rank x.parent ≤ j → rank x.parent ≤ rank y.parent) g.laminar g.around;
      closed = pairs-pushed t.spans s (λ i x j y. x.parent ≡ Some j → (end_key x ≤ end_key y) ⊎ IsOpen (started t here) j)
          (λ i j b l e. elim (g.closed i j b l e) [
            | inl within ↦ inl within
            | inr still ↦ inr (omega arith, each-pushed t.spans s (λ k x. j < k → j < rank x.parent) (λ k m a. still.1 k m a) (λ _. still.0))
          ])
          (λ j l e. (let r : rank t.current ≡ j + 1 = ap rank e in
          inr (omega arith, each-pushed t.spans s (λ k x. j < k → j < rank x.parent) (λ k m a. (let q : rank t.current ≤ k = omega (arith, r) in omega (arith, r, g.around k m q))) (λ _. omega (arith, r)))));
      around = λ j l k. absurd (omega (arith, long));
    }

-- what holds of each span, where one gets another end
pub each-set : (spans : List Span) (k : ℕ) (s : Span) (P : ℕ → Span → Type 0) → ((i : ℕ) → i < length spans → i ≢ k → P i (span_at spans i))
    → P k s → (i : ℕ) → i < length (set spans k s) → P i (span_at (set spans k s) i)
each-set spans k s P all one i h =
    let l : i < length spans = omega (arith, length-set spans k s) in
    elim (cases_eq i k) [
      | inl e ↦ (let m : k < length spans = omega arith in rw (e, get_or-set_same spans k s no_span m) one)
      | inr ne ↦ rw (get_or-set_other spans k i s no_span ne) (all i l ne)
    ]

pairs-set : (spans : List Span) (k : ℕ) (s : Span) (P : ℕ → Span → ℕ → Span → Type 0)
    → ((i j : ℕ) → j < i → i < length spans → i ≢ k → j ≢ k → P i (span_at spans i) j (span_at spans j))
    → ((j : ℕ) → j < k → P k s j (span_at spans j))
    → ((i : ℕ) → k < i → i < length spans → P i (span_at spans i) k s)
    → (i j : ℕ) → j < i → i < length (set spans k s) → P i (span_at (set spans k s) i) j (span_at (set spans k s) j)
pairs-set spans k s P all below above i j b h =
    each-set spans k s (λ n x. (m : ℕ) → m < n → P n x m (span_at (set spans k s) m))
    (λ n l ne m lt. elim (cases_eq m k) [
      | inl e ↦ (let q : k < n = omega arith in let w : k < length spans = omega arith in rw (e, get_or-set_same spans k s no_span w) (above n q l))
      | inr o ↦ rw (get_or-set_other spans k m s no_span o) (all n m lt l ne o)
    ])
    (λ m lt. let o : m ≢ k = omega arith in rw (get_or-set_other spans k m s no_span o) (below m lt))
    i h j b

pub growing-ended : (t : Grown) (k : ℕ) (here : Position) → IsGrowing t → t.current ≡ Some k
    → reached t ≤ key t.source (place_of here) → IsGrowing (ended t k here)
growing-ended t k here g o h =
    let old = span_at t.spans k in
    let s : Span = record old { end = here } in
    let n = length t.spans in
    let r : rank t.current ≡ k + 1 = ap rank o in
    let l : k < n = omega (arith, g.current) in
    let same : old.source ≡ t.source = g.source k l o in
    let long : length (set t.spans k s) ≡ n = length-set t.spans k s in
    let at : end_key s ≡ key t.source (place_of here) = ap (λ x. key x (place_of here)) same in
    let up : rank old.parent ≤ k = g.nested.parents k l in
    record {
      nested = record {
        in_order = pairs-set t.spans k s (λ i x j y. start_key y ≤ start_key x) (λ i j b m _ _. g.nested.in_order i j b m)
            (λ j b. g.nested.in_order k j b l) (λ i b m. g.nested.in_order i k b m);
        parents = each-set t.spans k s (λ i x. rank x.parent ≤ i) (λ i m _. g.nested.parents i m) up;
        sources = pairs-set t.spans k s (λ i x j y. x.parent ≡ Some j → x.source ≡ y.source) (λ i j b m _ _. g.nested.sources i j b m)
            (λ j b. g.nested.sources k j b l) (λ i b m. g.nested.sources i k b m);
        apart = pairs-set t.spans k s (λ i x j y. rank x.parent ≤ j → end_key y ≤ start_key x) (λ i j b m _ _. g.nested.apart i j b m)
            (λ j b. g.nested.apart k j b l) (λ i b m p. absurd (let q : rank t.current ≤ i = omega arith in omega (arith, g.around i m q)));
      };
      starts = each-set t.spans k s (λ i x. start_key x ≤ key t.source (place_of here)) (λ i m _. omega (arith, g.starts i m)) (omega (arith, g.starts k l));
      ends = each-set t.spans k s (λ i x. end_key x ≤ key t.source (place_of here)) (λ i m _. omega (arith, g.ends i m)) (omega arith);
      current = omega (arith, long);
      source = λ j m e. each-set t.spans k s (λ i x. old.parent ≡ Some i → x.source ≡ t.source)
          (λ i q ne w. (let u : rank old.parent ≡ i + 1 = ap rank w in let b : i < k = omega arith in sym (g.nested.sources k i b l w) ∙ same))
          (λ _. same) j m e;
      laminar = pairs-set t.spans k s (λ i x j y. rank x.parent ≤ j → rank x.parent ≤ rank y.parent) (λ i j b m _ _. g.laminar i j b m)
          (λ j b. g.laminar k j b l) (λ i b m. g.laminar i k b m);
      closed = pairs-set t.spans k s (λ i x j y. x.parent ≡ Some j → (end_key x ≤ end_key y) ⊎ IsOpen (ended t k here) j)
          (λ i j b m _ ne e. elim (g.closed i j b m e) [
            | inl within ↦ inl within
            | inr still ↦ (let below : j < k = omega (arith, still.0) in
                inr (still.1 k l below, each-set t.spans k s (λ n x. j < n → j < rank x.parent) (λ n q _ a. still.1 n q a) (λ a. still.1 k l a)))
          ])
          (λ j b e. (let u : rank old.parent ≡ j + 1 = ap rank e in
          inr (
            omega (arith, u),
            each-set t.spans k s (λ n x. j < n → j < rank x.parent)
                (λ n q ne a. elim (cases_lt n k) [
                  | inl lower ↦ (let w : parent_rank t.spans k ≤ n = omega (arith, u) in omega (arith, u, g.laminar k n lower l w))
                  | inr higher ↦ (let w : rank t.current ≤ n = omega arith in omega (arith, b, g.around n q w))
                ])
                (λ _. omega (arith, u)),
          )))
          (λ i b m e. inl (omega (arith, g.ends i m)));
      around = λ j m p. each-set t.spans k s (λ i x. rank old.parent ≤ i → rank old.parent ≤ rank x.parent)
          (λ i q ne w. elim (cases_lt i k) [
            | inl b ↦ g.laminar k i b l w
            | inr a ↦ (let q2 : rank t.current ≤ i = omega arith in omega (arith, g.around i q q2))
          ])
          (λ _. omega arith) j m p;
    }

pub growing-next : (t : Grown) → IsGrowing t → t.current ≡ None → place_of t.position < 18446744073709551616 → IsGrowing (at_next_source t)
growing-next t g o h = record {
  nested = g.nested;
  starts = λ i l. omega (arith, g.starts i l);
  ends = λ i l. omega (arith, g.ends i l);
  current = g.current;
  source = λ j l e. absurd (let q : None ≡ Some j = sym o ∙ e in (cc));
  laminar = g.laminar;
  closed = g.closed;
  around = g.around;
}

pub growing-none : IsGrowing nothing_grown
growing-none = record {
  nested = record {
    in_order = λ i j b h. absurd (omega arith);
    parents = λ i h. absurd (omega arith);
    sources = λ i j b h. absurd (omega arith);
    apart = λ i j b h. absurd (omega arith);
  };
  starts = λ i h. absurd (omega arith);
  ends = λ i h. absurd (omega arith);
  current = omega arith;
  source = λ j h. absurd (omega arith);
  laminar = λ i j b h. absurd (omega arith);
  closed = λ i j b h. absurd (omega arith);
  around = λ j h. absurd (omega arith);
}

-- where no span is open, each ends within its parent
pub growing-within : (t : Grown) → IsGrowing t → t.current ≡ None → AreWithin t.spans
growing-within t g none i j b l e = elim (g.closed i j b l e) [
  | inl within ↦ within
  | inr still ↦ absurd (let r : rank t.current ≡ 0 = ap rank none in omega (arith, r, still.0))
]
