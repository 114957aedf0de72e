-- The spans around the innermost that contains a place are those that contain it.
use Rattle.std.proofs.Common.{◌⊎◌, ◌≡◌, ℕ, zero, suc, ◌+◌, ◌<◌, ◌≤◌, Bool, true, false, List, []}
use Rattle.std.proofs.Common.{◌∷◌}
use Rattle.std.proofs.Common.{length, get_or, Option, Some, None, refl, sym, ap, ◌∙◌, arith, inl}
use Rattle.std.proofs.Common.{inr}
use Rattle.std.proofs.Common.{if◌then◌else◌, add-one}
use Rattle.std.proofs.lemmas.Bool.{cases_lt, cases_eq}
use Rattle.oxc_sourcemap_scopes.specs.declared.scopes.Span.{Span}
use Rattle.oxc_sourcemap_scopes.specs.Trees.{place_of, key, start_key, rank}
use Rattle.oxc_sourcemap_scopes.specs.Trees.{span_at}
use Rattle.oxc_sourcemap_scopes.specs.Trees.{parent_rank, AreNested, AreWithin, contains, innermost}
use Rattle.oxc_sourcemap_scopes.specs.Laws.{containing_below}
use Rattle.oxc_sourcemap_scopes.specs.Laws.{first_function, callers_in, frames_in}
use Rattle.oxc_sourcemap_scopes.specs.Asking.{no_scope, function_within, function_of, FramesRecord}
use Rattle.oxc_sourcemap_scopes.specs.Asking.{with_frames, calling_frames, callers_within}
use Rattle.oxc_sourcemap_scopes.specs.Asking.{callers_of}
use Rattle.oxc_sourcemap_scopes.specs.Asking.{frames_of, around_within, around}
use Rattle.oxc_sourcemap_scopes.specs.Items.{no_range}
use Rattle.oxc_sourcemap_scopes.specs.Reading.{ScopesRecord}
use Rattle.oxc_sourcemap_scopes.specs.declared.scopes.ScopeInfo.{ScopeInfo}
use Rattle.oxc_sourcemap_scopes.specs.declared.scopes.ScopeFrame.{ScopeFrame}
use Rattle.oxc_sourcemap_scopes.proofs.Innermost.{after-start, by-end, not-source, not-before-end}
use Rattle.oxc_sourcemap_scopes.proofs.Innermost.{does-contain, found-innermost, none-innermost}

-- a test, and that it says so
tested : (b : Bool) → (b ≡ true) ⊎ (b ≡ false)
tested true = inl refl
tested false = inr refl

-- where none of the spans from one number on below another contains the place
passed : (spans : List Span) (source place n m : ℕ) → n ≤ m → ((j : ℕ) → n ≤ j → j < m → contains source place (span_at spans j) ≡ false)
    → containing_below m spans source place ≡ containing_below n spans source place
passed spans source place n zero le none = let e : n ≡ 0 = omega arith in rw e refl
passed spans source place n (suc m) le none = elim (cases_eq n (suc m)) [
  | inl e ↦ rw e refl
  | inr o ↦ (let l : n ≤ m = omega arith in
      rw (none m l (omega arith)) (passed spans source place n m l (λ j a b. none j a (omega (arith, b)))))
]

-- what it means that a span contains a place
contains-says : (source place : ℕ) (s : Span) → contains source place s ≡ true → (s.source ≡ source) × (place_of s.start ≤ place) × (place < place_of s.end)
contains-says source place s h =
    elim (cases_eq s.source source) [
      | inl e ↦ (elim (cases_lt place (place_of s.start)) [
        | inl early ↦ absurd (let f : contains source place s ≡ false = after-start source place s (omega (arith, e, early)) in let q : true ≡ false = sym h ∙ f in cc)
        | inr by ↦ (elim (cases_lt place (place_of s.end)) [
          | inl ends ↦ (e, by, ends)
          | inr late ↦ absurd (let f : contains source place s ≡ false = not-before-end source place s late in let q : true ≡ false = sym h ∙ f in cc)
        ])
      ])
      | inr o ↦ absurd (let f : contains source place s ≡ false = not-source source place s o in let q : true ≡ false = sym h ∙ f in cc)
    ]

-- what is around a parent, where it is known of each
after-parent : (spans : List Span) (source place n : ℕ) (at : Option ℕ)
    → ((p : ℕ) → at ≡ Some p → around_within n spans (Some p) ≡ containing_below (p + 1) spans source place)
    → around_within n spans at ≡ containing_below (rank at) spans source place
after-parent spans source place zero None h = refl
after-parent spans source place (suc n) None h = refl
after-parent spans source place n (Some p) h = h p refl

-- a parent of a span that contains a place contains it
parent-contains : (spans : List Span) (source place i p : ℕ) → AreNested spans → AreWithin spans → p < i → i < length spans → (span_at spans i).parent ≡ Some p
    → contains source place (span_at spans i) ≡ true → contains source place (span_at spans p) ≡ true
parent-contains spans source place i p n w b l e h =
    let says = contains-says source place (span_at spans i) h in
    let same : (span_at spans p).source ≡ source = sym (n.sources i p b l e) ∙ says.0 in
    let by : start_key (span_at spans p) ≤ key source place = omega (arith, n.in_order i p b l, says.0, says.1) in
    let ends : place < place_of (span_at spans p).end = omega (arith, w i p b l e, says.0, says.2, same) in
    does-contain source place (span_at spans p) by same ends

-- a span that contains a place, and those around it
chain : (spans : List Span) (source place n i : ℕ) → AreNested spans → AreWithin spans → i < n → i < length spans → contains source place (span_at spans i) ≡ true
    → around_within n spans (Some i) ≡ containing_below (i + 1) spans source place
chain spans source place zero i nested within few l h = absurd (omega (arith, few))
chain spans source place (suc n) i nested within few l h =
    let says = contains-says source place (span_at spans i) h in
    let up : parent_rank spans i ≤ i = nested.parents i l in
    let outer : around_within n spans (span_at spans i).parent ≡ containing_below (parent_rank spans i) spans source place =
    after-parent spans source place n (span_at spans i).parent (λ p e.
    (let r : parent_rank spans i ≡ p + 1 = ap rank e in
    let b : p < i = omega (arith, r, up) in
    chain spans source place n p nested within (omega (arith, b, few)) (omega (arith, b, l)) (parent-contains spans source place i p nested within b l e h))) in
    let between : containing_below i spans source place ≡ containing_below (parent_rank spans i) spans source place =
    passed spans source place (parent_rank spans i) i up (λ j a b. by-end source place (span_at spans j) (omega (arith, nested.apart i j b l a, says.0, says.1))) in
    rw (add-one, h) (ap (λ is. i ∷ is) (outer ∙ sym between))

-- all that contain a place are below a number
search-down : (spans : List Span) (source place n : ℕ) → AreNested spans → AreWithin spans → n ≤ length spans
    → ((j : ℕ) → j < length spans → n ≤ j → contains source place (span_at spans j) ≡ false)
    → around spans (innermost spans source place) ≡ containing_below n spans source place
unfolding around
search-down spans source place zero nested within l past =
    let none : innermost spans source place ≡ None = sym (none-innermost spans source place (λ j a. past j a (omega arith))) in
    rw none refl
search-down spans source place (suc m) nested within l past = elim (tested (contains source place (span_at spans m))) [
  | inl yes_ ↦ (let b : m < length spans = omega (arith, l) in
      let found : innermost spans source place ≡ Some m = sym (found-innermost spans source place m b yes_ (λ j a c. past j a (omega (arith, c)))) in
      rw found (chain spans source place (m + 1) m nested within (omega arith) b yes_ ∙ rw add-one refl))
  | inr no_ ↦ rw no_ (search-down spans source place m nested within (omega (arith, l)) (λ j a c. elim (cases_eq j m) [
    | inl e ↦ rw e no_
    | inr o ↦ past j a (omega (arith, c))
  ]))
]

pub around-all : (spans : List Span) (source place : ℕ) → AreNested spans → AreWithin spans
    → around spans (innermost spans source place) ≡ containing_below (length spans) spans source place
around-all spans source place nested within = search-down spans source place (length spans) nested within (omega arith) (λ j a c. absurd (omega (arith, a, c)))

function-in : (n : ℕ) (scopes : List Span) (infos : List ScopeInfo) (at : Option ℕ) → function_within n scopes infos at ≡ first_function infos (around_within n scopes at)
function-in zero scopes infos at = refl
function-in (suc n) scopes infos None = refl
function-in (suc n) scopes infos (Some i) =
    ap (λ o. if (get_or infos i no_scope).is_stack_frame then Some i else o) (function-in n scopes infos (span_at scopes i).parent)

pub function-contains : (s : ScopesRecord) (source place : ℕ) → AreNested s.scopes → AreWithin s.scopes
    → function_of s.scopes s.scope_infos (innermost s.scopes source place) ≡ first_function s.scope_infos (containing_below (length s.scopes) s.scopes source place)
unfolding function_of around
function-contains s source place nested within =
    function-in (rank (innermost s.scopes source place)) s.scopes s.scope_infos (innermost s.scopes source place)
    ∙ ap (first_function s.scope_infos) (around-all s.scopes source place nested within)

callers-in : (n : ℕ) (s : ScopesRecord) (at : Option ℕ) → callers_within n s at ≡ callers_in s (around_within n s.ranges at)
callers-in zero s at = refl
callers-in (suc n) s None = refl
callers-in (suc n) s (Some i) =
    let info = get_or s.range_infos i no_range in
    ap (λ (r : FramesRecord). if info.is_stack_frame then record { frames = []; is_hidden = info.is_hidden } else with_frames (calling_frames s info.call_site) r)
    (callers-in n s (span_at s.ranges i).parent)

frames-around : (s : ScopesRecord) (at : Option ℕ) → frames_of s at ≡ frames_in s (around s.ranges at)
unfolding callers_of around
frames-around s None = refl
frames-around s (Some i) =
    let first : List ScopeFrame = record { scope = function_of s.scopes s.scope_infos (get_or s.range_infos i no_range).definition; call_site = None } ∷ [] in
    rw add-one (ap (with_frames first) (callers-in (suc i) s (Some i)))

pub frames-contain : (s : ScopesRecord) (place : ℕ) → AreNested s.ranges → AreWithin s.ranges
    → frames_of s (innermost s.ranges 0 place) ≡ frames_in s (containing_below (length s.ranges) s.ranges 0 place)
frames-contain s place nested within = frames-around s (innermost s.ranges 0 place) ∙ ap (frames_in s) (around-all s.ranges 0 place nested within)
