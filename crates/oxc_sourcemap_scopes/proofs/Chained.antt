-- What is around a span does not rest on how many spans may be looked at.
use Rattle.std.proofs.Common.{◌≡◌, ℕ, zero, suc, ◌<◌, ◌≤◌, true, false, List, length, get_or, refl}
use Rattle.std.proofs.Common.{Option, Some, None, [], ◌∷◌, ◌++◌, ◌-◌, map, ap, arith, add-one}
use Rattle.std.proofs.Common.{slice_get, if◌then◌else◌}
use Rattle.oxc_sourcemap_scopes.specs.declared.scopes.Span.{Span}
use Rattle.oxc_sourcemap_scopes.specs.declared.scopes.RangeInfo.{RangeInfo}
use Rattle.oxc_sourcemap_scopes.specs.Trees.{rank, span_at, parent_rank, AreNested}
use Rattle.oxc_sourcemap_scopes.specs.Items.{no_range}
use Rattle.oxc_sourcemap_scopes.specs.Reading.{ScopesRecord}
use Rattle.oxc_sourcemap_scopes.specs.Asking.{around_within, around, is_code_of, code_of}
use Rattle.oxc_sourcemap_scopes.specs.Asking.{entry_of, chain_of, calling_starts}
use Rattle.oxc_sourcemap_scopes.specs.Asking.{caller_starts_within, caller_starts}

same-around : (spans : List Span) (n m : ℕ) (at : Option ℕ) → AreNested spans → rank at ≤ n → rank at ≤ m → rank at ≤ length spans
    → around_within n spans at ≡ around_within m spans at
same-around spans zero zero at h a b c = refl
same-around spans zero (suc m) None h a b c = refl
same-around spans zero (suc m) (Some i) h a b c = absurd (omega (arith, a))
same-around spans (suc n) zero None h a b c = refl
same-around spans (suc n) zero (Some i) h a b c = absurd (omega (arith, b))
same-around spans (suc n) (suc m) None h a b c = refl
same-around spans (suc n) (suc m) (Some i) h a b c =
    let l : i < length spans = omega (arith, c) in
    let up : parent_rank spans i ≤ i = h.parents i l in
    ap (λ is. i ∷ is) (same-around spans n m (span_at spans i).parent h (omega (arith, up, a)) (omega (arith, up, b)) (omega (arith, up, l)))

-- a span, and what is around it
pub around-step : (spans : List Span) (i : ℕ) → AreNested spans → i < length spans → i ∷ around spans (span_at spans i).parent ≡ around spans (Some i)
unfolding around
around-step spans i h l =
    let up : parent_rank spans i ≤ i = h.parents i l in
    rw add-one (ap (λ is. i ∷ is) (same-around spans (parent_rank spans i) i (span_at spans i).parent h (omega arith) up (omega (arith, up, l))))

pub around-none : (spans : List Span) → around spans None ≡ []
unfolding around
around-none spans = refl

-- the code of a scope is found, or is further out
pub code-found : (spans : List Span) (infos : List RangeInfo) (scope i : ℕ) → AreNested spans → i < length spans → is_code_of scope (get_or infos i no_range) ≡ true
    → Some i ≡ code_of infos scope (around spans (Some i))
code-found spans infos scope i h l is = rw (← around-step spans i h l) (rw is refl)

pub code-step : (spans : List Span) (infos : List RangeInfo) (scope i : ℕ) → AreNested spans → i < length spans → is_code_of scope (get_or infos i no_range) ≡ false
    → code_of infos scope (around spans (span_at spans i).parent) ≡ code_of infos scope (around spans (Some i))
code-step spans infos scope i h l not = rw (← around-step spans i h l) (rw not refl)

pub code-none : (spans : List Span) (infos : List RangeInfo) (scope : ℕ) → None ≡ code_of infos scope (around spans None)
code-none spans infos scope = rw (around-none spans) refl

-- a scope's entry, and those of what is around it
pub chain-step : (s : ScopesRecord) (range : Option ℕ) (i : ℕ) → AreNested s.scopes → i < length s.scopes
    → entry_of s range i ∷ chain_of s (span_at s.scopes i).parent range ≡ chain_of s (Some i) range
chain-step s range i h l = ap (map (entry_of s range)) (around-step s.scopes i h l)

pub chain-none : (s : ScopesRecord) (range : Option ℕ) → [] ≡ chain_of s None range
chain-none s range = rw (around-none s.scopes) refl

same-starts : (s : ScopesRecord) (n m : ℕ) (at : Option ℕ) → AreNested s.ranges → rank at ≤ n → rank at ≤ m → rank at ≤ length s.ranges
    → caller_starts_within n s at ≡ caller_starts_within m s at
same-starts s zero zero at h a b c = refl
same-starts s zero (suc m) None h a b c = refl
same-starts s zero (suc m) (Some i) h a b c = absurd (omega (arith, a))
same-starts s (suc n) zero None h a b c = refl
same-starts s (suc n) zero (Some i) h a b c = absurd (omega (arith, b))
same-starts s (suc n) (suc m) None h a b c = refl
same-starts s (suc n) (suc m) (Some i) h a b c =
    let l : i < length s.ranges = omega (arith, c) in
    let up : parent_rank s.ranges i ≤ i = h.parents i l in
    let info = get_or s.range_infos i no_range in
    ap (λ starts. if info.is_stack_frame then [] else calling_starts s i info.call_site ++ starts)
    (same-starts s n m (span_at s.ranges i).parent h (omega (arith, up, a)) (omega (arith, up, b)) (omega (arith, up, l)))

-- the calls of a range that is no stack frame, and of those around it
pub starts-step : (s : ScopesRecord) (i : ℕ) → AreNested s.ranges → i < length s.ranges → (get_or s.range_infos i no_range).is_stack_frame ≡ false
    → calling_starts s i (get_or s.range_infos i no_range).call_site ++ caller_starts s (span_at s.ranges i).parent ≡ caller_starts s (Some i)
unfolding caller_starts
starts-step s i h l not =
    let up : parent_rank s.ranges i ≤ i = h.parents i l in
    let e = same-starts s (parent_rank s.ranges i) i (span_at s.ranges i).parent h (omega arith) up (omega (arith, up, l)) in
    rw (add-one, not) (ap (λ starts. calling_starts s i (get_or s.range_infos i no_range).call_site ++ starts) e)

-- nothing is further out than a frame of the stack
pub starts-end : (s : ScopesRecord) (i : ℕ) → (get_or s.range_infos i no_range).is_stack_frame ≡ true → caller_starts s (Some i) ≡ []
unfolding caller_starts
starts-end s i is = rw (add-one, is) refl

pub starts-none : (s : ScopesRecord) → caller_starts s None ≡ []
unfolding caller_starts
starts-none s = refl

-- an item behind the first one
pub item-after : {A : Type 0} (x : A) (xs : List A) (k : ℕ) → 0 < k → slice_get (x ∷ xs) k ≡ slice_get xs (k - 1)
item-after x xs zero h = absurd (omega (arith, h))
item-after x xs (suc k) h = let e : suc k - 1 ≡ k = omega arith in rw e refl
