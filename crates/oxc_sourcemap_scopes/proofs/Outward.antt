-- What is found from the inside out does not rest on how many spans may be looked at.
use Rattle.std.proofs.Common.{◌≡◌, ℕ, zero, suc, ◌<◌, ◌≤◌, Bool, true, false, List, length, get_or}
use Rattle.std.proofs.Common.{Option, Some, None}
use Rattle.std.proofs.Common.{[], ◌++◌, append_assoc, refl, sym, ap, ◌∙◌, arith, if◌then◌else◌}
use Rattle.std.proofs.Common.{add-one}
use Rattle.std.proofs.lemmas.List.{append-nil}
use Rattle.oxc_sourcemap_scopes.specs.declared.scopes.Span.{Span}
use Rattle.oxc_sourcemap_scopes.specs.declared.scopes.ScopeInfo.{ScopeInfo}
use Rattle.oxc_sourcemap_scopes.specs.Trees.{rank, span_at, parent_rank, AreNested}
use Rattle.oxc_sourcemap_scopes.specs.Items.{no_range}
use Rattle.oxc_sourcemap_scopes.specs.Reading.{ScopesRecord}
use Rattle.oxc_sourcemap_scopes.specs.Asking.{function_within, function_of, no_scope}
use Rattle.oxc_sourcemap_scopes.specs.Asking.{FramesRecord, with_frames, calling_frames}
use Rattle.oxc_sourcemap_scopes.specs.Asking.{callers_within, callers_of, IsCalled}
use Rattle.oxc_sourcemap_scopes.specs.declared.scopes.ScopeFrame.{ScopeFrame}

same-function : (scopes : List Span) (infos : List ScopeInfo) (n m : ℕ) (at : Option ℕ) → AreNested scopes → rank at ≤ n → rank at ≤ m → rank at ≤ length scopes
    → function_within n scopes infos at ≡ function_within m scopes infos at
same-function scopes infos zero zero at h a b c = refl
same-function scopes infos zero (suc m) None h a b c = refl
same-function scopes infos zero (suc m) (Some i) h a b c = absurd (omega (arith, a))
same-function scopes infos (suc n) zero None h a b c = refl
same-function scopes infos (suc n) zero (Some i) h a b c = absurd (omega (arith, b))
same-function scopes infos (suc n) (suc m) None h a b c = refl
same-function scopes infos (suc n) (suc m) (Some i) h a b c =
    let l : i < length scopes = omega (arith, c) in
    let up : parent_rank scopes i ≤ i = h.parents i l in
    ap (λ o. if (get_or infos i no_scope).is_stack_frame then Some i else o)
    (same-function scopes infos n m (span_at scopes i).parent h (omega (arith, up, a)) (omega (arith, up, b)) (omega (arith, up, l)))

-- a function, or what is around it
pub function-step : (scopes : List Span) (infos : List ScopeInfo) (i : ℕ) → AreNested scopes → i < length scopes → (get_or infos i no_scope).is_stack_frame ≡ false
    → function_of scopes infos (span_at scopes i).parent ≡ function_of scopes infos (Some i)
unfolding function_of
function-step scopes infos i h l not =
    let up : parent_rank scopes i ≤ i = h.parents i l in
    rw (add-one, not) (same-function scopes infos (parent_rank scopes i) i (span_at scopes i).parent h (omega arith) up (omega (arith, up, l)))

pub function-found : (scopes : List Span) (infos : List ScopeInfo) (i : ℕ) → (get_or infos i no_scope).is_stack_frame ≡ true → Some i ≡ function_of scopes infos (Some i)
unfolding function_of
function-found scopes infos i is = rw (add-one, is) refl

pub function-none : (scopes : List Span) (infos : List ScopeInfo) → None ≡ function_of scopes infos None
unfolding function_of
function-none scopes infos = refl

same-callers : (s : ScopesRecord) (n m : ℕ) (at : Option ℕ) → AreNested s.ranges → rank at ≤ n → rank at ≤ m → rank at ≤ length s.ranges
    → callers_within n s at ≡ callers_within m s at
same-callers s zero zero at h a b c = refl
same-callers s zero (suc m) None h a b c = refl
same-callers s zero (suc m) (Some i) h a b c = absurd (omega (arith, a))
same-callers s (suc n) zero None h a b c = refl
same-callers s (suc n) zero (Some i) h a b c = absurd (omega (arith, b))
same-callers s (suc n) (suc m) None h a b c = refl
same-callers s (suc n) (suc m) (Some i) h a b c =
    let l : i < length s.ranges = omega (arith, c) in
    let up : parent_rank s.ranges i ≤ i = h.parents i l in
    let info = get_or s.range_infos i no_range in
    ap (λ (r : FramesRecord). if info.is_stack_frame then record { frames = []; is_hidden = info.is_hidden } else with_frames (calling_frames s info.call_site) r)
    (same-callers s n m (span_at s.ranges i).parent h (omega (arith, up, a)) (omega (arith, up, b)) (omega (arith, up, l)))

-- the frames of a range that is none of the stack, and of those around it
pub callers-step : (s : ScopesRecord) (i : ℕ) (front : List ScopeFrame) → AreNested s.ranges → i < length s.ranges → (get_or s.range_infos i no_range).is_stack_frame ≡ false
    → with_frames (front ++ calling_frames s (get_or s.range_infos i no_range).call_site) (callers_of s (span_at s.ranges i).parent) ≡ with_frames front (callers_of s (Some i))
unfolding callers_of
callers-step s i front h l not =
    let up : parent_rank s.ranges i ≤ i = h.parents i l in
    let p = (span_at s.ranges i).parent in
    let calling = calling_frames s (get_or s.range_infos i no_range).call_site in
    let e = same-callers s (parent_rank s.ranges i) i p h (omega arith) up (omega (arith, up, l)) in
    rw (add-one, not, e) (ap (λ fs. record { frames = fs; is_hidden = (callers_within i s p).is_hidden }) (append_assoc front calling (callers_within i s p).frames))

-- nothing is further out than a frame of the stack
pub callers-end : (s : ScopesRecord) (i : ℕ) → (get_or s.range_infos i no_range).is_stack_frame ≡ true
    → callers_of s (Some i) ≡ record { frames = []; is_hidden = (get_or s.range_infos i no_range).is_hidden }
unfolding callers_of
callers-end s i is = rw (add-one, is) refl

pub callers-none : (s : ScopesRecord) → callers_of s None ≡ record { frames = []; is_hidden = false }
unfolding callers_of
callers-none s = refl

-- what was appended, where nothing is further out
pub called-all : (old new : List ScopeFrame) (hidden : Bool) (last callers : FramesRecord) → last ≡ record { frames = []; is_hidden = hidden }
    → with_frames new last ≡ with_frames old callers → IsCalled old new hidden callers
called-all old new hidden last callers e same =
    let none : FramesRecord = record { frames = new ++ []; is_hidden = hidden } in
    let all : none ≡ with_frames old callers = sym (ap (with_frames new) e) ∙ same in
    (sym (append-nil new) ∙ ap (λ (r : FramesRecord). r.frames) all, ap (λ (r : FramesRecord). r.is_hidden) all)
