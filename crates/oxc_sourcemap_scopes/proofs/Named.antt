-- The names and the kinds of scopes that were read lead to names, and their sources are counted.
use Rattle.std.proofs.Common.{◌≡◌, ℕ, ◌<◌, ◌≤◌, ◌==◌, Bool, true, false, List}
use Rattle.std.proofs.Common.{length, get_or, set, slice_get, [], ◌∷◌, ◌++◌, subst}
use Rattle.std.proofs.Common.{Option, Some, None, Ok, Err, zero, suc, refl}
use Rattle.std.proofs.Common.{sym}
use Rattle.std.proofs.Common.{if◌then◌else◌, is_some, arith, ◌||◌}
use Rattle.std.specs.Result.{IfOk}
use Rattle.oxc_sourcemap_tokens.specs.declared.position.Position.{Position}
use Rattle.oxc_sourcemap_scopes.specs.declared.errors.ScopesError.{ScopesError}
use Rattle.oxc_sourcemap_scopes.specs.declared.scopes.Span.{Span}
use Rattle.oxc_sourcemap_scopes.specs.Trees.{Grown, span_at, started, ended, at_next_source}
use Rattle.oxc_sourcemap_scopes.specs.Items.{State, nothing_read, next_if_closed}
use Rattle.oxc_sourcemap_scopes.specs.Reading.{ScopesRecord, finished, scopes_of}
use Rattle.oxc_sourcemap_scopes.specs.declared.scopes.Value.{Value}
use Rattle.oxc_sourcemap_scopes.specs.declared.scopes.ValuePiece.{ValuePiece}
use Rattle.oxc_sourcemap_scopes.specs.Laws.{AreNamed, IsNamed, AreCounted, AreBound}
use Rattle.oxc_sourcemap_scopes.specs.Laws.{IsValueNamed, IsPieceNamed}
use Rattle.oxc_sourcemap_scopes.proofs.States.{each-more}
use Rattle.std.specs.List.{All}
use Rattle.std.proofs.lemmas.List.{length-set}
use Rattle.std.proofs.lemmas.List.Elements.{All-nil, All-head, All-tail, All-append, All-set}
use Rattle.std.proofs.lemmas.List.Elements.{All-push}
use Rattle.oxc_sourcemap_scopes.proofs.Growing.{each-pushed, each-set}
use Rattle.oxc_sourcemap_scopes.proofs.Kept.{branched, all-kept}

-- what was read has names that lead to names
abbrev Named : ℕ → State → Type 0
Named names s = AreNamed names s.scope_infos

named-closed : (names at : ℕ) (s : State) → Named names s → IfOk (next_if_closed at s) (Named names)
named-closed names at s h = branched (is_some s.scopes.current) _ _ (Named names) h (branched (s.scopes.source == 4294967295) _ _ (Named names) tt h)

nothing-named : (names : ℕ) → Named names nothing_read
nothing-named names zero info e = absurd (let q : None ≡ Some info = e in cc)
nothing-named names (suc i) info e = absurd (let q : None ≡ Some info = e in cc)

pub scopes-named : (names : ℕ) (text : List ℕ) → IfOk (scopes_of text names) (λ s. AreNamed names s.scope_infos)
scopes-named names text =
    all-kept names (Named names)
    (λ s here info name kind h n. each-more (IsNamed names) s.scope_infos info h n)
    (named-closed names)
    (λ at s i here h. named-closed names at (record s { scopes = ended s.scopes i here }) h)
    (λ s i found variable h _. h)
    (λ s t infos definition h. h)
    (λ s t infos h. h)
    (λ s i found h _. h)
    (λ s i k value found h _ _. h)
    (λ s. AreNamed names s.scope_infos) text (nothing-named names)
    (λ s n. branched (is_some s.scopes.current || is_some s.ranges.current) _ _ (λ (r : ScopesRecord). AreNamed names r.scope_infos) tt n)

-- the sources of scopes so far are not past that of the next, and before it where no scope is open
record Counted (t : Grown) : Type 0 where
  by : (i : ℕ) → i < length t.spans → (span_at t.spans i).source ≤ t.source
  before : t.current ≡ None → (i : ℕ) → i < length t.spans → (span_at t.spans i).source < t.source

abbrev AllCounted : State → Type 0
AllCounted s = Counted s.scopes

counted-started : (t : Grown) (here : Position) → Counted t → Counted (started t here)
counted-started t here h = record {
  by = each-pushed t.spans _ (λ i x. x.source ≤ t.source) h.by (omega arith);
  before = λ e. absurd (let q : None ≡ Some (length t.spans) = sym e in cc);
}

closed-by : (o : Option ℕ) (e : ScopesError) (s : State) → s.scopes.current ≡ o → ((i : ℕ) → i < length s.scopes.spans → (span_at s.scopes.spans i).source ≤ s.scopes.source)
    → IfOk (if is_some o then Ok s else if s.scopes.source == 4294967295 then Err e else Ok (record s { scopes = at_next_source s.scopes })) AllCounted
closed-by (Some k) e s c by = record { by = by; before = λ none. absurd (let q : None ≡ Some k = cc in cc) }
closed-by None e s c by =
    branched (s.scopes.source == 4294967295) (Err e) (Ok (record s { scopes = at_next_source s.scopes })) AllCounted tt (record { by = λ i l. omega (arith, by i l); before = λ _ i l. omega (arith, by i l) })

-- where the next source begins if no scope is open
counted-closed : (at : ℕ) (s : State) → ((i : ℕ) → i < length s.scopes.spans → (span_at s.scopes.spans i).source ≤ s.scopes.source) → IfOk (next_if_closed at s) AllCounted
counted-closed at s by = closed-by s.scopes.current _ s refl by

counted-ended : (at : ℕ) (s : State) (k : ℕ) (here : Position) → AllCounted s → IfOk (next_if_closed at (record s { scopes = ended s.scopes k here })) AllCounted
counted-ended at s k here h =
    let spans = s.scopes.spans in
    let x : Span = record (span_at spans k) { end = here } in
    counted-closed at (record s { scopes = ended s.scopes k here })
    (λ i l. each-set spans k x (λ n y. n < length spans → y.source ≤ s.scopes.source) (λ n m _ _. h.by n m) (λ m. h.by k m) i l (omega (arith, length-set spans k x)))

last-by : (o : Option ℕ) (b : Bool) (e : ScopesError) (s : State) → s.scopes.current ≡ o → AllCounted s
    → IfOk (if is_some o || b then Err e else Ok (record { sources = s.scopes.source; scopes = s.scopes.spans; scope_infos = s.scope_infos; variables = s.variables; ranges = s.ranges.spans; range_infos = s.range_infos; values = s.values; pieces = s.pieces })) AreCounted
last-by (Some k) b e s c h = tt
last-by None true e s c h = tt
last-by None false e s c h = h.before c

-- at the end no scope is open
counted-last : (end : ℕ) (s : State) → AllCounted s → IfOk (finished end s) AreCounted
counted-last end s h = last-by s.scopes.current (is_some s.ranges.current) _ s refl h

pub scopes-counted : (names : ℕ) (text : List ℕ) → IfOk (scopes_of text names) AreCounted
scopes-counted names text =
    all-kept names AllCounted
    (λ s here info name kind h n. counted-started s.scopes here h)
    (λ at s h. counted-closed at s h.by)
    counted-ended
    (λ s i found variable h _. h)
    (λ s t infos definition h. h)
    (λ s t infos h. h)
    (λ s i found h _. h)
    (λ s i k value found h _ _. h)
    AreCounted text (record { by = λ i l. absurd (omega (arith, l)); before = λ _ i l. absurd (omega (arith, l)) })
    (λ s n. counted-last (length text) s n)

-- what was read is bound to names
record Bound (names : ℕ) (s : State) : Type 0 where
  variables : All (All (λ i. i < names)) s.variables
  values : All (All (IsValueNamed names)) s.values
  pieces : All (All (IsPieceNamed names)) s.pieces

-- the list at an index, or the empty one
list-all : {A : Type 0} (P : A → Type 0) (lists : List (List A)) (i : ℕ) → All (All P) lists → All P (get_or lists i [])
list-all P [] i h = All-nil P
list-all P (xs ∷ more) zero h = All-head (All P) xs more h
list-all P (xs ∷ more) (suc i) h = list-all P more i (All-tail (All P) xs more h)

-- lists one of which has more
list-more : {A : Type 0} (P : A → Type 0) (lists : List (List A)) (i : ℕ) (found : List A) → All (All P) lists → All P found → All (All P) (set lists i (get_or lists i [] ++ found))
list-more P lists i found h f = All-set (All P) lists i (get_or lists i [] ++ found) (All-append P (get_or lists i []) found (list-all P lists i h) f) h

list-added : {A : Type 0} (P : A → Type 0) (lists : List (List A)) → All (All P) lists → All (All P) (lists ++ [] ∷ [])
list-added P lists h = All-push (All P) lists [] h (All-nil P)

-- the value at an index
value-at : (names : ℕ) (values : List Value) (k : ℕ) (value : Value) → slice_get values k ≡ Some value → All (IsValueNamed names) values → IsValueNamed names value
value-at names [] k value e h = absurd (let q : None ≡ Some value = e in cc)
value-at names (v ∷ more) zero value e h = let q : v ≡ value = cc in subst (IsValueNamed names) q (All-head (IsValueNamed names) v more h)
value-at names (v ∷ more) (suc k) value e h = value-at names more k value e (All-tail (IsValueNamed names) v more h)

bound-split : (names : ℕ) (s : State) (i k : ℕ) (value : Value) (found : List ValuePiece) → Bound names s → slice_get (get_or s.values i []) k ≡ Some value → All (IsPieceNamed names) found
    → Bound names (record s { values = set s.values i (set (get_or s.values i []) k (record value { is_split = true })); pieces = set s.pieces i (get_or s.pieces i [] ++ found) })
bound-split names s i k value found h e f =
    let all : All (IsValueNamed names) (get_or s.values i []) = list-all (IsValueNamed names) s.values i h.values in
    let split : Value = record value { is_split = true } in
    let is : IsValueNamed names split = value-at names (get_or s.values i []) k value e all in
    record {
      variables = h.variables;
      values = All-set (All (IsValueNamed names)) s.values i (set (get_or s.values i []) k split) (All-set (IsValueNamed names) (get_or s.values i []) k split is all) h.values;
      pieces = list-more (IsPieceNamed names) s.pieces i found h.pieces f;
    }

bound-closed : (names at : ℕ) (s : State) → Bound names s → IfOk (next_if_closed at s) (Bound names)
bound-closed names at s h =
    branched (is_some s.scopes.current) _ _ (Bound names) h (branched (s.scopes.source == 4294967295) _ _ (Bound names) tt (record { variables = h.variables; values = h.values; pieces = h.pieces }))

pub scopes-bound : (names : ℕ) (text : List ℕ) → IfOk (scopes_of text names) (AreBound names)
scopes-bound names text =
    all-kept names (Bound names)
    (λ s here info name kind h n. record { variables = list-added (λ i. i < names) s.variables h.variables; values = h.values; pieces = h.pieces })
    (bound-closed names)
    (λ at s i here h. bound-closed names at (record s { scopes = ended s.scopes i here }) (record { variables = h.variables; values = h.values; pieces = h.pieces }))
    (λ s i found variable h f. record { variables = list-more (λ n. n < names) s.variables i found h.variables f; values = h.values; pieces = h.pieces })
    (λ s t infos definition h. record { variables = h.variables; values = list-added (IsValueNamed names) s.values h.values; pieces = list-added (IsPieceNamed names) s.pieces h.pieces })
    (λ s t infos h. record { variables = h.variables; values = h.values; pieces = h.pieces })
    (λ s i found h f. record { variables = h.variables; values = list-more (IsValueNamed names) s.values i found h.values f; pieces = h.pieces })
    (λ s i k value found h e f. bound-split names s i k value found h e f)
    (AreBound names) text (record { variables = All-nil (All (λ i. i < names)); values = All-nil (All (IsValueNamed names)); pieces = All-nil (All (IsPieceNamed names)) })
    (λ s h. branched (is_some s.scopes.current || is_some s.ranges.current) _ _ (AreBound names) tt (record { variables = h.variables; values = h.values; pieces = h.pieces }))
