-- What each item keeps, all keep: of what items say, and of what was read at the end.
use Rattle.std.proofs.Common.{◌≡◌, ℕ, ◌+◌, ◌-◌, ◌/◌, ◌%◌, ◌==◌, ◌<◌, Bool, true, false, List, []}
use Rattle.std.proofs.Common.{◌∷◌, ◌++◌, length, set, slice_get, Option, Some, None}
use Rattle.std.proofs.Common.{Result, Ok, Err}
use Rattle.std.proofs.Common.{get_or, drop, min, nat_lt, if◌then◌else◌, is_some, arith, refl}
use Rattle.std.specs.Option.{IfSome}
use Rattle.std.specs.Result.{IfOk}
use Rattle.std.specs.List.{All}
use Rattle.std.proofs.lemmas.Bool.Decides.{nat_tests}
use Rattle.std.proofs.lemmas.List.Elements.{All-nil, All-cons}
use Rattle.oxc_sourcemap_tokens.specs.declared.position.Position.{Position}
use Rattle.oxc_sourcemap_scopes.specs.declared.errors.ScopesError.{ScopesError}
use Rattle.oxc_sourcemap_scopes.specs.declared.scopes.ScopeInfo.{ScopeInfo}
use Rattle.oxc_sourcemap_scopes.specs.declared.scopes.RangeInfo.{RangeInfo}
use Rattle.oxc_sourcemap_scopes.specs.declared.scopes.Value.{Value}
use Rattle.oxc_sourcemap_scopes.specs.declared.errors.ScopesFaultKind.TheVariants.{BadIndex}
use Rattle.oxc_sourcemap_scopes.specs.declared.errors.ScopesFaultKind.TheVariants.{SplitTwice}
use Rattle.oxc_sourcemap_scopes.specs.Faults.{◌>>=◌, error_at}
use Rattle.oxc_sourcemap_scopes.specs.Numbers.{numbers_of, before_others}
use Rattle.oxc_sourcemap_scopes.specs.Trees.{Grown, started, ended, span_at}
use Rattle.oxc_sourcemap_scopes.specs.Items.{State, nothing_read, number_at, number_if, moved}
use Rattle.oxc_sourcemap_scopes.specs.Items.{index_moved, index_if, has_flag, room_in}
use Rattle.oxc_sourcemap_scopes.specs.Items.{scope_started}
use Rattle.oxc_sourcemap_scopes.specs.Items.{next_if_closed, source_passed, scope_ended}
use Rattle.oxc_sourcemap_scopes.specs.Items.{range_started, range_end, range_ended, small_at}
use Rattle.oxc_sourcemap_scopes.specs.Items.{source_at, call_site_read, item_read}
use Rattle.oxc_sourcemap_scopes.specs.Items.{indices_moved, with_indices, variables_read}
use Rattle.oxc_sourcemap_scopes.specs.Items.{all_values, with_others, values_read, sub_ranges_read}
use Rattle.oxc_sourcemap_scopes.specs.Items.{value_to_split, all_pieces, value_read, piece_read}
use Rattle.oxc_sourcemap_scopes.specs.Items.{last_of}
use Rattle.oxc_sourcemap_scopes.specs.declared.scopes.ValuePiece.{ValuePiece}
use Rattle.oxc_sourcemap_scopes.specs.Reading.{ScopesRecord, items_read, items_of, finished}
use Rattle.oxc_sourcemap_scopes.specs.Reading.{scopes_of}
use Rattle.oxc_sourcemap_scopes.specs.Laws.{IsNamed, IsValueNamed, IsPieceNamed}

-- what holds of what is read next
bound : {A B : Type 0} (r : Result A ScopesError) (f : A → Result B ScopesError) (P : A → Type 0) (Q : B → Type 0) → IfOk r P → ((x : A) → P x → IfOk (f x) Q) → IfOk (r >>= f) Q
bound (Ok x) f P Q h k = k x h
bound (Err e) f P Q h k = tt

-- the same where nothing has to hold before
bound-any : {A B : Type 0} (r : Result A ScopesError) (f : A → Result B ScopesError) (Q : B → Type 0) → ((x : A) → IfOk (f x) Q) → IfOk (r >>= f) Q
bound-any (Ok x) f Q k = k x
bound-any (Err e) f Q k = tt

-- what holds of either branch
pub branched : {A : Type 0} (b : Bool) (x y : Result A ScopesError) (P : A → Type 0) → IfOk x P → IfOk y P → IfOk (if b then x else y) P
branched true x y P h k = h
branched false x y P h k = k

-- what holds of what is read where there is an index
opened : {A : Type 0} (o : Option ℕ) (e : ScopesError) (f : ℕ → Result A ScopesError) (P : A → Type 0) → ((i : ℕ) → IfOk (f i) P) → IfOk (elim o [ None ↦ Err e | Some i ↦ f i ]) P
opened None e f P k = tt
opened (Some i) e f P k = k i

below-test : (x count : ℕ) (e : ScopesError) → IfOk (if nat_lt x (min count 4294967295) then Ok x else Err e) (λ i. i < count)
below-test x count e = elim (nat_lt x (min count 4294967295)) as (λ b. nat_lt x (min count 4294967295) ≡ b → IfOk (if b then Ok x else Err e) (λ i. i < count)) [
  | true ↦ (λ is. grind (arith, nat_tests, is))
  | false ↦ (λ _. tt)
] refl

index-below : (at last raw count : ℕ) → IfOk (index_moved at last raw count) (λ i. i < count)
index-below at last raw count =
    branched (raw % 2 == 1) _ _ (λ i. i < count) (branched (nat_lt last (raw / 2)) _ _ (λ i. i < count) tt (below-test (last - raw / 2) count _)) (below-test (last + raw / 2) count _)

-- an index that an item may have is below the count
index-if-below : (is_there : Bool) (at : ℕ) (ns : List ℕ) (k last count : ℕ) → IfOk (index_if is_there at ns k last count) (λ o. IfSome o (λ i. i < count))
index-if-below true at ns k last count =
    bound-any (number_at at ns k) _ (λ o. IfSome o (λ i. i < count)) (λ raw. bound (index_moved at last raw count) _ (λ i. i < count) (λ o. IfSome o (λ i. i < count)) (index-below at last raw count) (λ i l. l))
index-if-below false at ns k last count = tt

-- the indices that are read are below the count
others-below : (count i : ℕ) (rest : Result (List ℕ) ScopesError) → i < count → IfOk rest (All (λ n. n < count)) → IfOk (before_others i rest) (All (λ n. n < count))
others-below count i (Ok ns) l h = All-cons (λ n. n < count) i ns l h
others-below count i (Err e) l h = tt

indices-below : (at last count : ℕ) (ns : List ℕ) → IfOk (indices_moved at last count ns) (All (λ n. n < count))
indices-below at last count [] = All-nil (λ n. n < count)
indices-below at last count (raw ∷ more) =
    bound (index_moved at last raw count) _ (λ i. i < count) (All (λ n. n < count)) (index-below at last raw count) (λ i l. others-below count i (indices_moved at i count more) l (indices-below at i count more))

-- what holds of a list with the indices that are read behind it
with-found : {A : Type 0} (list : List ℕ) (before : ℕ) (r : Result (List ℕ) ScopesError) (f : List ℕ × ℕ → A) (N : ℕ → Type 0) (Q : A → Type 0)
    → IfOk r (All N) → ((found : List ℕ) → All N found → Q (f (list ++ found, last_of before found))) → IfOk (with_indices list before r >>= λ x. Ok (f x)) Q
with-found list before (Ok found) f N Q h k = k found h
with-found list before (Err e) f N Q h k = tt

-- what holds of a list with what is read behind it
with-more : {A B : Type 0} (list : List A) (r : Result (List A) ScopesError) (f : List A → B) (N : A → Type 0) (Q : B → Type 0)
    → IfOk r (All N) → ((found : List A) → All N found → Q (f (list ++ found))) → IfOk (with_others list r >>= λ x. Ok (f x)) Q
with-more list (Ok found) f N Q h k = k found h
with-more list (Err e) f N Q h k = tt

-- a value that is read has the expression of a name, or none
value-below : (raw count : ℕ) (e : ScopesError) → IfOk (if nat_lt (raw - 1) (min count 4294967295) then Ok (record { expression = Some (raw - 1); is_split = false }) else Err e) (IsValueNamed count)
value-below raw count e = elim (nat_lt (raw - 1) (min count 4294967295)) as (λ b. nat_lt (raw - 1) (min count 4294967295) ≡ b → IfOk (if b then Ok (record { expression = Some (raw - 1); is_split = false }) else Err e) (IsValueNamed count)) [
  | true ↦ (λ is. grind (arith, nat_tests, is))
  | false ↦ (λ _. tt)
] refl

value-named : (at count raw : ℕ) → IfOk (value_read at count raw) (IsValueNamed count)
value-named at count raw = branched (raw == 0) _ _ (IsValueNamed count) tt (value-below raw count _)

values-named : (at count : ℕ) (ns : List ℕ) → IfOk (all_values at count ns) (All (IsValueNamed count))
values-named at count [] = All-nil (IsValueNamed count)
values-named at count (raw ∷ more) =
    bound (value_read at count raw) _ (IsValueNamed count) (All (IsValueNamed count)) (value-named at count raw) (λ v n.
    bound (all_values at count more) _ (All (IsValueNamed count)) (All (IsValueNamed count)) (values-named at count more) (λ vs all. All-cons (IsValueNamed count) v vs n all))

piece-named : (at variable : ℕ) (from : Position) (count line column raw : ℕ) → IfOk (piece_read at variable from count line column raw) (IsPieceNamed count)
piece-named at variable from count line column raw =
    bound-any (moved at from line column) _ (IsPieceNamed count) (λ here. bound (value_read at count raw) _ (IsValueNamed count) (IsPieceNamed count) (value-named at count raw) (λ v n. n))

pieces-named : (at variable : ℕ) (from : Position) (count : ℕ) (ns : List ℕ) → IfOk (all_pieces at variable from count ns) (All (IsPieceNamed count))
pieces-named at variable from count [] = All-nil (IsPieceNamed count)
pieces-named at variable from count (line ∷ []) = tt
pieces-named at variable from count (line ∷ column ∷ []) = tt
pieces-named at variable from count (line ∷ column ∷ raw ∷ more) =
    bound (piece_read at variable from count line column raw) _ (IsPieceNamed count) (All (IsPieceNamed count)) (piece-named at variable from count line column raw) (λ p n.
    bound (all_pieces at variable p.start count more) _ (All (IsPieceNamed count)) (All (IsPieceNamed count)) (pieces-named at variable p.start count more) (λ ps all. All-cons (IsPieceNamed count) p ps n all))

-- a value to split is one of those that there are
split-in : (at : ℕ) (values : List Value) (k : ℕ) (o : Option Value) → slice_get values k ≡ o
    → IfOk (elim o [ None ↦ Err (error_at BadIndex at) | Some value ↦ if value.is_split then Err (error_at SplitTwice at) else Ok value ]) (λ v. slice_get values k ≡ Some v)
split-in at values k None e = tt
split-in at values k (Some v) e = branched v.is_split (Err (error_at SplitTwice at)) (Ok v) (λ w. slice_get values k ≡ Some w) tt e

split-found : (at : ℕ) (values : List Value) (k : ℕ) → IfOk (value_to_split at values k) (λ v. slice_get values k ≡ Some v)
split-found at values k = split-in at values k (slice_get values k) refl

-- what a start, an end and what is said of ranges keep
module _ (names : ℕ) (P : State → Type 0)
    (starts : (s : State) (here : Position) (info : ScopeInfo) (name kind : ℕ) → P s → IsNamed names info
    → P (record s { scopes = started s.scopes here; scope_infos = s.scope_infos ++ info ∷ []; variables = s.variables ++ [] ∷ []; name = name; kind = kind }))
    (closes : (at : ℕ) (s : State) → P s → IfOk (next_if_closed at s) P)
    (ends : (at : ℕ) (s : State) (i : ℕ) (here : Position) → P s → IfOk (next_if_closed at (record s { scopes = ended s.scopes i here })) P)
    (binds : (s : State) (i : ℕ) (found : List ℕ) (variable : ℕ) → P s → All (λ n. n < names) found → P (record s { variables = set s.variables i (get_or s.variables i [] ++ found); variable = variable }))
    (begins : (s : State) (t : Grown) (infos : List RangeInfo) (definition : ℕ) → P s
    → P (record s { ranges = t; range_infos = infos; values = s.values ++ [] ∷ []; pieces = s.pieces ++ [] ∷ []; definition = definition }))
    (tells : (s : State) (t : Grown) (infos : List RangeInfo) → P s → P (record s { ranges = t; range_infos = infos }))
    (fills : (s : State) (i : ℕ) (found : List Value) → P s → All (IsValueNamed names) found → P (record s { values = set s.values i (get_or s.values i [] ++ found) }))
    (splits : (s : State) (i k : ℕ) (value : Value) (found : List ValuePiece) → P s → slice_get (get_or s.values i []) k ≡ Some value → All (IsPieceNamed names) found
    → P (record s { values = set s.values i (set (get_or s.values i []) k (record value { is_split = true })); pieces = set s.pieces i (get_or s.pieces i [] ++ found) })) where
  start-kept : (at : ℕ) (s : State) (ns : List ℕ) → P s → IfOk (scope_started names at s ns) P
  unfolding scope_started
  start-kept at s ns h =
      bound-any (number_at at ns 1) _ P (λ flags. bound-any (number_at at ns 2) _ P (λ line. bound-any (number_at at ns 3) _ P (λ column. bound-any (moved at s.scopes.position line column) _ P (λ here.
      bound (index_if (has_flag flags 1) at ns 4 s.name names) _ (λ o. IfSome o (λ i. i < names)) P (index-if-below (has_flag flags 1) at ns 4 s.name names) (λ name n.
      bound (index_if (has_flag flags 2) at ns (if has_flag flags 1 then 5 else 4) s.kind names) _ (λ o. IfSome o (λ i. i < names)) P (index-if-below (has_flag flags 2) at ns (if has_flag flags 1 then 5 else 4) s.kind names) (λ kind k.
      bound-any (room_in at s.scopes) _ P (λ room. starts s here _ _ _ h (record { name = n; kind = k }))))))))

  pass-kept : (at : ℕ) (s : State) → P s → IfOk (source_passed at s) P
  unfolding source_passed
  pass-kept at s h = branched (is_some s.scopes.current) _ _ P tt (closes at s h)

  end-kept : (at : ℕ) (s : State) (ns : List ℕ) → P s → IfOk (scope_ended at s ns) P
  unfolding scope_ended
  end-kept at s ns h =
      bound-any (number_at at ns 1) _ P (λ line. bound-any (number_at at ns 2) _ P (λ column. bound-any (moved at s.scopes.position line column) _ P (λ here. opened s.scopes.current _ _ P (λ i. ends at s i here h))))

  range-start-kept : (at : ℕ) (s : State) (ns : List ℕ) → P s → IfOk (range_started at s ns) P
  unfolding range_started
  range-start-kept at s ns h =
      bound-any (number_at at ns 1) _ P (λ flags. bound-any (number_if (has_flag flags 1) at ns 2) _ P (λ line. bound-any (number_at at ns (if has_flag flags 1 then 3 else 2)) _ P (λ column.
      bound-any (moved at s.ranges.position line column) _ P (λ here. bound-any (index_if (has_flag flags 2) at ns (if has_flag flags 1 then 4 else 3) s.definition (length s.scopes.spans)) _ P (λ definition.
      bound-any (room_in at s.ranges) _ P (λ room. begins s _ _ _ h))))))

  range-end-kept : (at : ℕ) (s : State) (ns : List ℕ) → P s → IfOk (range_ended at s ns) P
  unfolding range_ended
  range-end-kept at s ns h = bound-any (range_end at s.ranges.position ns) _ P (λ here. opened s.ranges.current _ _ P (λ i. tells s _ s.range_infos h))

  call-kept : (at : ℕ) (s : State) (ns : List ℕ) → P s → IfOk (call_site_read at s ns) P
  unfolding call_site_read
  call-kept at s ns h =
      bound-any (source_at at ns 1) _ P (λ source. bound-any (small_at at ns 2) _ P (λ line. bound-any (small_at at ns 3) _ P (λ column. opened s.ranges.current _ _ P (λ i. tells s s.ranges _ h))))

  variables-kept : (at : ℕ) (s : State) (ns : List ℕ) → P s → IfOk (variables_read names at s ns) P
  unfolding variables_read
  variables-kept at s ns h =
      opened s.scopes.current _ _ P (λ i. with-found (get_or s.variables i []) s.variable (indices_moved at s.variable names (drop 1 ns))
      (λ (found : List ℕ × ℕ). record s { variables = set s.variables i found.0; variable = found.1 }) (λ n. n < names) P
      (indices-below at s.variable names (drop 1 ns)) (λ found all. binds s i found _ h all))

  values-kept : (at : ℕ) (s : State) (ns : List ℕ) → P s → IfOk (values_read names at s ns) P
  unfolding values_read
  values-kept at s ns h =
      opened s.ranges.current _ _ P (λ i. with-more (get_or s.values i []) (all_values at names (drop 1 ns)) (λ found. record s { values = set s.values i found }) (IsValueNamed names) P
      (values-named at names (drop 1 ns)) (λ found all. fills s i found h all))

  sub-ranges-kept : (at : ℕ) (s : State) (ns : List ℕ) → P s → IfOk (sub_ranges_read names at s ns) P
  unfolding sub_ranges_read
  sub-ranges-kept at s ns h =
      opened s.ranges.current _ _ P (λ i. bound-any (number_at at ns 1) _ P (λ k.
      bound (value_to_split at (get_or s.values i []) k) _ (λ v. slice_get (get_or s.values i []) k ≡ Some v) P (split-found at (get_or s.values i []) k) (λ value is.
      with-more (get_or s.pieces i []) (all_pieces at k (span_at s.ranges.spans i).start names (drop 2 ns))
      (λ pieces. record s { values = set s.values i (set (get_or s.values i []) k (record value { is_split = true })); pieces = set s.pieces i pieces }) (IsPieceNamed names) P
      (pieces-named at k (span_at s.ranges.spans i).start names (drop 2 ns)) (λ found all. splits s i k value found h is all))))

  item-kept : (at : ℕ) (s : State) (ns : List ℕ) → P s → IfOk (item_read names at s ns) P
  unfolding item_read
  item-kept at s ns h =
      bound-any (number_at at ns 0) _ P (λ tag. branched (tag == 0) _ _ P (pass-kept at s h) (branched (tag == 1) _ _ P (start-kept at s ns h) (branched (tag == 2) _ _ P (end-kept at s ns h)
      (branched (tag == 3) _ _ P (variables-kept at s ns h) (branched (tag == 4) _ _ P (range-start-kept at s ns h) (branched (tag == 5) _ _ P (range-end-kept at s ns h)
      (branched (tag == 6) _ _ P (values-kept at s ns h) (branched (tag == 7) _ _ P (sub-ranges-kept at s ns h) (branched (tag == 8) _ _ P (call-kept at s ns h) h)))))))))

  items-kept : (items : List (List ℕ)) (at : ℕ) (s : State) → P s → IfOk (items_read names at s items) P
  items-kept [] at s h = h
  items-kept (item ∷ more) at s h =
      bound-any (numbers_of at item) _ P (λ ns. bound (item_read names at s ns) _ P P (item-kept at s ns h) (λ next n. items-kept more (at + length item + 1) next n))

  -- what holds before the first item, and of what was read at the end where nothing is open, holds of what a text means
  pub all-kept : (Q : ScopesRecord → Type 0) (text : List ℕ) → P nothing_read → ((s : State) → P s → IfOk (finished (length text) s) Q) → IfOk (scopes_of text names) Q
  unfolding scopes_of
  all-kept Q text first last = bound (items_read names 0 nothing_read (items_of text)) (finished (length text)) P Q (items-kept (items_of text) 0 nothing_read first) last
