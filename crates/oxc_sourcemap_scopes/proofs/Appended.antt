-- What is appended to the lists of scopes and ranges.
use Rattle.std.proofs.Common.{◌≡◌, ℕ, ◌<◌, List, [], ◌∷◌, ◌++◌, length, map, get_or, set}
use Rattle.std.proofs.Common.{◌≤◌, arith, true, Some, drop, Result, Ok, Err, refl, append_assoc}
use Rattle.std.proofs.Common.{sym, ap, ◌∙◌, Vec, Global}
use Rattle.std.proofs.lemmas.List.{map-set, get_or-map}
use Rattle.oxc_sourcemap_scopes.specs.declared.errors.ScopesError.{ScopesError}
use Rattle.oxc_sourcemap_scopes.specs.declared.scopes.Value.{Value}
use Rattle.oxc_sourcemap_scopes.specs.Numbers.{before_others}
use Rattle.oxc_sourcemap_scopes.specs.Items.{index_moved, indices_moved, with_indices, value_read}
use Rattle.oxc_sourcemap_scopes.specs.Items.{all_values, with_others, number_at, value_to_split}
use Rattle.oxc_sourcemap_scopes.specs.Items.{piece_read, first_piece, all_pieces, sub_ranges_read}
use Rattle.oxc_sourcemap_scopes.specs.Trees.{span_at}
use Rattle.oxc_sourcemap_scopes.specs.declared.scopes.ValuePiece.{ValuePiece}
use Rattle.oxc_sourcemap_tokens.specs.declared.position.Position.{Position}
use Rattle.oxc_sourcemap_scopes.specs.Items.{State, variables_read, values_read}
use Rattle.oxc_sourcemap_scopes.specs.Faults.{◌>>=◌, error_at}
use Rattle.oxc_sourcemap_scopes.specs.declared.errors.ScopesFaultKind.TheVariants.{MissingNumber}

index-before : (list : List ℕ) (before i : ℕ) (rest : Result (List ℕ) ScopesError) → with_indices list before (before_others i rest) ≡ with_indices (list ++ i ∷ []) i rest
index-before list before i (Ok found) = let e : (list ++ i ∷ []) ++ found ≡ list ++ i ∷ found = append_assoc list (i ∷ []) found in rw e refl
index-before list before i (Err e) = refl

-- an index that was read, and then the others
pub one_index : (list : List ℕ) (at last count raw i : ℕ) (more : List ℕ) → index_moved at last raw count ≡ Ok i
    → with_indices list last (indices_moved at last count (raw ∷ more)) ≡ with_indices (list ++ i ∷ []) i (indices_moved at i count more)
one_index list at last count raw i more e = rw e (index-before list last i (indices_moved at i count more))

value-before : {A : Type 0} (list : List A) (v : A) (rest : Result (List A) ScopesError) → with_others list (rest >>= λ values. Ok (v ∷ values)) ≡ with_others (list ++ v ∷ []) rest
value-before list v (Ok found) = let e : (list ++ v ∷ []) ++ found ≡ list ++ v ∷ found = append_assoc list (v ∷ []) found in rw e refl
value-before list v (Err e) = refl

-- a value that was read, and then the others
pub one_value : (list : List Value) (at count raw : ℕ) (v : Value) (more : List ℕ) → value_read at count raw ≡ Ok v
    → with_others list (all_values at count (raw ∷ more)) ≡ with_others (list ++ v ∷ []) (all_values at count more)
one_value list at count raw v more e = rw e (value-before list v (all_values at count more))

-- the list at an index, and lists one of which is another, as lists of items
pub list-at : {A : Type 0} (vs : List (Vec A Global)) (i : ℕ) (x : Vec A Global) → i < length vs → x ≡ get_or vs i x
    → get_or (map (λ (v : Vec A Global). v.items) vs) i [] ≡ x.items
list-at vs i x l e = get_or-map (λ v. v.items) vs i x [] l ∙ sym (ap (λ v. v.items) e)

pub list-set : {A : Type 0} (vs : List (Vec A Global)) (i : ℕ) (x : Vec A Global) → map (λ (v : Vec A Global). v.items) (set vs i x) ≡ set (map (λ (v : Vec A Global). v.items) vs) i x.items
list-set vs i x = map-set (λ v. v.items) vs i x

pub variables-appended : (names at : ℕ) (s : State) (ns : List ℕ) (i last : ℕ) (list : List ℕ) → s.scopes.current ≡ Some i
    → with_indices (get_or s.variables i []) s.variable (indices_moved at s.variable names (drop 1 ns)) ≡ Ok (list, last)
    → variables_read names at s ns ≡ Ok (record s { variables = set s.variables i list; variable = last })
unfolding variables_read
variables-appended names at s ns i last list o r = rw (o, r) refl

pub values-appended : (names at : ℕ) (s : State) (ns : List ℕ) (i : ℕ) (list : List Value) → s.ranges.current ≡ Some i
    → with_others (get_or s.values i []) (all_values at names (drop 1 ns)) ≡ Ok list → values_read names at s ns ≡ Ok (record s { values = set s.values i list })
unfolding values_read
values-appended names at s ns i list o r = rw (o, r) refl

-- a piece that was read, and then the others
pub one_piece : (list : List ValuePiece) (at variable count : ℕ) (from : Position) (p : ValuePiece) (ns : List ℕ) → first_piece at variable from count ns ≡ Ok p
    → with_others list (all_pieces at variable from count ns) ≡ with_others (list ++ p ∷ []) (all_pieces at variable p.start count (drop 3 ns))
one_piece list at variable count from p [] e = absurd (let q : Err (error_at MissingNumber at) ≡ Ok p = e in cc)
one_piece list at variable count from p (line ∷ []) e = absurd (let q : Err (error_at MissingNumber at) ≡ Ok p = e in cc)
one_piece list at variable count from p (line ∷ column ∷ []) e = absurd (let q : Err (error_at MissingNumber at) ≡ Ok p = e in cc)
one_piece list at variable count from p (line ∷ column ∷ raw ∷ more) e =
    let q : piece_read at variable from count line column raw ≡ Ok p = e in
    rw q (value-before list p (all_pieces at variable p.start count more))

-- a piece that was not read
pub no_piece : (list : List ValuePiece) (at variable count : ℕ) (from : Position) (ns : List ℕ) (fault : ScopesError) → 1 ≤ length ns → first_piece at variable from count ns ≡ Err fault
    → with_others list (all_pieces at variable from count ns) ≡ Err fault
no_piece list at variable count from [] fault l e = absurd (omega (arith, l))
no_piece list at variable count from (line ∷ []) fault l e = let q : error_at MissingNumber at ≡ fault = cc in rw q refl
no_piece list at variable count from (line ∷ column ∷ []) fault l e = let q : error_at MissingNumber at ≡ fault = cc in rw q refl
no_piece list at variable count from (line ∷ column ∷ raw ∷ more) fault l e =
    let q : piece_read at variable from count line column raw ≡ Err fault = e in
    rw q refl

pub drop-two : (ns : List ℕ) → drop 1 (drop 1 ns) ≡ drop 2 ns
drop-two [] = refl
drop-two (n ∷ ns) = refl

pub pieces-appended : (names at : ℕ) (s : State) (ns : List ℕ) (i k : ℕ) (value : Value) (list : List ValuePiece) → s.ranges.current ≡ Some i → number_at at ns 1 ≡ Ok k
    → value_to_split at (get_or s.values i []) k ≡ Ok value → with_others (get_or s.pieces i []) (all_pieces at k (span_at s.ranges.spans i).start names (drop 2 ns)) ≡ Ok list
    → sub_ranges_read names at s ns ≡ Ok (record s { values = set s.values i (set (get_or s.values i []) k (record value { is_split = true })); pieces = set s.pieces i list })
unfolding sub_ranges_read
pieces-appended names at s ns i k value list o n v r = rw (o, n, v, r) refl

pub pieces-refused : (names at : ℕ) (s : State) (ns : List ℕ) (i k : ℕ) (value : Value) (e : ScopesError) → s.ranges.current ≡ Some i → number_at at ns 1 ≡ Ok k
    → value_to_split at (get_or s.values i []) k ≡ Ok value → with_others (get_or s.pieces i []) (all_pieces at k (span_at s.ranges.spans i).start names (drop 2 ns)) ≡ Err e
    → sub_ranges_read names at s ns ≡ Err e
unfolding sub_ranges_read
pieces-refused names at s ns i k value e o n v r = rw (o, n, v, r) refl
