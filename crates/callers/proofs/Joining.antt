-- Joins in a loop and in groups, by the laws of joins.
use Rattle.std.proofs.Common.{◌≡◌, ◌≢◌, ◌⊎◌, inl, inr, ℕ, ◌+◌, ◌<◌, List, [], ◌∷◌, ◌++◌, length}
use Rattle.std.proofs.Common.{map, take, get_or, refl, sym, ap, ◌∙◌, subst}
use Rattle.std.specs.Borrow.{Bor}
use Rattle.std.proofs.Math.Nat.{add-zero}
use Rattle.std.proofs.lemmas.List.{take_more, map-append, append-nil}
use Rattle.oxc_sourcemap.specs.Record.{MapRecord}
use Rattle.oxc_sourcemap.specs.Position.{Position}
use Rattle.oxc_sourcemap.specs.Joined.{at_line, at_lines, added, nothing_joined, joined}
use Rattle.oxc_sourcemap.specs.Joined.{lent_maps, IsWithinLimits}
use Rattle.oxc_sourcemap.specs.Error.{Error}
use Rattle.oxc_sourcemap.specs.Error.TheVariants.{OutOfMemory, TooLarge}
use Rattle.oxc_sourcemap.specs.JoinLaws.{JoinOneMore, JoinsAssociative, Group, groups_joined}
use Rattle.oxc_sourcemap.specs.JoinLaws.{maps_of, without_chunks}

-- the join of the maps up to one more of them
pub one-map-more : JoinOneMore → (ms : List (Bor MapRecord × ℕ)) (i : ℕ) (m : Bor MapRecord × ℕ) → i < length ms → m ≡ get_or ms i m
    → joined (lent_maps (take (i + 1) ms)) ≡ added (joined (lent_maps (take i ms))) m.0.now (at_line m.1)
one-map-more law ms i m h e =
    let front : take (i + 1) ms ≡ take i ms ++ m ∷ [] = take_more ms i m h ∙ ap (λ x. take i ms ++ x ∷ []) (sym e) in
    ap (λ xs. joined (lent_maps xs)) front ∙ ap joined (map-append (λ x. (x.0.now, at_line x.1)) (take i ms) (m ∷ [])) ∙ law (lent_maps (take i ms)) m.0.now (at_line m.1)

-- if an add is past a limit, so is the join of the maps up to this one
pub past-limit : JoinOneMore → (ms : List (Bor MapRecord × ℕ)) (i : ℕ) (m : Bor MapRecord × ℕ) → i < length ms → m ≡ get_or ms i m
    → (r : MapRecord) → r ≡ joined (lent_maps (take i ms)) → (e : Error) → (e ≡ OutOfMemory) ⊎ (e ≡ TooLarge) → (e ≡ TooLarge → ¬ (IsWithinLimits (added r m.0.now (at_line m.1))))
    → e ≢ OutOfMemory → (e ≡ TooLarge) × ((n : ℕ) × ¬ (IsWithinLimits (joined (lent_maps (take n ms)))))
past-limit law ms i m l g r so e (inl o) h n = absurd (n o)
past-limit law ms i m l g r so e (inr t) h n =
    (t, (i + 1, λ w. h t (subst IsWithinLimits (one-map-more law ms i m l g ∙ ap (λ x. added x m.0.now (at_line m.1)) (sym so)) w)))

-- borrowed maps, each with its line
abbrev with-lines : List (Bor MapRecord × ℕ) → List (MapRecord × ℕ)
with-lines ms = map (λ m. (m.0.now, m.1)) ms

at-lines-are : (ms : List (Bor MapRecord × ℕ)) → at_lines (with-lines ms) ≡ lent_maps ms
at-lines-are [] = refl
at-lines-are (m ∷ ms) = ap (λ (xs : List (MapRecord × Position)). (m.0.now, at_line m.1) ∷ xs) (at-lines-are ms)

-- a map of a group at line 0
abbrev at-sum : MapRecord × ℕ → MapRecord × Position
at-sum m = (m.0, at_line (m.1 + 0))

raised-by-nothing : (ms : List (Bor MapRecord × ℕ)) → map at-sum (with-lines ms) ≡ lent_maps ms
raised-by-nothing [] = refl
raised-by-nothing (m ∷ ms) =
    ap (λ (k : ℕ). (m.0.now, at_line k) ∷ map at-sum (with-lines ms)) (add-zero m.1) ∙ ap (λ (xs : List (MapRecord × Position)). (m.0.now, at_line m.1) ∷ xs) (raised-by-nothing ms)

in-one : (ms first second : List (Bor MapRecord × ℕ)) → first ++ second ≡ ms → lent_maps first ++ (lent_maps second ++ []) ≡ lent_maps ms
in-one ms first second e =
    ap (λ xs. lent_maps first ++ xs) (append-nil (lent_maps second)) ∙ sym (map-append (λ x. (x.0.now, at_line x.1)) first second) ∙ ap lent_maps e

-- Two groups of maps, joined, and joined at line 0: but for the chunks, the join of all maps.
pub two-groups : JoinsAssociative → (ms front back : List (Bor MapRecord × ℕ)) → ms ≡ front ++ back
    → (first second r r' r'' : MapRecord) → first ≡ joined (lent_maps front) → second ≡ joined (lent_maps back) → r ≡ nothing_joined
    → r' ≡ added r first (at_line 0) → r'' ≡ added r' second (at_line 0) → without_chunks r'' ≡ without_chunks (joined (lent_maps ms))
two-groups law ms front back e first second r r' r'' p q n a b =
    let groups : List Group = (with-lines front, 0) ∷ (with-lines back, 0) ∷ [] in
    let each : maps_of groups ≡ lent_maps front ++ (lent_maps back ++ []) =
    ap (λ (xs : List (MapRecord × Position)). xs ++ (map at-sum (with-lines back) ++ [])) (raised-by-nothing front)
    ∙ ap (λ (xs : List (MapRecord × Position)). lent_maps front ++ (xs ++ [])) (raised-by-nothing back) in
    let p' : first ≡ joined (at_lines (with-lines front)) = p ∙ sym (ap joined (at-lines-are front)) in
    let q' : second ≡ joined (at_lines (with-lines back)) = q ∙ sym (ap joined (at-lines-are back)) in
    let adds : r'' ≡ added (added nothing_joined first (at_line 0)) second (at_line 0) = b ∙ ap (λ x. added x second (at_line 0)) (a ∙ ap (λ x. added x first (at_line 0)) n) in
    let joins : r'' ≡ joined (groups_joined groups) =
    adds ∙ ap (λ x. added (added nothing_joined x (at_line 0)) second (at_line 0)) p'
    ∙ ap (λ x. added (added nothing_joined (joined (at_lines (with-lines front))) (at_line 0)) x (at_line 0)) q' in
    ap without_chunks joins ∙ law groups ∙ ap (λ xs. without_chunks (joined xs)) (each ∙ in-one ms front back (sym e))
