-- The greatest counts of marks, by path and line.
use Rattle.std.proofs.Common.{◌≡◌, ℕ, Bool, true, false, cond, nat_lt, ◌==◌, ◌&&◌, List, [], ◌∷◌}
use Rattle.std.proofs.Common.{◌++◌, map, Option, option_to_list}
use Rattle.std.proofs.Common.{Some, None, refl, sym, ap, ◌∙◌, arith, ◌<◌, ◌+◌, suc, length, take}
use Rattle.std.proofs.Common.{get_or, ⊎_elim, true≢false}
use Rattle.std.proofs.Math.Seq.{take-suc}
use Rattle.std.specs.Borrow.{Bor}
use Rattle.std.specs.List.{filter, AllByRecursion, IsDistinct}
use Rattle.std.specs.Map.{keys_of, lookup}
use Rattle.std.specs.BTreeMap.{BTreeMap, get, is_at, IsOrdered}
use Rattle.std.specs.Str.{bytes_eq}
use Rattle.std.specs.Cmp.{IsEquivalence, IsTotalOrder, nat_cmp_total, then_total, on_total}
use Rattle.std.specs.Cmp.{eq_by_cmp_equiv, tied_then}
use Rattle.std.specs.Cmp.Lexicographic.{slice_cmp, nat_list_cmp_total}
use Rattle.std.specs.Ordering.{nat_cmp, ordering_then, is_eq, eq_by_cmp}
use Rattle.std.specs.declared.cmp.Ordering.{Ordering}
use Rattle.std.specs.declared.cmp.Ordering.TheVariants.{Less, Equal, Greater}
use Rattle.std.proofs.lemmas.Bool.{cases_Bool, cond-true, cond-false}
use Rattle.std.proofs.lemmas.Bool.Decides.{nat_tests}
use Rattle.std.proofs.lemmas.Grind.{common_steps}
use Rattle.std.proofs.lemmas.List.Elements.{filter-append}
use Rattle.std.proofs.lemmas.Map.Entries.{lookup_head, lookup_tail}
use Rattle.std.proofs.lemmas.Map.Keys.{IsDistinct-from_sorted, IsDistinct-head, IsDistinct-tail}
use Rattle.std.proofs.lemmas.Map.Text.{is_eq-slice_cmp}
use Rattle.std.proofs.lemmas.Slice.Eq.{bytes_eq-Decides}
use Rattle.oxc_sourcemap_parts.specs.Record.{Text}
use Rattle.sourcemap_run.specs.declared.counting.Mark.{Mark}
use Rattle.sourcemap_run.specs.Counts.{raised, greatest, path_at, is_mark_of, original_count}
use Rattle.sourcemap_run.specs.Counts.{count_at}

-- ---- the greatest of some counts
swap : (g : Option ℕ) (x n : ℕ) → raised (Some (raised g n)) x ≡ raised (Some (raised g x)) n
swap None x n = grind arith
swap (Some k) x n = grind arith

greatest-push : (ns : List ℕ) (n : ℕ) → greatest (ns ++ n ∷ []) ≡ Some (raised (greatest ns) n)
greatest-push [] n = refl
greatest-push (x ∷ ns) n = ap (λ g. Some (raised g x)) (greatest-push ns n) ∙ ap (λ m. Some m) (swap (greatest ns) x n)

map-push : (xs : List Mark) (m : Mark) → map (λ m. m.count) (xs ++ m ∷ []) ≡ map (λ m. m.count) xs ++ m.count ∷ []
map-push [] m = refl
map-push (x ∷ xs) m = ap (λ t. x.count ∷ t) (map-push xs m)

filter-push : (p : Mark → Bool) (xs : List Mark) (m : Mark) (b : Bool) → p m ≡ b → filter p (xs ++ m ∷ []) ≡ cond b (filter p xs ++ m ∷ []) (filter p xs)
filter-push p xs m true e = grind (arith, common_steps, filter-append)
filter-push p xs m false e = grind (arith, common_steps, filter-append)

-- ---- one more mark
-- the count of a line with it
count_by : (paths : List Text) (marks : List Mark) (m : Mark) (path : Text) (line : ℕ) (b : Bool) → is_mark_of paths path line m ≡ b
    → original_count paths (marks ++ m ∷ []) path line ≡ cond b (Some (raised (original_count paths marks path line) m.count)) (original_count paths marks path line)
count_by paths marks m path line true e =
    let test = is_mark_of paths path line in
    ap (λ ms. greatest (map (λ m. m.count) ms)) (filter-push test marks m true e)
    ∙ ap greatest (map-push (filter test marks) m) ∙ greatest-push (map (λ m. m.count) (filter test marks)) m.count
count_by paths marks m path line false e = ap (λ ms. greatest (map (λ m. m.count) ms)) (filter-push (is_mark_of paths path line) marks m false e)

-- a mark of nothing
abbrev pub no_mark : Mark
no_mark = record { source_id = 0; line = 0; count = 0; start = record { line = 0; column = 0 }; end = record { line = 0; column = 0 } }

-- counts in which the line of one more mark is raised
pub one_more_mark : (paths : List Text) (marks : List Mark) (i : ℕ) (text : Text) (old new : Text → ℕ → Option ℕ) → i < length marks
    → text ≡ path_at paths (get_or marks i no_mark).source_id → ((path : Text) (line : ℕ) → old path line ≡ original_count paths (take i marks) path line)
    → (let m = get_or marks i no_mark in (path : Text) (line : ℕ) → new path line ≡ cond (bytes_eq text path && m.line == line) (Some (raised (old path line) m.count)) (old path line))
    → (path : Text) (line : ℕ) → new path line ≡ original_count paths (take (i + 1) marks) path line
one_more_mark paths marks i text old new lt is so_far raises path line =
    let m = get_or marks i no_mark in
    let front = take i marks in
    let next : i + 1 ≡ suc i = omega arith in
    raises path line ∙ ap (λ t. cond (bytes_eq t path && m.line == line) (Some (raised (old path line) m.count)) (old path line)) is
    ∙ ap (λ n. cond (is_mark_of paths path line m) (Some (raised n m.count)) n) (so_far path line) ∙ sym (count_by paths front m path line _ refl)
    ∙ ap (λ ms. original_count paths ms path line) (sym (take-suc marks i no_mark lt)) ∙ ap (λ n. original_count paths (take n marks) path line) (sym next)

-- ---- the order of lines
abbrev pub Key : Type 0
Key = ℕ × Bor Text

abbrev pub Counts : Type 0
Counts = BTreeMap Key ℕ

-- by number, then by path
abbrev pub line_cmp : Key → Key → Ordering
line_cmp a b = ordering_then (nat_cmp a.0 b.0) (slice_cmp nat_cmp a.1.now b.1.now)

-- a line as a key
abbrev key : Text → ℕ → Key
key path line = (line, record { ref_ptr = (0, 0); now = path })

line_cmp_total : IsTotalOrder line_cmp
line_cmp_total = then_total (on_total (λ (k : Key). k.0) nat_cmp_total) (on_total (λ (k : Key). k.1.now) nat_list_cmp_total)

-- what the tests of the order say
number_by : (b t : Bool) (x y : ℕ) → nat_lt x y ≡ b → (x == y) ≡ t → is_eq (cond b Less (cond t Equal Greater)) ≡ t
number_by true true x y p e = absurd (grind (arith, p, e))
number_by true false x y p e = refl
number_by false true x y p e = refl
number_by false false x y p e = refl

pub same_number : (x y : ℕ) → is_eq (nat_cmp x y) ≡ (x == y)
same_number x y = number_by _ _ x y refl refl

same_line : (path other : Text) (line n : ℕ) → is_eq (ordering_then (nat_cmp line n) (slice_cmp nat_cmp path other)) ≡ bytes_eq path other && line == n
same_line path other line n =
    sym (tied_then (nat_cmp line n) (slice_cmp nat_cmp path other)) ∙ ap (λ t. t && is_eq (slice_cmp nat_cmp path other)) (same_number line n)
    ∙ ap (λ t. line == n && t) (is_eq-slice_cmp path other) ∙ turned (line == n) (bytes_eq path other)
  where
    turned : (s t : Bool) → s && t ≡ t && s
    turned true true = refl
    turned true false = refl
    turned false true = refl
    turned false false = refl

-- ---- a count that is raised
own_by : (old : Counts) (path other : Text) (line n count : ℕ) (b t : Bool) → bytes_eq path other ≡ b → (line == n) ≡ t
    → cond (b && t) (Some (raised (count_at old path line) count)) (count_at old other n) ≡ cond (b && t) (Some (raised (count_at old other n) count)) (count_at old other n)
own_by old path other line n count true true e f =
    let text : path ≡ other = (bytes_eq-Decides path other).0 e in
    let number : line ≡ n = grind (arith, nat_tests, f) in
    ap (λ k. Some (raised k count)) (ap (λ p. count_at old p line) text ∙ ap (count_at old other) number)
own_by old path other line n count true false e f = refl
own_by old path other line n count false t e f = refl

pub raised_line : (old new : Counts) (path : Bor Text) (line count : ℕ) → Some count ≡ Some (raised (get line_cmp old (line, path)) count)
    → ((k : Key) → get line_cmp new k ≡ cond (is_at (line_cmp (line, path)) k) (Some count) (get line_cmp old k))
    → (other : Text) (n : ℕ) → count_at new other n ≡ cond (bytes_eq path.now other && line == n) (Some (raised (count_at old other n) count)) (count_at old other n)
raised_line old new path line count is puts other n =
    puts (key other n) ∙ ap (λ t. cond t (Some count) (count_at old other n)) (same_line path.now other line n)
    ∙ ap (λ m. cond (bytes_eq path.now other && line == n) m (count_at old other n)) is
    ∙ own_by old path.now other line n count _ _ refl refl

-- ---- counts in order: of a line there is one at most
module _ {K X : Type 0} (eq : K → K → Bool) (test : K → Bool) (same : (k q : K) → test k ≡ true → test q ≡ true → eq k q ≡ true) where
  abbrev those : List (K × X) → List (K × X)
  those es = filter (λ (e : K × X). test e.0) es

  none_left : (k : K) → test k ≡ true → (es : List (K × X)) → AllByRecursion (λ q. eq k q ≡ false) (keys_of es) → those es ≡ []
  none_left k own [] apart = refl
  none_left k own (e ∷ es) apart =
      ⊎_elim
      (λ y. absurd (true≢false (sym (same k e.0 own y) ∙ apart.0)))
      (λ n. cond-false (test e.0) (e ∷ those es) (those es) n ∙ none_left k own es apart.1)
      (cases_Bool (test e.0))

  one_at_most : (es : List (K × X)) → IsDistinct eq (keys_of es) → map (λ (e : K × X). e.1) (those es) ≡ option_to_list (lookup test es)
  one_at_most [] d = refl
  one_at_most (e ∷ es) d =
      ⊎_elim
      (λ y.
      ap (map (λ (e : K × X). e.1)) (cond-true (test e.0) (e ∷ those es) (those es) y ∙ ap (λ l. e ∷ l) (none_left e.0 y es (IsDistinct-head eq e.0 (keys_of es) d)))
      ∙ ap option_to_list (sym (lookup_head test e es y)))
      (λ n.
      ap (map (λ (e : K × X). e.1)) (cond-false (test e.0) (e ∷ those es) (those es) n) ∙ one_at_most es (IsDistinct-tail eq e.0 (keys_of es) d)
      ∙ ap option_to_list (sym (lookup_tail test e es n)))
      (cases_Bool (test e.0))

-- a key is this line
abbrev pub is_line : Text → ℕ → Key → Bool
is_line path line k = is_eq (ordering_then (nat_cmp line k.0) (slice_cmp nat_cmp path k.1.now))

-- the counts of a line, of those in a list
abbrev pub counts_of : Text → ℕ → List (Key × ℕ) → List ℕ
counts_of path line counts = map (λ (e : Key × ℕ). e.1) (filter (λ (e : Key × ℕ). is_line path line e.0) counts)

pub counts_of-ordered : (counts : Counts) → IsOrdered line_cmp counts → (path : Text) (line : ℕ) → counts_of path line counts.entries ≡ option_to_list (count_at counts path line)
counts_of-ordered counts ordered path line =
    let laws : IsEquivalence (eq_by_cmp line_cmp) = eq_by_cmp_equiv line_cmp_total in
    one_at_most (eq_by_cmp line_cmp) (is_line path line) (λ k q y z. sym (laws.congr (key path line) k q y) ∙ z) counts.entries
    (IsDistinct-from_sorted line_cmp (keys_of counts.entries) ordered)

-- the test that a total is added by
pub is_line-tests : (k : Key) (path : Text) (line : ℕ) → (bytes_eq k.1.now path && k.0 == line) ≡ is_line path line k
is_line-tests k path line =
    let laws : IsEquivalence (eq_by_cmp line_cmp) = eq_by_cmp_equiv line_cmp_total in
    sym (same_line k.1.now path k.0 line) ∙ laws.symm k (key path line)
