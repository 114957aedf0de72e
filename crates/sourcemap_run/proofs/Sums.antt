-- Sums of counts that end at the greatest number of 64 bits.
use Rattle.std.proofs.Common.{◌≡◌, ℕ, ◌+◌, Bool, true, false, cond, ◌&&◌, ◌==◌, List, [], ◌∷◌, ◌++◌}
use Rattle.std.proofs.Common.{sum, Option, Some, None, refl, sym, ap, ◌∙◌, arith, append-nil}
use Rattle.std.proofs.Common.{String, Global, IsSome, is_some, option_to_list}
use Rattle.std.specs.Option.{option_and_then}
use Rattle.std.specs.Ordering.{nat_cmp}
use Rattle.std.specs.Map.{lookup, update}
use Rattle.std.specs.BTreeMap.{BTreeMap, get, get_by_text, is_at, Updates, IsOrdered}
use Rattle.std.specs.Str.{bytes_eq}
use Rattle.std.proofs.lemmas.Bool.Decides.{nat_tests}
use Rattle.std.proofs.lemmas.List.Sums.{sum_by-cons, sum_by-append}
use Rattle.std.proofs.lemmas.Slice.Eq.{bytes_eq-Decides}
use Rattle.oxc_sourcemap_parts.specs.Record.{Text}
use Rattle.sourcemap_run.specs.Counts.{count_at}
use Rattle.sourcemap_run.specs.Totals.{with_count, with_counts, TotalsAddUp, total_at, HaveLines}
use Rattle.sourcemap_run.proofs.LineCounts.{same_number, Key, Counts, line_cmp, is_line, counts_of}
use Rattle.sourcemap_run.proofs.LineCounts.{is_line-tests, counts_of-ordered}

sum-cons : (n : ℕ) (ns : List ℕ) → sum (n ∷ ns) ≡ n + sum ns
sum-cons = sum_by-cons (λ n. n)

sum-append : (ns ms : List ℕ) → sum (ns ++ ms) ≡ sum ns + sum ms
sum-append = sum_by-append (λ n. n)

twice : (total : Option ℕ) (n m : ℕ) → with_count (Some (with_count total n)) m ≡ with_count total (n + m)
twice None n m = omega arith
twice (Some t) n m = omega arith

-- one count, and then the others
pub one_and_more : (total : Option ℕ) (n : ℕ) (ns : List ℕ) → with_counts (Some (with_count total n)) ns ≡ with_counts total (n ∷ ns)
one_and_more total n [] = ap (λ k. Some (with_count total k)) (omega arith)
one_and_more total n (m ∷ ns) = ap (λ k. Some k) (twice total n (sum (m ∷ ns)) ∙ ap (with_count total) (sym (sum-cons n (m ∷ ns))))

add_up : (total : Option ℕ) (first more : List ℕ) → with_counts (with_counts total first) more ≡ with_counts total (first ++ more)
add_up total [] more = refl
add_up total (n ∷ ns) [] = ap (with_counts total) (sym (append-nil (n ∷ ns)))
add_up total (n ∷ ns) (m ∷ ms) =
    ap (λ k. Some k) (twice total (sum (n ∷ ns)) (sum (m ∷ ms)) ∙ ap (with_count total) (sym (sum-append (n ∷ ns) (m ∷ ms))))

pub totals_add_up : TotalsAddUp
totals_add_up = add_up

step_by : (path : Text) (line : ℕ) (total : Option ℕ) (entry : Key × ℕ) (rest : List (Key × ℕ)) (b : Bool) → is_line path line entry.0 ≡ b
    → with_counts (cond b (Some (with_count total entry.1)) total) (counts_of path line rest) ≡ with_counts total (counts_of path line (entry ∷ rest))
step_by path line total entry rest true e = rw e (one_and_more total entry.1 (counts_of path line rest))
step_by path line total entry rest false e = rw e refl

-- the next count is added, and those of the rest are left
pub one_more_count : (path : Text) (line : ℕ) (old new all : Option ℕ) (entry : Key × ℕ) (left rest : List (Key × ℕ))
    → left ≡ entry ∷ rest → new ≡ cond (bytes_eq entry.0.1.now path && entry.0.0 == line) (Some (with_count old entry.1)) old
    → with_counts old (counts_of path line left) ≡ all → with_counts new (counts_of path line rest) ≡ all
one_more_count path line old new all entry left rest e f so_far =
    ap (λ t. with_counts t (counts_of path line rest)) (f ∙ ap (λ t. cond t (Some (with_count old entry.1)) old) (is_line-tests entry.0 path line))
    ∙ step_by path line old entry rest _ refl ∙ ap (λ l. with_counts old (counts_of path line l)) (sym e) ∙ so_far

-- at the end no count is left
pub all_counts : (counts : Counts) (path : Text) (line : ℕ) (old new : Option ℕ) (left : List (Key × ℕ)) → IsOrdered line_cmp counts → left ≡ []
    → with_counts new (counts_of path line left) ≡ with_counts old (counts_of path line counts.entries)
    → new ≡ with_counts old (option_to_list (count_at counts path line))
all_counts counts path line old new left ordered none so_far =
    ap (λ l. with_counts new (counts_of path line l)) (sym none) ∙ so_far ∙ ap (with_counts old) (counts_of-ordered counts ordered path line)

-- ---- one count
abbrev Totals : Type 0
Totals = BTreeMap (String Global) (BTreeMap ℕ ℕ)

-- the lines of an original after one more count
abbrev IsCounted : Totals → Text → ℕ → ℕ → BTreeMap ℕ ℕ → Type 0
IsCounted old path line count lines =
    (n : ℕ) → get nat_cmp lines n ≡ cond (line == n) (Some (with_count (total_at old path line) count)) (total_at old path n)

counted_by : (old : Totals) (path : Text) (line count : ℕ) (lines : BTreeMap ℕ ℕ) → IsCounted old path line count lines → (n : ℕ) (t : Bool) → (line == n) ≡ t
    → get nat_cmp lines n ≡ cond t (Some (with_count (total_at old path n) count)) (total_at old path n)
counted_by old path line count lines is n true e =
    let same : line ≡ n = grind (arith, nat_tests, e) in
    is n ∙ ap (λ t. cond t (Some (with_count (total_at old path line) count)) (total_at old path n)) e
    ∙ ap (λ k. Some (with_count (total_at old path k) count)) same
counted_by old path line count lines is n false e = is n ∙ ap (λ t. cond t (Some (with_count (total_at old path line) count)) (total_at old path n)) e

total_by : (old : Totals) (path : Text) (line count : ℕ) (lines : BTreeMap ℕ ℕ) → IsCounted old path line count lines → (p : Text) (n : ℕ) (b : Bool) → bytes_eq path p ≡ b
    → option_and_then (λ ls. get nat_cmp ls n) (cond b (Some lines) (get_by_text old p))
    ≡ cond (b && line == n) (Some (with_count (total_at old p n) count)) (total_at old p n)
total_by old path line count lines is p n true e =
    let same : path ≡ p = (bytes_eq-Decides path p).0 e in
    counted_by old path line count lines is n _ refl
    ∙ ap (λ q. cond (line == n) (Some (with_count (total_at old q n) count)) (total_at old q n)) same
total_by old path line count lines is p n false e = refl

-- totals in which the lines of an original are those after one more count
module _ (old new : Totals) (path : Text) (line count : ℕ) (lines : BTreeMap ℕ ℕ) (is : IsCounted old path line count lines) (puts : (p : Text) → get_by_text new p ≡ update bytes_eq (get_by_text old) path (Some lines) p) where
  abbrev more : Text → ℕ → Bool → Option ℕ
  more p n b = cond (b && line == n) (Some (with_count (total_at old p n) count)) (total_at old p n)

  totals : (p : Text) (n : ℕ) → total_at new p n ≡ more p n (bytes_eq path p)
  totals p n = ap (option_and_then (λ ls. get nat_cmp ls n)) (puts p) ∙ total_by old path line count lines is p n _ refl

  line_by : (p : Text) (b : Bool) → bytes_eq path p ≡ b → HaveLines old → IsSome (get_by_text new p) → (n : ℕ) × IsSome (total_at new p n)
  line_by p true e lined there =
      let same : (line == line) ≡ true = grind (arith, nat_tests) in
      (line, ap is_some (totals p line ∙ ap (more p line) e ∙ ap (λ t. cond t (Some (with_count (total_at old p line) count)) (total_at old p line)) same))
  line_by p false e lined there =
      let had = lined p (ap is_some (sym (puts p ∙ ap (λ t. cond t (Some lines) (get_by_text old p)) e)) ∙ there) in
      (had.0, ap is_some (totals p had.0 ∙ ap (more p had.0) e) ∙ had.1)

  -- that count is added, and each original has a line if each had one
  pub counted : ((p : Text) (n : ℕ) → total_at new p n ≡ cond (bytes_eq path p && line == n) (Some (with_count (total_at old p n) count)) (total_at old p n))
      × (HaveLines old → HaveLines new)
  counted = (totals, λ lined p there. line_by p _ refl lined there)

-- the lines that were there, with one more count
pub old_lines : (old : Totals) (path : Text) (line count : ℕ) (before lines : BTreeMap ℕ ℕ) → get_by_text old path ≡ Some before
    → Updates nat_cmp before lines line (Some (with_count (get nat_cmp before line) count)) → IsCounted old path line count lines
old_lines old path line count before lines found puts n =
    let at : (k : ℕ) → get nat_cmp before k ≡ total_at old path k = λ k. ap (option_and_then (λ ls. get nat_cmp ls k)) (sym found) in
    puts.0 n ∙ ap (λ t. cond t (Some (with_count (get nat_cmp before line) count)) (get nat_cmp before n)) (same_number line n)
    ∙ ap (λ o. cond (line == n) (Some (with_count o count)) (get nat_cmp before n)) (at line)
    ∙ ap (λ o. cond (line == n) (Some (with_count (total_at old path line) count)) o) (at n)

-- the first line of an original that was not there
pub first_line : (old : Totals) (path : Text) (line count : ℕ) (before lines : BTreeMap ℕ ℕ) → get_by_text old path ≡ None → before.entries ≡ []
    → Updates nat_cmp before lines line (Some (with_count (get nat_cmp before line) count)) → IsCounted old path line count lines
first_line old path line count before lines none empty puts n =
    let at : (k : ℕ) → get nat_cmp before k ≡ total_at old path k =
    λ k. ap (lookup (is_at (nat_cmp k))) empty ∙ ap (option_and_then (λ ls. get nat_cmp ls k)) (sym none) in
    puts.0 n ∙ ap (λ t. cond t (Some (with_count (get nat_cmp before line) count)) (get nat_cmp before n)) (same_number line n)
    ∙ ap (λ o. cond (line == n) (Some (with_count o count)) (get nat_cmp before n)) (at line)
    ∙ ap (λ o. cond (line == n) (Some (with_count (total_at old path line) count)) o) (at n)
