-- How often lines of originals ran, over all scripts.
use Rattle.std.specs.Prelude.{◌≡◌, ℕ, ◌+◌, List, [], ◌∷◌, ◌++◌, sum, min}
use Rattle.std.specs.Prelude.{Option, Some, IsSome, String}
use Rattle.std.specs.Option.{unwrap_or, option_and_then}
use Rattle.std.specs.Ordering.{nat_cmp}
use Rattle.std.specs.BTreeMap.{BTreeMap, get, get_by_text}
use Rattle.std.specs.declared.alloc.Global.{Global}
use Rattle.oxc_sourcemap_parts.specs.Record.{Text}

-- a total that may be there with one more count: their sum, or the greatest number of 64 bits if that is less
abbrev pub with_count : Option ℕ → ℕ → ℕ
with_count total n = min (unwrap_or total 0 + n) 0xffff_ffff_ffff_ffff

-- A total that may be there with more counts: their sum, or the greatest number of 64 bits if that is less. Without a count it stays,
-- or stays missing.
abbrev pub with_counts : Option ℕ → List ℕ → Option ℕ
with_counts total [] = total
with_counts total (n ∷ ns) = Some (with_count total (sum (n ∷ ns)))

-- how often a line of the original with this path ran; none if it has no code
abbrev pub total_at : BTreeMap (String Global) (BTreeMap ℕ ℕ) → Text → ℕ → Option ℕ
total_at totals path line = option_and_then (λ lines. get nat_cmp lines line) (get_by_text totals path)

-- each original has a line with code
abbrev pub HaveLines : BTreeMap (String Global) (BTreeMap ℕ ℕ) → Type 0
HaveLines totals = (path : Text) → IsSome (get_by_text totals path) → (line : ℕ) × IsSome (total_at totals path line)

-- Counts that are added one list after the other are added as one list: a total is the sum of the counts of all scripts.
abbrev pub TotalsAddUp : Type 0
TotalsAddUp = (total : Option ℕ) (first more : List ℕ) → with_counts (with_counts total first) more ≡ with_counts total (first ++ more)
