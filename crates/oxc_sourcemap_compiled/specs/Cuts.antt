-- Where numbers in a row stop being below a limit.
use Rattle.std.specs.Prelude.{◌≡◌, ℕ, ◌+◌, ◌<◌, ◌≤◌}
use Rattle.oxc_sourcemap_lookup.specs.Digits.{binary_digits}

-- the numbers from one index to before another are below the limit exactly before this index
pub record IsCut (f : ℕ → ℕ) (limit first end cut : ℕ) : Type 0 where
  pub reached : first ≤ cut
  pub within : cut ≤ end
  pub before : (i : ℕ) → first ≤ i → i < cut → f i < limit
  pub after : (i : ℕ) → cut ≤ i → i < end → limit ≤ f i

-- What a search by halving finds among so many numbers from one on, and how many it had compared before and has after it: their
-- cut, if they have one, by as many as their count has binary digits.
pub record IsCutFound (f : ℕ → ℕ) (limit first count before found after : ℕ) : Type 0 where
  pub counted : after ≡ before + binary_digits count
  pub few : after ≤ before + 15
  pub reached : first ≤ found
  pub within : found ≤ first + count
  pub cut : (cut : ℕ) → IsCut f limit first (first + count) cut → found ≡ cut

-- the numbers do not fall from one index to before another
abbrev pub DoNotFall : (ℕ → ℕ) → ℕ → ℕ → Type 0
DoNotFall f first end = (i j : ℕ) → first ≤ i → i ≤ j → j < end → f i ≤ f j
