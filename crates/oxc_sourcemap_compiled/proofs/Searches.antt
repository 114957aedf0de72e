-- Searches by halving.
use Rattle.std.proofs.Common.{◌≡◌, ℕ, suc, ◌+◌, ◌-◌, ◌*◌, ◌/◌, ◌<◌, ◌≤◌, Bool, true, false, nat_lt}
use Rattle.std.proofs.Common.{if◌then◌else◌}
use Rattle.std.proofs.Common.{sym, ◌∙◌, arith, refl, ap, zero, min, max, ◌⊎◌, inl, inr}
use Rattle.oxc_sourcemap_lookup.specs.Digits.{binary_digits}
use Rattle.oxc_sourcemap_compiled.specs.Cuts.{IsCut, IsCutFound}

-- a number below the limit lies before the cut
pub below-cut : (f : ℕ → ℕ) (limit first end cut i : ℕ) → IsCut f limit first end cut → i < end → f i < limit → i < cut
below-cut f limit first end cut i c h lt = by-order (nat_lt i cut) refl where
  by-order : (b : Bool) → nat_lt i cut ≡ b → i < cut
  by-order true e = grind (arith, e)
  by-order false e =
      let past : cut ≤ i = grind (arith, e) in
      absurd (omega (arith, c.after i past h, lt))

-- a number that is not below the limit lies behind the cut
pub past-cut : (f : ℕ → ℕ) (limit first end cut i : ℕ) → IsCut f limit first end cut → first ≤ i → limit ≤ f i → cut ≤ i
past-cut f limit first end cut i c h le = by-order (nat_lt i cut) refl where
  by-order : (b : Bool) → nat_lt i cut ≡ b → cut ≤ i
  by-order true e =
      let before : i < cut = grind (arith, e) in
      absurd (omega (arith, c.before i h before, le))
  by-order false e = grind (arith, e)

-- one step of the halving, by the number in the middle
pub halved-cut : (b : Bool) (f : ℕ → ℕ) (limit first end cut start step half : ℕ) → nat_lt (f (start + step - 1)) limit ≡ b
    → 0 < step → step ≤ suc half → first ≤ start → start + step + half ≤ end → IsCut f limit first end cut → start ≤ cut → cut ≤ start + step + half
    → (start + (if b then step else 0) ≤ cut) × (cut ≤ start + (if b then step else 0) + half)
halved-cut true f limit first end cut start step half is some near reached within c low high =
    let lt : f (start + step - 1) < limit = grind (arith, is) in
    let more = below-cut f limit first end cut (start + step - 1) c (omega (arith, some, within)) lt in
    (omega (arith, more, some), omega (arith, high))
halved-cut false f limit first end cut start step half is some near reached within c low high =
    let le : limit ≤ f (start + step - 1) = grind (arith, is) in
    let less = past-cut f limit first end cut (start + step - 1) c (omega (arith, some, reached)) le in
    (omega (arith, low), omega (arith, less, near, some))

-- A search by halving of so many numbers: their cut lies among this many of them, from a start on.
pub record IsHalved (f : ℕ → ℕ) (limit first count start size : ℕ) : Type 0 where
  pub reached : first ≤ start
  pub within : start + size ≤ first + count
  pub cut : (cut : ℕ) → IsCut f limit first (first + count) cut → (start ≤ cut) × (cut ≤ start + size)

pub halved-none : (f : ℕ → ℕ) (limit first count : ℕ) → IsHalved f limit first count first count
halved-none f limit first count = record { reached = omega arith; within = omega arith; cut = λ cut is. (is.reached, is.within) }

pub halved-all : (f : ℕ → ℕ) (limit first count start size cut : ℕ) → IsHalved f limit first count start size → size ≡ 0 → IsCut f limit first (first + count) cut → start ≡ cut
halved-all f limit first count start size cut h none is = omega (arith, (h.cut cut is).0, (h.cut cut is).1, none)

most : (b : Bool) (step : ℕ) → (if b then step else 0) ≤ step
most true step = omega arith
most false step = omega arith

-- one step more, by whether the number in the middle is below the limit
pub halved-more : (b : Bool) (f : ℕ → ℕ) (limit first count start size next : ℕ) → nat_lt (f (start + (size - size / 2) - 1)) limit ≡ b → 0 < size
    → next ≡ start + (if b then size - size / 2 else 0) → IsHalved f limit first count start size → IsHalved f limit first count next (size / 2)
halved-more b f limit first count start size next is some e h =
    let step = size - size / 2 in
    let few = most b step in record {
      reached = omega (arith, e, h.reached);
      within = omega (arith, e, few, h.within);
      cut = λ cut c.
          let kept = h.cut cut c in
          let more = halved-cut b f limit first (first + count) cut start step (size / 2) is (omega (arith, some)) (omega arith) h.reached (omega (arith, h.within)) c kept.0 (omega (arith, kept.1)) in
          (omega (arith, more.0, e), omega (arith, more.1, e));
    }

-- the bits of some tokens are those of all but the last, and of this one
pub but-one : (step s : ℕ) → 0 < step → (step - 1) * s + s ≡ step * s
but-one step s some =
    let whole : step - 1 + 1 ≡ step = omega (arith, some) in
    let more : (step - 1) * s + s ≡ (step - 1 + 1) * s = omega arith in
    more ∙ ap (λ n. n * s) whole

-- the bit of a token so many steps further, and that of where a search goes on
pub bit-at : (first bit start step s : ℕ) → bit ≡ first + start * s → 0 < step → bit + (step - 1) * s ≡ first + (start + step - 1) * s
bit-at first bit start step s is some =
    let far : start + step - 1 ≡ start + (step - 1) = omega (arith, some) in
    let there : bit + (step - 1) * s ≡ first + (start + (step - 1)) * s = omega (arith, is) in
    there ∙ sym (ap (λ n. first + n * s) far)

pub bit-next : (less : Bool) (first bit start step s moved bits : ℕ) → bit ≡ first + start * s → moved ≡ (if less then step else 0) → bits ≡ (if less then step * s else 0)
    → bit + bits ≡ first + (start + moved) * s
bit-next true first bit start step s moved bits is m b = omega (arith, is, ap (λ n. n * s) m, b)
bit-next false first bit start step s moved bits is m b = omega (arith, is, ap (λ n. n * s) m, b)

-- what is found when none is left
pub halved-found : (f : ℕ → ℕ) (limit first count start size before after : ℕ) → IsHalved f limit first count start size → after + binary_digits size ≡ before + binary_digits count
    → binary_digits count ≤ 15 → size ≡ 0 → IsCutFound f limit first count before start after
halved-found f limit first count start size before after h counted small none =
    let last : binary_digits size ≡ 0 = ap binary_digits none in
    record {
      counted = omega (arith, counted, last);
      few = omega (arith, counted, small);
      reached = h.reached;
      within = omega (arith, h.within);
      cut = λ cut is. halved-all f limit first count start size cut h none is;
    }

-- Blocks strictly between those of the first and of the last number, by a number that stands for each: the cut of these.
pub inner-cut : (f g : ℕ → ℕ) (limit first end cut : ℕ) → first / 64 < (end - 1) / 64 → IsCut f limit first end cut
    → ((b : ℕ) → first / 64 < b → b < (end - 1) / 64 → g b ≡ f (64 * b))
    → IsCut g limit (first / 64 + 1) (first / 64 + 1 + ((end - 1) / 64 - first / 64 - 1)) (min ((end - 1) / 64) (max (first / 64 + 1) ((cut + 63) / 64)))
inner-cut f g limit first end cut some c same = record {
  reached = omega (arith, some);
  within = omega (arith, some);
  before = λ i low high.
      let here : 64 * i < cut = omega (arith, low, high) in
      let is = same i (omega (arith, low)) (omega (arith, high)) in
      omega (arith, is, c.before (64 * i) (omega (arith, low)) here);
  after = λ i low high.
      let here : cut ≤ 64 * i = omega (arith, low, high, some) in
      let is = same i (omega (arith, low, some)) (omega (arith, high, some)) in
      omega (arith, is, c.after (64 * i) here (omega (arith, high, some)));
}

-- the cut of the numbers of one block, counted from its first
pub block-cut : (f g : ℕ → ℕ) (limit first end cut base : ℕ) → IsCut f limit first end cut → base ≤ cut → cut ≤ base + 64 → first < base + 64 → base < end
    → ((j : ℕ) → j < 64 → g j ≡ f (base + j))
    → IsCut g limit (max base first - base) (max base first - base + (min (base + 64) end - base - (max base first - base))) (cut - base)
block-cut f g limit first end cut base c low high near some same = record {
  reached = omega (arith, c.reached, low);
  within = omega (arith, c.within, high, c.reached, low);
  before = λ j reached lt.
      let is = same j (omega (arith, lt, high)) in
      omega (arith, is, c.before (base + j) (omega (arith, reached)) (omega (arith, lt)));
  after = λ j le lt.
      let small : j < 64 = omega (arith, lt, near, some, c.reached, c.within) in
      let within : base + j < end = omega (arith, lt, near, some, c.reached, c.within) in
      let is = same j small in
      omega (arith, is, c.after (base + j) (omega (arith, le, low)) within);
}

-- the same numbers have the same cut
pub same-cut : (f g : ℕ → ℕ) (limit first end stop cut : ℕ) → stop ≡ end → ((j : ℕ) → j < end → g j ≡ f j) → IsCut f limit first end cut → IsCut g limit first stop cut
same-cut f g limit first end stop cut e same c = record {
  reached = c.reached;
  within = omega (arith, c.within, e);
  before = λ i low lt. omega (arith, same i (omega (arith, lt, c.within)), c.before i low lt);
  after = λ i le lt. omega (arith, same i (omega (arith, lt, e)), c.after i le (omega (arith, lt, e)));
}

-- numbers that rise from each to the next rise
pub rises : (f : ℕ → ℕ) (n i d : ℕ) → ((k : ℕ) → k + 1 < n → f k < f (k + 1)) → i + suc d < n → f i < f (i + suc d)
rises f n i zero up h =
    let next : i + 1 ≡ i + suc zero = omega arith in
    omega (arith, up i (omega (arith, h)), ap f next)
rises f n i (suc d) up h =
    let more = rises f n i d up (omega (arith, h)) in
    let next : i + suc d + 1 ≡ i + suc (suc d) = omega arith in
    omega (arith, more, up (i + suc d) (omega (arith, h)), ap f next)

-- where numbers rise, one of them is the cut of its own value
pub own-cut : (f : ℕ → ℕ) (n k : ℕ) → ((k : ℕ) → k + 1 < n → f k < f (k + 1)) → k < n → IsCut f (f k) 0 n k
own-cut f n k up h = record {
  reached = omega arith;
  within = omega (arith, h);
  before = λ i low lt.
      let gap : i + suc (k - i - 1) ≡ k = omega (arith, lt) in
      omega (arith, rises f n i (k - i - 1) up (omega (arith, gap, h)), ap f gap);
  after = λ i le lt. later i (i - k) (omega (arith, le)) lt;
} where
  later : (i d : ℕ) → k + d ≡ i → i < n → f k ≤ f i
  later i zero e lt = let same : k ≡ i = omega (arith, e) in omega (arith, ap f same)
  later i (suc d) e lt = omega (arith, rises f n k d up (omega (arith, e, lt)), ap f e)

-- numbers that do not fall have a cut
cut-more : (f : ℕ → ℕ) (limit n : ℕ) → ((k : ℕ) → k < n → f k ≤ f (k + 1)) → (c : ℕ) → IsCut f limit 0 n c → (b : Bool) → nat_lt (f n) limit ≡ b → (n ≤ c ⊎ c < n) → (k : ℕ) × IsCut f limit 0 (suc n) k
cut-more f limit n up c is true e (inl full) = (
  suc n,
  record {
    reached = omega arith;
    within = omega arith;
    before = λ i low lt. below i (nat_lt i n) refl lt;
    after = λ i le lt. absurd (omega (arith, le, lt));
  },
) where
  below : (i : ℕ) (b : Bool) → nat_lt i n ≡ b → i < suc n → f i < limit
  below i true h lt = let less : i < n = grind (arith, h) in is.before i (omega arith) (omega (arith, less, full))
  below i false h lt =
      let more : n ≤ i = grind (arith, h) in
      let same : i ≡ n = omega (arith, more, lt) in
      let here : f n < limit = grind (arith, e) in
      omega (arith, here, ap f same)
cut-more f limit n up c is false e (inl full) = (
  n,
  record {
    reached = omega arith;
    within = omega arith;
    before = λ i low lt. is.before i low (omega (arith, lt, full));
    after = λ i le lt.
        let same : n ≡ i = omega (arith, le, lt) in
        let here : limit ≤ f n = grind (arith, e) in
        omega (arith, here, ap f same);
  },
)
cut-more f limit n up c is b e (inr some) = (
  c,
  record {
    reached = omega arith;
    within = omega (arith, some);
    before = is.before;
    after = λ i le lt. above i (nat_lt i n) refl le lt;
  },
) where
  above : (i : ℕ) (b : Bool) → nat_lt i n ≡ b → c ≤ i → i < suc n → limit ≤ f i
  above i true h le lt = let less : i < n = grind (arith, h) in is.after i le less
  above i false h le lt =
      let more : n ≤ i = grind (arith, h) in
      let last : n - 1 + 1 ≡ i = omega (arith, more, lt, some) in
      let before = is.after (n - 1) (omega (arith, some)) (omega (arith, some)) in
      omega (arith, before, up (n - 1) (omega (arith, some)), ap f last)

split : (b : Bool) (n c : ℕ) → nat_lt c n ≡ b → n ≤ c ⊎ c < n
split true n c e = let lt : c < n = grind (arith, e) in inr lt
split false n c e = let le : n ≤ c = grind (arith, e) in inl le

pub has-cut : (f : ℕ → ℕ) (limit n : ℕ) → ((k : ℕ) → k + 1 < n → f k ≤ f (k + 1)) → (k : ℕ) × IsCut f limit 0 n k
has-cut f limit zero up = (0, record { reached = omega arith; within = omega arith; before = λ i low lt. absurd (omega (arith, lt)); after = λ i le lt. absurd (omega (arith, lt)) })
has-cut f limit (suc n) up =
    let more = has-cut f limit n (λ k lt. up k (omega (arith, lt))) in
    cut-more f limit n (λ k lt. up k (omega (arith, lt))) more.0 more.1 (nat_lt (f n) limit) refl (split (nat_lt more.0 n) n more.0 refl)
