-- Parts that lie in a list, and what is read of them.
use Rattle.std.proofs.Common.{◌≡◌, ℕ, zero, suc, ◌+◌, ◌<◌, ◌≤◌, List, [], ◌++◌, length, take, drop}
use Rattle.std.proofs.Common.{refl, sym, ap, ◌∙◌, arith, append_assoc, length-append, append-nil}
use Rattle.std.proofs.Common.{subst}
use Rattle.std.proofs.lemmas.List.{take_at, drop_at}
use Rattle.std.specs.List.{flat_map, range_with_len}

-- a part lies in a list, from this index on
pub record LiesAt (at : ℕ) (part all : List ℕ) : Type 0 where
  pub before : List ℕ
  pub behind : List ℕ
  pub place : length before ≡ at
  pub is : all ≡ before ++ (part ++ behind)

pub lies-whole : (all : List ℕ) → LiesAt 0 all all
lies-whole all = record { before = []; behind = []; place = refl; is = sym (append-nil all) }

pub lies-same : (at to : ℕ) (part all : List ℕ) → at ≡ to → LiesAt at part all → LiesAt to part all
lies-same at to part all e h = record { before = h.before; behind = h.behind; place = h.place ∙ e; is = h.is }

-- the front of a part, and what is behind it
pub lies-front : (at : ℕ) (a b all : List ℕ) → LiesAt at (a ++ b) all → LiesAt at a all
lies-front at a b all h = record {
  before = h.before;
  behind = b ++ h.behind;
  place = h.place;
  is = h.is ∙ ap (λ xs. h.before ++ xs) (append_assoc a b h.behind);
}

pub lies-next : (at n : ℕ) (a b all : List ℕ) → LiesAt at (a ++ b) all → length a ≡ n → LiesAt (at + n) b all
lies-next at n a b all h size = record {
  before = h.before ++ a;
  behind = h.behind;
  place = omega (arith, length-append h.before a, h.place, size);
  is = h.is ∙ ap (λ xs. h.before ++ xs) (append_assoc a b h.behind) ∙ sym (append_assoc h.before a (b ++ h.behind));
}

pub lies-within : (at : ℕ) (part all : List ℕ) → LiesAt at part all → at + length part ≤ length all
lies-within at part all h = omega (arith, ap length h.is, length-append h.before (part ++ h.behind), length-append part h.behind, h.place)

pub lies-take : (at n : ℕ) (part all : List ℕ) → LiesAt at part all → length part ≡ n → take n (drop at all) ≡ part
lies-take at n part all h size = ap (λ xs. take n (drop at xs)) h.is ∙ ap (take n) (drop_at h.before (part ++ h.behind) at h.place) ∙ take_at part h.behind n size

-- one of several parts, each made from a number
pub lies-among : (f : ℕ → List ℕ) (a n i j at : ℕ) (all : List ℕ) → LiesAt at (flat_map f (range_with_len a n)) all → i < n → a + i ≡ j
    → LiesAt (at + length (flat_map f (range_with_len a i))) (f j) all
lies-among f a zero i j at all h lt e = absurd (omega (arith, lt))
lies-among f a (suc n) zero j at all h lt e =
    let same : a ≡ j = omega (arith, e) in
    let here : at ≡ at + 0 = omega arith in
    subst (λ m. LiesAt (at + 0) (f m) all) same (lies-same at (at + 0) (f a) all here (lies-front at (f a) (flat_map f (range_with_len (a + 1) n)) all h))
lies-among f a (suc n) (suc i) j at all h lt e =
    let front = flat_map f (range_with_len (a + 1) i) in
    let rest = flat_map f (range_with_len (a + 1) n) in
    let next = lies-next at (length (f a)) (f a) rest all h refl in
    let found = lies-among f (a + 1) n i j (at + length (f a)) all next (omega (arith, lt)) (omega (arith, e)) in
    lies-same (at + length (f a) + length front) (at + length (f a ++ front)) (f j) all (omega (arith, length-append (f a) front)) found
