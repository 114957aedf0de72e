-- The longest runs of equal answers: which is the first, what they cover, and what holds in each.
use Rattle.std.proofs.Common.{◌≡◌, ◌≢◌, refl, sym, ap, ◌∙◌, ℕ, zero, suc, ◌+◌, ◌-◌, ◌*◌, ◌<◌, ◌≤◌}
use Rattle.std.proofs.Common.{Bool, true, false, List, [], ◌∷◌, map, Option, Some, None, arith}
use Rattle.std.proofs.Common.{if◌then◌else◌, inl, inr}
use Rattle.std.proofs.lemmas.Bool.{cases_lt}
use Rattle.std.proofs.lemmas.Bool.Decides.{nat_tests}
use Rattle.std.specs.List.{AllByRecursion}
use Rattle.oxc_sourcemap_tokens.specs.Token.{TokenRecord}
use Rattle.oxc_sourcemap_queries.specs.RangePieces.{Run, is_same, with_place, runs_from, piece_of}
use Rattle.oxc_sourcemap_queries.specs.RangePieces.{line_of, column_of, DoCover}

same-self : (a : Option ℕ) → is_same a a ≡ true
same-self None = refl
same-self (Some i) = grind (arith, nat_tests)

not-same : (a b : Option ℕ) → a ≢ b → is_same a b ≡ false
not-same None None h = absurd (h refl)
not-same None (Some j) h = refl
not-same (Some i) None h = refl
not-same (Some i) (Some j) h = (let other : i ≢ j = λ e. h (ap Some e) in grind (arith, nat_tests, other))

same-is : (a b : Option ℕ) → is_same a b ≡ true → a ≡ b
same-is None None h = refl
same-is None (Some j) h = cc (h)
same-is (Some i) None h = cc (h)
same-is (Some i) (Some j) h = (let e : i ≡ j = grind (arith, nat_tests, h) in ap Some e)

-- a run of one place
abbrev one : ℕ → Option ℕ → Run
one p a = record { start = p; end = p + 1; found = a }

apart-by : (c : Bool) (p q e : ℕ) (a b : Option ℕ) (r : Run) (rs : List Run) → is_same a b ≡ false
    → with_place p a (if c then record { start = q; end = e; found = b } ∷ rs else one q b ∷ r ∷ rs) ≡ one p a ∷ (if c then record { start = q; end = e; found = b } ∷ rs else one q b ∷ r ∷ rs)
apart-by true p q e a b r rs h = rw h refl
apart-by false p q e a b r rs h = rw h refl

-- a place where another answer is found than at the next one
apart : (p q : ℕ) (a b : Option ℕ) (rs : List Run) → a ≢ b → with_place p a (with_place q b rs) ≡ one p a ∷ with_place q b rs
apart p q a b [] h = (let e = not-same a b h in rw e refl)
apart p q a b (r ∷ rs) h = apart-by (is_same b r.found) p q r.end a b r rs (not-same a b h)

joins : (p q e : ℕ) (a : Option ℕ) (rs : List Run) → with_place p a (record { start = q; end = e; found = a } ∷ rs) ≡ record { start = p; end = e; found = a } ∷ rs
joins p q e a rs = (let s = same-self a in rw s refl)

module _ (find : ℕ → Option ℕ) where
  one-run : (p n : ℕ) (a : Option ℕ) → (0 < n → a ≢ find (p + 1)) → with_place p a (runs_from find (p + 1) n) ≡ one p a ∷ runs_from find (p + 1) n
  one-run p zero a h = refl
  one-run p (suc n) a h = apart p (p + 1) a (find (p + 1)) (runs_from find (p + 1 + 1) n) (h (omega arith))

  -- the first run ends where another answer is found for the first time
  pub first-run : (m p e k n : ℕ) (a : Option ℕ) → e ≡ p + m + 1 → n ≡ m + 1 + k → ((q : ℕ) → p ≤ q → q < e → find q ≡ a) → (0 < k → find e ≢ a)
      → runs_from find p n ≡ record { start = p; end = e; found = a } ∷ runs_from find e k
  first-run m p e k zero a end count same other = absurd (omega (arith, count))
  first-run zero p e k (suc n) a end count same other =
      let here : p + 1 ≡ e = omega (arith, end) in
      let left : n ≡ k = omega (arith, count) in
      ap (λ b. with_place p b (runs_from find (p + 1) n)) (same p (omega arith) (omega (arith, end)))
      ∙ one-run p n a (λ some is. other (omega (arith, some, left)) (sym (is ∙ ap find here)))
      ∙ ap (λ x. record { start = p; end = x; found = a } ∷ runs_from find x n) here
      ∙ ap (λ j. record { start = p; end = e; found = a } ∷ runs_from find e j) left
  first-run (suc m) p e k (suc n) a end count same other =
      ap (λ b. with_place p b (runs_from find (p + 1) n)) (same p (omega arith) (omega (arith, end)))
      ∙ ap (with_place p a) (first-run m (p + 1) e k n a (omega (arith, end)) (omega (arith, count)) (λ q low high. same q (omega (arith, low)) high) other)
      ∙ joins p (p + 1) e a (runs_from find e k)

  -- in a run the same is found everywhere
  abbrev pub Holds : Run → Type 0
  Holds run = (q : ℕ) → run.start ≤ q → q < run.end → find q ≡ run.found

  -- so in all runs, and the first begins at this place
  abbrev Begins : ℕ → List Run → Type 0
  Begins p [] = Unit {0}
  Begins p (run ∷ runs) = run.start ≡ p

  one-holds : (p : ℕ) → Holds (one p (find p))
  one-holds p = λ q low high. (let e : q ≡ p = omega (arith, low, high) in ap find e)

  joined-holds : (p : ℕ) (run : Run) → run.start ≡ p + 1 → find p ≡ run.found → Holds run → Holds (record { start = p; end = run.end; found = find p })
  joined-holds p run e same h = λ q low high. elim (cases_lt p q) [
    | inl lt ↦ h q (omega (arith, lt, e)) high ∙ sym same
    | inr ge ↦ (let is : q ≡ p = omega (arith, low, ge) in ap find is)
  ]

  hold-by : (c : Bool) (p : ℕ) (run : Run) (runs : List Run) → is_same (find p) run.found ≡ c → run.start ≡ p + 1 → Holds run → AllByRecursion Holds runs
      → AllByRecursion Holds (if c then record { start = p; end = run.end; found = find p } ∷ runs else one p (find p) ∷ run ∷ runs)
      × Begins p (if c then record { start = p; end = run.end; found = find p } ∷ runs else one p (find p) ∷ run ∷ runs)
  hold-by true p run runs c e h all = ((joined-holds p run e (same-is (find p) run.found c) h, all), refl)
  hold-by false p run runs c e h all = ((one-holds p, (h, all)), refl)

  hold-more : (p : ℕ) (runs : List Run) → AllByRecursion Holds runs × Begins (p + 1) runs → AllByRecursion Holds (with_place p (find p) runs) × Begins p (with_place p (find p) runs)
  hold-more p [] h = ((one-holds p, tt), refl)
  hold-more p (run ∷ runs) h = hold-by (is_same (find p) run.found) p run runs refl h.1 h.0.0 h.0.1

  all-hold : (p n : ℕ) → AllByRecursion Holds (runs_from find p n) × Begins p (runs_from find p n)
  all-hold p zero = (tt, tt)
  all-hold p (suc n) = hold-more p (runs_from find (p + 1) n) (all-hold (p + 1) n)

  pub runs-hold : (p n : ℕ) → AllByRecursion Holds (runs_from find p n)
  runs-hold p n = (all-hold p n).0

-- the number of the position of a place is the place
pub back : (p : ℕ) → line_of p * 4294967296 + column_of p ≡ p
back p = omega arith

module _ (tokens : List TokenRecord) where
  cover-by : (c : Bool) (p end : ℕ) (a : Option ℕ) (run : Run) (runs : List Run) → p + 1 ≤ end → DoCover (p + 1) end (map (piece_of tokens) (run ∷ runs))
      → DoCover p end (map (piece_of tokens) (if c then record { start = p; end = run.end; found = a } ∷ runs else one p a ∷ run ∷ runs))
  cover-by true p end a run runs le h = (back p, omega (arith, h.1), h.2, h.3)
  cover-by false p end a run runs le h =
      (back p, omega (arith, back (p + 1)), omega (arith, back (p + 1), le), (h.0 ∙ sym (back (p + 1)), omega (arith, back (p + 1), h.1), h.2, h.3))

  cover-more : (p end : ℕ) (a : Option ℕ) (runs : List Run) → p + 1 ≤ end → DoCover (p + 1) end (map (piece_of tokens) runs) → DoCover p end (map (piece_of tokens) (with_place p a runs))
  cover-more p end a [] le h = (back p, omega (arith, back (p + 1)), omega (arith, back (p + 1), le), omega (arith, back (p + 1), h))
  cover-more p end a (run ∷ runs) le h = cover-by (is_same a run.found) p end a run runs le h

  -- the runs of all places up to an end cover them
  pub runs-cover : (find : ℕ → Option ℕ) (p end n : ℕ) → n ≡ end - p → DoCover p end (map (piece_of tokens) (runs_from find p n))
  runs-cover find p end zero e = omega (arith, e)
  runs-cover find p end (suc n) e = cover-more p end (find p) (runs_from find (p + 1) n) (omega (arith, e)) (runs-cover find (p + 1) end n (omega (arith, e)))
