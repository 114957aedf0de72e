-- What may be found, and what is kept, of a list: it is sorted, not longer, and has the same first items of lines.
use Rattle.std.proofs.Common.{◌≡◌, ℕ, ◌+◌, ◌≤◌, Bool, true, false, cond, ◌==◌, ◌&&◌, ◌||◌, nat_le}
use Rattle.std.proofs.Common.{nat_lt, Some, List, [], ◌∷◌, ◌++◌, refl, sym, ap, ◌∙◌, arith, length}
use Rattle.std.proofs.lemmas.Bool.{and_parts}
use Rattle.std.proofs.lemmas.Bool.Decides.{nat_tests}
use Rattle.oxc_sourcemap_parts.specs.Sorted.{is_sorted_by}
use Rattle.oxc_sourcemap_lookup.specs.Lookup.{first, on_line}
use Rattle.oxc_sourcemap_steps.specs.Simple.{is_further, is_followed, found_after, found_items}
use Rattle.oxc_sourcemap_steps.specs.Simple.{is_repeat, is_after_repeat, kept_after, are_together}
use Rattle.oxc_sourcemap_steps.proofs.SimplifyKeeping.{Apart, sorted-rest, sorted-two, together-is}
use Rattle.oxc_sourcemap_steps.proofs.SimplifyKeeping.{follows-not}

pub precedes-by : (a b c d : ℕ) → a ≤ c → (a ≡ c → b ≤ d) → (nat_lt a c || (a == c && nat_le b d)) ≡ true
precedes-by a b c d e f = grind (arith, nat_tests, e, f)

not-both : (b c : Bool) → (b && c) ≡ false → b ≡ true → c ≡ false
not-both b c e f = cc

module _ {A : Type 0} (line column : A → ℕ) where
  pub sorted-by : (x y : A) (ys : List A) → line x ≤ line y → (line x ≡ line y → column x ≤ column y) → is_sorted_by line column (y ∷ ys) ≡ true → is_sorted_by line column (x ∷ y ∷ ys) ≡ true
  sorted-by x y ys e f s = rw (precedes-by (line x) (column x) (line y) (column y) e f, s)

  -- without the second item a list is as sorted as before
  pub sorted-skip : (x y : A) (ys : List A) → is_sorted_by line column (x ∷ y ∷ ys) ≡ true → is_sorted_by line column (x ∷ ys) ≡ true
  sorted-skip x y [] s = refl
  sorted-skip x y (z ∷ zs) s =
      let one = sorted-two line column x y (z ∷ zs) s in
      let rest = sorted-rest line column (x ∷ []) y (z ∷ zs) s in
      let two = sorted-two line column y z zs rest in
      let le : line x ≡ line z → column x ≤ column z = λ e. grind (arith, one.0, one.1, two.0, two.1, e) in
      sorted-by x z zs (omega (arith, one.0, two.0)) le (sorted-rest line column (y ∷ []) z zs rest)

  -- ---- items that a lookup may find
  pub found-length : (before xs : List A) → length (found_after line column before xs) ≤ length xs
  found-length before [] = omega arith
  found-length before (x ∷ xs) =
      let ih = found-length (x ∷ before) xs in
      elim (is_further line column before x && is_followed line column x xs) as (λ b. length (cond b (found_after line column (x ∷ before) xs) (x ∷ found_after line column (x ∷ before) xs)) ≤ length (x ∷ xs)) [
        | true ↦ omega (arith, ih)
        | false ↦ omega (arith, ih)
      ]

  pub found-all : (before xs : List A) → length (found_after line column before xs) ≡ length xs → found_after line column before xs ≡ xs
  found-all before [] h = refl
  found-all before (x ∷ xs) h =
      let le = found-length (x ∷ before) xs in
      elim (is_further line column before x && is_followed line column x xs) as (λ b. length (cond b (found_after line column (x ∷ before) xs) (x ∷ found_after line column (x ∷ before) xs)) ≡ length (x ∷ xs)
      → cond b (found_after line column (x ∷ before) xs) (x ∷ found_after line column (x ∷ before) xs) ≡ x ∷ xs) [
        | true ↦ (λ h. absurd (omega (arith, h, le)))
        | false ↦ (λ h. ap (λ l. x ∷ l) (found-all (x ∷ before) xs (omega (arith, h))))
      ] h

  found-follows : (p : A) (before xs : List A) → is_sorted_by line column (p ∷ xs) ≡ true → is_sorted_by line column (p ∷ found_after line column before xs) ≡ true
  found-follows p before [] s = refl
  found-follows p before (x ∷ xs) s =
      let two = sorted-two line column p x xs s in
      elim (is_further line column before x && is_followed line column x xs) as (λ b. is_sorted_by line column (p ∷ cond b (found_after line column (x ∷ before) xs) (x ∷ found_after line column (x ∷ before) xs)) ≡ true) [
        | true ↦ found-follows p (x ∷ before) xs (sorted-skip p x xs s)
        | false ↦ sorted-by p x _ two.0 two.1 (found-follows x (x ∷ before) xs (sorted-rest line column (p ∷ []) x xs s))
      ]

  pub found-sorted : (xs : List A) → is_sorted_by line column xs ≡ true → is_sorted_by line column (found_items line column xs) ≡ true
  found-sorted [] s = refl
  found-sorted (x ∷ xs) s = found-follows x (x ∷ []) xs s

  -- the nearest items of two lists are at one position
  abbrev pub Level : List A → List A → Type 0
  Level [] [] = Unit {0}
  Level [] (k ∷ kept) = ⊥
  Level (p ∷ before) [] = ⊥
  Level (p ∷ before) (k ∷ kept) = (line p ≡ line k) × (column p ≡ column k)

  level-further : (before kept : List A) (x : A) → Level before kept → is_further line column kept x ≡ is_further line column before x
  level-further [] [] x l = refl
  level-further [] (k ∷ kept) x l = elim l [ ]
  level-further (p ∷ before) [] x l = elim l [ ]
  level-further (p ∷ before) (k ∷ kept) x l = rw (l.0, l.1)

  level-passed : (before kept : List A) (x : A) → Level before kept → is_further line column before x ≡ true → Level (x ∷ before) kept
  level-passed [] kept x l f = let g : false ≡ true = f in cc
  level-passed (p ∷ before) [] x l f = elim l [ ]
  level-passed (p ∷ before) (k ∷ kept) x l f =
      let is = together-is line column p x f in
      (sym is.0 ∙ l.0, sym is.1 ∙ l.1)

  pub near-by : (x z : A) → line x ≡ line z → column x ≡ column z → (line x == line z && nat_le (column z) (column x + 1)) ≡ true
  near-by x z e f = grind (arith, nat_tests, e, f)

  -- an item that is not followed closely is not followed closely in what a lookup may find
  found-apart-one : (before : List A) (x : A) (xs : List A) → is_followed line column x xs ≡ false → is_followed line column x (found_after line column (x ∷ before) xs) ≡ false
  found-apart-one before x [] f = refl
  found-apart-one before x (z ∷ zs) f =
      elim (are_together line column x z) as (λ b. are_together line column x z ≡ b → is_followed line column x (cond (b && is_followed line column z zs) (found_after line column (z ∷ x ∷ before) zs) (z ∷ found_after line column (z ∷ x ∷ before) zs)) ≡ false) [
        | true ↦ (λ t. let is = together-is line column x z t in let near = near-by x z is.0 is.1 in let g : is_followed line column x (z ∷ zs) ≡ true = near in cc)
        | false ↦ (λ t. f)
      ] refl

  found-apart : (before kept xs : List A) → Level before kept → Apart line column kept (found_after line column before xs)
  found-apart before kept [] l = tt
  found-apart before kept (x ∷ xs) l =
      elim (is_further line column before x && is_followed line column x xs) as (λ b. (is_further line column before x && is_followed line column x xs) ≡ b
      → Apart line column kept (cond b (found_after line column (x ∷ before) xs) (x ∷ found_after line column (x ∷ before) xs))) [
        | true ↦ (λ e. found-apart (x ∷ before) kept xs (level-passed before kept x l (and_parts (is_further line column before x) (is_followed line column x xs) e).0))
        | false ↦ (λ e. (
          λ f. found-apart-one before x xs (not-both (is_further line column before x) (is_followed line column x xs) e (sym (level-further before kept x l) ∙ f)),
          found-apart (x ∷ before) (x ∷ kept) xs (refl, refl),
        ))
      ] refl

  pub found-is-apart : (xs : List A) → Apart line column [] (found_items line column xs)
  found-is-apart xs = found-apart [] [] xs tt

  -- the nearest item is on another line
  abbrev pub Elsewhere : ℕ → List A → Type 0
  Elsewhere n [] = Unit {0}
  Elsewhere n (p ∷ before) = (line p == n) ≡ false

  elsewhere-further : (n : ℕ) (before : List A) (x : A) → Elsewhere n before → (line x == n) ≡ true → is_further line column before x ≡ false
  elsewhere-further n [] x h e = refl
  elsewhere-further n (p ∷ before) x h e = grind (arith, nat_tests, h, e)

  first-cond : (n : ℕ) (b : Bool) (x : A) (xs ys : List A) → (line x == n) ≡ false → first (on_line line n xs) ≡ first (on_line line n ys) → first (on_line line n (cond b xs (x ∷ xs))) ≡ first (on_line line n (x ∷ ys))
  first-cond n true x xs ys e h = rw e h
  first-cond n false x xs ys e h = rw e h

  first-on : (n : ℕ) (x : A) (xs : List A) → (line x == n) ≡ true → first (on_line line n (x ∷ xs)) ≡ Some x
  first-on n x xs e = rw e refl

  -- the first item of a line stays the first
  pub found-first : (n : ℕ) (before xs : List A) → Elsewhere n before → first (on_line line n (found_after line column before xs)) ≡ first (on_line line n xs)
  found-first n before [] h = refl
  found-first n before (x ∷ xs) h =
      elim (line x == n) as (λ b. (line x == n) ≡ b → first (on_line line n (found_after line column before (x ∷ xs))) ≡ first (on_line line n (x ∷ xs))) [
        | true ↦ (λ e. rw (elsewhere-further n before x h e) (first-on n x _ e ∙ sym (first-on n x xs e)))
        | false ↦ (λ e. first-cond n (is_further line column before x && is_followed line column x xs) x (found_after line column (x ∷ before) xs) xs e (found-first n (x ∷ before) xs e))
      ] refl

  -- ---- items that are kept
  module _ (same : A → A → Bool) (move : A → A) (moves : List A → A → Bool) where
    abbrev pub keeps : List A → List A → List A
    keeps before xs = kept_after line same move moves before xs

    pub keep-length : (before xs : List A) → length (keeps before xs) ≤ length xs
    keep-length before [] = omega arith
    keep-length before (y ∷ ys) =
        let ih = keep-length (y ∷ before) ys in
        elim (is_repeat line same before y) as (λ b. length (cond b [] ((cond (moves before y) (move y) y) ∷ []) ++ keeps (y ∷ before) ys) ≤ length (y ∷ ys)) [
          | true ↦ omega (arith, ih)
          | false ↦ omega (arith, ih)
        ]

    -- if as many items are kept as there are, all stay, as long as only those move that come after a repeat
    module _ (moves_only : (before : List A) (y : A) → is_after_repeat line column same before y ≡ false → moves before y ≡ false) where
      abbrev pub NoRepeat : List A → Type 0
      NoRepeat [] = Unit {0}
      NoRepeat (p ∷ before) = is_repeat line same before p ≡ false

      no-move : (before : List A) (y : A) → NoRepeat before → is_after_repeat line column same before y ≡ false
      no-move [] y h = refl
      no-move (p ∷ before) y h = rw h (and-false (are_together line column p y)) where
        and-false : (b : Bool) → (b && false) ≡ false
        and-false true = refl
        and-false false = refl

      pub keep-all : (before xs : List A) → NoRepeat before → length (keeps before xs) ≡ length xs → keeps before xs ≡ xs
      keep-all before [] h e = refl
      keep-all before (y ∷ ys) h e =
          let le = keep-length (y ∷ before) ys in
          elim (is_repeat line same before y) as (λ b. is_repeat line same before y ≡ b → length (cond b [] ((cond (moves before y) (move y) y) ∷ []) ++ keeps (y ∷ before) ys) ≡ length (y ∷ ys)
          → cond b [] ((cond (moves before y) (move y) y) ∷ []) ++ keeps (y ∷ before) ys ≡ y ∷ ys) [
            | true ↦ (λ r e. absurd (omega (arith, e, le)))
            | false ↦ (λ r e. rw (moves_only before y (no-move before y h)) (ap (λ l. y ∷ l) (keep-all (y ∷ before) ys r (omega (arith, e)))))
          ] refl e

    module _ (move_line : (x : A) → line (move x) ≡ line x) (move_column : (x : A) → column (move x) ≡ column x + 1)
        (moves_further : (before : List A) (y : A) → moves before y ≡ true → is_further line column before y ≡ true) where
      moved-sorted : (y : A) (ys : List A) → is_followed line column y ys ≡ false → is_sorted_by line column (y ∷ ys) ≡ true → is_sorted_by line column (move y ∷ ys) ≡ true
      moved-sorted y [] f s = refl
      moved-sorted y (z ∷ zs) f s =
          let two = sorted-two line column y z zs s in
          let l = move_line y in
          let c = move_column y in
          let le : line (move y) ≡ line z → column (move y) ≤ column z = λ e. let far = follows-not line column y z f (sym l ∙ e) in omega (arith, c, far) in
          sorted-by (move y) z zs (omega (arith, l, two.0)) le (sorted-rest line column (y ∷ []) z zs s)

      keep-follows : (q : A) (before xs : List A) → is_sorted_by line column (q ∷ xs) ≡ true → Apart line column before xs → is_sorted_by line column (q ∷ keeps before xs) ≡ true
      keep-follows q before [] s a = refl
      keep-follows q before (y ∷ ys) s a =
          let two = sorted-two line column q y ys s in
          let rest = sorted-rest line column (q ∷ []) y ys s in
          elim (is_repeat line same before y) as (λ b. is_sorted_by line column (q ∷ (cond b [] ((cond (moves before y) (move y) y) ∷ []) ++ keeps (y ∷ before) ys)) ≡ true) [
            | true ↦ keep-follows q (y ∷ before) ys (sorted-skip q y ys s) a.1
            | false ↦ elim (moves before y) as (λ b. moves before y ≡ b → is_sorted_by line column (q ∷ (cond b (move y) y) ∷ keeps (y ∷ before) ys) ≡ true) [
              | true ↦ (λ m.
                  let l = move_line y in
                  let c = move_column y in
                  let le : line q ≡ line (move y) → column q ≤ column (move y) = λ e. let h = two.1 (e ∙ l) in omega (arith, c, h) in
                  sorted-by q (move y) _ (omega (arith, l, two.0)) le (keep-follows (move y) (y ∷ before) ys (moved-sorted y ys (a.0 (moves_further before y m)) rest) a.1))
              | false ↦ (λ m. sorted-by q y _ two.0 two.1 (keep-follows y (y ∷ before) ys rest a.1))
            ] refl
          ]

      pub keep-sorted : (xs : List A) → is_sorted_by line column xs ≡ true → Apart line column [] xs → is_sorted_by line column (keeps [] xs) ≡ true
      keep-sorted [] s a = refl
      keep-sorted (y ∷ ys) s a =
          elim (moves [] y) as (λ b. moves [] y ≡ b → is_sorted_by line column ((cond b (move y) y) ∷ keeps (y ∷ []) ys) ≡ true) [
            | true ↦ (λ m. let f : false ≡ true = moves_further [] y m in cc)
            | false ↦ (λ m. keep-follows y (y ∷ []) ys s a.1)
          ] refl

      not-further : (before : List A) (y : A) → is_further line column before y ≡ false → moves before y ≡ false
      not-further before y f = elim (moves before y) as (λ b. moves before y ≡ b → b ≡ false) [ true ↦ (λ m. let t = moves_further before y m in cc) | false ↦ (λ m. refl) ] refl

      elsewhere-repeat : (n : ℕ) (before : List A) (y : A) → Elsewhere n before → (line y == n) ≡ true → is_repeat line same before y ≡ false
      elsewhere-repeat n [] y h e = refl
      elsewhere-repeat n (p ∷ before) y h e = let g : (line p == line y) ≡ false = grind (arith, nat_tests, h, e) in rw g

      pub keep-first : (n : ℕ) (before xs : List A) → Elsewhere n before → first (on_line line n (keeps before xs)) ≡ first (on_line line n xs)
      keep-first n before [] h = refl
      keep-first n before (y ∷ ys) h =
          elim (line y == n) as (λ b. (line y == n) ≡ b → first (on_line line n (keeps before (y ∷ ys))) ≡ first (on_line line n (y ∷ ys))) [
            | true ↦ (λ e. rw (elsewhere-repeat n before y h e, not-further before y (elsewhere-further n before y h e)) (first-on n y _ e ∙ sym (first-on n y ys e)))
            | false ↦ (λ e. let ih = keep-first n (y ∷ before) ys e in let l = move_line y in
                elim (is_repeat line same before y) as (λ b. first (on_line line n (cond b [] ((cond (moves before y) (move y) y) ∷ []) ++ keeps (y ∷ before) ys)) ≡ first (on_line line n (y ∷ ys))) [
                  | true ↦ rw e ih
                  | false ↦ elim (moves before y) as (λ b. first (on_line line n ((cond b (move y) y) ∷ keeps (y ∷ before) ys)) ≡ first (on_line line n (y ∷ ys))) [
                    | true ↦ rw (l, e) ih
                    | false ↦ rw e ih
                  ]
                ])
          ] refl
