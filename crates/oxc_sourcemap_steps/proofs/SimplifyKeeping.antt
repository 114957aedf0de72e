-- What is kept of a list has, wherever it is looked up, the values of the list.
use Rattle.std.proofs.Common.{◌≡◌, ◌≢◌, ℕ, ◌+◌, ◌<◌, ◌≤◌, Bool, true, false, cond, ◌==◌, ◌&&◌, ◌||◌}
use Rattle.std.proofs.Common.{nat_le, nat_lt, Option, Some, List, [], ◌∷◌, ◌++◌, refl, sym, ap, ◌∙◌}
use Rattle.std.proofs.Common.{arith}
use Rattle.std.specs.Option.{option_map}
use Rattle.std.proofs.lemmas.Bool.{and_parts}
use Rattle.std.proofs.lemmas.Bool.Decides.{nat_tests}
use Rattle.oxc_sourcemap_parts.specs.Sorted.{is_sorted_by, may_precede}
use Rattle.oxc_sourcemap_steps.specs.Simple.{is_further, is_followed, is_repeat, is_after_repeat}
use Rattle.oxc_sourcemap_steps.specs.Simple.{kept_after, are_together}
use Rattle.oxc_sourcemap_steps.proofs.SimplifyScan.{scan, Reached}

-- ---- where an item is, seen from a position
pub data Place (l c n col : ℕ) : Type 0 where
  off : l ≢ n → Place l c n col
  front : l ≡ n → c < col → Place l c n col
  here : l ≡ n → c ≡ col → Place l c n col
  past : l ≡ n → col < c → Place l c n col

pub place_of : (l c n col : ℕ) → Place l c n col
place_of l c n col =
    elim (l == n) as (λ b. (l == n) ≡ b → Place l c n col) [
      | true ↦ (λ e. elim (nat_lt c col) as (λ b. nat_lt c col ≡ b → Place l c n col) [
        | true ↦ (λ f. front (grind (arith, nat_tests, e)) (grind (arith, nat_tests, f)))
        | false ↦ (λ f. elim (c == col) as (λ b. (c == col) ≡ b → Place l c n col) [
          | true ↦ (λ g. here (grind (arith, nat_tests, e)) (grind (arith, nat_tests, g)))
          | false ↦ (λ g. past (grind (arith, nat_tests, e)) (grind (arith, nat_tests, f, g)))
        ] refl)
      ] refl)
      | false ↦ (λ e. off (grind (arith, nat_tests, e)))
    ] refl

-- ---- order
pub precedes-parts : (a b c d : ℕ) → (nat_lt a c || (a == c && nat_le b d)) ≡ true → (a ≤ c) × (a ≡ c → b ≤ d)
precedes-parts a b c d e = grind (arith, nat_tests, e)

module _ {A : Type 0} (line column : A → ℕ) where
  -- no item at a position goes on behind the first unless the next item is further than one column
  abbrev pub Apart : List A → List A → Type 0
  Apart before [] = Unit {0}
  Apart before (y ∷ after) = (is_further line column before y ≡ true → is_followed line column y after ≡ false) × Apart (y ∷ before) after

  abbrev pub Sorted : List A → List A → Type 0
  Sorted [] xs = is_sorted_by line column xs ≡ true
  Sorted (p ∷ before) xs = is_sorted_by line column (p ∷ xs) ≡ true

  pub sorted-rest : (before : List A) (x : A) (xs : List A) → Sorted before (x ∷ xs) → is_sorted_by line column (x ∷ xs) ≡ true
  sorted-rest [] x xs s = s
  sorted-rest (p ∷ before) x xs s = (and_parts (may_precede line column p x) (is_sorted_by line column (x ∷ xs)) s).1

  pub sorted-two : (x y : A) (ys : List A) → is_sorted_by line column (x ∷ y ∷ ys) ≡ true → (line x ≤ line y) × (line x ≡ line y → column x ≤ column y)
  sorted-two x y ys s = precedes-parts (line x) (column x) (line y) (column y) (and_parts (may_precede line column x y) (is_sorted_by line column (y ∷ ys)) s).0

  pub together-is : (x y : A) → are_together line column x y ≡ true → (line x ≡ line y) × (column x ≡ column y)
  together-is x y e =
      let parts = and_parts (line x == line y) (column x == column y) e in
      (grind (arith, nat_tests, parts.0), grind (arith, nat_tests, parts.1))

  pub together-not : (x y : A) → are_together line column x y ≡ false → line x ≡ line y → column x ≢ column y
  together-not x y e f g = grind (arith, nat_tests, e, f, g)

  pub follows-not : (x y : A) → (line x == line y && nat_le (column y) (column x + 1)) ≡ false → line x ≡ line y → column x + 1 < column y
  follows-not x y e f = grind (arith, nat_tests, e, f)

  module _ (n col : ℕ) where
    -- these items are after the column, as far as they are on the line
    abbrev pub Past : List A → Type 0
    Past [] = Unit {0}
    Past (z ∷ zs) = (line z ≡ n → col < column z) × Past zs

    pub scan-past : (cur : Option A) (xs : List A) → Past xs → scan line column n col cur xs ≡ cur
    scan-past cur [] p = refl
    scan-past cur (x ∷ xs) p = let ih = scan-past cur xs p.1 in let h = p.0 in grind (arith, nat_tests, ih, h)

    pub scan-off : (cur : Option A) (y : A) (ys : List A) → line y ≢ n → scan line column n col cur (y ∷ ys) ≡ scan line column n col cur ys
    scan-off cur y ys e = grind (arith, nat_tests, e)

    pub scan-front : (cur : Option A) (y : A) (ys : List A) → line y ≡ n → column y < col → scan line column n col cur (y ∷ ys) ≡ scan line column n col (Some y) ys
    scan-front cur y ys e h = grind (arith, nat_tests, e, h)

    pub scan-here : (cur : Option A) (y : A) (ys : List A) → line y ≡ n → column y ≡ col → scan line column n col cur (y ∷ ys) ≡ Some y
    scan-here cur y ys e h = grind (arith, nat_tests, e, h)

    pub scan-beyond : (cur : Option A) (y : A) (ys : List A) → line y ≡ n → col < column y → scan line column n col cur (y ∷ ys) ≡ cur
    scan-beyond cur y ys e h = grind (arith, nat_tests, e, h)

    pub past-sorted : (z : A) (zs : List A) → n ≤ line z → (line z ≡ n → col < column z) → is_sorted_by line column (z ∷ zs) ≡ true → Past (z ∷ zs)
    past-sorted z [] at h s = (h, tt)
    past-sorted z (w ∷ ws) at h s =
        let two = sorted-two z w ws s in
        let rest = sorted-rest (z ∷ []) w ws s in
        let on : line w ≡ n → col < column w = λ e. grind (arith, two.0, two.1, at, h, e) in
        (h, past-sorted w ws (omega (arith, two.0, at)) on rest)

    pub past-after : (y : A) (ys : List A) → line y ≡ n → col ≤ column y + 1 → is_followed line column y ys ≡ false → is_sorted_by line column (y ∷ ys) ≡ true → Past ys
    past-after y [] e h f s = tt
    past-after y (z ∷ zs) e h f s =
        let two = sorted-two y z zs s in
        let on : line z ≡ n → col < column z = λ g. let m : line y ≡ line z = e ∙ sym g in let far = follows-not y z f m in omega (arith, far, h) in
        past-sorted z zs (omega (arith, two.0, e)) on (sorted-rest (y ∷ []) z zs s)

  module _ {V : Type 0} (val : A → V) (same : A → A → Bool) (move : A → A) (moves : List A → A → Bool)
      (move_line : (x : A) → line (move x) ≡ line x) (move_column : (x : A) → column (move x) ≡ column x + 1) (move_val : (x : A) → val (move x) ≡ val x)
      (same_val : (x y : A) → same x y ≡ true → val x ≡ val y)
      (moves_further : (before : List A) (y : A) → moves before y ≡ true → is_further line column before y ≡ true)
      (moves_repeat : (before : List A) (y : A) → is_after_repeat line column same before y ≡ true → moves before y ≡ true)
      (n col : ℕ) where
    abbrev pub keep : List A → List A → List A
    keep before xs = kept_after line same move moves before xs

    kept-past : (before xs : List A) → Past n col xs → Past n col (keep before xs)
    kept-past before [] p = tt
    kept-past before (y ∷ ys) p =
        let ih = kept-past (y ∷ before) ys p.1 in
        elim (is_repeat line same before y) as (λ b. Past n col (cond b [] ((cond (moves before y) (move y) y) ∷ []) ++ keep (y ∷ before) ys)) [
          | true ↦ ih
          | false ↦ (
            elim (moves before y) as (λ b. line (cond b (move y) y) ≡ n → col < column (cond b (move y) y)) [
              | true ↦ (λ e. let l = move_line y in let c = move_column y in let h = p.0 (sym l ∙ e) in omega (arith, c, h))
              | false ↦ p.0
            ],
            ih,
          )
        ]

    -- what follows a dropped repeat is after its column
    dropped-past : (before : List A) (y : A) (ys : List A) → is_repeat line same before y ≡ true → line y ≡ n → col ≤ column y
        → is_sorted_by line column (y ∷ ys) ≡ true → Apart (y ∷ before) ys → Past n col (keep (y ∷ before) ys)
    dropped-past before y [] r e h s a = tt
    dropped-past before y (z ∷ zs) r e h s a =
        let two = sorted-two y z zs s in
        let rest = sorted-rest (y ∷ []) z zs s in
        elim (are_together line column y z) as (λ b. are_together line column y z ≡ b → Past n col (keep (y ∷ before) (z ∷ zs))) [
          | true ↦ (λ t.
              let is = together-is y z t in
              let m : moves (y ∷ before) z ≡ true = moves_repeat (y ∷ before) z (rw (t, r)) in
              let l = move_line z in
              let c = move_column z in
              let more : Past n col (keep (z ∷ y ∷ before) zs) = kept-past (z ∷ y ∷ before) zs (past-after n col z zs (sym is.0 ∙ e) (omega (arith, h, is.1)) (a.0 t) rest) in
              elim (is_repeat line same (y ∷ before) z) as (λ b. Past n col (cond b [] ((cond (moves (y ∷ before) z) (move z) z) ∷ []) ++ keep (z ∷ y ∷ before) zs)) [
                | true ↦ more
                | false ↦ rw m ((λ g. omega (arith, c, is.1, h)), more)
              ])
          | false ↦ (λ t.
              let on : line z ≡ n → col < column z = λ g. let k = e ∙ sym g in let ne = together-not y z t k in let le = two.1 k in omega (arith, ne, le, h) in
              kept-past (y ∷ before) (z ∷ zs) (past-sorted n col z zs (omega (arith, two.0, e)) on rest))
        ] refl

    abbrev pub Stands : Option A → List A → Type 0
    Stands cur [] = Unit {0}
    Stands cur (p ∷ before) = line p ≡ n → cur ≡ Some p

    abbrev pub find : Option A → List A → Option A
    find cur xs = scan line column n col cur xs

    abbrev pub Alike : Option A → Option A → Type 0
    Alike o p = option_map val o ≡ option_map val p

    -- what is known of the items before
    pub record State (cur' cur : Option A) (before xs : List A) : Type 0 where
      pub reached : Reached line column n col before
      pub stands : Stands cur before
      pub alike : Alike cur' cur
      pub sorted : Sorted before xs
      pub apart : Apart before xs

    repeat-val : (cur : Option A) (before : List A) (y : A) → is_repeat line same before y ≡ true → line y ≡ n → Stands cur before → Alike cur (Some y)
    repeat-val cur [] y r e s = let f : false ≡ true = r in cc
    repeat-val cur (p ∷ before) y r e s =
        let parts = and_parts (line p == line y) (same p y) r in
        let l : line p ≡ line y = grind (arith, nat_tests, parts.0) in
        ap (option_map val) (s (l ∙ e)) ∙ ap (λ v. Some v) (same_val p y parts.1)

    alike-by : (o' o p' p : Option A) → o' ≡ p' → o ≡ p → Alike p' p → Alike o' o
    alike-by o' o p' p e f h = ap (option_map val) e ∙ h ∙ sym (ap (option_map val) f)

    -- the state behind the next item, if this was found then
    behind : (cur' cur cur2' cur2 : Option A) (before : List A) (y : A) (ys : List A) → State cur' cur before (y ∷ ys) → (line y ≡ n → column y < col) → (line y ≡ n → cur2 ≡ Some y) → Alike cur2' cur2
        → State cur2' cur2 (y ∷ before) ys
    behind cur' cur cur2' cur2 before y ys st r s h = record {
      reached = r;
      stands = s;
      alike = h;
      sorted = sorted-rest before y ys st.sorted;
      apart = st.apart.1;
    }

    further-reached : (before : List A) (y : A) → is_further line column before y ≡ true → Reached line column n col before → line y ≡ n → column y < col
    further-reached [] y f r e = let g : false ≡ true = f in cc
    further-reached (p ∷ before) y f r e =
        let is = together-is p y f in
        let h = r (is.0 ∙ e) in
        omega (arith, is.1, h)

    pub kept-scan : (cur' cur : Option A) (before xs : List A) → State cur' cur before xs → Alike (find cur' (keep before xs)) (find cur xs)
    kept-scan cur' cur before [] st = st.alike
    kept-scan cur' cur before (y ∷ ys) st =
        let rest = sorted-rest before y ys st.sorted in
        let ih = λ (cur2' cur2 : Option A) (r : line y ≡ n → column y < col) (s : line y ≡ n → cur2 ≡ Some y) (h : Alike cur2' cur2). kept-scan cur2' cur2 (y ∷ before) ys (behind cur' cur cur2' cur2 before y ys st r s h) in
        elim (is_repeat line same before y) as (λ b. is_repeat line same before y ≡ b → Alike (find cur' (cond b [] ((cond (moves before y) (move y) y) ∷ []) ++ keep (y ∷ before) ys)) (find cur (y ∷ ys))) [
          | true ↦ (λ r. elim (place_of (line y) (column y) n col) [
            | off ne ↦ alike-by _ _ _ _ refl (scan-off n col cur y ys ne) (ih cur' cur (λ e. absurd (ne e)) (λ e. absurd (ne e)) st.alike)
            | front e h ↦ alike-by _ _ _ _ refl (scan-front n col cur y ys e h) (ih cur' (Some y) (λ _. h) (λ _. refl) (st.alike ∙ repeat-val cur before y r e st.stands))
            | here e h ↦ alike-by _ _ _ _ (scan-past n col cur' (keep (y ∷ before) ys) (dropped-past before y ys r e (omega (arith, h)) rest st.apart.1)) (scan-here n col cur y ys e h) (st.alike ∙ repeat-val cur before y r e st.stands)
            | past e h ↦ alike-by _ _ _ _ (scan-past n col cur' (keep (y ∷ before) ys) (dropped-past before y ys r e (omega (arith, h)) rest st.apart.1)) (scan-beyond n col cur y ys e h) st.alike
          ])
          | false ↦ (λ r. elim (moves before y) as (λ b. moves before y ≡ b → Alike (find cur' ((cond b (move y) y) ∷ keep (y ∷ before) ys)) (find cur (y ∷ ys))) [
            | true ↦ (λ m.
                let further = moves_further before y m in
                let reached = further-reached before y further st.reached in
                let l = move_line y in
                let c = move_column y in
                let v = ap (λ v. Some v) (move_val y) in
                elim (place_of (line y) (column y) n col) [
                  | off ne ↦ alike-by _ _ _ _ (scan-off n col cur' (move y) _ (λ e. ne (sym l ∙ e))) (scan-off n col cur y ys ne) (ih cur' cur (λ e. absurd (ne e)) (λ e. absurd (ne e)) st.alike)
                  | front e h ↦ elim (place_of (line y) (column y + 1) n col) [
                    | off ne ↦ absurd (ne e)
                    | front e' h' ↦ alike-by _ _ _ _ (scan-front n col cur' (move y) _ (l ∙ e) (omega (arith, c, h'))) (scan-front n col cur y ys e h) (ih (Some (move y)) (Some y) (λ _. h) (λ _. refl) v)
                    | here e' h' ↦ alike-by _ _ _ _ (scan-here n col cur' (move y) _ (l ∙ e) (c ∙ h'))
                        (scan-front n col cur y ys e h ∙ scan-past n col (Some y) ys (past-after n col y ys e (omega (arith, h')) (st.apart.0 further) rest)) v
                    | past e' h' ↦ absurd (omega (arith, h, h'))
                  ]
                  | here e h ↦ let r = reached e in absurd (omega (arith, h, r))
                  | past e h ↦ let r = reached e in absurd (omega (arith, h, r))
                ])
            | false ↦ (λ m. elim (place_of (line y) (column y) n col) [
              | off ne ↦ alike-by _ _ _ _ (scan-off n col cur' y _ ne) (scan-off n col cur y ys ne) (ih cur' cur (λ e. absurd (ne e)) (λ e. absurd (ne e)) st.alike)
              | front e h ↦ alike-by _ _ _ _ (scan-front n col cur' y _ e h) (scan-front n col cur y ys e h) (ih (Some y) (Some y) (λ _. h) (λ _. refl) refl)
              | here e h ↦ alike-by _ _ _ _ (scan-here n col cur' y _ e h) (scan-here n col cur y ys e h) refl
              | past e h ↦ alike-by _ _ _ _ (scan-beyond n col cur' y _ e h) (scan-beyond n col cur y ys e h) st.alike
            ])
          ] refl)
        ] refl
