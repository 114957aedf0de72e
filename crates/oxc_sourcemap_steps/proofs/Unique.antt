-- Lists of which each item is behind the one before it and has another value are equal if lookups find the same values.
use Rattle.std.proofs.Common.{◌≡◌, ◌≢◌, ℕ, ◌+◌, ◌<◌, ◌≤◌, Bool, true, false, cond, ◌==◌, ◌&&◌}
use Rattle.std.proofs.Common.{nat_lt, Option, Some, None, List, [], ◌∷◌, ◌++◌, refl, sym, ap, subst}
use Rattle.std.proofs.Common.{◌⊎◌, inl, inr, ◌∙◌, arith}
use Rattle.std.specs.Option.{option_map}
use Rattle.std.proofs.lemmas.Bool.{and_parts}
use Rattle.std.proofs.lemmas.Bool.Decides.{nat_tests}
use Rattle.oxc_sourcemap_steps.specs.Simple.{is_further, is_followed, is_repeat}
use Rattle.oxc_sourcemap_steps.proofs.SimplifyScan.{scan}
use Rattle.oxc_sourcemap_steps.proofs.SimplifyKeeping.{Apart, Sorted, sorted-rest, sorted-two}
use Rattle.oxc_sourcemap_steps.proofs.SimplifyKeeping.{together-is}
use Rattle.oxc_sourcemap_steps.proofs.SimplifyKeeping.{together-not, follows-not, Past, scan-past}
use Rattle.oxc_sourcemap_steps.proofs.SimplifyKeeping.{scan-off}
use Rattle.oxc_sourcemap_steps.proofs.SimplifyKeeping.{scan-front, scan-here}
use Rattle.oxc_sourcemap_steps.proofs.Order.{keeps, near-by}

-- how two positions lie to one another
pub data Order (a b c d : ℕ) : Type 0 where
  first-less : a ≤ c → (c ≡ a → b < d) → Order a b c d
  second-less : c ≤ a → (a ≡ c → d < b) → Order a b c d
  level : a ≡ c → b ≡ d → Order a b c d

order_of : (a b c d : ℕ) → Order a b c d
order_of a b c d =
    elim (nat_lt a c) as (λ t. nat_lt a c ≡ t → Order a b c d) [
      | true ↦ (λ e. first-less (grind (arith, nat_tests, e)) (λ f. absurd (grind (arith, nat_tests, e, f))))
      | false ↦ (λ e. elim (nat_lt c a) as (λ t. nat_lt c a ≡ t → Order a b c d) [
        | true ↦ (λ f. second-less (grind (arith, nat_tests, f)) (λ g. absurd (grind (arith, nat_tests, f, g))))
        | false ↦ (λ f. elim (nat_lt b d) as (λ t. nat_lt b d ≡ t → Order a b c d) [
          | true ↦ (λ g. first-less (grind (arith, nat_tests, e, f)) (λ _. grind (arith, nat_tests, g)))
          | false ↦ (λ g. elim (b == d) as (λ t. (b == d) ≡ t → Order a b c d) [
            | true ↦ (λ k. level (grind (arith, nat_tests, e, f)) (grind (arith, nat_tests, k)))
            | false ↦ (λ k. second-less (grind (arith, nat_tests, e, f)) (λ _. grind (arith, nat_tests, g, k)))
          ] refl)
        ] refl)
      ] refl)
    ] refl

module _ {A : Type 0} (line column : A → ℕ) {V : Type 0} (val : A → V) where
  -- an item behind another one: on a later line, or further on the line and with another value
  abbrev pub Behind : Option A → A → Type 0
  Behind None y = Unit {0}
  Behind (Some p) y = (line p ≤ line y) × (line p ≡ line y → (column p < column y) × (val p ≢ val y))

  -- each item is behind the one before it, the first behind this one
  abbrev pub Rising : Option A → List A → Type 0
  Rising p [] = Unit {0}
  Rising p (y ∷ ys) = Behind p y × Rising (Some y) ys

  -- a position behind an item
  abbrev pub Position : Option A → ℕ → ℕ → Type 0
  Position None n col = Unit {0}
  Position (Some p) n col = (line p ≤ n) × (line p ≡ n → column p < col)

  -- what is found on a line before its items are looked at
  abbrev pub start : Option A → ℕ → Option A
  start None n = None
  start (Some p) n = cond (line p == n) (Some p) None

  abbrev pub told : Option A → List A → ℕ → ℕ → Option V
  told p xs n col = option_map val (scan line column n col (start p n) xs)

  abbrev pub TellSame : Option A → List A → List A → Type 0
  TellSame p xs ys = (n col : ℕ) → Position p n col → told p xs n col ≡ told p ys n col

  rising-past : (n col : ℕ) (y : A) (ys : List A) → n ≤ line y → (line y ≡ n → col < column y) → Rising (Some y) ys → Past line column n col (y ∷ ys)
  rising-past n col y [] e h r = (h, tt)
  rising-past n col y (z ∷ zs) e h r =
      let b = r.0 in
      let on : line z ≡ n → col < column z = λ g. let k : line y ≡ n = omega (arith, b.0, e, g) in let lt = (b.1 (k ∙ sym g)).0 in let hh = h k in omega (arith, lt, hh) in
      (h, rising-past n col z zs (omega (arith, b.0, e)) on r.1)

  -- at the position of an item behind p, what p gives is not the item's value
  start-differs : (p : Option A) (y : A) → Behind p y → option_map val (start p (line y)) ≢ Some (val y)
  start-differs None y b e = cc
  start-differs (Some p) y b e =
      elim (line p == line y) as (λ c. (line p == line y) ≡ c → option_map val (cond c (Some p) None) ≡ Some (val y) → ⊥) [
        | true ↦ (λ g e. let k : line p ≡ line y = grind (arith, nat_tests, g) in let v : val p ≡ val y = cc in (b.1 k).1 v)
        | false ↦ (λ g e. cc)
      ] refl e

  behind-position : (p : Option A) (y : A) → Behind p y → Position p (line y) (column y)
  behind-position None y b = tt
  behind-position (Some p) y b = (b.0, λ e. (b.1 e).0)

  told-here : (p : Option A) (y : A) (ys : List A) → told p (y ∷ ys) (line y) (column y) ≡ Some (val y)
  told-here p y ys = ap (option_map val) (scan-here line column (line y) (column y) (start p (line y)) y ys refl refl)

  told-past : (p : Option A) (n col : ℕ) (ys : List A) → Past line column n col ys → told p ys n col ≡ option_map val (start p n)
  told-past p n col ys h = ap (option_map val) (scan-past line column n col (start p n) ys h)

  -- a list that begins later than another one does not tell the same
  later-differs : (p : Option A) (x : A) (xs ys : List A) → Behind p x → Past line column (line x) (column x) ys → told p (x ∷ xs) (line x) (column x) ≡ told p ys (line x) (column x) → ⊥
  later-differs p x xs ys b h e = start-differs p x b (sym (told-past p (line x) (column x) ys h) ∙ sym e ∙ told-here p x xs)

  start-after : (p : Option A) (x : A) (n : ℕ) → Behind p x → line x ≤ n → line x ≢ n → start p n ≡ None
  start-after None x n b le ne = refl
  start-after (Some p) x n b le ne = let g : (line p == n) ≡ false = grind (arith, nat_tests, b.0, le, ne) in rw g refl

  told-rest : (p : Option A) (x : A) (xs : List A) (n col : ℕ) → Behind p x → Position (Some x) n col → told p (x ∷ xs) n col ≡ told (Some x) xs n col
  told-rest p x xs n col b h =
      elim (line x == n) as (λ c. (line x == n) ≡ c → told p (x ∷ xs) n col ≡ option_map val (scan line column n col (cond c (Some x) None) xs)) [
        | true ↦ (λ g. let k : line x ≡ n = grind (arith, nat_tests, g) in ap (option_map val) (scan-front line column n col (start p n) x xs k (h.1 k)))
        | false ↦ (λ g. let k : line x ≢ n = grind (arith, nat_tests, g) in
            ap (option_map val) (scan-off line column n col (start p n) x xs k) ∙ ap (λ o. option_map val (scan line column n col o xs)) (start-after p x n b h.0 k))
      ] refl

  behind-start : (p : Option A) (x : A) (n col : ℕ) → Behind p x → Position (Some x) n col → Position p n col
  behind-start None x n col b h = tt
  behind-start (Some p) x n col b h =
      (omega (arith, b.0, h.0), λ e. let k : line p ≡ line x = omega (arith, b.0, h.0, e) in let lt = (b.1 k).0 in let lt2 = h.1 (sym k ∙ e) in omega (arith, lt, lt2))

  some-same : {v w : V} → Some v ≡ Some w → v ≡ w
  some-same e = cc

  told-at : (p : Option A) (y : A) (ys : List A) (n col : ℕ) → n ≡ line y → col ≡ column y → told p (y ∷ ys) n col ≡ Some (val y)
  told-at p y ys n col e f = ap (option_map val) (scan-here line column n col (start p n) y ys (sym e) (sym f))

  moved : {x y : A} {n col : ℕ} → x ≡ y → Position (Some x) n col → Position (Some y) n col
  moved {n = n} {col = col} e h = subst (λ z. Position (Some z) n col) e h

  rising-moved : (x y : A) (ys : List A) → x ≡ y → Rising (Some y) ys → Rising (Some x) ys
  rising-moved x y ys e h = subst (λ z. Rising (Some z) ys) (sym e) h

  cons-same : {x y : A} {xs ys : List A} → x ≡ y → xs ≡ ys → x ∷ xs ≡ y ∷ ys
  cons-same e f = cc

  module _ (determined : (x y : A) → line x ≡ line y → column x ≡ column y → val x ≡ val y → x ≡ y) where
    -- rising lists that tell the same are equal
    pub rising-unique : (p : Option A) (xs ys : List A) → Rising p xs → Rising p ys → TellSame p xs ys → xs ≡ ys
    rising-unique p [] [] r q h = refl
    rising-unique p [] (y ∷ ys) r q h = absurd (later-differs p y ys [] q.0 tt (sym (h (line y) (column y) (behind-position p y q.0))))
    rising-unique p (x ∷ xs) [] r q h = absurd (later-differs p x xs [] r.0 tt (h (line x) (column x) (behind-position p x r.0)))
    rising-unique p (x ∷ xs) (y ∷ ys) r q h =
        let at-x = h (line x) (column x) (behind-position p x r.0) in
        let at-y = h (line y) (column y) (behind-position p y q.0) in
        elim (order_of (line x) (column x) (line y) (column y)) [
          | first-less e f ↦ absurd (later-differs p x xs (y ∷ ys) r.0 (rising-past (line x) (column x) y ys e f q.1) at-x)
          | second-less e f ↦ absurd (later-differs p y ys (x ∷ xs) q.0 (rising-past (line y) (column y) x xs e f r.1) (sym at-y))
          | level e f ↦
              let v : val x ≡ val y = some-same (sym (told-here p x xs) ∙ at-x ∙ told-at p y ys (line x) (column x) e f) in
              let same : x ≡ y = determined x y e f v in
              let rest : TellSame (Some x) xs ys = λ n col k.
              let k' : Position (Some y) n col = moved same k in
              sym (told-rest p x xs n col r.0 k) ∙ h n col (behind-start p x n col r.0 k) ∙ told-rest p y ys n col q.0 k' ∙ ap (λ z. told (Some z) ys n col) (sym same) in
              cons-same same (rising-unique (Some x) xs ys r.1 (rising-moved x y ys same q.1) rest)
        ]

  -- ---- items kept where each further one moves
  module _ (same : A → A → Bool) (move : A → A)
      (move_line : (x : A) → line (move x) ≡ line x) (move_column : (x : A) → column (move x) ≡ column x + 1) (move_val : (x : A) → val (move x) ≡ val x)
      (same_val : (x y : A) → same x y ≡ true → val x ≡ val y) (differ_val : (x y : A) → same x y ≡ false → val x ≢ val y) where
    abbrev pub spread : List A → List A → List A
    spread before xs = keeps line column same move (is_further line column) before xs

    -- the last item that was kept, and the last one before
    pub record Near (k p : A) (before xs : List A) : Type 0 where
      pub on : line k ≡ line p
      pub alike : val k ≡ val p
      pub front : (column k ≤ column p) ⊎ ((column k ≡ column p + 1) × (is_further line column before p ≡ true))
      pub apart : is_further line column before p ≡ true → is_followed line column p xs ≡ false

    abbrev pub NearOf : Option A → List A → List A → Type 0
    NearOf None [] xs = Unit {0}
    NearOf None (p ∷ before) xs = ⊥
    NearOf (Some k) [] xs = ⊥
    NearOf (Some k) (p ∷ before) xs = Near k p before xs

    same-not : (p y : A) → (line p == line y && same p y) ≡ false → line p ≡ line y → val p ≢ val y
    same-not p y e f = let g : (line p == line y) ≡ true = grind (arith, nat_tests, f) in differ_val p y (let h : same p y ≡ false = cc in h)

    same-on : (p y : A) → (line p == line y && same p y) ≡ true → (line p ≡ line y) × (val p ≡ val y)
    same-on p y e = let parts = and_parts (line p == line y) (same p y) e in (grind (arith, nat_tests, parts.0), same_val p y parts.1)

    pub spread-rising : (k : Option A) (before xs : List A) → NearOf k before xs → Sorted line column before xs → Apart line column before xs → Rising k (spread before xs)
    spread-rising k before [] near s a = tt
    spread-rising None [] (y ∷ ys) near s a =
        (tt, spread-rising (Some y) (y ∷ []) ys (record { on = refl; alike = refl; front = inl (omega arith); apart = a.0 }) s a.1)
    spread-rising None (p ∷ before) (y ∷ ys) near s a = elim near [ ]
    spread-rising (Some k) [] (y ∷ ys) near s a = elim near [ ]
    spread-rising (Some k) (p ∷ before) (y ∷ ys) near s a =
        let rest = sorted-rest line column (p ∷ before) y ys s in
        let two = sorted-two line column p y ys s in
        let on = near.on in
        elim (is_repeat line same (p ∷ before) y) as (λ b. is_repeat line same (p ∷ before) y ≡ b
        → Rising (Some k) (cond b [] ((cond (is_further line column (p ∷ before) y) (move y) y) ∷ []) ++ spread (y ∷ p ∷ before) ys)) [
          | true ↦ (λ r.
              let is = same-on p y r in
              let front : (column k ≤ column y) ⊎ ((column k ≡ column y + 1) × (is_further line column (p ∷ before) y ≡ true)) = elim near.front [
                | inl h ↦ inl (let le = two.1 is.0 in omega (arith, h, le))
                | inr h ↦ inl (let far = follows-not line column p y (near.apart h.1) is.0 in omega (arith, h.0, far))
              ] in
              spread-rising (Some k) (y ∷ p ∷ before) ys (record { on = near.on ∙ is.0; alike = near.alike ∙ is.1; front = front; apart = a.0 }) rest a.1)
          | false ↦ (λ r. elim (is_further line column (p ∷ before) y) as (λ b. is_further line column (p ∷ before) y ≡ b
              → Rising (Some k) ((cond b (move y) y) ∷ spread (y ∷ p ∷ before) ys)) [
                | true ↦ (λ f.
                    let is = together-is line column p y f in
                    let l = move_line y in
                    let c = move_column y in
                    let lt : column k < column (move y) = elim near.front [
                      | inl h ↦ omega (arith, h, is.1, c)
                      | inr h ↦ (let no : is_followed line column p (y ∷ ys) ≡ true = near-by line column p y is.0 is.1 in let never = near.apart h.1 in absurd (let g : false ≡ true = sym never ∙ no in cc))
                    ] in (
                      (omega (arith, on, is.0, l), λ e. (lt, λ v. same-not p y r is.0 (sym near.alike ∙ v ∙ move_val y))),
                      spread-rising (Some (move y)) (y ∷ p ∷ before) ys (record { on = l; alike = move_val y; front = inr (c, f); apart = a.0 }) rest a.1,
                    ))
                | false ↦ (λ f.
                    let lt : line k ≡ line y → column k < column y = λ e.
                    let m : line p ≡ line y = sym near.on ∙ e in
                    let ne = together-not line column p y f m in
                    let le = two.1 m in
                    elim near.front [
                      | inl h ↦ omega (arith, h, ne, le)
                      | inr h ↦ (let far = follows-not line column p y (near.apart h.1) m in omega (arith, h.0, far))
                    ] in (
                      (omega (arith, on, two.0), λ e. (lt e, λ v. same-not p y r (sym near.on ∙ e) (sym near.alike ∙ v))),
                      spread-rising (Some y) (y ∷ p ∷ before) ys (record { on = refl; alike = refl; front = inl (omega arith); apart = a.0 }) rest a.1,
                    ))
              ] refl)
        ] refl
