-- Lookups in lists whose columns do not go back, and in several such lists, one after the other.
use Rattle.std.specs.Prelude.{⊤}
use Rattle.std.proofs.Common.{◌≡◌, ◌≢◌, ℕ, ◌<◌, ◌≤◌, Bool, true, false, ◌==◌, nat_le, cond, max}
use Rattle.std.proofs.Common.{List, [], ◌∷◌, ◌++◌, refl, sym, ap, ◌∙◌, arith, Option, Some, None}
use Rattle.std.proofs.Common.{is_some}
use Rattle.std.specs.List.{filter, flat_map, last_or, AllByRecursion}
use Rattle.std.specs.Option.{option_map, option_and_then, option_or, IfSome}
use Rattle.std.proofs.lemmas.Bool.Decides.{nat_tests}
use Rattle.std.proofs.lemmas.List.{append-nil}
use Rattle.std.proofs.lemmas.List.Elements.{filter-append}
use Rattle.oxc_sourcemap_tokens.specs.Token.{last}
use Rattle.oxc_sourcemap_lookup.specs.Lookup.{first, greatest, not_past, in_column, at, clamped_at}
use Rattle.oxc_sourcemap_plan.proofs.JoinStands.{all_weaker}
use Rattle.oxc_sourcemap_plan.proofs.TracesMoved.{all_filter, all_kept, cond_same}

-- ---- options
or_none : {A : Type 0} (q : Option A) → option_or q None ≡ q
or_none None = refl
or_none (Some x) = refl

some_stays : {A : Type 0} (q : Option A) (x : A) (o : Option A) → option_or (option_or q (Some x)) o ≡ option_or q (Some x)
some_stays None x o = refl
some_stays (Some y) x o = refl

or_regroup : {A : Type 0} (p q r : Option A) → option_or p (option_or q r) ≡ option_or (option_or p q) r
or_regroup None q r = refl
or_regroup (Some x) q r = refl

pub or_kept : {A : Type 0} (q o : Option A) → is_some q ≡ true → option_or q o ≡ q
or_kept None o h = absurd (cc (h))
or_kept (Some x) o h = refl

some_or : {A : Type 0} (q o : Option A) → is_some q ≡ true → is_some (option_or q o) ≡ true
some_or None o h = absurd (cc (h))
some_or (Some x) o h = refl

pub map_or : {A B : Type 0} (k : A → B) (p q : Option A) → option_map k (option_or p q) ≡ option_or (option_map k p) (option_map k q)
map_or k None q = refl
map_or k (Some x) q = refl

if_or : {A : Type 0} (P : A → Type 0) (p q : Option A) → IfSome p P → IfSome q P → IfSome (option_or p q) P
if_or P None q h k = k
if_or P (Some x) q h k = h

or_nothing : {A : Type 0} (p q : Option A) → option_or p q ≡ None → q ≡ None
or_nothing None q h = h
or_nothing (Some x) q h = absurd (cc (h))

-- ---- first and last items
module _ {A : Type 0} where
  first_append : (xs ys : List A) → first (xs ++ ys) ≡ option_or (first xs) (first ys)
  first_append [] ys = refl
  first_append (x ∷ xs) ys = refl

  last_or_is : (o : Option A) (xs : List A) → last_or o xs ≡ option_or (last xs) o
  last_or_is o [] = refl
  last_or_is o (x ∷ xs) = let e = last_or_is (Some x) xs in e ∙ sym (some_stays (last xs) x o) ∙ ap (λ q. option_or q o) (sym e)

  last_or_append : (o : Option A) (xs ys : List A) → last_or o (xs ++ ys) ≡ last_or (last_or o xs) ys
  last_or_append o [] ys = refl
  last_or_append o (x ∷ xs) ys = last_or_append (Some x) xs ys

  last_append : (xs ys : List A) → last (xs ++ ys) ≡ option_or (last ys) (last xs)
  last_append xs ys = last_or_append None xs ys ∙ last_or_is (last xs) ys

  first_or_last : (xs : List A) → option_or (first xs) (last xs) ≡ first xs
  first_or_last [] = refl
  first_or_last (x ∷ xs) = refl

  last_is : (x : A) (xs : List A) → last_or (Some x) xs ≢ None
  last_is x [] = λ h. cc (h)
  last_is x (y ∷ ys) = last_is y ys

  no_last : (xs : List A) → last xs ≡ None → xs ≡ []
  no_last [] h = refl
  no_last (x ∷ xs) h = absurd (last_is x xs h)

  if_first : (P : A → Type 0) (xs : List A) → AllByRecursion P xs → IfSome (first xs) P
  if_first P [] h = tt
  if_first P (x ∷ xs) h = h.0

  if_last : (P : A → Type 0) (o : Option A) (xs : List A) → IfSome o P → AllByRecursion P xs → IfSome (last_or o xs) P
  if_last P o [] k h = k
  if_last P o (x ∷ xs) k h = if_last P (Some x) xs h.0 h.1

  all_both : (P Q : A → Type 0) (xs : List A) → AllByRecursion P xs → AllByRecursion Q xs → AllByRecursion (λ x. P x × Q x) xs
  all_both P Q [] h k = tt
  all_both P Q (x ∷ xs) h k = ((h.0, k.0), all_both P Q xs h.1 k.1)

  all_left : (P : A → Type 0) (xs ys : List A) → AllByRecursion P (xs ++ ys) → AllByRecursion P xs
  all_left P [] ys h = tt
  all_left P (x ∷ xs) ys h = (h.0, all_left P xs ys h.1)

  filter_false : (p : A → Bool) (xs : List A) → AllByRecursion (λ x. p x ≡ false) xs → filter p xs ≡ []
  filter_false p [] h = refl
  filter_false p (x ∷ xs) h = ap (λ b. cond b (x ∷ filter p xs) (filter p xs)) h.0 ∙ filter_false p xs h.1

-- ---- lists whose columns do not go back
front_most : (a b c : ℕ) → a ≤ b → max a (max b c) ≡ max b c
front_most a b c h = omega arith

module _ {A : Type 0} (c : A → ℕ) where
  -- each item's column is not past those of the items after it
  abbrev pub Rises : List A → Type 0
  Rises [] = ⊤
  Rises (x ∷ xs) = AllByRecursion (λ y. c x ≤ c y) xs × Rises xs

  rises_filter : (p : A → Bool) (xs : List A) → Rises xs → Rises (filter p xs)
  rises_filter p [] r = tt
  rises_filter p (x ∷ xs) r = elim (p x) as (λ b. Rises (cond b (x ∷ filter p xs) (filter p xs))) [ true ↦ (all_filter _ p xs r.0, rises_filter p xs r.1) | false ↦ rises_filter p xs r.1 ]

  pub rises_left : (xs ys : List A) → Rises (xs ++ ys) → Rises xs
  rises_left [] ys r = tt
  rises_left (x ∷ xs) ys r = (all_left _ xs ys r.0, rises_left xs ys r.1)

  pub rises_right : (xs ys : List A) → Rises (xs ++ ys) → Rises ys
  rises_right [] ys r = r
  rises_right (x ∷ xs) ys r = rises_right xs ys r.1

  -- the last of the items with the greatest column is the last item
  last_near : (o : Option A) (xs : List A) → Rises xs → last_or o (in_column c (greatest c xs) xs) ≡ last_or o xs
  last_near o [] r = refl
  last_near o (x ∷ []) r = let e : (c x == max (c x) 0) ≡ true = grind (arith, nat_tests) in ap (λ b. last_or o (cond b (x ∷ []) [])) e
  last_near o (x ∷ y ∷ ys) r =
      let g = greatest c (y ∷ ys) in
      ap (λ n. last_or o (in_column c n (x ∷ y ∷ ys))) (front_most (c x) (c y) (greatest c ys) r.0.0)
      ∙ elim (c x == g) as (λ b. last_or o (cond b (x ∷ in_column c g (y ∷ ys)) (in_column c g (y ∷ ys))) ≡ last_or (Some y) ys) [
        | true ↦ last_near (Some x) (y ∷ ys) r.1
        | false ↦ last_near o (y ∷ ys) r.1
      ]

  none_in : (col : ℕ) (xs : List A) → greatest c xs < col → in_column c col xs ≡ []
  none_in col [] h = refl
  none_in col (x ∷ xs) h =
      let less : c x < col = omega (arith, h) in
      let e : (c x == col) ≡ false = grind (arith, nat_tests, less) in
      ap (λ b. cond b (x ∷ in_column c col xs) (in_column c col xs)) e ∙ none_in col xs (omega (arith, h))

  greatest_below : (col : ℕ) (xs : List A) → AllByRecursion (λ x. nat_le (c x) col ≡ true) xs → greatest c xs ≤ col
  greatest_below col [] h = omega arith
  greatest_below col (x ∷ xs) h =
      let rest = greatest_below col xs h.1 in
      let here : c x ≤ col = grind (arith, nat_tests, h.0) in
      omega (arith, rest, here)

  in_column_kept : (col : ℕ) (xs : List A) → in_column c col (not_past c col xs) ≡ in_column c col xs
  in_column_kept col [] = refl
  in_column_kept col (x ∷ xs) =
      elim (nat_le (c x) col) as (λ b. nat_le (c x) col ≡ b → in_column c col (cond b (x ∷ not_past c col xs) (not_past c col xs)) ≡ cond (c x == col) (x ∷ in_column c col xs) (in_column c col xs)) [
        | true ↦ (λ e. ap (λ ys. cond (c x == col) (x ∷ ys) ys) (in_column_kept col xs))
        | false ↦ (λ e. let f : (c x == col) ≡ false = grind (arith, nat_tests, e) in in_column_kept col xs ∙ sym (ap (λ b. cond b (x ∷ in_column c col xs) (in_column c col xs)) f))
      ] refl

  -- what a lookup finds there: the first item at the column, or else the last one before it
  pub at_rising : (xs : List A) (col : ℕ) → Rises xs → at c xs col ≡ option_or (first (in_column c col xs)) (last (not_past c col xs))
  at_rising xs col r =
      let ys = not_past c col xs in
      let best = greatest c ys in
      let l : last (in_column c best ys) ≡ last ys = last_near None ys (rises_filter _ xs r) in
      let below : best ≤ col = greatest_below col ys (all_kept _ xs) in
      elim (best == col) as (λ b. (best == col) ≡ b → cond b (first (in_column c best ys)) (last (in_column c best ys)) ≡ option_or (first (in_column c col xs)) (last ys)) [
        | true ↦ (λ e.
            let same : best ≡ col = grind (arith, nat_tests, e) in
            sym (first_or_last (in_column c best ys)) ∙ ap (option_or (first (in_column c best ys))) l ∙ ap (λ n. option_or (first (in_column c n ys)) (last ys)) same ∙ ap (λ zs. option_or (first zs) (last ys)) (in_column_kept col xs))
        | false ↦ (λ e.
            let less : best < col = grind (arith, nat_tests, e, below) in
            l ∙ ap (λ zs. option_or (first zs) (last ys)) (sym (none_in col ys less) ∙ in_column_kept col xs))
      ] refl

  pub at_none : (xs : List A) (col : ℕ) → not_past c col xs ≡ [] → at c xs col ≡ None
  at_none xs col h = ap (λ zs. cond (greatest c zs == col) (first (in_column c (greatest c zs) zs)) (last (in_column c (greatest c zs) zs))) h ∙ cond_same (0 == col) None

  -- a lookup in the middle one of three lists
  pub at_between : (xs ys zs : List A) (col : ℕ) → Rises (xs ++ (ys ++ zs)) → in_column c col xs ≡ [] → not_past c col zs ≡ [] → is_some (at c ys col) ≡ true → at c (xs ++ (ys ++ zs)) col ≡ at c ys col
  at_between xs ys zs col r h k some =
      let all = xs ++ (ys ++ zs) in
      let hits : in_column c col all ≡ in_column c col ys =
      filter-append _ xs (ys ++ zs) ∙ ap (λ ws. ws ++ in_column c col (ys ++ zs)) h ∙ filter-append _ ys zs
      ∙ ap (λ ws. in_column c col ys ++ ws) (sym (in_column_kept col zs) ∙ ap (in_column c col) k) ∙ append-nil (in_column c col ys) in
      let lows : not_past c col all ≡ not_past c col xs ++ not_past c col ys =
      filter-append _ xs (ys ++ zs) ∙ ap (λ ws. not_past c col xs ++ ws) (filter-append _ ys zs ∙ ap (λ ws. not_past c col ys ++ ws) k ∙ append-nil (not_past c col ys)) in
      at_rising all col r ∙ ap (λ ws. option_or (first ws) (last (not_past c col all))) hits
      ∙ ap (λ ws. option_or (first (in_column c col ys)) (last ws)) lows ∙ ap (option_or (first (in_column c col ys))) (last_append (not_past c col xs) (not_past c col ys))
      ∙ or_regroup (first (in_column c col ys)) (last (not_past c col ys)) (last (not_past c col xs))
      ∙ ap (λ q. option_or q (last (not_past c col xs))) (sym (at_rising ys col (rises_left ys zs (rises_right xs (ys ++ zs) r)))) ∙ or_kept (at c ys col) (last (not_past c col xs)) some

  -- a clamped lookup that no item is before finds the first item
  pub clamped_first : (xs : List A) (col : ℕ) → Rises xs → AllByRecursion (λ x. col ≤ c x) xs → clamped_at c xs col ≡ first xs
  clamped_first [] col r h = ap (λ o. option_or o None) (at_none [] col refl)
  clamped_first (x ∷ xs) col r h =
      elim (c x == col) as (λ b. (c x == col) ≡ b → option_or (at c (x ∷ xs) col) (Some x) ≡ Some x) [
        | true ↦ (λ e. ap (λ o. option_or o (Some x)) (at_rising (x ∷ xs) col r ∙ ap (λ b. option_or (first (cond b (x ∷ in_column c col xs) (in_column c col xs))) (last (not_past c col (x ∷ xs)))) e))
        | false ↦ (λ e.
            let here : col ≤ c x = h.0 in
            let more : col < c x = grind (arith, nat_tests, e, here) in
            let f : nat_le (c x) col ≡ false = grind (arith, nat_tests, more) in
            ap (λ o. option_or o (Some x)) (at_none (x ∷ xs) col (filter_false (λ y. nat_le (c y) col) (x ∷ xs) (f, all_weaker _ _ (λ y k. let far : col < c y = omega (arith, k, more) in grind (arith, nat_tests, far)) xs r.0))))
      ] refl

-- ---- the lists of several parts, one after the other
module _ {A B P : Type 0} (c : A → ℕ) (k : A → B) (items : P → List A) (col : ℕ) (exact clamped : P → Option B) (has on : P → Bool) where
  abbrev hit : List A → Option B
  hit xs = option_map k (first (in_column c col xs))

  abbrev low : List A → Option B
  low xs = option_map k (last (not_past c col xs))

  abbrev head : List A → Option B
  head xs = option_map k (first xs)

  hit_append : (xs ys : List A) → hit (xs ++ ys) ≡ option_or (hit xs) (hit ys)
  hit_append xs ys = ap (λ zs. option_map k (first zs)) (filter-append _ xs ys) ∙ ap (option_map k) (first_append (in_column c col xs) (in_column c col ys)) ∙ map_or k _ _

  low_append : (xs ys : List A) → low (xs ++ ys) ≡ option_or (low ys) (low xs)
  low_append xs ys = ap (λ zs. option_map k (last zs)) (filter-append _ xs ys) ∙ ap (option_map k) (last_append (not_past c col xs) (not_past c col ys)) ∙ map_or k _ _

  head_append : (xs ys : List A) → head (xs ++ ys) ≡ option_or (head xs) (head ys)
  head_append xs ys = ap (option_map k) (first_append xs ys) ∙ map_or k _ _

  abbrev found : List P → List P
  found ps = filter (λ p. is_some (exact p)) ps

  -- what is known of a part
  pub record Tells (p : P) : Type 0 where
    pub is_exact : exact p ≡ option_or (hit (items p)) (low (items p))
    pub is_clamped : clamped p ≡ option_or (exact p) (head (items p))
    pub is_hit : has p ≡ is_some (hit (items p))
    pub is_on : on p ≡ is_some (head (items p))

  chosen_more : (u v h l : Option B) (p : P) (ps : List P)
      → ((o : Option P) → option_or h (option_or l (option_and_then exact o)) ≡ option_and_then exact (option_or (first (filter has ps)) (last_or o (found ps))))
      → exact p ≡ option_or u v → has p ≡ is_some u → (o : Option P)
      → option_or (option_or u h) (option_or (option_or l v) (option_and_then exact o)) ≡ option_and_then exact (option_or (first (cond (has p) (p ∷ filter has ps) (filter has ps))) (last_or o (cond (is_some (exact p)) (p ∷ found ps) (found ps))))
  chosen_more (Some x) v h l p ps rest e f o =
      sym e ∙ sym (ap (λ b. option_and_then exact (option_or (first (cond b (p ∷ filter has ps) (filter has ps))) (last_or o (cond (is_some (exact p)) (p ∷ found ps) (found ps))))) f)
  chosen_more None (Some y) h l p ps rest e f o =
      ap (option_or h) (some_stays l y (option_and_then exact o)) ∙ ap (λ q. option_or h (option_or l q)) (sym e) ∙ rest (Some p)
      ∙ sym (ap (λ b. option_and_then exact (option_or (first (cond b (p ∷ filter has ps) (filter has ps))) (last_or o (cond (is_some (exact p)) (p ∷ found ps) (found ps))))) f
      ∙ ap (λ q. option_and_then exact (option_or (first (filter has ps)) (last_or o (cond (is_some q) (p ∷ found ps) (found ps))))) e)
  chosen_more None None h l p ps rest e f o =
      ap (λ q. option_or h (option_or q (option_and_then exact o))) (or_none l) ∙ rest o
      ∙ sym (ap (λ b. option_and_then exact (option_or (first (cond b (p ∷ filter has ps) (filter has ps))) (last_or o (cond (is_some (exact p)) (p ∷ found ps) (found ps))))) f
      ∙ ap (λ q. option_and_then exact (option_or (first (filter has ps)) (last_or o (cond (is_some q) (p ∷ found ps) (found ps))))) e)

  chosen : (ps : List P) → AllByRecursion Tells ps → (o : Option P)
      → option_or (hit (flat_map items ps)) (option_or (low (flat_map items ps)) (option_and_then exact o)) ≡ option_and_then exact (option_or (first (filter has ps)) (last_or o (found ps)))
  chosen [] h o = refl
  chosen (p ∷ ps) h o =
      let rest = flat_map items ps in
      ap (λ q. option_or q (option_or (low (items p ++ rest)) (option_and_then exact o))) (hit_append (items p) rest)
      ∙ ap (λ q. option_or (option_or (hit (items p)) (hit rest)) (option_or q (option_and_then exact o))) (low_append (items p) rest)
      ∙ chosen_more (hit (items p)) (low (items p)) (hit rest) (low rest) p ps (chosen ps h.1) h.0.is_exact h.0.is_hit o

  abbrev chosen_part : List P → Option P
  chosen_part ps = option_or (first (filter has ps)) (last (found ps))

  pub at_chosen : (ps : List P) → Rises c (flat_map items ps) → AllByRecursion Tells ps → option_map k (at c (flat_map items ps) col) ≡ option_and_then exact (chosen_part ps)
  at_chosen ps r h =
      let all = flat_map items ps in
      ap (option_map k) (at_rising c all col r) ∙ map_or k _ _ ∙ ap (option_or (hit all)) (sym (or_none (low all))) ∙ chosen ps h None

  -- where no part finds anything, the first item is that of the first part with items
  none_more : (u v : Option B) (p : P) (ps : List P) (rest : Option B) → exact p ≡ u → head (items p) ≡ v → cond (is_some u) (p ∷ found ps) (found ps) ≡ []
      → Tells p → (found ps ≡ [] → rest ≡ option_and_then clamped (first (filter on ps))) → option_or v rest ≡ option_and_then clamped (first (cond (is_some v) (p ∷ filter on ps) (filter on ps)))
  none_more (Some x) v p ps rest e f n t more = absurd (cc (n))
  none_more None (Some y) p ps rest e f n t more = sym (t.is_clamped ∙ ap (λ q. option_or q (head (items p))) e ∙ f)
  none_more None None p ps rest e f n t more = more n

  none_chosen : (ps : List P) → AllByRecursion Tells ps → found ps ≡ [] → head (flat_map items ps) ≡ option_and_then clamped (first (filter on ps))
  none_chosen [] h n = refl
  none_chosen (p ∷ ps) h n =
      head_append (items p) (flat_map items ps)
      ∙ none_more (exact p) (head (items p)) p ps (head (flat_map items ps)) refl refl n h.0 (none_chosen ps h.1)
      ∙ sym (ap (λ b. option_and_then clamped (first (cond b (p ∷ filter on ps) (filter on ps)))) h.0.is_on)

  abbrev Finds : P → Type 0
  Finds p = (is_some (exact p) ≡ true) × Tells p

  clamped_more : (q : Option P) (ps : List P) → IfSome q Finds → (q ≡ None → head (flat_map items ps) ≡ option_and_then clamped (first (filter on ps)))
      → option_or (option_and_then exact q) (head (flat_map items ps)) ≡ option_and_then clamped (option_or q (first (filter on ps)))
  clamped_more None ps f n = n refl
  clamped_more (Some p) ps f n = or_kept (exact p) _ f.0 ∙ sym (f.1.is_clamped ∙ or_kept (exact p) _ f.0)

  all_find : (ps : List P) → AllByRecursion Tells ps → IfSome (chosen_part ps) Finds
  all_find ps h =
      if_or Finds (first (filter has ps)) (last (found ps))
      (if_first Finds (filter has ps) (all_weaker _ _ (λ p t. (ap is_some t.1.is_exact ∙ some_or (hit (items p)) (low (items p)) (sym t.1.is_hit ∙ t.0), t.1)) (filter has ps) (all_both _ _ (filter has ps) (all_kept has ps) (all_filter _ has ps h))))
      (if_last Finds None (found ps) tt (all_both _ _ (found ps) (all_kept _ ps) (all_filter _ _ ps h)))

  pub clamped_at_chosen : (ps : List P) → Rises c (flat_map items ps) → AllByRecursion Tells ps → option_map k (clamped_at c (flat_map items ps) col) ≡ option_and_then clamped (option_or (chosen_part ps) (first (filter on ps)))
  clamped_at_chosen ps r h =
      map_or k (at c (flat_map items ps) col) (first (flat_map items ps)) ∙ ap (λ q. option_or q (head (flat_map items ps))) (at_chosen ps r h)
      ∙ clamped_more (chosen_part ps) ps (all_find ps h) (λ e. none_chosen ps h (no_last (found ps) (or_nothing (first (filter has ps)) (last (found ps)) e)))
