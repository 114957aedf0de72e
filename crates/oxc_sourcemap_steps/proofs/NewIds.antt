-- New ids by old ones: what is numbered keeps its number, whatever is numbered after it.
use Rattle.std.proofs.Common.{◌≡◌, refl, sym, ap, ◌∙◌, subst, ℕ, zero, suc, ◌+◌, ◌-◌, ◌<◌, ◌≤◌}
use Rattle.std.proofs.Common.{Bool, true, false, cond, ◌==◌, List, [], ◌∷◌, ◌++◌, length, set, min}
use Rattle.std.proofs.Common.{slice_get, Option, Some, None, is_some, IfSome, arith, ◌⊎◌, inl, inr}
use Rattle.std.proofs.Common.{nat_lt, get_or, Result, Ok, Err, OnOk, IfOk, IfErr, ◌≢◌}
use Rattle.std.proofs.lemmas.Bool.Decides.{nat_tests}
use Rattle.std.specs.Option.{option_and_then, option_or, unwrap_or}
use Rattle.oxc_sourcemap_tokens.specs.Token.{TokenRecord}
use Rattle.oxc_sourcemap_tokens.specs.declared.errors.error.Error.{Error}
use Rattle.oxc_sourcemap_tokens.specs.declared.errors.error.Error.TheVariants.{OutOfMemory}
use Rattle.oxc_sourcemap_tokens.specs.declared.errors.error.Error.TheVariants.{TooLarge}
use Rattle.oxc_sourcemap_steps.specs.SimplifySteps.{index_in, with_number, with_any, with_all}
use Rattle.oxc_sourcemap_steps.specs.SimplifySteps.{own_index, IsNumbering, with_places}
use Rattle.oxc_sourcemap_steps.specs.SimplifySteps.{with_places_of, IsPlaced, IsKnown, IsNewId}
use Rattle.oxc_sourcemap_steps.specs.SimplifySteps.{AreIds, with_listings, token_to, with_name}
use Rattle.oxc_sourcemap_steps.specs.SimplifySteps.{with_source, target_by}
use Rattle.oxc_sourcemap_steps.specs.declared.simplify.ids.NewIds.{NewIds}
use Rattle.oxc_sourcemap_steps.specs.declared.simplify.sources.Source.{Source}
use Rattle.oxc_sourcemap_steps.specs.declared.simplify.tokens.Tables.{Tables}
use Rattle.oxc_sourcemap_steps.specs.declared.simplify.tokens.Target.{Target}
use Rattle.oxc_sourcemap_steps.proofs.NextNumbers.{position-push, position-below, get-set}
use Rattle.oxc_sourcemap_steps.proofs.NextNumbers.{count-set}

some-of : {A : Type 0} (o : Option A) → is_some o ≡ true → (x : A) × (o ≡ Some x)
some-of None e = absurd (cc (e))
some-of (Some x) e = (x, refl)

-- ---- what has a place keeps it
abbrev pub Grows : List ℕ → List ℕ → Type 0
Grows ks ls = (k i : ℕ) → index_in k ks ≡ Some i → index_in k ls ≡ Some i

last-grows : (ks : List ℕ) (j : ℕ) → Grows ks (ks ++ j ∷ [])
last-grows ks j k i e = position-push (λ n. k == n) ks j (length ks) refl ∙ ap (λ o. option_or o (cond (k == j) (Some (length ks)) None)) e

number-grows : (ks : List ℕ) (j : ℕ) → Grows ks (with_number ks j)
number-grows ks j k i e = elim (is_some (index_in j ks)) as (λ b. index_in k (cond b ks (ks ++ j ∷ [])) ≡ Some i) [
  | true ↦ e
  | false ↦ last-grows ks j k i e
]

pub any-grows : (ks : List ℕ) (o : Option ℕ) → Grows ks (with_any ks o)
any-grows ks None k i e = e
any-grows ks (Some j) k i e = number-grows ks j k i e

pub places-grow : (ks : List ℕ) (s : Source) → Grows ks (with_places ks s)
places-grow ks s k i e = any-grows (with_any ks s.plain) s.ignored k i (any-grows ks s.plain k i e)

listings-grow : (ks : List ℕ) (o : Option Target) → Grows ks (with_listings ks o)
listings-grow ks None k i e = e
listings-grow ks (Some target) k i e = places-grow ks target.source k i e

pub sources-grow : (tables : Tables) (ks : List ℕ) (ts : List TokenRecord) → Grows ks (with_all (with_source tables) ks ts)
sources-grow tables ks [] k i e = e
sources-grow tables ks (t ∷ ts) k i e = sources-grow tables (with_source tables ks t) ts k i (listings-grow ks (target_by tables t) k i e)

pub names-grow : (tables : Tables) (ks : List ℕ) (ts : List TokenRecord) → Grows ks (with_all (with_name tables) ks ts)
names-grow tables ks [] k i e = e
names-grow tables ks (t ∷ ts) k i e =
    names-grow tables (with_name tables ks t) ts k i (any-grows ks (option_and_then (λ (target : Target). target.name) (target_by tables t)) k i e)

-- ---- what is needed has a place
itself : (k : ℕ) → (k == k) ≡ true
itself k = grind (arith, nat_tests)

or-some : (o : Option ℕ) (n : ℕ) → is_some (option_or o (Some n)) ≡ true
or-some None n = refl
or-some (Some i) n = refl

number-placed : (ks : List ℕ) (k : ℕ) → is_some (index_in k (with_number ks k)) ≡ true
number-placed ks k = elim (is_some (index_in k ks)) as (λ b. is_some (index_in k ks) ≡ b → is_some (index_in k (cond b ks (ks ++ k ∷ []))) ≡ true) [
  | true ↦ (λ e. e)
  | false ↦ (λ e.
      let n = length ks in
      ap is_some (position-push (λ j. k == j) ks k n refl ∙ ap (λ b. option_or (index_in k ks) (cond b (Some n) None)) (itself k))
      ∙ or-some (index_in k ks) n)
] refl

any-placed : (ks : List ℕ) (o : Option ℕ) → IsPlaced (with_any ks o) o
any-placed ks None = tt
any-placed ks (Some k) = number-placed ks k

placed-grows : (ks ls : List ℕ) (o : Option ℕ) → Grows ks ls → IsPlaced ks o → IsPlaced ls o
placed-grows ks ls None g p = tt
placed-grows ks ls (Some k) g p = let h = some-of (index_in k ks) p in ap is_some (g k h.0 h.1)

-- what has a place has the same one later
place-stays : (ks ls : List ℕ) (o : Option ℕ) → Grows ks ls → IsPlaced ks o → option_and_then (λ k. index_in k ks) o ≡ option_and_then (λ k. index_in k ls) o
place-stays ks ls None g p = refl
place-stays ks ls (Some k) g p = let h = some-of (index_in k ks) p in h.1 ∙ sym (g k h.0 h.1)

by-mark : (ks : List ℕ) (b : Bool) (p q : Option ℕ) → IsPlaced ks p → IsPlaced ks q → IsPlaced ks (cond b q p)
by-mark ks true p q e f = f
by-mark ks false p q e f = e

own-placed : (ks : List ℕ) (s : Source) → IsPlaced ks s.plain → IsPlaced ks s.ignored → IsPlaced ks (own_index s)
own-placed ks s p q = by-mark ks s.is_ignored s.plain s.ignored p q

own-known : (ks : List ℕ) (o : Option ℕ) (id : ℕ) → is_some o ≡ true → IsPlaced ks o → id ≡ unwrap_or (option_and_then (λ k. index_in k ks) o) 4294967295 → option_and_then (λ k. index_in k ks) o ≡ Some id
own-known ks None id e p f = absurd (cc (e))
own-known ks (Some k) id e p f = let h = some-of (index_in k ks) p in h.1 ∙ ap (λ i. Some i) (sym (f ∙ ap (λ o. unwrap_or o 4294967295) h.1))

own-small : (ks : List ℕ) (o : Option ℕ) (id : ℕ) → length ks ≤ 4294967295 → option_and_then (λ k. index_in k ks) o ≡ Some id → id < 4294967295
own-small ks None id few e = absurd (cc (e))
own-small ks (Some k) id few e = let b = position-below (λ j. k == j) ks id e in omega (arith, b, few)

-- what gets its places is known by the number of its own
pub now-known : (ks : List ℕ) (s : Source) (id : ℕ) → is_some (own_index s) ≡ true → length (with_places ks s) ≤ 4294967295 → id ≡ unwrap_or (option_and_then (λ k. index_in k (with_places ks s)) (own_index s)) 4294967295
    → IsNewId (with_places ks s) (Some s) id
now-known ks s id own few e =
    let one = with_any ks s.plain in
    let plain = placed-grows one (with_any one s.ignored) s.plain (any-grows one s.ignored) (any-placed ks s.plain) in
    let ignored = any-placed one s.ignored in
    let is = own-known (with_places ks s) (own_index s) id own (own-placed (with_places ks s) s plain ignored) e in
    (record { plain = plain; ignored = ignored; own = is }, own-small (with_places ks s) (own_index s) id few is)

any-same : (ks : List ℕ) (o : Option ℕ) → IsPlaced ks o → with_any ks o ≡ ks
any-same ks None p = refl
any-same ks (Some k) p = ap (λ b. cond b ks (ks ++ k ∷ [])) p

known-same : (ks : List ℕ) (s : Source) (id : ℕ) → IsKnown ks s id → with_places ks s ≡ ks
known-same ks s id h = ap (λ os. with_any os s.ignored) (any-same ks s.plain h.plain) ∙ any-same ks s.ignored h.ignored

own-grows : (ks ls : List ℕ) (o : Option ℕ) (id : ℕ) → Grows ks ls → option_and_then (λ k. index_in k ks) o ≡ Some id → option_and_then (λ k. index_in k ls) o ≡ Some id
own-grows ks ls None id g e = absurd (cc (e))
own-grows ks ls (Some k) id g e = g k id e

known-grows : (ks ls : List ℕ) (s : Source) (id : ℕ) → Grows ks ls → IsKnown ks s id → IsKnown ls s id
known-grows ks ls s id g h = record {
  plain = placed-grows ks ls s.plain g h.plain;
  ignored = placed-grows ks ls s.ignored g h.ignored;
  own = own-grows ks ls (own_index s) id g h.own;
}

-- a token with its ids as they are now, and as they are in the end
pub settled : (ks ns sources names : List ℕ) (t : TokenRecord) (o : Option Target) → Grows (with_listings ks o) sources → Grows (with_any ns (option_and_then (λ (target : Target). target.name) o)) names
    → token_to (with_listings ks o) (with_any ns (option_and_then (λ (target : Target). target.name) o)) t o ≡ token_to sources names t o
settled ks ns sources names t None g h = refl
settled ks ns sources names t (Some target) g h =
    let s = target.source in
    let now = with_places ks s in
    let one = with_any ks s.plain in
    let plain = placed-grows one now s.plain (any-grows one s.ignored) (any-placed ks s.plain) in
    let own = own-placed now s plain (any-placed one s.ignored) in
    let name = place-stays (with_any ns target.name) names target.name h (any-placed ns target.name) in
    ap (λ id. record t { source_id = id; name_id = option_and_then (λ k. index_in k (with_any ns target.name)) target.name }) (place-stays now sources (own_index s) g own)
    ∙ ap (λ id. record t { source_id = option_and_then (λ k. index_in k sources) (own_index s); name_id = id }) name

-- ---- the index of an old id
pub get-none : {A : Type 0} (xs : List A) (i : ℕ) → length xs ≤ i → slice_get xs i ≡ None
get-none [] i h = refl
get-none (x ∷ xs) zero h = absurd (omega (arith, h))
get-none (x ∷ xs) (suc i) h = get-none xs i (omega (arith, h))

pub get-some : {A : Type 0} (xs : List A) (i : ℕ) → i < length xs → (x : A) × (slice_get xs i ≡ Some x)
get-some [] i h = absurd (omega (arith, h))
get-some (x ∷ xs) zero h = (x, refl)
get-some (x ∷ xs) (suc i) h = get-some xs i (omega (arith, h))

pub slot-in : (n m k : ℕ) (id : Option ℕ) → m ≡ min n 4294967295 + 1 → k ≡ min (unwrap_or id 4294967295) (m - 1) → IfSome id (λ i. i < 4294967295) → k + 1 < m → (id ≡ Some k) × (k < n)
slot-in n m k None e f s h = absurd (omega (arith, e, f, h))
slot-in n m k (Some i) e f s h = let same : i ≡ k = omega (arith, e, f, h) in (ap (λ j. Some j) same, omega (arith, e, h))

slot-out : {A : Type 0} (xs : List A) (m k : ℕ) (id : Option ℕ) → m ≡ min (length xs) 4294967295 + 1 → k ≡ min (unwrap_or id 4294967295) (m - 1) → IfSome id (λ i. i < 4294967295) → k + 1 ≡ m
    → option_and_then (slice_get xs) id ≡ None
slot-out xs m k None e f s h = refl
slot-out xs m k (Some i) e f s h = get-none xs i (omega (arith, e, f, h, s))

slot-either : (m k : ℕ) (id : Option ℕ) → 0 < m → k ≡ min (unwrap_or id 4294967295) (m - 1) → (k + 1 < m) ⊎ (k + 1 ≡ m)
slot-either m k id h f = elim (nat_lt (k + 1) m) as (λ b. nat_lt (k + 1) m ≡ b → (k + 1 < m) ⊎ (k + 1 ≡ m)) [
  | true ↦ (λ e. inl (grind (arith, nat_tests, e)))
  | false ↦ (λ e. let q : m ≤ k + 1 = grind (arith, nat_tests, e) in inr (omega (arith, q, f, h)))
] refl

inner : (x y : ℕ) → Some (Some x) ≡ Some (Some y) → x ≡ y
inner x y e = cc (e)

-- what is known of an old id: its new one, or that what it stands for has none so far
module _ (listed : List Source) (n : NewIds) (are : AreIds listed n) (id : Option ℕ) (small : IfSome id (λ i. i < 4294967295)) (k : ℕ) (slot : k ≡ min (unwrap_or id 4294967295) (length n.ids.items - 1)) where
  pub there : 0 < length n.ids.items
  there = omega (arith, are.len)

  pub within : k < length n.ids.items
  within = omega (arith, are.len, slot)

  hit-by : (new : ℕ) (o : Option Source) → slice_get n.ids.items k ≡ Some (Some new) → option_and_then (slice_get listed) id ≡ o → (k + 1 < length n.ids.items) ⊎ (k + 1 ≡ length n.ids.items)
      → (with_places_of n.numbering.order.items o ≡ n.numbering.order.items) × IsNewId n.numbering.order.items o new
  hit-by new None e at (inl h) =
      let q = slot-in (length listed) (length n.ids.items) k id are.len slot small h in
      let s = get-some listed k q.1 in
      absurd (let f : Some s.0 ≡ None = sym s.1 ∙ sym (ap (option_and_then (slice_get listed)) q.0) ∙ at in cc (f))
  hit-by new (Some s) e at (inl h) =
      let q = slot-in (length listed) (length n.ids.items) k id are.len slot small h in
      let here : slice_get listed k ≡ Some s = sym (ap (option_and_then (slice_get listed)) q.0) ∙ at in
      let known = are.known k new s h e here in
      (known-same n.numbering.order.items s new known, (known, own-small n.numbering.order.items (own_index s) new are.numbering.few known.own))
  hit-by new None e at (inr h) = (refl, sym (inner 4294967295 new (sym (are.last k h) ∙ e)))
  hit-by new (Some s) e at (inr h) =
      let q = slot-out listed (length n.ids.items) k id are.len slot small h in absurd (let f : None ≡ Some s = sym q ∙ at in cc (f))

  pub hit : (new : ℕ) → slice_get n.ids.items k ≡ Some (Some new)
      → (with_places_of n.numbering.order.items (option_and_then (slice_get listed) id) ≡ n.numbering.order.items) × IsNewId n.numbering.order.items (option_and_then (slice_get listed) id) new
  hit new e = hit-by new (option_and_then (slice_get listed) id) e refl (slot-either (length n.ids.items) k id there slot)

  miss-by : slice_get n.ids.items k ≡ Some None → (k + 1 < length n.ids.items) ⊎ (k + 1 ≡ length n.ids.items) → k + 1 < length n.ids.items
  miss-by e (inl h) = h
  miss-by e (inr h) = absurd (let f : Some None ≡ Some (Some 4294967295) = sym e ∙ are.last k h in cc (f))

  pub miss : slice_get n.ids.items k ≡ Some None → (k + 1 < length n.ids.items) × ((id ≡ Some k) × (k < length listed))
  miss e =
      let h = miss-by e (slot-either (length n.ids.items) k id there slot) in
      (h, slot-in (length listed) (length n.ids.items) k id are.len slot small h)

-- one more new id
known-by : (b : Bool) (listed : List Source) (n : NewIds) (ls : List ℕ) (j k id new : ℕ) (s t : Source) → (j == k) ≡ b → AreIds listed n → j + 1 < length n.ids.items → Grows n.numbering.order.items ls → slice_get listed k ≡ Some s → IsKnown ls s new
    → cond b (Some (Some new)) (slice_get n.ids.items j) ≡ Some (Some id) → slice_get listed j ≡ Some t → IsKnown ls t id
known-by true listed n ls j k id new s t e are h g at known is now =
    let same : j ≡ k = grind (arith, nat_tests, e) in
    let one : s ≡ t = let f : Some s ≡ Some t = sym at ∙ ap (slice_get listed) (sym same) ∙ now in cc (f) in
    subst (λ (u : Source). IsKnown ls u id) one (subst (λ i. IsKnown ls s i) (inner new id is) known)
known-by false listed n ls j k id new s t e are h g at known is now = known-grows n.numbering.order.items ls t id g (are.known j id t h is now)

last-by : (b : Bool) (m j k new : ℕ) (o : Option (Option ℕ)) → (j == k) ≡ b → j + 1 ≡ m → k + 1 < m → o ≡ Some (Some 4294967295) → cond b (Some (Some new)) o ≡ Some (Some 4294967295)
last-by true m j k new o e h l is = let same : j ≡ k = grind (arith, nat_tests, e) in absurd (omega (arith, same, h, l))
last-by false m j k new o e h l is = is

pub ids-more : (listed : List Source) (n m : NewIds) (k new : ℕ) (s : Source) → AreIds listed n → k + 1 < length n.ids.items → slice_get listed k ≡ Some s → m.numbering.order.items ≡ with_places n.numbering.order.items s → IsNumbering m.numbering
    → length m.numbering.numbers.items ≡ length n.numbering.numbers.items → m.ids.items ≡ set n.ids.items k (Some new) → IsKnown m.numbering.order.items s new → AreIds listed m
ids-more listed n m k new s are h at order numbering count ids known =
    let size : length m.ids.items ≡ length n.ids.items = ap length ids ∙ count-set n.ids.items k (Some new) in
    let get : (j : ℕ) → slice_get m.ids.items j ≡ cond (j == k) (Some (Some new)) (slice_get n.ids.items j) = λ j. ap (λ xs. slice_get xs j) ids ∙ get-set n.ids.items k (Some new) j (omega (arith, h)) in
    let grows : Grows n.numbering.order.items m.numbering.order.items = λ j i e. ap (index_in j) order ∙ places-grow n.numbering.order.items s j i e in record {
      numbering = numbering;
      count = count ∙ are.count;
      len = size ∙ are.len;
      last = λ j l. get j ∙ last-by (j == k) (length n.ids.items) j k new (slice_get n.ids.items j) refl (l ∙ size) h (are.last j (l ∙ size));
      known = λ j id t l is now. known-by (j == k) listed n m.numbering.order.items j k id new s t refl are (omega (arith, l, size)) grows at known (sym (get j) ∙ is) now;
    }

-- ---- an old id without a new one gets it
pub at-get : {A : Type 0} (xs : List A) (k : ℕ) (d : A) → k < length xs → slice_get xs k ≡ Some (get_or xs k d)
at-get [] k d h = absurd (omega (arith, h))
at-get (x ∷ xs) zero d h = refl
at-get (x ∷ xs) (suc k) d h = at-get xs k d (omega (arith, h))

pub read-at : {A : Type 0} (xs : List A) (k : ℕ) (x y : A) → k < length xs → x ≡ get_or xs k x → x ≡ y → slice_get xs k ≡ Some y
read-at xs k x y h e f = at-get xs k x h ∙ ap (λ z. Some z) (sym e ∙ f)

pub needed-ids : (r : Result ℕ Error) (listed : List Source) (n m : NewIds) (k : ℕ) (s : Source) → AreIds listed n → k + 1 < length n.ids.items → slice_get listed k ≡ Some s → OnOk r (m.numbering.order.items ≡ with_places n.numbering.order.items s)
    → OnOk r (IsNumbering m.numbering) → length m.numbering.numbers.items ≡ length n.numbering.numbers.items → IfOk r (λ id. m.ids.items ≡ set n.ids.items k (Some id)) → IfOk r (IsNewId m.numbering.order.items (Some s)) → OnOk r (AreIds listed m)
needed-ids (Err e) listed n m k s are h at order numbering count ids known = tt
needed-ids (Ok id) listed n m k s are h at order numbering count ids known = ids-more listed n m k id s are h at order numbering count ids known.0

pub needed-order : (r : Result ℕ Error) (ks ls : List ℕ) (s : Source) (o : Option Source) → o ≡ Some s → OnOk r (ls ≡ with_places ks s) → OnOk r (ls ≡ with_places_of ks o)
needed-order (Err e) ks ls s o at h = tt
needed-order (Ok id) ks ls s o at h = h ∙ ap (with_places_of ks) (sym at)

pub needed-id : (r : Result ℕ Error) (ks : List ℕ) (s : Source) (o : Option Source) → o ≡ Some s → IfOk r (IsNewId ks (Some s)) → IfOk r (IsNewId ks o)
needed-id (Err e) ks s o at h = tt
needed-id (Ok id) ks s o at h = subst (λ p. IsNewId ks p id) (sym at) h

pub needed-error : (r : Result ℕ Error) (ks : List ℕ) (s : Source) (o : Option Source) → o ≡ Some s → IfErr r (λ e. (e ≢ OutOfMemory) → (e ≡ TooLarge) × (4294967295 < length (with_places ks s)))
    → IfErr r (λ e. (e ≢ OutOfMemory) → (e ≡ TooLarge) × (4294967295 < length (with_places_of ks o)))
needed-error (Ok id) ks s o at h = tt
needed-error (Err e) ks s o at h = λ other. let q = h other in (q.0, subst (λ p. 4294967295 < length (with_places_of ks p)) (sym at) q.1)

-- no old id has a new one at first
pub no-new-ids : (listed : List Source) (n : NewIds) (len : ℕ) → len ≡ length listed → IsNumbering n.numbering → length n.numbering.numbers.items ≡ len → length n.ids.items ≡ min len 4294967295 + 1
    → slice_get n.ids.items (min len 4294967295) ≡ Some (Some 4294967295) → ((k : ℕ) → k < min len 4294967295 → slice_get n.ids.items k ≡ Some None) → AreIds listed n
no-new-ids listed n len e numbering count size last none = record {
  numbering = numbering;
  count = count ∙ e;
  len = size ∙ ap (λ m. min m 4294967295 + 1) e;
  last = λ k h. ap (slice_get n.ids.items) (omega (arith, h, size)) ∙ last;
  known = λ k id s h is at. absurd (let q : Some None ≡ Some (Some id) = sym (none k (omega (arith, h, size))) ∙ is in cc (q));
}
