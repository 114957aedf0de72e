-- The two groupings of a composition of three maps, and their errors.
use Rattle.std.proofs.Common.{◌≡◌, ◌≢◌, ◌↔◌, ◌⊎◌, inl, inr, ℕ, ◌+◌, ◌≤◌, ◌<◌, Bool, true, false}
use Rattle.std.proofs.Common.{cond, ◌&&◌, List, [], ◌∷◌, length, refl, sym, ap, ◌∙◌, arith, nat_lt}
use Rattle.std.proofs.Common.{Option, Some, None, option_map, Result, Ok, Err}
use Rattle.std.proofs.lemmas.Bool.Decides.{nat_tests}
use Rattle.std.specs.Option.{option_and_then}
use Rattle.oxc_sourcemap_tokens.specs.declared.errors.error.Error.{Error}
use Rattle.oxc_sourcemap_tokens.specs.declared.errors.error.Error.TheVariants.{VlqLeftover}
use Rattle.oxc_sourcemap_tokens.specs.declared.errors.error.Error.TheVariants.{VlqNoValues}
use Rattle.oxc_sourcemap_tokens.specs.declared.errors.error.Error.TheVariants.{VlqOverflow, BadJson}
use Rattle.oxc_sourcemap_tokens.specs.declared.errors.error.Error.TheVariants.{BadSegmentSize}
use Rattle.oxc_sourcemap_tokens.specs.declared.errors.error.Error.TheVariants.{BadSourceReference}
use Rattle.oxc_sourcemap_tokens.specs.declared.errors.error.Error.TheVariants.{BadNameReference}
use Rattle.oxc_sourcemap_tokens.specs.declared.errors.error.Error.TheVariants.{OutOfMemory}
use Rattle.oxc_sourcemap_tokens.specs.declared.errors.error.Error.TheVariants.{TooLarge, LineOrder}
use Rattle.oxc_sourcemap_tokens.specs.declared.errors.error.Error.TheVariants.{BadChunks}
use Rattle.oxc_sourcemap_tokens.specs.declared.errors.error.Error.TheVariants.{SeveralSources}
use Rattle.oxc_sourcemap_tokens.specs.declared.errors.error.Error.TheVariants.{SectionOrder}
use Rattle.oxc_sourcemap_tokens.specs.declared.errors.error.Error.TheVariants.{InputLineOrder}
use Rattle.oxc_sourcemap_tokens.specs.LineOrder.{first_out_of_order}
use Rattle.oxc_sourcemap_parts.specs.Record.{Text, MapRecord}
use Rattle.oxc_sourcemap_parts.specs.Texts.{index_of}
use Rattle.oxc_sourcemap_parts.specs.Sound.{IsSound}
use Rattle.oxc_sourcemap_parts.specs.DecodedMap.{decoded_map_of}
use Rattle.oxc_sourcemap_tokens.specs.Errors.{unless}
use Rattle.oxc_sourcemap_steps.specs.Composed.{Target, targets, inherited_name, inherited_id}
use Rattle.oxc_sourcemap_steps.specs.Composed.{may_be_id, are_ids, composed_names, composed}
use Rattle.oxc_sourcemap_steps.specs.Composed.{composition_fault, composition}
use Rattle.oxc_sourcemap_parts.proofs.Order.{sorted_in_order}
use Rattle.oxc_sourcemap_plan.specs.ComposeLaws.{then_with, with_then, grouped_left, grouped_right}
use Rattle.oxc_sourcemap_plan.specs.ComposeLaws.{IsSeveralSources, TellsOf}
use Rattle.oxc_sourcemap_plan.proofs.Compositions.{index-below, records_associative, sound_composed}
use Rattle.oxc_sourcemap_plan.proofs.ComposedNames.{names-most}

-- ---- a composition, case by case
abbrev is_many : MapRecord → Bool
is_many a = nat_lt 1 (length a.sources)

abbrev do_ids_fit : MapRecord → MapRecord → Bool
do_ids_fit a b = are_ids a.names (composed_names a.names b.names (targets a b)) (targets a b)

ok-if : (fault : Option Error) (fit : Bool) (a b r : MapRecord) → unless fault (cond fit (Ok (composed a b)) (Err TooLarge)) ≡ Ok r → r ≡ composed a b
ok-if (Some f) fit a b r e = absurd (cc (e))
ok-if None true a b r e = cc (e)
ok-if None false a b r e = absurd (cc (e))

is-composed : (a b r : MapRecord) → composition a b ≡ Ok r → r ≡ composed a b
is-composed a b r e = ok-if (composition_fault a b) (do_ids_fit a b) a b r e

several : (a b : MapRecord) → is_many a ≡ true → composition a b ≡ Err (SeveralSources (length a.sources))
several a b e = rw e

-- the second map is sound
fits-if : (fit : Bool) (a b : MapRecord) → is_many a ≡ false → IsSound b → do_ids_fit a b ≡ fit → composition a b ≡ cond fit (Ok (composed a b)) (Err TooLarge)
fits-if fit a b e s i = let o = sorted_in_order b.tokens s.sorted in rw (e, o, i)

given-if : (fit : Bool) (a b : MapRecord) → is_many a ≡ false → IsSound b → do_ids_fit a b ≡ fit → composition a b ≢ Err TooLarge → composition a b ≡ Ok (composed a b)
given-if true a b e s i n = fits-if true a b e s i
given-if false a b e s i n = absurd (n (fits-if false a b e s i))

given : (a b : MapRecord) → is_many a ≡ false → IsSound b → composition a b ≢ Err TooLarge → composition a b ≡ Ok (composed a b)
given a b e s n = given-if (do_ids_fit a b) a b e s refl n

-- ---- the groupings
left-is : (q : Result MapRecord Error) (a b c left : MapRecord) → composition a b ≡ q → then_with q c ≡ Ok left → left ≡ composed (composed a b) c
left-is (Ok ab) a b c left e f = is-composed ab c left f ∙ ap (λ m. composed m c) (is-composed a b ab e)
left-is (Err x) a b c left e f = absurd (cc (f))

right-is : (q : Result MapRecord Error) (a b c right : MapRecord) → composition b c ≡ q → with_then a q ≡ Ok right → right ≡ composed a (composed b c)
right-is (Ok bc) a b c right e f = is-composed a bc right f ∙ ap (composed a) (is-composed b c bc e)
right-is (Err x) a b c right e f = absurd (cc (f))

pub groupings_agree : (a b c : MapRecord) → IsSound a → IsSound b → IsSound c → (left right : MapRecord) → grouped_left a b c ≡ Ok left → grouped_right a b c ≡ Ok right → decoded_map_of left ≡ decoded_map_of right
groupings_agree a b c x y z left right e f =
    ap decoded_map_of (left-is (composition a b) a b c left refl e) ∙ records_associative a b c x y z ∙ sym (ap decoded_map_of (right-is (composition b c) a b c right refl f))

-- the results of both groupings
record BothFail (a b c : MapRecord) : Type 0 where
  pub left : IsSeveralSources (grouped_left a b c)
  pub right : IsSeveralSources (grouped_right a b c)

record BothGiven (a b c : MapRecord) : Type 0 where
  pub left : grouped_left a b c ≡ Ok (composed (composed a b) c)
  pub right : grouped_right a b c ≡ Ok (composed a (composed b c))

module _ (a b c : MapRecord) (y : IsSound b) (z : IsSound c) (x : IsSound a) (n : grouped_left a b c ≢ Err TooLarge) (k : grouped_right a b c ≢ Err TooLarge) where
  -- no step of a grouping is too large
  first-given : is_many a ≡ false → composition a b ≡ Ok (composed a b)
  first-given e = given a b e y (λ t. n (ap (λ q. then_with q c) t))

  last-given : is_many b ≡ false → composition b c ≡ Ok (composed b c)
  last-given e = given b c e z (λ t. k (ap (with_then a) t))

  right-many : (m : Bool) → is_many b ≡ m → is_many a ≡ true → IsSeveralSources (grouped_right a b c)
  right-many true e f = (length b.sources, ap (with_then a) (several b c e))
  right-many false e f = (length a.sources, ap (with_then a) (last-given e) ∙ several a (composed b c) f)

  error-first : is_many a ≡ true → BothFail a b c
  error-first e = record { left = (length a.sources, ap (λ q. then_with q c) (several a b e)); right = right-many (is_many b) refl e }

  error-second : is_many a ≡ false → is_many b ≡ true → BothFail a b c
  error-second e f = record {
    left = (length b.sources, ap (λ q. then_with q c) (first-given e) ∙ several (composed a b) c f);
    right = (length b.sources, ap (with_then a) (several b c f));
  }

  both-given : is_many a ≡ false → is_many b ≡ false → BothGiven a b c
  both-given e f =
      let ab = ap (λ q. then_with q c) (first-given e) in
      let bc = ap (with_then a) (last-given f) in
      record {
        left = ab ∙ given (composed a b) c f z (λ t. n (ab ∙ t));
        right = bc ∙ given a (composed b c) e (sound_composed b c y z) (λ t. k (bc ∙ t));
      }

  error-iff : BothFail a b c → IsSeveralSources (grouped_left a b c) ↔ IsSeveralSources (grouped_right a b c)
  error-iff r = (λ _. r.right, λ _. r.left)

  no-error : (answer : Result MapRecord Error) (m : MapRecord) → answer ≡ Ok m → IsSeveralSources answer → ⊥
  no-error answer m e s = cc (e, s.1)

  given-iff : BothGiven a b c → IsSeveralSources (grouped_left a b c) ↔ IsSeveralSources (grouped_right a b c)
  given-iff g = (λ s. absurd (no-error (grouped_left a b c) _ g.left s), λ s. absurd (no-error (grouped_right a b c) _ g.right s))

  error-by : (p q : Bool) → is_many a ≡ p → is_many b ≡ q → IsSeveralSources (grouped_left a b c) ↔ IsSeveralSources (grouped_right a b c)
  error-by true q e f = error-iff (error-first e)
  error-by false true e f = error-iff (error-second e f)
  error-by false false e f = given-iff (both-given e f)

  pub fail_together : IsSeveralSources (grouped_left a b c) ↔ IsSeveralSources (grouped_right a b c)
  fail_together = error-by (is_many a) (is_many b) refl refl

  pub both_answer : length a.sources ≤ 1 → length b.sources ≤ 1 → ((left : MapRecord) × (grouped_left a b c ≡ Ok left)) × ((right : MapRecord) × (grouped_right a b c ≡ Ok right))
  both_answer h j =
      let e : is_many a ≡ false = grind (arith, nat_tests, h) in
      let f : is_many b ≡ false = grind (arith, nat_tests, j) in
      let g = both-given e f in
      ((composed (composed a b) c, g.left), (composed a (composed b c), g.right))

  -- ---- what follows from one grouping for the other
  either-by : (p q : Bool) → is_many a ≡ p → is_many b ≡ q → BothFail a b c ⊎ BothGiven a b c
  either-by true q e f = inl (error-first e)
  either-by false true e f = inl (error-second e f)
  either-by false false e f = inr (both-given e f)

  right-map : (m : MapRecord) → grouped_left a b c ≡ Ok m → (r : MapRecord) × (grouped_right a b c ≡ Ok r) × (decoded_map_of m ≡ decoded_map_of r)
  right-map m e = elim (either-by (is_many a) (is_many b) refl refl) [
    | inl r ↦ absurd (no-error (grouped_left a b c) m e r.left)
    | inr g ↦ (composed a (composed b c), g.right, groupings_agree a b c x y z m _ e g.right)
  ]

  left-map : (m : MapRecord) → grouped_right a b c ≡ Ok m → (r : MapRecord) × (grouped_left a b c ≡ Ok r) × (decoded_map_of m ≡ decoded_map_of r)
  left-map m e = elim (either-by (is_many a) (is_many b) refl refl) [
    | inl r ↦ absurd (no-error (grouped_right a b c) m e r.right)
    | inr g ↦ (composed (composed a b) c, g.left, sym (groupings_agree a b c x y z _ m g.left e))
  ]

too-large-or-not : (e : Error) → (e ≡ TooLarge) ⊎ (e ≢ TooLarge)
too-large-or-not VlqLeftover = inr (λ q. cc (q))
too-large-or-not VlqNoValues = inr (λ q. cc (q))
too-large-or-not VlqOverflow = inr (λ q. cc (q))
too-large-or-not (BadJson fault) = inr (λ q. cc (q))
too-large-or-not (BadSegmentSize n) = inr (λ q. cc (q))
too-large-or-not (BadSourceReference n) = inr (λ q. cc (q))
too-large-or-not (BadNameReference n) = inr (λ q. cc (q))
too-large-or-not OutOfMemory = inr (λ q. cc (q))
too-large-or-not TooLarge = inl refl
too-large-or-not (LineOrder i) = inr (λ q. cc (q))
too-large-or-not (BadChunks k) = inr (λ q. cc (q))
too-large-or-not (SeveralSources n) = inr (λ q. cc (q))
too-large-or-not (SectionOrder k) = inr (λ q. cc (q))
too-large-or-not (InputLineOrder k) = inr (λ q. cc (q))

is-too-large : (q : Result MapRecord Error) → (q ≡ Err TooLarge) ⊎ (q ≢ Err TooLarge)
is-too-large (Ok r) = inr (λ e. cc (e))
is-too-large (Err f) = elim (too-large-or-not f) [ inl e ↦ inl (ap (λ f. Err f) e) | inr n ↦ inr (λ e. n (cc (e))) ]

ok-small : (q : Result MapRecord Error) (m : MapRecord) → q ≡ Ok m → q ≢ Err TooLarge
ok-small q m e f = cc (e, f)

several-small : (q : Result MapRecord Error) → IsSeveralSources q → q ≢ Err TooLarge
several-small q s f = let e = s.1 in cc (e, f)

module _ (a b c : MapRecord) (x : IsSound a) (y : IsSound b) (z : IsSound c) where
  pub left_tells : TellsOf (grouped_left a b c) (grouped_right a b c)
  left_tells = record {
    of_map = λ m e. elim (is-too-large (grouped_right a b c)) [
      | inl t ↦ inl t
      | inr k ↦ inr (right-map a b c y z x (ok-small (grouped_left a b c) m e) k m e)
    ];
    of_several = λ s. elim (is-too-large (grouped_right a b c)) [
      | inl t ↦ inl t
      | inr k ↦ inr ((fail_together a b c y z x (several-small (grouped_left a b c) s) k).0 s)
    ];
  }

  pub right_tells : TellsOf (grouped_right a b c) (grouped_left a b c)
  right_tells = record {
    of_map = λ m e. elim (is-too-large (grouped_left a b c)) [
      | inl t ↦ inl t
      | inr k ↦ inr (left-map a b c y z x k (ok-small (grouped_right a b c) m e) m e)
    ];
    of_several = λ s. elim (is-too-large (grouped_left a b c)) [
      | inl t ↦ inl t
      | inr k ↦ inr ((fail_together a b c y z x k (several-small (grouped_right a b c) s)).1 s)
    ];
  }

-- ---- too many names
past-at : (o : Option ℕ) (count : ℕ) → ((i : ℕ) → o ≡ Some i → i < count) → may_be_id o ≡ false → 4294967295 < count
past-at None count h e = absurd (cc (e))
past-at (Some i) count h e = let l = h i refl in let g : 4294967295 ≤ i = grind (arith, nat_tests, e) in omega (arith, l, g)

index-within : (names : List Text) (o : Option Text) (i : ℕ) → option_and_then (λ name. index_of name names) o ≡ Some i → i < length names
index-within names None i e = absurd (cc (e))
index-within names (Some x) i e = index-below x names i e

past-ids : (first names : List Text) (ls : List Target) → are_ids first names ls ≡ false → 4294967295 < length names
past-ids first names [] e = absurd (cc (e))
past-ids first names (l ∷ ls) e =
    elim (may_be_id (inherited_id first names l)) as (λ b. may_be_id (inherited_id first names l) ≡ b → (b && are_ids first names ls) ≡ false → 4294967295 < length names) [
      | true ↦ (λ q k. past-ids first names ls k)
      | false ↦ (λ q k. past-at (inherited_id first names l) (length names) (λ i p. index-within names (inherited_name first l) i p) q)
    ] refl e

room-if : (many : Bool) (order : Option ℕ) (fit : Bool) (a b : MapRecord) → do_ids_fit a b ≡ fit
    → unless (cond many (Some (SeveralSources (length a.sources))) (option_map LineOrder order)) (cond fit (Ok (composed a b)) (Err TooLarge)) ≡ Err TooLarge
    → 4294967295 < length a.names + length b.names
room-if true order fit a b i e = absurd (cc (e))
room-if false (Some j) fit a b i e = absurd (cc (e))
room-if false None true a b i e = absurd (cc (e))
room-if false None false a b i e = let p = past-ids a.names (composed a b).names (targets a b) i in let m = names-most a b in omega (arith, p, m)

pub room : (a b : MapRecord) → composition a b ≡ Err TooLarge → 4294967295 < length a.names + length b.names
room a b e = room-if (is_many a) (first_out_of_order b.tokens) (do_ids_fit a b) a b refl e
