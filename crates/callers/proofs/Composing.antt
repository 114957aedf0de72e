-- Three maps composed in both orders, by the laws of composition.
use Rattle.std.proofs.Common.{◌≡◌, ◌≢◌, ℕ, ◌+◌, ◌≤◌, Bool, true, false, List, [], ◌∷◌, length}
use Rattle.std.proofs.Common.{Option, Some, None, option_map, Result, Ok, Err, refl, sym, ap, ◌∙◌}
use Rattle.std.proofs.Common.{subst, arith, ◌⊎◌, inl, inr}
use Rattle.std.proofs.lemmas.Bool.Decides.{nat_tests}
use Rattle.std.specs.Prelude.{◌&&◌, if◌then◌else◌, nat_lt}
use Rattle.oxc_sourcemap.specs.Error.{Error}
use Rattle.oxc_sourcemap.specs.Error.TheVariants.{SeveralSources, LineOrder, TooLarge}
use Rattle.oxc_sourcemap.specs.Errors.{unless}
use Rattle.oxc_sourcemap.specs.Token.{TokenRecord}
use Rattle.oxc_sourcemap.specs.LineOrder.{first_out_of_order}
use Rattle.oxc_sourcemap.specs.Record.{MapRecord}
use Rattle.oxc_sourcemap.specs.Sorted.{are_tokens_sorted, may_precede, token_line, token_column}
use Rattle.oxc_sourcemap.specs.Sound.{IsSound}
use Rattle.oxc_sourcemap.specs.DecodedMap.{decoded_map_of}
use Rattle.oxc_sourcemap.specs.Composed.{targets, composed, composed_names, are_ids}
use Rattle.oxc_sourcemap.specs.Composed.{composition_fault, composition}
use Rattle.oxc_sourcemap.specs.ComposeLaws.{then_with, with_then, grouped_left, grouped_right}
use Rattle.oxc_sourcemap.specs.ComposeLaws.{CompositionStandsFor, IsSeveralSources, IsAnswered}
use Rattle.oxc_sourcemap.specs.ComposeLaws.{GroupingsTell, GroupingsAnswered, CompositionNames}
use Rattle.oxc_sourcemap.specs.ComposeLaws.{CompositionTooLarge}

-- ---- one composition
-- a composition that gives a map gives the composed map
composed-if : (fault : Option Error) (fit : Bool) (r m : MapRecord) → unless fault (if fit then Ok r else Err TooLarge) ≡ Ok m → m ≡ r
composed-if None true r m e = cc
composed-if None false r m e = cc
composed-if (Some f) fit r m e = cc

pub is-composed : (a b m : MapRecord) → composition a b ≡ Ok m → m ≡ composed a b
is-composed a b m e =
    composed-if (composition_fault a b) (are_ids a.names (composed_names a.names b.names (targets a b)) (targets a b)) (composed a b) m e

-- a composition of sound maps is sound
pub composed-sound : CompositionStandsFor → (a b m : MapRecord) → IsSound a → IsSound b → composition a b ≡ Ok m → IsSound m
composed-sound law a b m sa sb e =
    let stands = law a b (decoded_map_of a) (decoded_map_of b) (record { sound = sa; up_to_repeats = refl }) (record { sound = sb; up_to_repeats = refl }) in
    subst IsSound (sym (is-composed a b m e)) stands.sound

both-true : (p q : Bool) → (p && q) ≡ true → (p ≡ true) × (q ≡ true)
both-true true q e = (refl, e)
both-true false q e = cc

-- sorted tokens are in line order
pub sorted-order : (ts : List TokenRecord) → are_tokens_sorted ts ≡ true → first_out_of_order ts ≡ None
sorted-order [] s = refl
sorted-order (t ∷ []) s = refl
sorted-order (t ∷ u ∷ ts) s =
    let both = both-true (may_precede token_line token_column t u) _ s in
    let ahead : nat_lt u.dst_line t.dst_line ≡ false = grind (arith, nat_tests, both.0) in
    rw (ahead, sorted-order (u ∷ ts) both.1) refl

-- one of the two errors of a composition with a sorted map
abbrev IsExpected : Error → Type 0
IsExpected e = ((n : ℕ) × (e ≡ SeveralSources n)) ⊎ (e ≡ TooLarge)

expected-if : (many : Bool) (sources : ℕ) (fit : Bool) (r : MapRecord) (order : Option ℕ) (e : Error) → order ≡ None
    → unless (if many then Some (SeveralSources sources) else option_map LineOrder order) (if fit then Ok r else Err TooLarge) ≡ Err e → IsExpected e
expected-if true sources fit r order e o h = inl (sources, cc)
expected-if false sources true r None e o h = absurd cc
expected-if false sources false r None e o h = inr cc
expected-if false sources fit r (Some i) e o h = absurd cc

expected : (a b : MapRecord) (e : Error) → IsSound b → composition a b ≡ Err e → IsExpected e
expected a b e s h =
    expected-if (nat_lt 1 (length a.sources)) (length a.sources) (are_ids a.names (composed_names a.names b.names (targets a b)) (targets a b)) (composed a b)
    (first_out_of_order b.tokens) e (sorted-order b.tokens s.sorted) h

-- ---- groupings, of copies of the maps
pub is-sorted-copy : (a a' : MapRecord) → a' ≡ a → IsSound a → are_tokens_sorted a'.tokens ≡ true
is-sorted-copy a a' p s = ap (λ (r : MapRecord). are_tokens_sorted r.tokens) p ∙ s.sorted

module _ (a b c a' b' c' : MapRecord) (p : a' ≡ a) (q : b' ≡ b) (r : c' ≡ c) where
  pub left-is : (ab : MapRecord) (answer : Result MapRecord Error) → composition a' b' ≡ Ok ab → composition ab c' ≡ answer → grouped_left a b c ≡ answer
  left-is ab answer h k = rw (← p, ← q, ← r) (ap (λ x. then_with x c') h ∙ k)

  pub left-error : (e : Error) → composition a' b' ≡ Err e → grouped_left a b c ≡ Err e
  left-error e h = rw (← p, ← q, ← r) (ap (λ x. then_with x c') h)

  pub right-is : (bc : MapRecord) (answer : Result MapRecord Error) → composition b' c' ≡ Ok bc → composition a' bc ≡ answer → grouped_right a b c ≡ answer
  right-is bc answer h k = rw (← p, ← q, ← r) (ap (with_then a') h ∙ k)

  pub right-error : (e : Error) → composition b' c' ≡ Err e → grouped_right a b c ≡ Err e
  right-error e h = rw (← p, ← q, ← r) (ap (with_then a') h)

  -- the composition of the last two is sorted
  pub later-sorted : CompositionStandsFor → IsSound b → IsSound c → (bc : MapRecord) → composition b' c' ≡ Ok bc → are_tokens_sorted bc.tokens ≡ true
  later-sorted law sb sc bc h = (composed-sound law b' c' bc (subst IsSound (sym q) sb) (subst IsSound (sym r) sc) h).sorted

-- an error of the grouping from the left
left-expected-by : (a b c : MapRecord) (e : Error) → IsSound b → IsSound c → (r : Result MapRecord Error) → composition a b ≡ r → then_with r c ≡ Err e → IsExpected e
left-expected-by a b c e sb sc (Ok ab) p q = expected ab c e sc q
left-expected-by a b c e sb sc (Err f) p q = subst IsExpected (cc) (expected a b f sb p)

left-expected : (a b c : MapRecord) (e : Error) → IsSound b → IsSound c → grouped_left a b c ≡ Err e → IsExpected e
left-expected a b c e sb sc h = left-expected-by a b c e sb sc (composition a b) refl h

-- If the three maps together have at most as many names as there are ids, no grouping is too large.
module _ (names : CompositionNames) (large : CompositionTooLarge) (a b c : MapRecord) (few : length a.names + length b.names + length c.names ≤ 4294967295) where
  left-fits-by : (r : Result MapRecord Error) → composition a b ≡ r → then_with r c ≡ Err TooLarge → ⊥
  left-fits-by (Ok ab) p q =
      let over = large ab c q in
      let most : length ab.names ≤ length a.names + length b.names = subst (λ m. length m.names ≤ length a.names + length b.names) (sym (is-composed a b ab p)) (names a b).1 in
      omega arith
  left-fits-by (Err e) p q = let over = large a b (p ∙ cc) in omega arith

  pub left-fits : grouped_left a b c ≢ Err TooLarge
  left-fits h = left-fits-by (composition a b) refl h

  right-fits-by : (r : Result MapRecord Error) → composition b c ≡ r → with_then a r ≡ Err TooLarge → ⊥
  right-fits-by (Ok bc) p q =
      let over = large a bc q in
      let most : length bc.names ≤ length b.names + length c.names = subst (λ m. length m.names ≤ length b.names + length c.names) (sym (is-composed b c bc p)) (names b c).1 in
      omega arith
  right-fits-by (Err e) p q = let over = large b c (p ∙ cc) in omega arith

  pub right-fits : grouped_right a b c ≢ Err TooLarge
  right-fits h = right-fits-by (composition b c) refl h

-- ---- errors of both orders
abbrev pub FailsWith : MapRecord → MapRecord → MapRecord → Type 0
FailsWith a b c = IsSeveralSources (grouped_left a b c) × (IsSeveralSources (grouped_right a b c) ⊎ (grouped_right a b c ≡ Err TooLarge))

several-of : (answer : Result MapRecord Error) (e : Error) → IsExpected e → e ≢ TooLarge → answer ≡ Err e → IsSeveralSources answer
several-of answer e (inl s) n h = (s.0, h ∙ ap Err s.1)
several-of answer e (inr t) n h = absurd (n t)

swapped : {A B : Type 0} → A ⊎ B → B ⊎ A
swapped (inl a) = inr a
swapped (inr b) = inl b

module _ (tell : GroupingsTell) (a b c : MapRecord) (sa : IsSound a) (sb : IsSound b) (sc : IsSound c) where
  -- the errors that follow if the first order fails
  pub error-left : (e : Error) → grouped_left a b c ≡ Err e → e ≢ TooLarge → FailsWith a b c
  error-left e h n =
      let several = several-of (grouped_left a b c) e (left-expected a b c e sb sc h) n h in
      (several, swapped ((tell a b c sa sb sc).0.of_several several))

  other-is : (e : Error) (left : MapRecord) → grouped_right a b c ≡ Err e → (grouped_right a b c ≡ Err TooLarge) ⊎ ((n : MapRecord) × (grouped_right a b c ≡ Ok n) × (decoded_map_of left ≡ decoded_map_of n)) → e ≡ TooLarge
  other-is e left h (inl t) = cc
  other-is e left h (inr m) = absurd (let q = m.1 in cc)

  -- if the first order gives a map, the second fails only with `TooLarge`
  pub error-right : (e : Error) (left : MapRecord) → grouped_left a b c ≡ Ok left → grouped_right a b c ≡ Err e → e ≡ TooLarge
  error-right e left l h = other-is e left h ((tell a b c sa sb sc).0.of_map left l)

not-answered : (answer : Result MapRecord Error) (e : Error) → IsAnswered answer → answer ≡ Err e → ⊥
not-answered answer e m h = let q = m.1 in cc

module _ (answered : GroupingsAnswered) (names : CompositionNames) (large : CompositionTooLarge) (a b c : MapRecord) (sa : IsSound a) (sb : IsSound b) (sc : IsSound c)
    (one : length a.sources ≤ 1) (two : length b.sources ≤ 1) (few : length a.names + length b.names + length c.names ≤ 4294967295) where
  -- with one source each, and not too many names, no order fails
  pub never-left : (e : Error) → grouped_left a b c ≡ Err e → ⊥
  never-left e h =
      not-answered (grouped_left a b c) e (answered a b c sa sb sc (left-fits names large a b c few) (right-fits names large a b c few) one two).0 h

  pub never-right : (e : Error) → grouped_right a b c ≡ Err e → ⊥
  never-right e h =
      not-answered (grouped_right a b c) e (answered a b c sa sb sc (left-fits names large a b c few) (right-fits names large a b c few) one two).1 h
