-- Reading a segment digit by digit gives its runs' faults and numbers.
use Rattle.std.proofs.Common.{◌≡◌, ℕ, zero, suc, ◌+◌, ◌-◌, ◌*◌, ◌%◌, ◌^◌, ◌<◌, ◌≤◌, Bool, true}
use Rattle.std.proofs.Common.{false, cond, not, ◌&&◌, List, [], ◌∷◌, length, map, get_or, drop, set}
use Rattle.std.proofs.Common.{nat_abs, ◌≢◌, ℤ, pos, Option, Some, None, if◌then◌else◌, nat_lt}
use Rattle.std.proofs.Common.{nat_le, ◌==◌, inl, inr, arith, refl, sym, ap, ◌∙◌, add_assoc}
use Rattle.std.proofs.Common.{zero-add, add-zero, add-one}
use Rattle.std.specs.List.{onto_first}
use Rattle.std.proofs.lemmas.Bool.Decides.{nat_tests}
use Rattle.std.proofs.lemmas.Bool.{cases_lt, cases_eq}
use Rattle.std.proofs.lemmas.List.{get_or_past, length-drop, length-map, get_or-set_same}
use Rattle.std.proofs.lemmas.List.{get_or-set_other, set_past}
use Rattle.oxc_sourcemap_tokens.specs.declared.errors.error.Error.{Error}
use Rattle.oxc_sourcemap_tokens.specs.declared.errors.error.Error.TheVariants.{VlqLeftover}
use Rattle.oxc_sourcemap_tokens.specs.declared.errors.error.Error.TheVariants.{VlqOverflow}
use Rattle.oxc_sourcemap_mappings.specs.Number.{payload, ends_run, raw_from, signed, number}
use Rattle.oxc_sourcemap_mappings.specs.Number.{is_open}
use Rattle.oxc_sourcemap_mappings.specs.Parts.{runs, field}
use Rattle.oxc_sourcemap_mappings.specs.Faults.{digit_fault}
use Rattle.oxc_sourcemap_mappings.specs.Decoding.{is_over}

-- the fault of these digits, after so many digits of an open run
abbrev pub faults_from : ℕ → List ℕ → Option Error
faults_from exponent [] = if exponent == 0 then None else Some VlqLeftover
faults_from exponent (d ∷ ds) =
    if is_over exponent d then Some VlqOverflow
    else if ends_run d then faults_from 0 ds
    else faults_from (exponent + 1) ds

-- the numbers of these digits, after an open run with this raw number and so many digits
abbrev pub numbers_from : ℕ → ℕ → List ℕ → List ℤ
numbers_from n exponent [] = if exponent == 0 then [] else signed n ∷ []
numbers_from n exponent (d ∷ ds) =
    if ends_run d then signed (n + (d % 32) * 32 ^ exponent) ∷ numbers_from 0 0 ds
    else numbers_from (n + (d % 32) * 32 ^ exponent) (exponent + 1) ds

-- the numbers of these runs, after an open run with this raw number and so many digits
abbrev lead_numbers : ℕ → ℕ → List (List ℕ) → List ℤ
lead_numbers n exponent [] = if exponent == 0 then [] else signed n ∷ []
lead_numbers n exponent (run ∷ more) = signed (n + raw_from exponent run) ∷ map number more

lead_numbers-none : (rs : List (List ℕ)) → lead_numbers 0 0 rs ≡ map number rs
lead_numbers-none [] = refl
lead_numbers-none (run ∷ more) = ap (λ n. signed n ∷ map number more) (zero-add (raw_from 0 run))

lead_numbers-onto : (n exponent d : ℕ) (rs : List (List ℕ)) → lead_numbers n exponent (onto_first d rs) ≡ lead_numbers (n + (d % 32) * 32 ^ exponent) (exponent + 1) rs
lead_numbers-onto n exponent d [] = grind (arith, nat_tests, add-zero)
lead_numbers-onto n exponent d (run ∷ more) = ap (λ k. signed k ∷ map number more) (sym (add_assoc n ((d % 32) * 32 ^ exponent) (raw_from (exponent + 1) run)))

numbers_from-is : (n exponent : ℕ) (ds : List ℕ) → numbers_from n exponent ds ≡ lead_numbers n exponent (runs ds)
numbers_from-is n exponent [] = refl
numbers_from-is n exponent (d ∷ ds) =
    elim (ends_run d) as (λ b. cond b (signed (n + (d % 32) * 32 ^ exponent) ∷ numbers_from 0 0 ds) (numbers_from (n + (d % 32) * 32 ^ exponent) (exponent + 1) ds)
    ≡ lead_numbers n exponent (cond b ((d ∷ []) ∷ runs ds) (onto_first d (runs ds)))) [
      | true ↦ (let e : numbers_from 0 0 ds ≡ map number (runs ds) = numbers_from-is 0 0 ds ∙ lead_numbers-none (runs ds) in rw (add-zero, e))
      | false ↦ numbers_from-is (n + (d % 32) * 32 ^ exponent) (exponent + 1) ds ∙ sym (lead_numbers-onto n exponent d (runs ds))
    ]

pub numbers_from-all : (ds : List ℕ) → numbers_from 0 0 ds ≡ map number (runs ds)
numbers_from-all ds = numbers_from-is 0 0 ds ∙ lead_numbers-none (runs ds)

-- no run is empty
abbrev AreFilled : List (List ℕ) → Type 0
AreFilled [] = Unit {0}
AreFilled ([] ∷ more) = ⊥
AreFilled ((d ∷ run) ∷ more) = Unit {0}

onto_first-filled : (d : ℕ) (rs : List (List ℕ)) → AreFilled (onto_first d rs)
onto_first-filled d [] = tt
onto_first-filled d (r ∷ rs) = tt

runs-filled : (ds : List ℕ) → AreFilled (runs ds)
runs-filled [] = tt
runs-filled (d ∷ ds) =
    elim (ends_run d) as (λ b. AreFilled (cond b ((d ∷ []) ∷ runs ds) (onto_first d (runs ds)))) [
      | true ↦ tt
      | false ↦ onto_first-filled d (runs ds)
    ]

-- a run fits after so many open digits
abbrev fits_after : ℕ → List ℕ → Bool
fits_after exponent run = nat_le (exponent + length run) 13 && nat_le (get_or run (12 - exponent) 0 % 32) 7

abbrev lead_fault : ℕ → List (List ℕ) → Option Error
lead_fault exponent [] = if exponent == 0 then None else Some VlqLeftover
lead_fault exponent (run ∷ more) = if fits_after exponent run then (if is_open run then Some VlqLeftover else digit_fault more) else Some VlqOverflow

lead_fault-none : (rs : List (List ℕ)) → lead_fault 0 rs ≡ digit_fault rs
unfolding digit_fault
lead_fault-none [] = refl
lead_fault-none (run ∷ more) = rw zero-add

cond-cond : (a b : Bool) (x y : Option Error) → cond (cond a false b) x y ≡ cond a y (cond b x y)
cond-cond true b x y = refl
cond-cond false b x y = refl

cond-same : (a b : Bool) → b ≡ false → (if a then false else b) ≡ false
cond-same true b e = refl
cond-same false b e = e

cond-not : (a : Bool) (x y : Option Error) → cond (not a) x y ≡ cond a y x
cond-not true x y = refl
cond-not false x y = refl

fits_after-past : (exponent : ℕ) (run : List ℕ) → 13 < exponent + length run → fits_after exponent run ≡ false
fits_after-past exponent run h = grind (arith, nat_tests)

at_12 : (d : ℕ) (run : List ℕ) → fits_after 12 (d ∷ run) ≡ (if is_over 12 d then false else fits_after 13 run)
at_12 d [] = grind (arith, nat_tests)
at_12 d (c ∷ run) = fits_after-past 12 (d ∷ c ∷ run) (omega arith) ∙ sym (cond-same (is_over 12 d) _ (fits_after-past 13 (c ∷ run) (omega arith)))

fits_after-cons : (exponent d : ℕ) (run : List ℕ) → fits_after exponent (d ∷ run) ≡ (if is_over exponent d then false else fits_after (exponent + 1) run)
fits_after-cons exponent d run =
    elim (cases_lt exponent 12) [
      | inl h ↦ (let e : 12 - exponent ≡ suc (12 - (exponent + 1)) = omega arith in
          let l : exponent + suc (length run) ≡ exponent + 1 + length run = omega arith in
          let t : nat_lt 12 exponent ≡ false = grind (arith, nat_tests) in
          let u : (exponent == 12) ≡ false = grind (arith, nat_tests) in
          rw (e, l, t, u))
      | inr h ↦ elim (cases_lt 12 exponent) [
        | inl g ↦ (let t : nat_lt 12 exponent ≡ true = grind (arith, nat_tests) in rw t (fits_after-past exponent (d ∷ run) (omega arith)))
        | inr g ↦ (let e : exponent ≡ 12 = omega arith in rw e (at_12 d run))
      ]
    ]

fits_after-none : (exponent d : ℕ) → (if is_over exponent d then false else fits_after (exponent + 1) []) ≡ not (is_over exponent d)
fits_after-none exponent d = grind (arith, nat_tests)

fits_after-one : (exponent d : ℕ) → fits_after exponent (d ∷ []) ≡ not (is_over exponent d)
fits_after-one exponent d = fits_after-cons exponent d [] ∙ fits_after-none exponent d

lead_fault-end : (exponent d : ℕ) (rs : List (List ℕ)) → ends_run d ≡ true → lead_fault exponent ((d ∷ []) ∷ rs) ≡ (if is_over exponent d then Some VlqOverflow else lead_fault 0 rs)
lead_fault-end exponent d rs e =
    let o : nat_le 32 d ≡ false = grind (arith, nat_tests, e) in
    rw (fits_after-one exponent d, o, lead_fault-none rs) (cond-not (is_over exponent d) _ _)

lead_fault-onto : (exponent d : ℕ) (rs : List (List ℕ)) → AreFilled rs → ends_run d ≡ false → lead_fault exponent (onto_first d rs) ≡ (if is_over exponent d then Some VlqOverflow else lead_fault (exponent + 1) rs)
lead_fault-onto exponent d [] f e =
    let o : nat_le 32 d ≡ true = grind (arith, nat_tests, e) in
    let z : (exponent + 1 == 0) ≡ false = grind (arith, nat_tests) in
    rw (fits_after-one exponent d, o, z) (cond-not (is_over exponent d) _ _)
lead_fault-onto exponent d ([] ∷ rs) f e = absurd f
lead_fault-onto exponent d ((c ∷ run) ∷ rs) f e = rw (fits_after-cons exponent d (c ∷ run)) (cond-cond (is_over exponent d) (fits_after (exponent + 1) (c ∷ run)) _ _)

faults_from-is : (exponent : ℕ) (ds : List ℕ) → faults_from exponent ds ≡ lead_fault exponent (runs ds)
faults_from-is exponent [] = refl
faults_from-is exponent (d ∷ ds) =
    elim (ends_run d) as (λ b. ends_run d ≡ b → (if is_over exponent d then Some VlqOverflow else if b then faults_from 0 ds else faults_from (exponent + 1) ds)
    ≡ lead_fault exponent (cond b ((d ∷ []) ∷ runs ds) (onto_first d (runs ds)))) [
      | true ↦ (λ e. rw (faults_from-is 0 ds) (sym (lead_fault-end exponent d (runs ds) e)))
      | false ↦ (λ e. rw (faults_from-is (exponent + 1) ds) (sym (lead_fault-onto exponent d (runs ds) (runs-filled ds) e)))
    ] refl

pub faults_from-all : (ds : List ℕ) → faults_from 0 ds ≡ digit_fault (runs ds)
faults_from-all ds = faults_from-is 0 ds ∙ lead_fault-none (runs ds)

-- one digit further: one that does not fit, one that ends its run, or one that another follows
pub faults-over : (exponent d : ℕ) (ds : List ℕ) → is_over exponent d ≡ true → faults_from exponent (d ∷ ds) ≡ Some VlqOverflow
faults-over exponent d ds o = rw o

pub faults-end : (exponent d : ℕ) (ds : List ℕ) → is_over exponent d ≡ false → d < 32 → faults_from exponent (d ∷ ds) ≡ faults_from 0 ds
faults-end exponent d ds o h = let t : nat_lt d 32 ≡ true = grind (arith, nat_tests) in rw (o, t)

pub faults-on : (exponent d : ℕ) (ds : List ℕ) → is_over exponent d ≡ false → 32 ≤ d → faults_from exponent (d ∷ ds) ≡ faults_from (exponent + 1) ds
faults-on exponent d ds o h = let t : nat_lt d 32 ≡ false = grind (arith, nat_tests) in rw (o, t)

pub numbers-end : (n exponent d : ℕ) (ds : List ℕ) → d < 32 → numbers_from n exponent (d ∷ ds) ≡ signed (n + payload d * 32 ^ exponent) ∷ numbers_from 0 0 ds
numbers-end n exponent d ds h = let t : nat_lt d 32 ≡ true = grind (arith, nat_tests) in rw t

pub numbers-on : (n exponent d : ℕ) (ds : List ℕ) → 32 ≤ d → numbers_from n exponent (d ∷ ds) ≡ numbers_from (n + payload d * 32 ^ exponent) (exponent + 1) ds
numbers-on n exponent d ds h = let t : nat_lt d 32 ≡ false = grind (arith, nat_tests) in rw t

-- what is known of a list from what is left after n items
pub drop-is_cons : {A : Type 0} (xs : List A) (n : ℕ) (d y : A) (ys : List A) → drop n xs ≡ y ∷ ys → (n < length xs) × (get_or xs n d ≡ y) × (drop (n + 1) xs ≡ ys)
drop-is_cons [] zero d y ys e = cc
drop-is_cons [] (suc n) d y ys e = cc
drop-is_cons (x ∷ xs) zero d y ys e = (omega arith, cc, cc)
drop-is_cons (x ∷ xs) (suc n) d y ys e =
    let k = drop-is_cons xs n d y ys e in
    (omega arith, k.1, rw (add-one) (rw add-one at k.2))

-- the digits for which `is_over` is false
pub not-over : (exponent d : ℕ) → is_over exponent d ≡ false → (exponent < 13) × (exponent ≡ 12 → d % 32 < 8)
not-over exponent d e = (grind (arith, nat_tests), λ h. grind (arith, nat_tests))

pub faults-none : (exponent : ℕ) → 0 < exponent → faults_from exponent [] ≡ Some VlqLeftover
faults-none exponent h = grind (arith, nat_tests)

-- a number stored as one of the five fields
pub keep-done : (values all : List ℤ) (count : ℕ) (z : ℤ) → length values ≡ 5 → ((k : ℕ) → k < 5 → k < count → get_or values k (pos 0) ≡ get_or all k (pos 0)) → get_or all count (pos 0) ≡ z → (k : ℕ) → k < 5 → k < count + 1 → get_or (set values count z) k (pos 0) ≡ get_or all k (pos 0)
keep-done values all count z five done is k h l =
    elim (cases_eq k count) [
      | inl e ↦ (let m : count < length values = omega arith in rw e (get_or-set_same values count z (pos 0) m ∙ sym is))
      | inr n ↦ get_or-set_other values count k z (pos 0) n ∙ done k h (omega arith)
    ]

pub keep-zero : (values : List ℤ) (count : ℕ) (z : ℤ) → ((k : ℕ) → k < 5 → count ≤ k → get_or values k (pos 0) ≡ pos 0) → (k : ℕ) → k < 5 → count + 1 ≤ k → get_or (set values count z) k (pos 0) ≡ pos 0
keep-zero values count z zeros k h l =
    let n : k ≢ count = omega arith in
    get_or-set_other values count k z (pos 0) n ∙ zeros k h (omega arith)

pub keep-small : (values : List ℤ) (count : ℕ) (z : ℤ) → ((k : ℕ) → nat_abs (get_or values k (pos 0)) < 2 ^ 62) → nat_abs z < 2 ^ 62 → (k : ℕ) → nat_abs (get_or (set values count z) k (pos 0)) < 2 ^ 62
keep-small values count z small h k =
    elim (cases_eq k count) [
      | inl e ↦ elim (cases_lt count (length values)) [
        | inl l ↦ rw (e, get_or-set_same values count z (pos 0) l) h
        | inr l ↦ rw (set_past values count z l) (small k)
      ]
      | inr n ↦ rw (get_or-set_other values count k z (pos 0) n) (small k)
    ]

-- where no digit is left
module _ (all left : List ℕ) (exponent : ℕ) (ended : left ≡ []) (closed : exponent ≡ 0) where
  pub finished-clean : faults_from exponent left ≡ faults_from 0 all → digit_fault (runs all) ≡ None
  finished-clean e = sym (faults_from-all all) ∙ sym e ∙ ap (faults_from exponent) ended ∙ rw closed

  pub finished-count : (n count : ℕ) → numbers_from n exponent left ≡ drop count (numbers_from 0 0 all) → count ≤ length (numbers_from 0 0 all) → count ≡ length (runs all)
  finished-count n count e le =
      let none : drop count (numbers_from 0 0 all) ≡ [] = sym e ∙ ap (numbers_from n exponent) ended ∙ rw closed in
      let l : length (numbers_from 0 0 all) ≡ length (runs all) = ap length (numbers_from-all all) ∙ length-map (runs all) number in
      omega (arith, length-drop count (numbers_from 0 0 all), ap length none)

pub finished-values : (all : List ℕ) (values : List ℤ) (count : ℕ) → count ≡ length (runs all) → ((k : ℕ) → k < 5 → k < count → get_or values k (pos 0) ≡ get_or (numbers_from 0 0 all) k (pos 0)) → ((k : ℕ) → k < 5 → count ≤ k → get_or values k (pos 0) ≡ pos 0) → (k : ℕ) → k < 5 → get_or values k (pos 0) ≡ field k (runs all)
finished-values all values count e done zeros k h =
    elim (cases_lt k count) [
      | inl l ↦ done k h l ∙ ap (λ xs. get_or xs k (pos 0)) (numbers_from-all all)
      | inr l ↦ zeros k h l ∙ sym (get_or_past (map number (runs all)) k (pos 0) (omega (arith, length-map (runs all) number)))
    ]
