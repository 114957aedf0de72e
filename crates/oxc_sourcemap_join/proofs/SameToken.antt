-- The tests for equality decide it.
use Rattle.std.proofs.Common.{◌≡◌, ℕ, ◌+◌, Bool, true, false, cond, nat_lt, arith, refl, ap, ◌&&◌}
use Rattle.std.proofs.Common.{◌==◌, Option, Some, None}
use Rattle.std.specs.Bool.{Decides}
use Rattle.std.proofs.lemmas.Bool.{and_parts, and_from}
use Rattle.std.proofs.lemmas.Bool.Decides.{Decides-eqb, nat_tests}
use Rattle.oxc_sourcemap_tokens.specs.Token.{TokenRecord}
use Rattle.oxc_sourcemap_tokens.specs.TokenFields.{number_of}
use Rattle.oxc_sourcemap_join.specs.Joined.{is_same_option, is_same_id, is_same_token}

pub decides_and : (a b : Bool) (P Q : Type 0) → Decides a P → Decides b Q → Decides (a && b) (P × Q)
decides_and a b P Q d e = (λ h. let p = and_parts a b h in (d.0 p.0, e.0 p.1), λ h. and_from a b (d.1 h.0) (e.1 h.1))

pub decides_as : (a : Bool) (P Q : Type 0) → (P → Q) → (Q → P) → Decides a P → Decides a Q
decides_as a P Q f g d = (λ h. f (d.0 h), λ q. d.1 (g q))

pub decides_option : {A : Type 0} (same : A → A → Bool) → ((x y : A) → Decides (same x y) (x ≡ y)) → (a b : Option A) → Decides (is_same_option same a b) (a ≡ b)
decides_option same d None None = (λ h. refl, λ h. refl)
decides_option same d None (Some y) = (λ h. cc, λ h. cc)
decides_option same d (Some x) None = (λ h. cc, λ h. cc)
decides_option same d (Some x) (Some y) = decides_as (same x y) (x ≡ y) (◌≡◌ {A = Option _} (Some x) (Some y)) (λ e. ap (λ z. Some z) e) (λ e. cc) (d x y)

decides_id : (a b : Option ℕ) → Decides (is_same_id a b) (a ≡ b)
decides_id a b = decides_option (λ i j. i == j) Decides-eqb a b

pub token_by : (a : TokenRecord) (x0 x1 x2 x3 : ℕ) (x4 x5 : Option ℕ) → a.dst_line ≡ x0 → a.dst_col ≡ x1 → a.src_line ≡ x2 → a.src_col ≡ x3 → a.source_id ≡ x4 → a.name_id ≡ x5
    → a ≡ record { dst_line = x0; dst_col = x1; src_line = x2; src_col = x3; source_id = x4; name_id = x5 }
token_by a x0 x1 x2 x3 x4 x5 e0 e1 e2 e3 e4 e5 = rw (← e0, ← e1, ← e2, ← e3, ← e4, ← e5)

pub decides_token : (a b : TokenRecord) → Decides (is_same_token a b) (a ≡ b)
decides_token a b =
    decides_as (is_same_token a b) ((a.dst_line ≡ b.dst_line) × ((a.dst_col ≡ b.dst_col) × ((a.src_line ≡ b.src_line) × ((a.src_col ≡ b.src_col) × ((a.source_id ≡ b.source_id) × (a.name_id ≡ b.name_id)))))) (a ≡ b)
    (λ h. token_by a b.dst_line b.dst_col b.src_line b.src_col b.source_id b.name_id h.0 h.1.0 h.1.1.0 h.1.1.1.0 h.1.1.1.1.0 h.1.1.1.1.1)
    (λ e. (ap (λ (m : TokenRecord). m.dst_line) e, (ap (λ (m : TokenRecord). m.dst_col) e, (ap (λ (m : TokenRecord). m.src_line) e, (ap (λ (m : TokenRecord). m.src_col) e, (ap (λ (m : TokenRecord). m.source_id) e, ap (λ (m : TokenRecord). m.name_id) e))))))
    (decides_and _ _ _ _ (Decides-eqb a.dst_line b.dst_line) (decides_and _ _ _ _ (Decides-eqb a.dst_col b.dst_col) (decides_and _ _ _ _ (Decides-eqb a.src_line b.src_line) (decides_and _ _ _ _ (Decides-eqb a.src_col b.src_col) (decides_and _ _ _ _ (decides_id a.source_id b.source_id) (decides_id a.name_id b.name_id))))))

-- ---- stored tokens
-- ids are the same exactly if their numbers are
number_of-same : (a b : Option ℕ) → (number_of a == number_of b) ≡ is_same_id a b
number_of-same None None = refl
number_of-same None (Some y) = elim (nat_lt y 4294967295) as (λ b. nat_lt y 4294967295 ≡ b → (4294967295 == cond b y (y + 1)) ≡ false) [ true ↦ (λ e. grind (arith, nat_tests)) | false ↦ (λ e. grind (arith, nat_tests)) ] refl
number_of-same (Some x) None = elim (nat_lt x 4294967295) as (λ b. nat_lt x 4294967295 ≡ b → (cond b x (x + 1) == 4294967295) ≡ false) [ true ↦ (λ e. grind (arith, nat_tests)) | false ↦ (λ e. grind (arith, nat_tests)) ] refl
number_of-same (Some x) (Some y) =
    elim (nat_lt x 4294967295) as (λ b. nat_lt x 4294967295 ≡ b → (cond b x (x + 1) == number_of (Some y)) ≡ (x == y)) [
      | true ↦ (λ e. elim (nat_lt y 4294967295) as (λ b. nat_lt y 4294967295 ≡ b → (x == cond b y (y + 1)) ≡ (x == y)) [ true ↦ (λ f. refl) | false ↦ (λ f. grind (arith, nat_tests)) ] refl)
      | false ↦ (λ e. elim (nat_lt y 4294967295) as (λ b. nat_lt y 4294967295 ≡ b → (x + 1 == cond b y (y + 1)) ≡ (x == y)) [ true ↦ (λ f. grind (arith, nat_tests)) | false ↦ (λ f. grind (arith, nat_tests)) ] refl)
    ] refl

-- tokens are the same exactly if their stored fields are
pub stored-same : (a b : TokenRecord) →
    (a.dst_line == b.dst_line && (a.dst_col == b.dst_col && (a.src_line == b.src_line && (a.src_col == b.src_col && (number_of a.source_id == number_of b.source_id && number_of a.name_id == number_of b.name_id))))) ≡ is_same_token a b
stored-same a b = rw (number_of-same a.source_id b.source_id, number_of-same a.name_id b.name_id)
