-- The stored fields of a token, and the record that they stand for.
use Rattle.std.specs.Prelude.{◌≡◌, ℕ, ◌+◌, ◌<◌, nat_lt, true, false, refl, Option, Some, None}
use Rattle.std.specs.Prelude.{if◌then◌else◌, IfSome}
use Rattle.std.proofs.Common.{arith, inl, inr, ap, ◌∙◌}
use Rattle.std.proofs.lemmas.Bool.Decides.{nat_tests}
use Rattle.std.proofs.lemmas.Bool.{cases_lt}
use Rattle.oxc_sourcemap_tokens.specs.Token.{TokenRecord, IsInBounds, id_of}
use Rattle.oxc_sourcemap_tokens.specs.declared.token.Token.TheInside.{Inside}

-- each stored number is one of 32 bits
pub record FieldsFit (a : Inside) : Type 0 where
  pub dst_line : a.dst_line < 4294967296
  pub dst_col : a.dst_col < 4294967296
  pub src_line : a.src_line < 4294967296
  pub src_col : a.src_col < 4294967296
  pub source_id : a.source_id < 4294967296
  pub name_id : a.name_id < 4294967296

-- the record that stored fields stand for
abbrev pub record_of : Inside → TokenRecord
record_of a = record {
  dst_line = a.dst_line;
  dst_col = a.dst_col;
  src_line = a.src_line;
  src_col = a.src_col;
  source_id = id_of a.source_id;
  name_id = id_of a.name_id;
}

-- A number that stands for an id, another for each id, so that equal fields stand for equal records.
abbrev pub number_of : Option ℕ → ℕ
number_of None = 4294967295
number_of (Some n) = if nat_lt n 4294967295 then n else n + 1

-- the stored fields of a record
abbrev pub fields_of : TokenRecord → Inside
fields_of t = record {
  dst_line = t.dst_line;
  dst_col = t.dst_col;
  src_line = t.src_line;
  src_col = t.src_col;
  source_id = number_of t.source_id;
  name_id = number_of t.name_id;
}

number_of-id_of : (n : ℕ) → n < 4294967296 → number_of (id_of n) ≡ n
number_of-id_of n h =
    elim (cases_lt n 4294967295) [
      | inl l ↦ (let t : nat_lt n 4294967295 ≡ true = grind (arith, nat_tests) in rw (t, t) refl)
      | inr g ↦ (let t : nat_lt n 4294967295 ≡ false = grind (arith, nat_tests) in let e : 4294967295 ≡ n = omega arith in rw t e)
    ]

pub fields_of-record_of : (a : Inside) → FieldsFit a → fields_of (record_of a) ≡ a
fields_of-record_of a h =
    ap (λ z. record { dst_line = a.dst_line; dst_col = a.dst_col; src_line = a.src_line; src_col = a.src_col; source_id = z; name_id = number_of (id_of a.name_id) }) (number_of-id_of a.source_id h.source_id)
    ∙ ap (λ z. record { dst_line = a.dst_line; dst_col = a.dst_col; src_line = a.src_line; src_col = a.src_col; source_id = a.source_id; name_id = z }) (number_of-id_of a.name_id h.name_id)

id_of-bound : (n : ℕ) → IfSome (id_of n) (λ k. k < 4294967295)
id_of-bound n =
    elim (cases_lt n 4294967295) [
      | inl l ↦ (let t : nat_lt n 4294967295 ≡ true = grind (arith, nat_tests) in rw t l)
      | inr g ↦ (let t : nat_lt n 4294967295 ≡ false = grind (arith, nat_tests) in rw t tt)
    ]

-- stored fields are in bounds, since the one number too large for an id means none
pub in_bounds : (a : Inside) → FieldsFit a → IsInBounds (record_of a)
in_bounds a h = record { dst_line = h.dst_line; dst_col = h.dst_col; src_line = h.src_line; src_col = h.src_col; source_id = id_of-bound a.source_id; name_id = id_of-bound a.name_id }
