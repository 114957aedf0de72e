-- How long the text of a list is.
use Rattle.std.proofs.Common.{◌≡◌, ℕ, zero, suc, ◌+◌, ◌-◌, ◌*◌, ◌/◌, ◌^◌, ◌<◌, ◌≤◌, Bool, true}
use Rattle.std.proofs.Common.{false, cond, ◌==◌, nat_lt, List, [], ◌∷◌, ◌++◌, length, replicate}
use Rattle.std.proofs.Common.{arith, ap, ◌∙◌, lit<, lit≤, Option, Some, None, inl, inr, Result, Ok}
use Rattle.std.proofs.Common.{Err, OnOk}
use Rattle.std.specs.List.{AllByRecursion}
use Rattle.std.proofs.Math.Nat.{pow-suc}
use Rattle.std.proofs.lemmas.Bool.{cases_lt}
use Rattle.std.proofs.lemmas.Bool.Decides.{nat_tests}
use Rattle.std.proofs.lemmas.List.{length-append, length-map, length-replicate}
use Rattle.std.proofs.lemmas.List.Elements.{recursion_from_All}
use Rattle.std.specs.Option.{option_map_or, unwrap_or, IfSome}
use Rattle.oxc_sourcemap_tokens.specs.Token.{TokenRecord, IsInBounds, AreInBounds, last_line}
use Rattle.oxc_sourcemap_tokens.specs.Token.{mapped_name, name_beside, beside_source}
use Rattle.oxc_sourcemap_tokens.specs.State.{State, initial}
use Rattle.oxc_sourcemap_mappings.specs.Canonical.{digits, vlq_text, letter, raw_delta, delta_text}
use Rattle.oxc_sourcemap_mappings.specs.Canonical.{separator, column_text, token_text, canonical}
use Rattle.oxc_sourcemap_tokens.specs.LineOrder.{first_out_of_order, back_from}
use Rattle.oxc_sourcemap_mappings.specs.Encoding.{text_from}
use Rattle.oxc_sourcemap_tokens.specs.Steps.{advanced}
use Rattle.oxc_sourcemap_tokens.proofs.InOrder.{back_from-all, in_order}
use Rattle.oxc_sourcemap_mappings.proofs.Vlq.{digits_zero, digits_small, digits_large}
use Rattle.oxc_sourcemap_mappings.proofs.Writing.{canonical-is}

pub length-digits : (k f n : ℕ) → n < 32 ^ suc k → length (digits f n) ≤ suc k
length-digits k zero n h = rw (digits_zero n) (omega arith)
length-digits zero (suc f) n h = let s : n < 32 = h in rw (digits_small (suc f) n s) (lit≤ tt)
length-digits (suc k) (suc f) n h =
    elim (cases_lt n 32) [
      | inl s ↦ rw (digits_small (suc f) n s) (omega arith)
      | inr l ↦ (let e : 32 ^ suc (suc k) ≡ 32 ^ suc k * 32 = pow-suc 32 (suc k) in
          rw (digits_large f n l) (omega (arith, length-digits k f (n / 32) (omega arith))))
    ]

pub length-vlq_text : (n : ℕ) → n < 34359738368 → length (vlq_text n) ≤ 7
unfolding vlq_text
length-vlq_text n h = rw (length-map (digits n n) letter) (length-digits 6 n n h)

length-delta_text : (a b : ℕ) → a < 4294967296 → b < 4294967296 → length (delta_text a b) ≤ 7
length-delta_text a b h k = length-vlq_text (raw_delta a b) (grind (arith, nat_tests))

-- a state in bounds
pub record IsBounded (s : State) : Type 0 where
  pub dst_line : s.dst_line < 4294967296
  pub dst_col : s.dst_col < 4294967296
  pub source_id : s.source_id < 4294967296
  pub src_line : s.src_line < 4294967296
  pub src_col : s.src_col < 4294967296
  pub name_id : s.name_id < 4294967296

pick-lt : (b : Bool) (x y n : ℕ) → x < n → y < n → cond b x y < n
pick-lt true x y n h k = h
pick-lt false x y n h k = k

-- an id, or the number in place of a missing one, is in bounds
or-lt : (a : Option ℕ) (y : ℕ) → IfSome a (λ n. n < 4294967295) → y < 4294967296 → unwrap_or a y < 4294967296
or-lt None y h k = k
or-lt (Some n) y h k = omega arith

at-lt : (a : Option ℕ) (x y n : ℕ) → x < n → y < n → unwrap_or (beside_source a x) y < n
at-lt None x y n h k = k
at-lt (Some i) x y n h k = h

pub name_beside-id : (a b : Option ℕ) → IfSome b (λ n. n < 4294967295) → IfSome (name_beside a b) (λ n. n < 4294967295)
name_beside-id None b x = tt
name_beside-id (Some i) b x = x

pub IsBounded-advanced : (s : State) (t : TokenRecord) → IsBounded s → IsInBounds t → IsBounded (advanced s t)
IsBounded-advanced s t h w = record {
  dst_line = w.dst_line;
  dst_col = w.dst_col;
  source_id = or-lt t.source_id _ w.source_id h.source_id;
  src_line = at-lt t.source_id _ _ _ w.src_line h.src_line;
  src_col = at-lt t.source_id _ _ _ w.src_col h.src_col;
  name_id = or-lt (mapped_name t) _ (name_beside-id t.source_id t.name_id w.name_id) h.name_id;
}

length-separator : (first : Bool) (s : State) (t : TokenRecord) → s.dst_line ≤ t.dst_line → length (separator first s t) + s.dst_line ≤ t.dst_line + 1
unfolding separator
length-separator first s t h =
    elim (t.dst_line == s.dst_line) as (λ b. length {A = ℕ} (cond b (cond first [] (44 ∷ [])) (replicate (t.dst_line - s.dst_line) 59)) + s.dst_line ≤ t.dst_line + 1) [
      | true ↦ elim first as (λ b. length {A = ℕ} (cond b [] (44 ∷ [])) + s.dst_line ≤ t.dst_line + 1) [ true ↦ omega arith | false ↦ omega arith ]
      | false ↦ omega (arith, length-replicate {A = ℕ} (t.dst_line - s.dst_line) 59)
    ]

length-or : (a : Option ℕ) (f : ℕ → List ℕ) (n : ℕ) → IfSome a (λ id. id < 4294967295) → ((id : ℕ) → id < 4294967296 → length (f id) ≤ n) → length (option_map_or f a []) ≤ n
length-or None f n h k = omega arith
length-or (Some id) f n h k = k id (omega arith)

length-token_text : (first : Bool) (s : State) (t : TokenRecord) → IsBounded s → IsInBounds t → s.dst_line ≤ t.dst_line → length (token_text first s t) + s.dst_line ≤ t.dst_line + 36
unfolding token_text
length-token_text first s t h w l =
    let m = length-separator first s t l in
    let a : length (column_text s t) ≤ 7 = length-delta_text t.dst_col _ w.dst_col (pick-lt (t.dst_line == s.dst_line) s.dst_col 0 4294967296 h.dst_col (lit< tt)) in
    let d2 = length-delta_text t.src_line s.src_line w.src_line h.src_line in
    let d3 = length-delta_text t.src_col s.src_col w.src_col h.src_col in
    let b = length-or t.source_id (λ id. delta_text id s.source_id ++ delta_text t.src_line s.src_line ++ delta_text t.src_col s.src_col) 21 w.source_id (λ id k. (let d1 = length-delta_text id s.source_id k h.source_id in simp length-append (omega arith))) in
    let n = length-or (mapped_name t) (λ id. delta_text id s.name_id) 7 (name_beside-id t.source_id t.name_id w.name_id) (λ id k. length-delta_text id s.name_id k h.name_id) in
    simp length-append (omega arith)

length-text_from : (first : Bool) (s : State) (i : ℕ) (ts : List TokenRecord) → IsBounded s → AllByRecursion IsInBounds ts → back_from s.dst_line i ts ≡ None → length (text_from first s ts) + s.dst_line ≤ last_line s.dst_line ts + 36 * length ts
length-text_from first s i [] h w o = omega arith
length-text_from first s i (t ∷ ts) h w o =
    let q = in_order (nat_lt t.dst_line s.dst_line) i _ o in
    let l : s.dst_line ≤ t.dst_line = grind (arith, nat_tests, q.0) in
    let a = length-token_text first s t h w.0 l in
    let r = length-text_from false (advanced s t) (i + 1) ts (IsBounded-advanced s t h w.0) w.1 q.1 in
    omega (arith, length-append (token_text first s t) (text_from false (advanced s t) ts))

pub length-canonical : (ts : List TokenRecord) → AreInBounds ts → first_out_of_order ts ≡ None → length (canonical ts) ≤ 36 * length ts + last_line 0 ts
length-canonical ts w o =
    let h : IsBounded initial = record { dst_line = lit< tt; dst_col = lit< tt; source_id = lit< tt; src_line = lit< tt; src_col = lit< tt; name_id = lit< tt } in
    omega (arith, ap length (canonical-is ts), length-text_from true initial 0 ts h (recursion_from_All IsInBounds ts w) (back_from-all ts ∙ o))

pub canonical-bounded : {A E : Type 0} (r : Result A E) (ts : List TokenRecord) (old new : List ℕ) → OnOk r (new ≡ old ++ canonical ts) → OnOk r (first_out_of_order ts ≡ None) → AreInBounds ts → OnOk r (length new ≤ length old + (36 * length ts + last_line 0 ts))
canonical-bounded (Ok x) ts old new text order bounds = omega (arith, ap length text, length-append old (canonical ts), length-canonical ts bounds order)
canonical-bounded (Err e) ts old new text order bounds = tt
