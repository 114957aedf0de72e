-- Line order, tested from the front on.
use Rattle.std.proofs.Common.{◌≡◌, ℕ, ◌+◌, ◌≤◌, true, false, cond, nat_lt, List, [], ◌∷◌, Option}
use Rattle.std.proofs.Common.{Some, None, arith, refl, sym, ap, ◌∙◌, zero-add, Bool}
use Rattle.std.specs.Option.{option_map}
use Rattle.std.proofs.lemmas.Bool.Decides.{nat_tests}
use Rattle.oxc_sourcemap_tokens.specs.Token.{TokenRecord}
use Rattle.oxc_sourcemap_tokens.specs.LineOrder.{first_out_of_order, back_from}

moved-twice : (i : ℕ) (o : Option ℕ) → option_map (λ k. i + 1 + k) o ≡ option_map (λ k. i + k) (option_map (λ k. k + 1) o)
moved-twice i None = refl
moved-twice i (Some k) = let e : i + 1 + k ≡ i + (k + 1) = omega arith in ap Some e

back_from-order : (line i : ℕ) (t : TokenRecord) (ts : List TokenRecord) → line ≤ t.dst_line → back_from line i (t ∷ ts) ≡ option_map (λ k. i + k) (first_out_of_order (t ∷ ts))
back_from-order line i t [] h = let n : nat_lt t.dst_line line ≡ false = grind (arith, nat_tests) in rw n
back_from-order line i t (u ∷ ts) h =
    let n : nat_lt t.dst_line line ≡ false = grind (arith, nat_tests) in
    rw n (elim (nat_lt u.dst_line t.dst_line) as (λ v. nat_lt u.dst_line t.dst_line ≡ v →
    cond v (Some (i + 1)) (back_from u.dst_line (i + 1 + 1) ts) ≡ option_map (λ k. i + k) (cond v (Some 1) (option_map (λ k. k + 1) (first_out_of_order (u ∷ ts))))) [
      | true ↦ (λ e. refl)
      | false ↦ (λ e.
          let l : t.dst_line ≤ u.dst_line = grind (arith, nat_tests) in
          let rest : back_from t.dst_line (i + 1) (u ∷ ts) ≡ back_from u.dst_line (i + 1 + 1) ts = rw e in
          sym rest ∙ back_from-order t.dst_line (i + 1) u ts l ∙ moved-twice i (first_out_of_order (u ∷ ts)))
    ] refl)

from-zero : (o : Option ℕ) → option_map (λ k. 0 + k) o ≡ o
from-zero None = refl
from-zero (Some k) = ap Some (zero-add k)

pub back_from-all : (ts : List TokenRecord) → back_from 0 0 ts ≡ first_out_of_order ts
back_from-all [] = refl
back_from-all (t ∷ ts) = back_from-order 0 0 t ts (omega arith) ∙ from-zero (first_out_of_order (t ∷ ts))

-- a list in order after a line
pub in_order : (b : Bool) (i : ℕ) (o : Option ℕ) → cond b (Some i) o ≡ None → (b ≡ false) × (o ≡ None)
in_order true i o e = cc
in_order false i o e = (refl, e)
