-- Tokens whose generated lines never go back, and their joins.
use Rattle.std.proofs.Common.{◌≡◌, ℕ, ◌+◌, ◌≤◌, Bool, true, false, cond, nat_lt, List, [], ◌∷◌}
use Rattle.std.proofs.Common.{◌++◌, map, refl, arith, inl, inr, ◌==◌, Option, Some, None}
use Rattle.std.proofs.Common.{option_map}
use Rattle.std.specs.Prelude.{⊤}
use Rattle.std.proofs.lemmas.Bool.{cases_lt}
use Rattle.std.proofs.lemmas.Bool.Decides.{nat_tests}
use Rattle.oxc_sourcemap_tokens.specs.Token.{TokenRecord, last_line, last}
use Rattle.oxc_sourcemap_tokens.specs.LineOrder.{first_out_of_order, back_from}
use Rattle.oxc_sourcemap_tokens.specs.declared.position.Position.{Position}
use Rattle.oxc_sourcemap_join.specs.Joined.{shifted, without_repeat}
use Rattle.oxc_sourcemap_json.specs.Sections.{position_of, may_follow}

-- the generated lines of these tokens never go back, and none is before this line
abbrev pub RunsFrom : ℕ → List TokenRecord → Type 0
RunsFrom line [] = ⊤
RunsFrom line (t ∷ ts) = (line ≤ t.dst_line) × RunsFrom t.dst_line ts

pub runs-of : (line i : ℕ) (ts : List TokenRecord) → back_from line i ts ≡ None → RunsFrom line ts
runs-of line i [] e = tt
runs-of line i (t ∷ ts) e =
    elim (cases_lt t.dst_line line) [
      | inl l ↦ (let x : nat_lt t.dst_line line ≡ true = grind (arith, nat_tests) in let k = rw x at e in cc)
      | inr g ↦ (let x : nat_lt t.dst_line line ≡ false = grind (arith, nat_tests) in (g, runs-of t.dst_line (i + 1) ts (rw x at e)))
    ]

pub runs-order : (line : ℕ) (ts : List TokenRecord) → RunsFrom line ts → first_out_of_order ts ≡ None
runs-order line [] h = refl
runs-order line (t ∷ []) h = refl
runs-order line (t ∷ u ∷ ts) h =
    let l = h.1.0 in
    let n : nat_lt u.dst_line t.dst_line ≡ false = grind (arith, nat_tests) in
    rw (n, runs-order t.dst_line (u ∷ ts) h.1)

runs-lower : (low line : ℕ) (ts : List TokenRecord) → low ≤ line → RunsFrom line ts → RunsFrom low ts
runs-lower low line [] l h = tt
runs-lower low line (t ∷ ts) l h = (omega (arith, l, h.0), h.1)

runs-append : (line : ℕ) (ts us : List TokenRecord) → RunsFrom line ts → RunsFrom (last_line line ts) us → RunsFrom line (ts ++ us)
runs-append line [] us h k = k
runs-append line (t ∷ ts) us h k = (h.0, runs-append t.dst_line ts us h.1 k)

runs-shifted : (names sources : ℕ) (offset : Position) (line : ℕ) (ts : List TokenRecord) → RunsFrom line ts
    → RunsFrom (line + offset.line) (map (shifted names sources offset) ts)
runs-shifted names sources offset line [] h = tt
runs-shifted names sources offset line (t ∷ ts) h = (omega (arith, h.0), runs-shifted names sources offset t.dst_line ts h.1)

runs-without : (same : TokenRecord → TokenRecord → Bool) (o : Option TokenRecord) (line : ℕ) (us : List TokenRecord) → RunsFrom line us
    → RunsFrom line (without_repeat same o us)
runs-without same None line us h = h
runs-without same (Some x) line [] h = h
runs-without same (Some x) line (u ∷ us) h =
    elim (same x u) as (λ b. RunsFrom line (cond b us (u ∷ us))) [ true ↦ runs-lower line u.dst_line us h.0 h.1 | false ↦ h ]

-- ---- the last token is not after a position
line-of : (t : TokenRecord) (place : Position) → may_follow (Some (position_of t)) place ≡ true → t.dst_line ≤ place.line
line-of t place h =
    elim (cases_lt place.line t.dst_line) [
      | inl l ↦ (let before : nat_lt t.dst_line place.line ≡ false = grind (arith, nat_tests) in let other : (t.dst_line == place.line) ≡ false = grind (arith, nat_tests) in let k = rw (before, other) at h in cc)
      | inr g ↦ g
    ]

ends-at : (line : ℕ) (t : TokenRecord) (ts : List TokenRecord) (place : Position) → may_follow (option_map position_of (last (t ∷ ts))) place ≡ true
    → last_line line (t ∷ ts) ≤ place.line
ends-at line t [] place h = line-of t place h
ends-at line t (u ∷ ts) place h = ends-at t.dst_line u ts place h

ends-by : (ts : List TokenRecord) (place : Position) → may_follow (option_map position_of (last ts)) place ≡ true → last_line 0 ts ≤ place.line
ends-by [] place h = omega arith
ends-by (t ∷ ts) place h = ends-at 0 t ts place h

-- a join is in line order if its next map is joined at a position that is not before its last token
pub runs-joined : (same : TokenRecord → TokenRecord → Bool) (names sources : ℕ) (place : Position) (ts us : List TokenRecord) → RunsFrom 0 ts → RunsFrom 0 us
    → may_follow (option_map position_of (last ts)) place ≡ true
    → RunsFrom 0 (ts ++ without_repeat same (last ts) (map (shifted names sources place) us))
runs-joined same names sources place ts us h k b =
    let moved = runs-shifted names sources place 0 us k in
    let low : last_line 0 ts ≤ 0 + place.line = omega (arith, ends-by ts place b) in
    runs-append 0 ts _ h (runs-without same (last ts) (last_line 0 ts) _ (runs-lower (last_line 0 ts) (0 + place.line) _ low moved))
