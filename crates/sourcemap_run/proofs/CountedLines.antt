-- Lines of characters are, in UTF-16 units, lines of units.
use Rattle.std.proofs.Common.{◌≡◌, ℕ, ◌+◌, ◌<◌, ◌≤◌, Bool, true, false, not, ◌&&◌, ◌||◌, ◌==◌}
use Rattle.std.proofs.Common.{nat_lt}
use Rattle.std.proofs.Common.{List, [], ◌∷◌, ◌++◌, map, refl, sym, ap, ◌∙◌, arith, chars}
use Rattle.std.proofs.Common.{◌-◌, ◌/◌, ◌%◌}
use Rattle.std.specs.List.{flat_map}
use Rattle.std.specs.Char.Escape.{encode_utf16}
use Rattle.std.proofs.lemmas.Bool.Decides.{nat_tests}
use Rattle.oxc_sourcemap_text.specs.TextLines.{ends_line, lines_of, onto_first}
use Rattle.oxc_sourcemap_text.specs.TextLines.{begins_with_line_feed}
use Rattle.oxc_sourcemap_text.proofs.Steps.{one-unit, two-units}
use Rattle.oxc_sourcemap_text.proofs.Cuts.{lines-end, lines-no_end}
use Rattle.sourcemap_run.specs.Contexts.{LinesAreCounted}

abbrev units : List ℕ → List ℕ
units cs = flat_map encode_utf16 cs

-- a unit that ends no line, whatever follows
abbrev IsInside : ℕ → Type 0
IsInside unit = (after : List ℕ) → ends_line unit after ≡ false

inside : (unit : ℕ) → 0xD800 ≤ unit → IsInside unit
inside unit low after =
    let feed : (unit == 10) ≡ false = grind (arith, nat_tests) in
    let line : (unit == 0x2028) ≡ false = grind (arith, nat_tests) in
    let paragraph : (unit == 0x2029) ≡ false = grind (arith, nat_tests) in
    let return : (unit == 13) ≡ false = grind (arith, nat_tests) in
    rw (feed, line, paragraph, return) refl

feed_by : (c : ℕ) (cs : List ℕ) (b : Bool) → nat_lt c 0x1_0000 ≡ b → begins_with_line_feed (units (c ∷ cs)) ≡ begins_with_line_feed (c ∷ cs)
feed_by c cs true e =
    let low : c < 0x1_0000 = grind (arith, nat_tests, e) in
    ap (λ us. begins_with_line_feed (us ++ units cs)) (one-unit c low)
feed_by c cs false e =
    let high : 0x1_0000 ≤ c = grind (arith, nat_tests, e) in
    ap (λ us. begins_with_line_feed (us ++ units cs)) (two-units c high) ∙ no_feed c high
  where
    no_feed : (c : ℕ) → 0x1_0000 ≤ c → ((0xD800 + (c - 0x1_0000) / 0x400) == 10) ≡ (c == 10)
    no_feed c high =
        let front : (c == 10) ≡ false = grind (arith, nat_tests) in
        let unit : ((0xD800 + (c - 0x1_0000) / 0x400) == 10) ≡ false = grind (arith, nat_tests) in
        unit ∙ sym front

same_feed : (cs : List ℕ) → begins_with_line_feed (units cs) ≡ begins_with_line_feed cs
same_feed [] = refl
same_feed (c ∷ cs) = feed_by c cs _ refl

same_end : (c : ℕ) (cs : List ℕ) → ends_line c (units cs) ≡ ends_line c cs
same_end c cs = ap (λ b. c == 10 || c == 0x2028 || c == 0x2029 || (c == 13 && not b)) (same_feed cs)

onto_one : (c : ℕ) (lines : List (List ℕ)) → encode_utf16 c ≡ c ∷ [] → map units (onto_first c lines) ≡ onto_first c (map units lines)
onto_one c [] e = ap (λ us. (us ++ []) ∷ []) e
onto_one c (line ∷ lines) e = ap (λ us. (us ++ units line) ∷ map units lines) e

onto_two : (c h l : ℕ) (lines : List (List ℕ)) → encode_utf16 c ≡ h ∷ l ∷ [] → map units (onto_first c lines) ≡ onto_first h (onto_first l (map units lines))
onto_two c h l [] e = ap (λ us. (us ++ []) ∷ []) e
onto_two c h l (line ∷ lines) e = ap (λ us. (us ++ units line) ∷ map units lines) e

-- a character of one unit, after which a line ends or not
one_by : (c : ℕ) (cs : List ℕ) (b : Bool) → ends_line c cs ≡ b → encode_utf16 c ≡ c ∷ [] → map units (lines_of cs) ≡ lines_of (units cs)
    → map units (lines_of (c ∷ cs)) ≡ lines_of (c ∷ units cs)
one_by c cs true e one so_far =
    ap (map units) (lines-end c cs e) ∙ ap (λ us. (us ++ []) ∷ map units (lines_of cs)) one ∙ ap (λ ls. (c ∷ []) ∷ ls) so_far
    ∙ sym (lines-end c (units cs) (same_end c cs ∙ e))
one_by c cs false e one so_far =
    ap (map units) (lines-no_end c cs e) ∙ onto_one c (lines_of cs) one ∙ ap (onto_first c) so_far
    ∙ sym (lines-no_end c (units cs) (same_end c cs ∙ e))

two : (c h l : ℕ) (cs : List ℕ) → IsInside c → IsInside h → IsInside l → encode_utf16 c ≡ h ∷ l ∷ [] → map units (lines_of cs) ≡ lines_of (units cs)
    → map units (lines_of (c ∷ cs)) ≡ lines_of (h ∷ l ∷ units cs)
two c h l cs in_c in_h in_l pair so_far =
    ap (map units) (lines-no_end c cs (in_c cs)) ∙ onto_two c h l (lines_of cs) pair ∙ ap (λ ls. onto_first h (onto_first l ls)) so_far
    ∙ sym (lines-no_end h (l ∷ units cs) (in_h (l ∷ units cs)) ∙ ap (onto_first h) (lines-no_end l (units cs) (in_l (units cs))))

step : (c : ℕ) (cs : List ℕ) (b : Bool) → nat_lt c 0x1_0000 ≡ b → map units (lines_of cs) ≡ lines_of (units cs)
    → map units (lines_of (c ∷ cs)) ≡ lines_of (units (c ∷ cs))
step c cs true e so_far =
    let low : c < 0x1_0000 = grind (arith, nat_tests, e) in
    one_by c cs _ refl (one-unit c low) so_far ∙ ap (λ us. lines_of (us ++ units cs)) (sym (one-unit c low))
step c cs false e so_far =
    let high : 0x1_0000 ≤ c = grind (arith, nat_tests, e) in
    two c _ _ cs (inside c (omega arith)) (inside (0xD800 + (c - 0x1_0000) / 0x400) (omega arith)) (inside (0xDC00 + (c - 0x1_0000) % 0x400) (omega arith)) (two-units c high) so_far
    ∙ ap (λ us. lines_of (us ++ units cs)) (sym (two-units c high))

counted : (cs : List ℕ) → map units (lines_of cs) ≡ lines_of (units cs)
unfolding lines_of
counted [] = refl
counted (c ∷ cs) = step c cs _ refl (counted cs)

pub lines_are_counted : LinesAreCounted
lines_are_counted text = counted (chars text)
