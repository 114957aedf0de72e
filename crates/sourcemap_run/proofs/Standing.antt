-- Texts that end where a line begins.
use Rattle.std.proofs.Common.{◌≡◌, ◌⊎◌, inl, inr, ℕ, ◌+◌, ◌<◌, true}
use Rattle.std.proofs.Common.{false, ◌||◌, ◌&&◌, not}
use Rattle.std.proofs.Common.{◌==◌, List, [], ◌∷◌, ◌++◌, length, take, cond, refl, sym, ap, ◌∙◌}
use Rattle.std.proofs.Common.{arith, subst}
use Rattle.std.proofs.Common.{append_assoc, Ok, Err}
use Rattle.std.specs.Str.{IsUtf8, chars}
use Rattle.std.specs.List.{sum_by, flat_map}
use Rattle.std.specs.Char.Escape.{encode_utf16}
use Rattle.std.proofs.lemmas.Str.{chars-append}
use Rattle.std.proofs.lemmas.Grind.{flat_map-append}
use Rattle.std.proofs.lemmas.List.Sums.{sum_by-append}
use Rattle.std.proofs.Math.Seq.{take-append_seam}
use Rattle.std.proofs.Common.{length-append}
use Rattle.oxc_sourcemap_text.specs.declared.positions.position_error.PositionError.{PositionError}
use Rattle.oxc_sourcemap_text.specs.TextLines.{units_of, begins_with_line_feed, ends_line}
use Rattle.oxc_sourcemap_text.specs.TextLines.{onto_first}
use Rattle.oxc_sourcemap_text.specs.TextLines.{lines_of, text_lines, line_at}
use Rattle.oxc_sourcemap_text.specs.Positions.{position_of}
use Rattle.oxc_sourcemap_text.specs.Positions.{is_inside_pair}
use Rattle.oxc_sourcemap_text.proofs.Cuts.{lines-end, lines-no_end}
use Rattle.oxc_sourcemap_text.proofs.Starts.{units-all}
use Rattle.oxc_sourcemap_text.proofs.Inverse.{at-position, found-at}
use Rattle.sourcemap_run.specs.Bundled.{HasLineEnds, StandsAt, IsStanding, IsNext}

-- ---- units of texts in a row
pub units-append : (xs ys : List ℕ) → IsUtf8 xs → units_of (xs ++ ys) ≡ units_of xs ++ units_of ys
units-append xs ys u = ap (flat_map encode_utf16) (chars-append xs ys u) ∙ flat_map-append encode_utf16 (chars xs) (chars ys)

pub units-ended : (xs : List ℕ) → IsUtf8 xs → units_of (xs ++ 10 ∷ []) ≡ units_of xs ++ 10 ∷ []
unfolding chars
units-ended xs u = units-append xs (10 ∷ []) u

-- ---- the lines that end in units, up to a line feed
pub closed : List ℕ → List (List ℕ)
closed [] = (10 ∷ []) ∷ []
closed (unit ∷ units) = cond (ends_line unit (units ++ 10 ∷ [])) ((unit ∷ []) ∷ closed units) (onto_first unit (closed units))

some-onto : (unit : ℕ) (lines : List (List ℕ)) → 0 < length (onto_first unit lines)
some-onto unit [] = omega arith
some-onto unit (line ∷ lines) = omega arith

closed-some : (units : List ℕ) → 0 < length (closed units)
unfolding closed
closed-some [] = omega arith
closed-some (unit ∷ units) =
    elim (ends_line unit (units ++ 10 ∷ [])) as (λ b. 0 < length (cond b ((unit ∷ []) ∷ closed units) (onto_first unit (closed units)))) [
      | true ↦ omega arith
      | false ↦ some-onto unit (closed units)
    ]

onto-append : (unit : ℕ) (xs ys : List (List ℕ)) → 0 < length xs → onto_first unit (xs ++ ys) ≡ onto_first unit xs ++ ys
onto-append unit [] ys h = absurd (omega (arith, h))
onto-append unit (x ∷ xs) ys h = refl

feed-front : (units after : List ℕ) → begins_with_line_feed (units ++ 10 ∷ after) ≡ begins_with_line_feed (units ++ 10 ∷ [])
feed-front [] after = refl
feed-front (unit ∷ units) after = refl

ends-front : (unit : ℕ) (units after : List ℕ) → ends_line unit (units ++ 10 ∷ after) ≡ ends_line unit (units ++ 10 ∷ [])
ends-front unit units after = ap (λ b. unit == 10 || unit == 0x2028 || unit == 0x2029 || (unit == 13 && not b)) (feed-front units after)

pub lines-closed : (units after : List ℕ) → lines_of (units ++ 10 ∷ after) ≡ closed units ++ lines_of after
unfolding closed
lines-closed [] after = lines-end 10 after refl
lines-closed (unit ∷ units) after =
    let rest = lines-closed units after in
    elim (ends_line unit (units ++ 10 ∷ [])) as (λ b. ends_line unit (units ++ 10 ∷ []) ≡ b → lines_of (unit ∷ (units ++ 10 ∷ after)) ≡ cond b ((unit ∷ []) ∷ closed units) (onto_first unit (closed units)) ++ lines_of after) [
      | true ↦ (λ e. lines-end unit (units ++ 10 ∷ after) (ends-front unit units after ∙ e) ∙ ap (λ lines. (unit ∷ []) ∷ lines) rest)
      | false ↦ (λ e. lines-no_end unit (units ++ 10 ∷ after) (ends-front unit units after ∙ e) ∙ ap (onto_first unit) rest
          ∙ onto-append unit (closed units) (lines_of after) (closed-some units))
    ] refl

no-line : lines_of [] ≡ [] ∷ []
unfolding lines_of
no-line = refl

-- ---- where a text stands whose last line is empty
line-last : (lines : List (List ℕ)) → line_at (lines ++ [] ∷ []) (length lines) ≡ []
line-last [] = refl
line-last (line ∷ lines) = line-last lines

units-past : (units : List ℕ) → is_inside_pair units (length units) ≡ false
units-past [] = refl
units-past (unit ∷ units) = units-past units

stands-at : (text : List ℕ) (lines : List (List ℕ)) → text_lines text ≡ lines ++ [] ∷ [] → StandsAt text (length lines)
stands-at text lines e =
    let all : sum_by length (lines ++ [] ∷ []) ≡ length (units_of text) = subst (λ ls. sum_by length ls ≡ length (units_of text)) e (units-all (units_of text)) in
    let sum = sum_by-append length lines ([] ∷ []) in
    let front : take (length lines) (lines ++ [] ∷ []) ≡ lines = take-append_seam lines ([] ∷ []) in
    let count = length-append lines ([] ∷ []) in
    let last : (length lines + 1 == length (lines ++ [] ∷ [])) ≡ true = grind (arith, count) in
    at-position text (length (units_of text)) (length lines) 0 (record {
      there = rw e (omega (arith, count));
      column = rw (e, last) (omega arith);
      apart = units-past (units_of text);
      sum = rw (e, front) (omega (arith, all, sum));
    })

-- ---- the line that is kept
same-line : (text : List ℕ) (a b c d : ℕ) → position_of text (length (units_of text)) ≡ Ok (a, c) → position_of text (length (units_of text)) ≡ Ok (b, d) → a ≡ b
same-line text a b c d e f =
    let one : ℕ × ℕ = (a, c) in
    let other : ℕ × ℕ = (b, d) in
    let both : one ≡ other = cc in
    ap (λ (p : ℕ × ℕ). p.0) both

stands-closed : (text front : List ℕ) → units_of text ≡ front ++ 10 ∷ [] → StandsAt text (length (closed front))
stands-closed text front e = stands-at text (closed front) (ap lines_of e ∙ lines-closed front [] ∙ ap (λ lines. closed front ++ lines) no-line)

pub stands-nowhere : StandsAt [] 0
unfolding chars
stands-nowhere = stands-at [] [] no-line

-- a code, and after it a text that ends in a line feed
after-nothing : (code whole : List ℕ) (line lines : ℕ) → code ≡ [] → StandsAt code line → (front : List ℕ) → units_of whole ≡ front ++ 10 ∷ [] → HasLineEnds whole lines → IsStanding (code ++ whole) (line + lines)
after-nothing code whole line lines none stands front e ends =
    let zero : line ≡ 0 = same-line [] line 0 0 0 (subst (λ c. StandsAt c line) none stands) stands-nowhere in
    let count = same-line whole lines (length (closed front)) ends.0 0 ends.1 (stands-closed whole front e) in
    let sum : line + lines ≡ length (closed front) = omega (arith, zero, count) in
    rw (none, sum) (record { ends = inr (front, e); stands = stands-closed whole front e })

after-code : (code whole : List ℕ) (line lines : ℕ) → IsUtf8 code → (before : List ℕ) → units_of code ≡ before ++ 10 ∷ [] → StandsAt code line → (front : List ℕ) → units_of whole ≡ front ++ 10 ∷ [] → HasLineEnds whole lines → IsStanding (code ++ whole) (line + lines)
after-code code whole line lines u before b stands front e ends =
    let line' = same-line code line (length (closed before)) 0 0 stands (stands-closed code before b) in
    let count = same-line whole lines (length (closed front)) ends.0 0 ends.1 (stands-closed whole front e) in
    let units : units_of (code ++ whole) ≡ before ++ 10 ∷ (front ++ 10 ∷ []) = units-append code whole u ∙ ap (λ us. us ++ units_of whole) b ∙ ap (λ us. (before ++ 10 ∷ []) ++ us) e ∙ append_assoc before (10 ∷ []) (front ++ 10 ∷ []) in
    let cut : text_lines (code ++ whole) ≡ (closed before ++ closed front) ++ [] ∷ [] = ap lines_of units ∙ lines-closed before (front ++ 10 ∷ [])
    ∙ ap (λ lines. closed before ++ lines) (lines-closed front [] ∙ ap (λ lines. closed front ++ lines) no-line) ∙ sym (append_assoc (closed before) (closed front) ([] ∷ [])) in
    let sum : line + lines ≡ length (closed before ++ closed front) = omega (arith, line', count, length-append (closed before) (closed front)) in
    rw sum (record {
      ends = inr (before ++ 10 ∷ front, units ∙ sym (append_assoc before (10 ∷ front) (10 ∷ [])));
      stands = stands-at (code ++ whole) (closed before ++ closed front) cut;
    })

pushed-by : (code whole : List ℕ) (line lines : ℕ) → IsUtf8 code → (code ≡ []) ⊎ ((front : List ℕ) × (units_of code ≡ front ++ 10 ∷ [])) → StandsAt code line → (front : List ℕ) × (units_of whole ≡ front ++ 10 ∷ []) → HasLineEnds whole lines → IsStanding (code ++ whole) (line + lines)
pushed-by code whole line lines u (inl none) stands (front, e) ends = after-nothing code whole line lines none stands front e ends
pushed-by code whole line lines u (inr (before, b)) stands (front, e) ends = after-code code whole line lines u before b stands front e ends

pub stands-pushed : (code whole : List ℕ) (line lines : ℕ) → IsUtf8 code → IsStanding code line → (front : List ℕ) × (units_of whole ≡ front ++ 10 ∷ []) → HasLineEnds whole lines → IsStanding (code ++ whole) (line + lines)
stands-pushed code whole line lines u stands ended ends = pushed-by code whole line lines u stands.ends stands.stands ended ends

pub stands-next : (code whole text new : List ℕ) (line next : ℕ) → IsUtf8 code → IsStanding code line → (front : List ℕ) × (units_of whole ≡ front ++ 10 ∷ [])
    → IsNext line text whole next → new ≡ code ++ whole → IsStanding new next
stands-next code whole text new line next u stands ended n e = rw (e, n.is_behind) (stands-pushed code whole line n.lines u stands ended n.are_lines)

-- ---- the end of a text has a position
pub end-told : (text : List ℕ) (e : PositionError) → position_of text (length (units_of text)) ≡ Err e → ⊥
end-told text e h =
    let at = found-at text (length (units_of text)) (omega arith) (units-past (units_of text)) in
    let told = at-position text (length (units_of text)) _ _ at in
    cc
