-- What a character adds to a scan.
use Rattle.std.proofs.Common.{◌≡◌, ℕ, zero, suc, ◌+◌, ◌-◌, ◌/◌, ◌%◌, ◌<◌, ◌≤◌, Bool, true, false}
use Rattle.std.proofs.Common.{not, ◌&&◌, ◌||◌, List, [], ◌∷◌, ◌++◌, length, refl, sym, ap, ◌∙◌}
use Rattle.std.proofs.Common.{arith, if◌then◌else◌, ◌==◌}
use lib.Utf8.{scalar, scalar_cases}
use Rattle.std.specs.List.{flat_map}
use Rattle.std.proofs.Common.{take, get_or, ◌⊎◌, inl, inr, nat_lt, Vec, Global, Result, Ok, Err}
use Rattle.std.proofs.Common.{OnOk}
use Rattle.std.proofs.lemmas.List.{append-nil, length-append}
use Rattle.std.specs.Char.Escape.{encode_utf16}
use Rattle.std.specs.Char.Utf16.{is_low_surrogate}
use Rattle.std.proofs.lemmas.Bool.Decides.{nat_tests}
use mathlib.Core.List.{append_assoc}
use Rattle.oxc_sourcemap_text.specs.TextLines.{ends_line, onto_first, lines_of}
use Rattle.oxc_sourcemap_text.specs.TextLines.{begins_with_line_feed}
use Rattle.oxc_sourcemap_text.specs.Scans.{starts_from, later_starts, second_halves}
use Rattle.oxc_sourcemap_text.specs.Scans.{ends_line_alone, starts_ahead, IsScan}
use Rattle.oxc_sourcemap_text.specs.declared.positions.scan.Scan.{Scan}
use Rattle.oxc_sourcemap_text.proofs.Cuts.{lines-end, lines-no_end}
use Rattle.oxc_sourcemap_text.proofs.Starts.{lines-some}
use Rattle.oxc_sourcemap_text.proofs.Pairs.{first-half, no-half}

-- an offset, if the condition holds
abbrev pub put_if : Bool → ℕ → List ℕ
put_if condition offset = if condition then offset ∷ [] else []

open-some : (offset : ℕ) (lines : List (List ℕ)) → 0 < length lines → starts_from offset lines ≡ offset ∷ later_starts offset lines
open-some offset [] h = absurd (omega (arith, h))
open-some offset (line ∷ lines) h = refl

pub starts-open : (offset : ℕ) (units : List ℕ) → starts_from offset (lines_of units) ≡ offset ∷ later_starts offset (lines_of units)
starts-open offset units = open-some offset (lines_of units) (lines-some units)

later-onto : (offset unit : ℕ) (lines : List (List ℕ)) → 0 < length lines → later_starts offset (onto_first unit lines) ≡ later_starts (offset + 1) lines
later-onto offset unit [] h = absurd (omega (arith, h))
later-onto offset unit (line ∷ lines) h = ap (λ o. starts_from o lines) (omega arith)

later-end : (offset unit : ℕ) (after : List ℕ) → ends_line unit after ≡ true → later_starts offset (lines_of (unit ∷ after)) ≡ starts_from (offset + 1) (lines_of after)
later-end offset unit after e = ap (later_starts offset) (lines-end unit after e)

later-no_end : (offset unit : ℕ) (after : List ℕ) → ends_line unit after ≡ false → later_starts offset (lines_of (unit ∷ after)) ≡ later_starts (offset + 1) (lines_of after)
later-no_end offset unit after e = ap (later_starts offset) (lines-no_end unit after e) ∙ later-onto offset unit (lines_of after) (lines-some after)

regroup : (a b c d : Bool) → (a || b || c || d) ≡ ((a || (b || c)) || d)
regroup true b c d = refl
regroup false true c d = refl
regroup false false true d = refl
regroup false false false d = refl

ends : (unit : ℕ) (after : List ℕ) (alone return feed : Bool) → ends_line_alone unit ≡ alone → (unit == 13) ≡ return → begins_with_line_feed after ≡ feed
    → ends_line unit after ≡ (alone || (return && not feed))
ends unit after alone return feed a r f =
    regroup (unit == 10) (unit == 0x2028) (unit == 0x2029) (unit == 13 && not (begins_with_line_feed after))
    ∙ ap (λ b. b || (unit == 13 && not (begins_with_line_feed after))) a
    ∙ ap (λ b. alone || (b && not (begins_with_line_feed after))) r
    ∙ ap (λ b. alone || (return && not b)) f

no-return : (unit : ℕ) → ends_line_alone unit ≡ true → (unit == 13) ≡ true → ⊥
no-return unit e r =
    let is : unit ≡ 13 = grind (arith, nat_tests) in
    let two : ends_line_alone 13 ≡ true = rw is at e in
    cc

unit-cases : (offset unit : ℕ) (after : List ℕ) (alone return feed : Bool) → ends_line_alone unit ≡ alone → (unit == 13) ≡ return → begins_with_line_feed after ≡ feed
    → later_starts offset (lines_of (unit ∷ after)) ≡ put_if alone (offset + 1) ++ starts_ahead (offset + 1) return after
unit-cases offset unit after true true feed a r f = absurd (no-return unit a r)
unit-cases offset unit after true false feed a r f =
    later-end offset unit after (ends unit after true false feed a r f) ∙ starts-open (offset + 1) after
unit-cases offset unit after false false feed a r f = later-no_end offset unit after (ends unit after false false feed a r f)
unit-cases offset unit after false true true a r f = later-no_end offset unit after (ends unit after false true true a r f) ∙ rw f
unit-cases offset unit after false true false a r f = later-end offset unit after (ends unit after false true false a r f) ∙ rw f

-- the starts that a unit adds after the first
pub unit-adds : (offset unit : ℕ) (after : List ℕ)
    → later_starts offset (lines_of (unit ∷ after)) ≡ put_if (ends_line_alone unit) (offset + 1) ++ starts_ahead (offset + 1) (unit == 13) after
unit-adds offset unit after = unit-cases offset unit after (ends_line_alone unit) (unit == 13) (begins_with_line_feed after) refl refl refl

-- a unit after a carriage return
feed-cases : (offset : ℕ) (is_after_return : Bool) (unit : ℕ) (rest : List ℕ) (feed : Bool) → (unit == 10) ≡ feed
    → starts_ahead offset is_after_return (unit ∷ rest) ≡ put_if (is_after_return && not feed) offset ++ later_starts offset (lines_of (unit ∷ rest))
feed-cases offset false unit rest feed e = refl
feed-cases offset true unit rest true e = rw e
feed-cases offset true unit rest false e = rw e (starts-open offset (unit ∷ rest))

pub feed-adds : (offset : ℕ) (is_after_return : Bool) (unit : ℕ) (rest : List ℕ)
    → starts_ahead offset is_after_return (unit ∷ rest) ≡ put_if (is_after_return && not (unit == 10)) offset ++ later_starts offset (lines_of (unit ∷ rest))
feed-adds offset is_after_return unit rest = feed-cases offset is_after_return unit rest (unit == 10) refl

-- the two units of a character past U+FFFF
abbrev high : ℕ → ℕ
high c = 0xD800 + (c - 0x1_0000) / 0x400

abbrev low : ℕ → ℕ
low c = 0xDC00 + (c - 0x1_0000) % 0x400

pub one-unit : (c : ℕ) → c < 0x1_0000 → encode_utf16 c ≡ c ∷ []
one-unit c h =
    let is : nat_lt c 0x1_0000 ≡ true = grind (arith, nat_tests) in
    rw is

pub two-units : (c : ℕ) → 0x1_0000 ≤ c → encode_utf16 c ≡ high c ∷ low c ∷ []
two-units c h =
    let is : nat_lt c 0x1_0000 ≡ false = grind (arith, nat_tests) in
    rw is

plain : (unit : ℕ) → 0xD800 ≤ unit → unit < 0xE000 → (ends_line_alone unit ≡ false) × ((unit == 13) ≡ false) × ((unit == 10) ≡ false)
plain unit a b = (grind (arith, nat_tests), grind (arith, nat_tests), grind (arith, nat_tests))

past : (unit : ℕ) → 0x1_0000 ≤ unit → (ends_line_alone unit ≡ false) × ((unit == 13) ≡ false) × ((unit == 10) ≡ false)
past unit a = (grind (arith, nat_tests), grind (arith, nat_tests), grind (arith, nat_tests))

-- the starts that a character adds, of one unit
pub starts-one : (offset : ℕ) (is_after_return : Bool) (c : ℕ) (after : List ℕ) → c < 0x1_0000
    → starts_ahead offset is_after_return (encode_utf16 c ++ after)
    ≡ put_if (is_after_return && not (c == 10)) offset ++ (put_if (ends_line_alone c) (offset + 1) ++ starts_ahead (offset + 1) (c == 13) after)
starts-one offset is_after_return c after h =
    ap (λ us. starts_ahead offset is_after_return (us ++ after)) (one-unit c h)
    ∙ feed-adds offset is_after_return c after ∙ ap (λ more. put_if (is_after_return && not (c == 10)) offset ++ more) (unit-adds offset c after)

later-pair : (offset a b : ℕ) (after : List ℕ) → 0xD800 ≤ a → a < 0xE000 → 0xD800 ≤ b → b < 0xE000
    → later_starts offset (lines_of (a ∷ b ∷ after)) ≡ later_starts (offset + 2) (lines_of after)
later-pair offset a b after h i j k =
    let first = plain a h i in
    let second = plain b j k in
    let one = ends a (b ∷ after) false false (b == 10) first.0 first.1 refl in
    let two = ends b after false false (begins_with_line_feed after) second.0 second.1 refl in
    let sum : offset + 1 + 1 ≡ offset + 2 = omega arith in
    later-no_end offset a (b ∷ after) one ∙ later-no_end (offset + 1) b after two ∙ ap (λ o. later_starts o (lines_of after)) sum

-- of two units
pub starts-two : (offset : ℕ) (is_after_return : Bool) (c : ℕ) (after : List ℕ) → 0x1_0000 ≤ c → c < 0x11_0000
    → starts_ahead offset is_after_return (encode_utf16 c ++ after)
    ≡ put_if (is_after_return && not (c == 10)) offset ++ (put_if (ends_line_alone c) (offset + 2) ++ starts_ahead (offset + 2) (c == 13) after)
starts-two offset is_after_return c after h g =
    let none = past c h in
    let first = plain (high c) (omega arith) (omega arith) in
    let pair = later-pair offset (high c) (low c) after (omega arith) (omega arith) (omega arith) (omega arith) in
    ap (λ us. starts_ahead offset is_after_return (us ++ after)) (two-units c h)
    ∙ feed-adds offset is_after_return (high c) (low c ∷ after)
    ∙ ap (λ t. put_if (is_after_return && not t) offset ++ later_starts offset (lines_of (high c ∷ low c ∷ after))) (first.2 ∙ sym none.2)
    ∙ ap (λ more. put_if (is_after_return && not (c == 10)) offset ++ more)
    (pair ∙ sym (ap (λ t. put_if t (offset + 2) ++ starts_ahead (offset + 2) (c == 13) after) none.0 ∙ ap (λ t. starts_ahead (offset + 2) t after) none.1))

-- the second halves that a character adds
pub halves-one : (offset c : ℕ) (after : List ℕ) → c < 0x1_0000 → is_low_surrogate c ≡ false
    → second_halves offset (encode_utf16 c ++ after) ≡ second_halves (offset + 1) after
halves-one offset c after h e = ap (λ us. second_halves offset (us ++ after)) (one-unit c h) ∙ no-half offset c after e

pub halves-two : (offset c : ℕ) (after : List ℕ) → 0x1_0000 ≤ c → c < 0x11_0000
    → second_halves offset (encode_utf16 c ++ after) ≡ (offset + 1) ∷ second_halves (offset + 2) after
halves-two offset c after h g =
    let a : is_low_surrogate (high c) ≡ false = grind (arith, nat_tests) in
    let b : is_low_surrogate (low c) ≡ true = grind (arith, nat_tests) in
    let sum : offset + 1 + 1 ≡ offset + 2 = omega arith in
    ap (λ us. second_halves offset (us ++ after)) (two-units c h)
    ∙ no-half offset (high c) (low c ∷ after) a ∙ first-half (offset + 1) (low c) after b ∙ ap (λ o. (offset + 1) ∷ second_halves o after) sum

char-cases : (offset : ℕ) (is_after_return : Bool) (c n : ℕ) (after : List ℕ) (b : Bool) → nat_lt c 0x1_0000 ≡ b → c < 0x11_0000 → n ≡ length (encode_utf16 c)
    → starts_ahead offset is_after_return (encode_utf16 c ++ after)
    ≡ put_if (is_after_return && not (c == 10)) offset ++ (put_if (ends_line_alone c) (offset + n) ++ starts_ahead (offset + n) (c == 13) after)
char-cases offset is_after_return c n after true e h k =
    let few : c < 0x1_0000 = grind arith in
    let is : n ≡ 1 = k ∙ ap length (one-unit c few) in
    rw is (starts-one offset is_after_return c after few)
char-cases offset is_after_return c n after false e h k =
    let many : 0x1_0000 ≤ c = grind arith in
    let is : n ≡ 2 = k ∙ ap length (two-units c many) in
    rw is (starts-two offset is_after_return c after many h)

halves-cases : (offset c n : ℕ) (after : List ℕ) (b : Bool) → nat_lt c 0x1_0000 ≡ b → c < 0x11_0000 → is_low_surrogate c ≡ false → n ≡ length (encode_utf16 c)
    → second_halves offset (encode_utf16 c ++ after) ≡ put_if (nat_lt 0xffff c) (offset + n - 1) ++ second_halves (offset + n) after
halves-cases offset c n after true e h low k =
    let few : c < 0x1_0000 = grind arith in
    let is : n ≡ 1 = k ∙ ap length (one-unit c few) in
    let none : nat_lt 0xffff c ≡ false = grind arith in
    rw (is, none) (halves-one offset c after few low)
halves-cases offset c n after false e h low k =
    let many : 0x1_0000 ≤ c = grind arith in
    let is : n ≡ 2 = k ∙ ap length (two-units c many) in
    let one : nat_lt 0xffff c ≡ true = grind arith in
    let last : offset + 2 - 1 ≡ offset + 1 = omega arith in
    rw (is, one, last) (halves-two offset c after many h)

-- a scan of one character more
pub scan-step : (front : List ℕ) (s : Scan) (c len : ℕ) (starts halves : Vec ℕ Global) → IsScan front s → c < 0x11_0000 → is_low_surrogate c ≡ false
    → len ≡ s.len + length (encode_utf16 c)
    → starts.items ≡ (s.starts.items ++ put_if (s.is_after_return && not (c == 10)) s.len) ++ put_if (ends_line_alone c) len
    → halves.items ≡ s.second_halves.items ++ put_if (nat_lt 0xffff c) (len - 1)
    → IsScan (front ++ encode_utf16 c) (record { starts = starts; second_halves = halves; len = len; is_after_return = c == 13 })
scan-step front s c len starts halves is h low size lines pairs = record {
  lines = λ after.
      let step = rw (← size) at (char-cases s.len s.is_after_return c (length (encode_utf16 c)) after (nat_lt c 0x1_0000) refl h refl) in
      rw (append_assoc front (encode_utf16 c) after, is.lines (encode_utf16 c ++ after), step, lines)
      (simp append_assoc);
  pairs = λ after.
      let step = rw (← size) at (halves-cases s.len c (length (encode_utf16 c)) after (nat_lt c 0x1_0000) refl h low refl) in
      rw (append_assoc front (encode_utf16 c) after, is.pairs (encode_utf16 c ++ after), step, pairs)
      (simp append_assoc);
  size = size ∙ ap (λ n. n + length (encode_utf16 c)) is.size ∙ sym (length-append front (encode_utf16 c));
}

ahead-nothing : (offset : ℕ) (is_after_return : Bool) → starts_ahead offset is_after_return [] ≡ put_if is_after_return offset
unfolding lines_of
ahead-nothing offset true = refl
ahead-nothing offset false = refl

-- the starts, where nothing follows
pub scan-end : (units : List ℕ) (s : Scan) (starts : Vec ℕ Global) → IsScan units s → starts.items ≡ s.starts.items ++ put_if s.is_after_return s.len → starts.items ≡ starts_from 0 (lines_of units)
scan-end units s starts is e =
    let whole = rw (append-nil units) at (is.lines []) in
    e ∙ ap (λ more. s.starts.items ++ more) (sym (ahead-nothing s.len s.is_after_return)) ∙ sym whole

pub scan-pairs : (units : List ℕ) (s : Scan) → IsScan units s → s.second_halves.items ≡ second_halves 0 units
scan-pairs units s is =
    let whole = rw (append-nil units) at (is.pairs []) in
    sym (append-nil s.second_halves.items) ∙ sym whole

pub on-ok : {A E : Type 0} (r : Result A E) (P Q : Type 0) → (P → Q) → OnOk r P → OnOk r Q
on-ok (Ok x) P Q f p = f p
on-ok (Err e) P Q f p = p

length-cases : (c r : ℕ) (b : Bool) → nat_lt c 0x1_0000 ≡ b → (c < 0x1_0000 → r ≡ 1) → (0x1_0000 ≤ c → r ≡ 2) → r ≡ length (encode_utf16 c)
length-cases c r true e few many =
    let h : c < 0x1_0000 = grind arith in
    few h ∙ sym (ap length (one-unit c h))
length-cases c r false e few many =
    let h : 0x1_0000 ≤ c = grind arith in
    many h ∙ sym (ap length (two-units c h))

pub utf16-length : (c r : ℕ) → (c < 0x1_0000 → r ≡ 1) → (0x1_0000 ≤ c → r ≡ 2) → r ≡ length (encode_utf16 c)
utf16-length c r few many = length-cases c r (nat_lt c 0x1_0000) refl few many

scalar-not_low : (c : ℕ) → (c < 55296) ⊎ ((57344 ≤ c) × (c < 1114112)) → (c < 0x11_0000) × (is_low_surrogate c ≡ false)
scalar-not_low c (inl h) = (omega arith, grind (arith, nat_tests))
scalar-not_low c (inr (a, b)) = (omega (arith, b), grind (arith, nat_tests))

-- a character is not the second half of a surrogate pair
pub char-not_low : (c : ℕ) → scalar c ≡ true → (c < 0x11_0000) × (is_low_surrogate c ≡ false)
char-not_low c e = scalar-not_low c (scalar_cases c e)

-- the units of some characters and of the next one are among those of all
pub units-front : (all : List ℕ) (n d : ℕ) → n < length all → length (flat_map encode_utf16 (take n all)) + length (encode_utf16 (get_or all n d)) ≤ length (flat_map encode_utf16 all)
units-front [] n d h = absurd (omega (arith, h))
units-front (c ∷ all) zero d h = omega (arith, length-append (encode_utf16 c) (flat_map encode_utf16 all))
units-front (c ∷ all) (suc n) d h =
    omega (arith, length-append (encode_utf16 c) (flat_map encode_utf16 (take n all)), length-append (encode_utf16 c) (flat_map encode_utf16 all), units-front all n d (omega (arith, h)))
