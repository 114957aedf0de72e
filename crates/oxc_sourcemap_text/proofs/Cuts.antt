-- Lines, cut one after the other.
use Rattle.std.proofs.Common.{◌≡◌, ℕ, ◌+◌, ◌<◌, ◌≤◌, true, false, List, [], ◌∷◌, ◌++◌, length, take}
use Rattle.std.proofs.Common.{drop, get_or, refl, sym, ap, add-one, if◌then◌else◌}
use Rattle.std.proofs.Math.Seq.{drop-cons}
use Rattle.std.proofs.lemmas.List.{take_more, drop_all, take_all, append-nil}
use mathlib.Core.List.{append_assoc}
use Rattle.oxc_sourcemap_text.specs.TextLines.{ends_line, onto_first, lines_of}

-- these lines, with units put before the first line
abbrev pub before_first : List ℕ → List (List ℕ) → List (List ℕ)
before_first units [] = units ∷ []
before_first units (line ∷ lines) = (units ++ line) ∷ lines

before-none-onto : (unit : ℕ) (lines : List (List ℕ)) → before_first [] (onto_first unit lines) ≡ onto_first unit lines
before-none-onto unit [] = refl
before-none-onto unit (line ∷ lines) = refl

pub before-none : (units : List ℕ) → before_first [] (lines_of units) ≡ lines_of units
unfolding lines_of
before-none [] = refl
before-none (unit ∷ units) = elim (ends_line unit units) as (λ b. before_first [] (if b then (unit ∷ []) ∷ lines_of units else onto_first unit (lines_of units)) ≡ (if b then (unit ∷ []) ∷ lines_of units else onto_first unit (lines_of units))) [ true ↦ refl | false ↦ before-none-onto unit (lines_of units) ]

before-onto : (front : List ℕ) (unit : ℕ) (lines : List (List ℕ)) → before_first front (onto_first unit lines) ≡ before_first (front ++ unit ∷ []) lines
before-onto front unit [] = refl
before-onto front unit (line ∷ lines) = ap (λ l. l ∷ lines) (sym (append_assoc front (unit ∷ []) line))

pub lines-end : (unit : ℕ) (after : List ℕ) → ends_line unit after ≡ true → lines_of (unit ∷ after) ≡ (unit ∷ []) ∷ lines_of after
unfolding lines_of
lines-end unit after e = rw e

pub lines-no_end : (unit : ℕ) (after : List ℕ) → ends_line unit after ≡ false → lines_of (unit ∷ after) ≡ onto_first unit (lines_of after)
unfolding lines_of
lines-no_end unit after e = rw e

-- what is left from index i on begins with the unit there
opened : (units : List ℕ) (i : ℕ) → i < length units → drop i units ≡ get_or units i 0 ∷ drop (i + 1) units
opened units i h = rw (add-one, drop-cons units i 0 h)

-- the lines from the cut on, at index i: the line so far, put before the first line of what is left
pub cut-further : (units : List ℕ) (i : ℕ) → i < length units → ends_line (get_or units i 0) (drop (i + 1) units) ≡ false
    → before_first (take i units) (lines_of (drop i units)) ≡ before_first (take (i + 1) units) (lines_of (drop (i + 1) units))
cut-further units i h e =
    rw (opened units i h, take_more units i 0 h, lines-no_end (get_or units i 0) (drop (i + 1) units) e) (before-onto (take i units) (get_or units i 0) (lines_of (drop (i + 1) units)))

pub cut-here : (units : List ℕ) (i : ℕ) → i < length units → ends_line (get_or units i 0) (drop (i + 1) units) ≡ true
    → before_first (take i units) (lines_of (drop i units)) ≡ take (i + 1) units ∷ lines_of (drop (i + 1) units)
cut-here units i h e = rw (opened units i h, take_more units i 0 h, lines-end (get_or units i 0) (drop (i + 1) units) e)

pub cut-nowhere : (units : List ℕ) (i : ℕ) → length units ≤ i → before_first (take i units) (lines_of (drop i units)) ≡ units ∷ []
unfolding lines_of
cut-nowhere units i h = rw (drop_all i units h, take_all i units h, append-nil units)
