use lib.Dec.{T}
use lib.Signed.{non_neg}
use Rattle.std.proofs.Common.{arith, ◌≡◌, ◌&&◌, Bool, true, false, refl, w32, ℤ, pos, negsuc, ◌+ℤ◌}
use Rattle.std.proofs.Common.{nat_abs, nat_le, Fits, ◌≤ℤ◌, None}
use Rattle.std.proofs.lemmas.Bool.Decides.{nat_tests}
use Rattle.std.proofs.lemmas.Int.{ints}
use Rattle.oxc_sourcemap_mappings.specs.Faults.{range_fault}
use Rattle.oxc_sourcemap_mappings.proofs.decode.Sums.with_position.Goals as goal

all : (a b c : Bool) → ((a && b) && c) ≡ true → (a ≡ true) × (b ≡ true) × (c ≡ true)
all true true true e = (refl, refl, refl)
all true true false e = cc
all true false c e = cc
all false b c e = cc

fits : (z : ℤ) → pos 0 ≤ℤ z → z ≤ℤ pos 4294967295 → T (non_neg z) × Fits w32 (nat_abs z)
fits (pos n) l h = grind (arith, ints)
fits (negsuc n) l h = absurd (omega (arith, ints))

in_range : (z : ℤ) → pos 0 ≤ℤ z → z ≤ℤ pos 4294967295 → range_fault z ≡ None
in_range (pos n) l h = let t : nat_le n 4294967295 ≡ true = grind (arith, ints, nat_tests) in rw t
in_range (negsuc n) l h = absurd (omega (arith, ints))

pub overflow_cast-result : goal.overflow_cast-result
overflow_cast-result c = let t = all c.is_in_range.result c.is_in_range-2.result c.is_in_range-3.result c.if-not-is_in_range.false in fits _ (c.is_in_range.ensures.low t.0) (c.is_in_range.ensures.high t.0)

pub overflow_cast-result-2 : goal.overflow_cast-result-2
overflow_cast-result-2 c = let t = all c.is_in_range.result c.is_in_range-2.result c.is_in_range-3.result c.if-not-is_in_range.false in fits _ (c.is_in_range-2.ensures.low t.1) (c.is_in_range-2.ensures.high t.1)

pub overflow_cast-result-3 : goal.overflow_cast-result-3
overflow_cast-result-3 c = let t = all c.is_in_range.result c.is_in_range-2.result c.is_in_range-3.result c.if-not-is_in_range.false in fits _ (c.is_in_range-3.ensures.low t.2) (c.is_in_range-3.ensures.high t.2)

pub returns-clause-dst_col : goal.returns-clause-dst_col
returns-clause-dst_col c = let t = all c.is_in_range.result c.is_in_range-2.result c.is_in_range-3.result c.if-not-is_in_range.false in omega (arith, ints, c.from.ensures, c.requires.dst_col, c.is_in_range.ensures.low t.0)

pub returns-clause-src_line : goal.returns-clause-src_line
returns-clause-src_line c = let t = all c.is_in_range.result c.is_in_range-2.result c.is_in_range-3.result c.if-not-is_in_range.false in omega (arith, ints, c.from-2.ensures, c.requires.src_line, c.is_in_range-2.ensures.low t.1)

pub returns-clause-src_col : goal.returns-clause-src_col
returns-clause-src_col c = let t = all c.is_in_range.result c.is_in_range-2.result c.is_in_range-3.result c.if-not-is_in_range.false in omega (arith, ints, c.from-3.ensures, c.requires.src_col, c.is_in_range-3.ensures.low t.2)

pub returns-clause-clean : goal.returns-clause-clean
returns-clause-clean c = λ _.
    let t = all c.is_in_range.result c.is_in_range-2.result c.is_in_range-3.result c.if-not-is_in_range.false in (
      in_range (pos c.args.self.now.dst_col +ℤ c.args.dst_col) (omega (arith, ints, c.from.ensures, c.requires.dst_col, c.is_in_range.ensures.low t.0)) (omega (arith, ints, c.from.ensures, c.requires.dst_col, c.is_in_range.ensures.high t.0)),
      in_range (pos c.args.self.now.src_line +ℤ c.args.src_line) (omega (arith, ints, c.from-2.ensures, c.requires.src_line, c.is_in_range-2.ensures.low t.1)) (omega (arith, ints, c.from-2.ensures, c.requires.src_line, c.is_in_range-2.ensures.high t.1)),
      in_range (pos c.args.self.now.src_col +ℤ c.args.src_col) (omega (arith, ints, c.from-3.ensures, c.requires.src_col, c.is_in_range-3.ensures.low t.2)) (omega (arith, ints, c.from-3.ensures, c.requires.src_col, c.is_in_range-3.ensures.high t.2)),
    )
