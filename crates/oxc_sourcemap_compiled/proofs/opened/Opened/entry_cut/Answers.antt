use Rattle.std.proofs.Common.{◌≡◌, ◌<◌, ◌≤◌, ◌+◌, ◌-◌, ◌/◌, ℕ, List, nat_lt, true, false, arith, ap}
use Rattle.std.proofs.Common.{◌∙◌}
use Rattle.std.proofs.Common.{sym, subst, refl}
use Rattle.oxc_sourcemap_compiled.specs.Cuts.{IsCut}
use Rattle.oxc_sourcemap_compiled.specs.Words.{start_in}
use Rattle.oxc_sourcemap_compiled.proofs.Searches.{halved-none, halved-more, halved-all}
use Rattle.oxc_sourcemap_compiled.proofs.opened.Opened.entry_cut.Goals as goal

-- where an entry ends, by where the next one begins
middle : (bytes : List ℕ) (start size result : ℕ) → 0 < size → result ≡ start_in bytes (start + (size - size / 2)) → start_in bytes (start + (size - size / 2) - 1 + 1) ≡ result
middle bytes start size result some is =
    let next : start + (size - size / 2) - 1 + 1 ≡ start + (size - size / 2) = omega (arith, some) in
    ap (start_in bytes) next ∙ sym is

is-below : (x y i : ℕ) → x ≡ y → y ≤ i → nat_lt x (i + 1) ≡ true
is-below x y i e le = grind (arith, e, le)

is-past : (x y i : ℕ) → x ≡ y → i < y → nat_lt x (i + 1) ≡ false
is-past x y i e lt = grind (arith, e, lt)

pub loop-size-init : goal.loop-size-init
loop-size-init c = halved-none (λ k. start_in c.args.self.now.bytes.now (k + 1)) (c.args.i + 1) 0 c.args.self.now.header.lines

pub loop-size-preserved-then-line_start-i : goal.loop-size-preserved-then-line_start-i
loop-size-preserved-then-line_start-i c =
    let f = λ (k : ℕ). start_in c.args.self.now.bytes.now (k + 1) in
    let start = c.loop-size.start in
    let size = c.loop-size.size in
    let at = middle c.args.self.now.bytes.now start size c.line_start.result c.loop-size-test.true c.line_start.ensures.value in
    let lt : nat_lt (f (start + (size - size / 2) - 1)) (c.args.i + 1) ≡ true = is-below _ c.line_start.result c.args.i at (omega (arith, c.if-line_start-i.true)) in
    halved-more true f (c.args.i + 1) 0 c.args.self.now.header.lines start size _ lt c.loop-size-test.true refl c.loop-size.invariant

pub loop-size-preserved : goal.loop-size-preserved
loop-size-preserved c =
    let f = λ (k : ℕ). start_in c.args.self.now.bytes.now (k + 1) in
    let start = c.loop-size.start in
    let size = c.loop-size.size in
    let at = middle c.args.self.now.bytes.now start size c.line_start.result c.loop-size-test.true c.line_start.ensures.value in
    let le : nat_lt (f (start + (size - size / 2) - 1)) (c.args.i + 1) ≡ false = is-past _ c.line_start.result c.args.i at (omega (arith, c.if-line_start-i.false)) in
    halved-more false f (c.args.i + 1) 0 c.args.self.now.header.lines start size start le c.loop-size-test.true (omega arith) c.loop-size.invariant

pub returns-clause-cut : goal.returns-clause-cut
returns-clause-cut c = λ cut is.
    let f = λ (k : ℕ). start_in c.args.self.now.bytes.now (k + 1) in
    let lines = c.args.self.now.header.lines in
    let end : lines ≡ 0 + lines = omega arith in
    halved-all f (c.args.i + 1) 0 lines c.loop-size.start c.loop-size.size cut c.loop-size.invariant (omega (arith, c.loop-size-test.false)) (subst (λ n. IsCut f (c.args.i + 1) 0 n cut) end is)
