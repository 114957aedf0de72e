use Rattle.std.proofs.Common.{◌≡◌, ◌∙◌, ◌+◌, ◌<◌, ◌++◌, ◌∷◌, [], ap, sym, cond, length, take, arith}
use Rattle.std.proofs.lemmas.List.{length-append, append-nil, get_or-take, length-take}
use Rattle.oxc_sourcemap_map.specs.Reverse.{is_into, passing}
use Rattle.oxc_sourcemap_c.specs.Listed.{filled}
use Rattle.oxc_sourcemap_c.proofs.Passing.{passing_next, none_passing, front_passing, outside_false}
use Rattle.oxc_sourcemap_c.proofs.Passing.{filled_none}
use Rattle.oxc_sourcemap_c.proofs.reading.reverse.write_line.Goals as goal
use Rattle.oxc_sourcemap_c.proofs.reading.reverse.write_line.Goals.{then-points_to, else-points_to}

pub loop-i-init : goal.loop-i-init
loop-i-init c =
    let p = is_into c.args.at.source_id c.args.at.line in
    let start = c.args.bounds.0 in
    let none : passing p (take start c.args.tokens.now) ≡ [] = none_passing p (take start c.args.tokens.now) (λ k d lt.
    let low : k < start = omega (arith, lt, length-take start c.args.tokens.now) in
    ap p (get_or-take start c.args.tokens.now k d low)
    ∙ outside_false _ (λ e. let in_ = c.requires.all k d (omega (arith, low, c.requires.within)) e in omega (arith, in_.0, low))) in record {
      counted = sym (ap length none);
      written = filled_none c.args.out.now ∙ sym (ap (λ xs. filled xs c.args.out.now) none);
      few = omega arith;
    }

pub loop-i-preserved : goal.loop-i-preserved
loop-i-preserved c =
    let p = is_into c.args.at.source_id c.args.at.line in
    let i = c.loop-i.i in
    let t = c.index-tokens-i.result in
    let lt : i < length c.args.tokens.now = omega (arith, c.requires.within, c.loop-i-test.true) in
    let found = passing p (take i c.args.tokens.now) in
    let next = passing_next p c.args.tokens.now i t lt in
    let here = ap p (sym c.index-tokens-i.is) ∙ sym c.points_to.ensures in
    elim c.if-points_to.branch [
      | then-points_to w ↦
          let e : passing p (take (i + 1) c.args.tokens.now) ≡ found ++ i ∷ [] = next ∙ ap (λ b. found ++ cond b (i ∷ []) []) (here ∙ w.if-points_to.true) in
          record {
            counted = omega (arith, w.count-is, c.loop-i.invariant.counted, ap length e, length-append found (i ∷ []));
            written = w.out-is ∙ w.write_behind.ensures found c.args.out.now c.loop-i.invariant.counted c.loop-i.invariant.written ∙ ap (λ xs. filled xs c.args.out.now) (sym e);
            few = omega (arith, w.count-is, c.loop-i.invariant.few);
          }
      | else-points_to w ↦
          let e : passing p (take (i + 1) c.args.tokens.now) ≡ found = next ∙ ap (λ b. found ++ cond b (i ∷ []) []) (here ∙ w.if-points_to.false) ∙ append-nil found in
          record {
            counted = w.count-is ∙ c.loop-i.invariant.counted ∙ ap length (sym e);
            written = w.out-is ∙ c.loop-i.invariant.written ∙ ap (λ xs. filled xs c.args.out.now) (sym e);
            few = omega (arith, w.count-is, c.loop-i.invariant.few);
          }
    ]

pub returns-clause-count : goal.returns-clause-count
returns-clause-count c =
    let p = is_into c.args.at.source_id c.args.at.line in
    c.loop-i.invariant.counted ∙ ap length (front_passing p c.args.tokens.now c.loop-i.i (λ k d le lt. outside_false _ (λ e. let in_ = c.requires.all k d lt e in omega (arith, in_.1, le, c.loop-i-test.false))))

pub returns-clause-written : goal.returns-clause-written
returns-clause-written c =
    let p = is_into c.args.at.source_id c.args.at.line in
    c.loop-i.invariant.written
    ∙ ap (λ xs. filled xs c.args.out.now) (front_passing p c.args.tokens.now c.loop-i.i (λ k d le lt. outside_false _ (λ e. let in_ = c.requires.all k d lt e in omega (arith, in_.1, le, c.loop-i-test.false))))
