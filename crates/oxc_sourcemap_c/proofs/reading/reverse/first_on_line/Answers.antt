use Rattle.std.proofs.Common.{◌≡◌, ◌∙◌, ◌<◌, sym, ap, true, length, get_or, slice_get, arith}
use Rattle.oxc_sourcemap_map.specs.Reverse.{is_into}
use Rattle.oxc_sourcemap_c.proofs.Passing.{first_passing, none_passing, outside_false}
use Rattle.oxc_sourcemap_c.proofs.reading.reverse.first_on_line.Goals as goal

pub returns-then-points_to : goal.returns-then-points_to
returns-then-points_to c =
    let p = is_into c.args.at.source_id c.args.at.line in
    let t = c.index-tokens-i.result in
    let lt : c.loop-i.i < length c.args.tokens.now = omega (arith, c.requires.within, c.loop-i-test.true) in
    let is : p (get_or c.args.tokens.now c.loop-i.i t) ≡ true = ap p (sym c.index-tokens-i.is) ∙ sym c.points_to.ensures ∙ c.if-points_to.true in
    sym (first_passing p c.args.tokens.now c.loop-i.i t lt is c.loop-i.invariant)

pub returns : goal.returns
returns c =
    let p = is_into c.args.at.source_id c.args.at.line in
    sym (ap (λ xs. slice_get xs 0) (none_passing p c.args.tokens.now (λ k d lt. outside_false _ (λ e. let in_ = c.requires.all k d lt e in let no = c.loop-i.invariant k d (omega (arith, in_.1, c.loop-i-test.false)) in cc (e, no)))))
