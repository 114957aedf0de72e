use Rattle.std.proofs.Common.{◌≡◌, length, take, subst, arith}
use Rattle.std.specs.List.{AllZip}
use Rattle.std.proofs.lemmas.Grind.{common_steps}
use Rattle.oxc_sourcemap_compiled.specs.Words.{IsIndexFor}
use Rattle.oxc_sourcemap_compiled.proofs.Zips.{taken-zip, written-more}
use Rattle.oxc_sourcemap_compiled.proofs.map.CompiledMap.find_all.Goals as goal

pub loop-i-preserved : goal.loop-i-preserved
loop-i-preserved c = record {
  written = written-more (IsIndexFor c.args.bias c.args.self.now) c.args.positions.now c.loop-i.out c.loop-i.i _ c.find_index.result (omega (arith, c.min-i-end.ensures, c.loop-i.auto.i-end, c.loop-i-test.true)) (omega (arith, c.min-i-end.ensures, c.loop-i.auto.i-end, c.loop-i-test.true)) c.loop-i.invariant.written (record { is = c.find_index.ensures.found; among = c.find_index.ensures.among });
  left = grind (arith, common_steps, c.loop-i.invariant.left);
}

pub returns-clause-found : goal.returns-clause-found
returns-clause-found c =
    let R = IsIndexFor c.args.bias c.args.self.now in
    let positions = c.args.positions.now in
    let same : length c.loop-i.out ≡ length c.args.out.now = omega arith in
    subst (λ n. AllZip R (take n positions) (take (length positions) c.loop-i.out)) same
    (taken-zip R positions c.loop-i.out
    (λ k a b p q. c.loop-i.invariant.written k a b (omega (arith, p, q, c.min-i-end.ensures, c.loop-i.auto.i-end, c.loop-i-test.false))))
