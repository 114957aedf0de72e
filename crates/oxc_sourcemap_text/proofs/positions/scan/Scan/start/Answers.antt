use Rattle.std.proofs.Common.{◌≡◌, [], ◌∷◌, arith}
use Rattle.std.proofs.lemmas.Grind.{common_steps}
use Rattle.oxc_sourcemap_text.proofs.Steps.{starts-open}
use Rattle.oxc_sourcemap_text.proofs.positions.scan.Scan.start.Goals as goal

pub returns : goal.returns
returns c =
    let first : c.push.new.self.items ≡ 0 ∷ [] = grind (arith, common_steps) in
    let none : c.new.result.items ≡ [] = cc in
    record { lines = λ after. rw first (starts-open 0 after); pairs = λ after. rw none; size = omega arith }
