use Rattle.std.proofs.Common.{◌≡◌, slice_get, arith}
use Rattle.std.proofs.lemmas.Grind.{common_steps}
use Rattle.oxc_sourcemap_c.specs.Reverse.{answering}
use Rattle.oxc_sourcemap_c.proofs.Passing.{answer_within}
use Rattle.oxc_sourcemap_c.proofs.reading.reverse.first_answer.Goals as goal

pub returns-in-Some-clause-within : goal.returns-in-Some-clause-within
returns-in-Some-clause-within c =
    let e : c.copied.result ≡ slice_get (answering c.args.direction c.args.at c.args.tokens.now) 0 = grind (arith, common_steps) in
    answer_within c.args.direction c.args.at c.args.tokens.now c.copied.result e

pub returns-in-None-clause-within : goal.returns-in-None-clause-within
returns-in-None-clause-within c =
    let e : c.first_on_line.result ≡ slice_get (answering c.args.direction c.args.at c.args.tokens.now) 0 = grind (arith, common_steps) in
    answer_within c.args.direction c.args.at c.args.tokens.now c.first_on_line.result e
