use Rattle.std.proofs.Common.{◌≡◌, ◌<◌, ◌^◌, length, arith, rules}
use Rattle.std.proofs.lemmas.Grind.{common_steps}
use Rattle.oxc_sourcemap_queries.specs.Cuts.{passed_count}
use Rattle.oxc_sourcemap_queries.proofs.Cutting.{after-within}
use Rattle.oxc_sourcemap_queries.proofs.differ.walk.step_at.Goals as goal

pub overflow_add-passed : goal.overflow_add-passed
overflow_add-passed c =
    let fits : length c.args.tokens.now < 2 ^ 64 = search rules in
    let count : c.count_passed-count.result ≡ passed_count c.args.tokens.now c.args.next c.args.place = grind (arith, common_steps, c.count_passed-count.ensures) in
    omega (arith, fits, count, after-within c.args.tokens.now c.args.next c.args.place c.requires)
