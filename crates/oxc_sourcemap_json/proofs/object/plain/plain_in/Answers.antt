use Rattle.std.proofs.Common.{sym, ap, ◌∙◌, cond, arith}
use Rattle.std.proofs.lemmas.Bool.{eq-eqb, ne_eqb}
use lib.Count.{count_trailing_zeros}
use Rattle.oxc_sourcemap_json.proofs.PlainBlocks.{block_run}
use Rattle.oxc_sourcemap_json.proofs.object.plain.plain_in.Goals as goal

pub returns-then-found-eq0 : goal.returns-then-found-eq0
returns-then-found-eq0 c =
    let found = c.stops_in-found.result in
    sym (ap (λ b. cond b 16 (count_trailing_zeros 64 found)) (eq-eqb _ _ c.if-found-eq0.true))
    ∙ block_run c.args.block 16 found c.fits-block.0 (omega arith) c.stops_in-found.ensures

pub returns-else-found-eq0 : goal.returns-else-found-eq0
returns-else-found-eq0 c =
    let found = c.stops_in-found.result in
    sym (ap (λ b. cond b 16 (count_trailing_zeros 64 found)) (ne_eqb _ _ c.if-found-eq0.false))
    ∙ block_run c.args.block 16 found c.fits-block.0 (omega arith) c.stops_in-found.ensures
