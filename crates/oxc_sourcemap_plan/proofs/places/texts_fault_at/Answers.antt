use Rattle.std.proofs.Common.{[]}
use Rattle.std.proofs.lemmas.Result.{IfOk-weaker}
use Rattle.oxc_sourcemap_plan.proofs.Unread.{placed_at}
use Rattle.oxc_sourcemap_plan.proofs.places.texts_fault_at.Goals as goal

pub returns-in-Err-clause-place : goal.returns-in-Err-clause-place
returns-in-Err-clause-place c =
    IfOk-weaker c.place_if.result _ _ (λ place h. placed_at c.args.texts.now c.loop-k.k (record { ref_ptr = (0, 0); now = [] }) c.in-Err.fault c.args.error place c.loop-k-test.true c.loop-k.invariant
    h.0 c.in-Err.ensures.map.1 c.in-Err.ensures.place.1 h.1) c.place_if.ensures.place
