use Rattle.sourcemap_run.proofs.Spaces.{one_more_space}
use Rattle.sourcemap_run.proofs.contexts.push_spaces.Goals as goal

pub loop-byte-preserved : goal.loop-byte-preserved
loop-byte-preserved c = record {
  bytes = one_more_space c.args.bytes.now c.loop-byte._byte-index _ _ _ c.loop-byte-test.true c.in_ok-push_space.ensures.text c.loop-byte.invariant.bytes;
  adds = λ front begins. c.push_space.ensures.adds front (c.loop-byte.invariant.adds front begins);
}
