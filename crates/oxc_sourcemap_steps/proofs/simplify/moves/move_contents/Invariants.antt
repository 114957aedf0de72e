use Rattle.std.proofs.Common.{◌≡◌, ◌+◌, ◌++◌, ◌≤◌, None, map, length, drop, get_or, vec_len}
use Rattle.std.specs.Vec.{vec_capacity}
use Rattle.oxc_sourcemap_parts.specs.Views.{contents_of}
use Rattle.oxc_sourcemap_steps.specs.SimplifySteps.{AreApart}
use Rattle.oxc_sourcemap_steps.proofs.simplify.moves.move_contents.Given as goal

abbrev pub invariant-loop-k : goal.invariant-loop-k
invariant-loop-k l = record {
  apart : AreApart (drop l.k-index l.order);
  room : vec_len l.moved + length (drop l.k-index l.order) ≤ vec_capacity l.moved;
  moved : contents_of l.moved ++ map (λ k. get_or (contents_of l.contents) k None) (drop l.k-index l.order) ≡ contents_of l.fn.moved ++ map (λ k. get_or (contents_of l.fn.contents) k None) l.order;
}
