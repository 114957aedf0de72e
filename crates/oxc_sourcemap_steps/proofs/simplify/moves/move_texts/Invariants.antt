use Rattle.std.proofs.Common.{◌≡◌, ◌+◌, ◌++◌, ◌<◌, ◌≤◌, [], map, length, drop, get_or, vec_len}
use Rattle.std.specs.List.{AllByRecursion}
use Rattle.std.specs.Vec.{vec_capacity}
use Rattle.oxc_sourcemap_parts.specs.Views.{texts_of}
use Rattle.oxc_sourcemap_steps.specs.SimplifySteps.{AreApart}
use Rattle.oxc_sourcemap_steps.proofs.simplify.moves.move_texts.Given as goal

abbrev pub invariant-loop-k : goal.invariant-loop-k
invariant-loop-k l = record {
  within : AllByRecursion (λ k. k < length l.texts.items) (drop l.k-index l.order);
  apart : AreApart (drop l.k-index l.order);
  room : vec_len l.moved + length (drop l.k-index l.order) ≤ vec_capacity l.moved;
  moved : texts_of l.moved ++ map (λ k. get_or (texts_of l.texts) k []) (drop l.k-index l.order) ≡ texts_of l.fn.moved ++ map (λ k. get_or (texts_of l.fn.texts) k []) l.order;
}
