use Rattle.std.proofs.Common.{◌≡◌, ◌<◌, length, take, slice_get, Some, ℕ}
use Rattle.std.specs.List.{zip}
use Rattle.oxc_sourcemap_steps.specs.SimplifySteps.{first_marked}
use Rattle.oxc_sourcemap_steps.proofs.simplify.sources.first_marked.Given as goal

abbrev pub invariant-loop-i : goal.invariant-loop-i
invariant-loop-i l = record {
  len : length l.places.items ≡ length l.firsts;
  places : (c : ℕ) → c < length l.firsts → slice_get l.places.items c ≡ Some (first_marked (take l.i (zip l.firsts l.flags)) c l.mark);
}
