use Rattle.std.proofs.Common.{◌≡◌, ◌+◌, drop}
use Rattle.oxc_sourcemap_tokens.specs.LineOrder.{back_from}
use Rattle.oxc_sourcemap_tokens.proofs.order.line_back_from.Given as goal

abbrev pub invariant-loop-i : goal.invariant-loop-i
invariant-loop-i l = back_from l.line_before (l.first + l.i) (drop l.i l.tokens) ≡ back_from l.line l.first l.tokens
