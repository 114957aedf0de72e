use Rattle.std.proofs.Common.{◌≡◌, drop, filter}
use Rattle.oxc_sourcemap_scopes.specs.Asking.{last_expression, starts_by}
use Rattle.oxc_sourcemap_scopes.proofs.frames.expression_at.Given as goal

-- what was found, or else a piece that is left, is that of all
abbrev pub invariant-loop-piece : goal.invariant-loop-piece
invariant-loop-piece l = last_expression l.found (filter (starts_by l.variable l.place) (drop l.piece-index l.pieces)) ≡ last_expression l.fn.before (filter (starts_by l.variable l.place) l.pieces)
