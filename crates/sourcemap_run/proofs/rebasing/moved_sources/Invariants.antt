use Rattle.std.specs.List.{AllZip}
use Rattle.oxc_sourcemap_tokens.specs.Results.{lent_items}
use Rattle.sourcemap_texts.specs.Paths.{IsMoved, written}
use Rattle.sourcemap_run.proofs.rebasing.moved_sources.Given as goal

-- each source so far has a path
abbrev pub invariant-loop-source : goal.invariant-loop-source
invariant-loop-source l = AllZip (IsMoved l.current l.from l.to) (lent_items l.yielded) (written l.paths.items)
