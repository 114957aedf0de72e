use Rattle.std.proofs.Common.{◌≡◌, ◌++◌, ◌∷◌, [], rules}
use Rattle.sourcemap_texts.proofs.Moves.{one_more_source}
use Rattle.sourcemap_run.proofs.rebasing.moved_sources.Goals as goal

pub loop-source-preserved : goal.loop-source-preserved
loop-source-preserved c =
    let more : c.push.new.self.items ≡ c.loop-source.paths.items ++ c.in_ok-relative_path.field-0 ∷ [] = search rules in
    one_more_source c.args.current.now c.args.from.now c.args.to.now c.loop-source.yielded c.loop-source.paths.items c.push.new.self.items c.in-Some.source c.in_ok-relative_path.field-0
    more c.loop-source.invariant c.in_ok-relative_path.ensures
