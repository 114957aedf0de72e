use Rattle.std.proofs.Common.{List, ap, subst, ◌∙◌}
use Rattle.std.specs.List.{AllZip}
use Rattle.oxc_sourcemap_parts.specs.Record.{Text, MapRecord}
use Rattle.oxc_sourcemap_parts.specs.Views.{cow_texts, record_of_parts}
use Rattle.oxc_sourcemap_parts.specs.Roots.{rooted}
use Rattle.sourcemap_texts.specs.Paths.{IsMoved, written}
use Rattle.sourcemap_run.proofs.Drained.{drained}
use Rattle.sourcemap_run.proofs.rebasing.rebase_sources.Goals as goal

pub returns-clause-rebased : goal.returns-clause-rebased
returns-clause-rebased c =
    let paths = c.in_ok-paths.paths in
    let old = record_of_parts c.args.parts.now in
    let root = c.in_ok-apply_root.ensures.rooted in
    let set = c.in_ok-parts.ensures in
    let items = drained c.into_iter.result set.0 paths.items c.into_iter.ensures.rest (c.into_iter.ensures.len ∙ paths.ok.0) set.1 in
    let sources = ap cow_texts c.as_slice.ensures.value ∙ ap (λ (m : MapRecord). m.sources) root in
    let whole : MapRecord → List Text → MapRecord = λ m xs. record m { sources = xs } in
    record {
      paths = written paths.items;
      moved = subst (λ xs. AllZip (IsMoved c.args.current.now c.args.from.now c.args.to.now) xs (written paths.items)) sources c.in_ok-paths.ensures;
      whole = ap (whole (record_of_parts c.apply_root.new.parts)) set.2 ∙ ap (λ m. whole m (written set.0)) root
          ∙ ap (λ xs. whole (rooted old) (written xs)) items;
    }
