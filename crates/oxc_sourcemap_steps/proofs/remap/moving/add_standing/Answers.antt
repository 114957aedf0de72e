use Rattle.std.proofs.Common.{◌∙◌, ◌<◌, ap, length, refl, set, subst, sym, ℕ, IfSome, Option}
use Rattle.std.proofs.Common.{Global, Vec}
use Rattle.oxc_sourcemap_steps.specs.RemapSteps.{KeepsOthers, source_records}
use Rattle.oxc_sourcemap_steps.specs.declared.remap.moving.Source.{Source}
use Rattle.oxc_sourcemap_steps.proofs.MovedSources.{list-at}
use Rattle.oxc_sourcemap_steps.proofs.remap.moving.add_standing.Goals as goal

pub returns-in-Some-clause-kept : goal.returns-in-Some-clause-kept
returns-in-Some-clause-kept c =
    let olds = c.args.lists.now.items in
    let k = c.in-Some.place in
    let new = c.add_sources.new.more in
    let within = subst (λ (o : Option ℕ). IfSome o (λ k. k < length olds)) c.in-Some.is c.requires.below in
    subst (λ (o : Option ℕ). KeepsOthers o c.args.last.now c.args.i olds (set olds k new)) (sym c.in-Some.is)
    (new, refl, λ e. ap (λ (v : Vec Source Global). source_records v.items) (c.add_sources.ensures.kept (c.is_last.ensures ∙ e)) ∙ list-at olds k c.index_mut.result.now within c.index_mut.ensures.value)
