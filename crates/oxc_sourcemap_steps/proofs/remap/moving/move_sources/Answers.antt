use Rattle.std.proofs.Common.{◌≡◌, ◌∙◌, ap, length, refl, subst, sym}
use Rattle.oxc_sourcemap_steps.specs.InheritSteps.{HasIndices}
use Rattle.oxc_sourcemap_steps.specs.RemapSteps.{AreLastUses, source_lists, source_paths}
use Rattle.oxc_sourcemap_steps.specs.RemapSteps.{source_records}
use Rattle.oxc_sourcemap_steps.proofs.MovedSources.{all-below, paths_of, stands-all}
use Rattle.oxc_sourcemap_steps.proofs.remap.moving.move_sources.Goals as goal

pub last_uses-requires : goal.last_uses-requires
last_uses-requires c =
    let has = subst (λ inputs. HasIndices (paths_of inputs) c.in_ok-places.places) c.as_slice.ensures.value c.in_ok-places.ensures in
    all-below c.args.inputs.items c.in_ok-places.places has c.in_ok-lists.lists.items c.len.result c.in_ok-lists.ensures (c.len.ensures ∙ c.in_ok-lists.lists.ok.0)

pub replace_sources-requires-clause-below : goal.replace_sources-requires-clause-below
replace_sources-requires-clause-below c =
    let has = subst (λ inputs. HasIndices (paths_of inputs) c.in_ok-places.places) c.as_slice.ensures.value c.in_ok-places.ensures in
    all-below c.args.inputs.items c.in_ok-places.places has c.in_ok-lists.lists.items (length c.in_ok-lists.lists.items) c.in_ok-lists.ensures refl

pub replace_sources-requires-clause-each : goal.replace_sources-requires-clause-each
replace_sources-requires-clause-each c = ap length c.as_slice-3.ensures.value ∙ c.in_ok-last.ensures.each ∙ c.len.ensures ∙ c.in_ok-lists.lists.ok.0

pub replace_sources-requires-clause-last : goal.replace_sources-requires-clause-last
replace_sources-requires-clause-last c =
    let places = c.in_ok-places.places in
    subst (λ last. AreLastUses (length c.args.sources.items) places (source_paths c.args.sources.items) last) (sym c.as_slice-3.ensures.value)
    (subst (λ ss. AreLastUses (length ss) places (source_paths ss) c.in_ok-last.last.items) c.as_slice-2.ensures.value c.in_ok-last.ensures.last)

pub returns : goal.returns
returns c =
    let has = subst (λ inputs. HasIndices (paths_of inputs) c.in_ok-places.places) c.as_slice.ensures.value c.in_ok-places.ensures in
    c.in_ok-replace_sources.ensures ∙ stands-all c.args.inputs.items c.in_ok-places.places has (source_lists c.in_ok-lists.lists.items) (source_records c.args.sources.items) c.in_ok-lists.ensures
