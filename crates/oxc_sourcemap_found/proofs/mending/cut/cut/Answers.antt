use Rattle.std.proofs.Common.{◌≡◌, true, ◌++◌, ◌∷◌, [], arith, ap, sym, ◌∙◌}
use Rattle.std.specs.List.{count_by}
use Rattle.oxc_sourcemap_parts.specs.Views.{record_of_parts}
use Rattle.oxc_sourcemap_found.specs.declared.mending.mend.MendKind.TheVariants.{Cut}
use Rattle.oxc_sourcemap_found.specs.MendedSections.{is_behind, reaches_into}
use Rattle.oxc_sourcemap_found.proofs.mending.cut.cut.Goals as goal

pub returns-clause-kinds : goal.returns-clause-kinds
returns-clause-kinds c =
    let section = c.args.section in
    let r = record_of_parts section.map.parts in
    let test = is_behind c.in-Some.next section.place in
    let reaches : reaches_into c.in-Some.next section.place r.tokens ≡ true =
    sym (c.reaches_into.ensures ∙ ap (reaches_into c.in-Some.next section.place) c.as_slice.ensures.value) ∙ grind (arith, c.if-not-reaches_into.false) in
    let is = c.in-Some.is in
    rw is (rw reaches (c.in_ok-push.ensures.items
    ∙ ap (λ n. section.map.kinds.items ++ Cut n ∷ []) (c.count_behind-count.ensures ∙ ap (count_by test) c.as_slice-2.ensures.value)))
