use Rattle.std.proofs.Common.{ℕ, ◌-◌, ◌+◌, ◌≤◌, List, [], ◌∷◌, map, string_bytes, ap, sym, ◌∙◌}
use Rattle.std.proofs.Common.{subst, arith, Ok, Err}
use Rattle.std.proofs.lemmas.List.{map-append}
use Rattle.std.proofs.lemmas.Result.{IfOk-weaker, IfErr-weaker}
use Rattle.oxc_sourcemap_plan.specs.declared.plan.Plan.{Plan}
use Rattle.std.specs.Borrow.{Bor}
use Rattle.oxc_sourcemap_parts.specs.Record.{Text}
use Rattle.oxc_sourcemap_join.specs.Joined.{at_positions}
use Rattle.oxc_sourcemap_plan.specs.Depth.{depth, deepest}
use Rattle.oxc_sourcemap_plan.specs.Meaning.{by_path}
use Rattle.oxc_sourcemap_plan.specs.Outcome.{outcome_of, outcomes, rewrite_outcome, root_outcome}
use Rattle.oxc_sourcemap_plan.specs.Outcome.{composition_outcome, remap_outcome, input_outcomes}
use Rattle.oxc_sourcemap_plan.specs.Outcome.{simplified_outcome}
use Rattle.oxc_sourcemap_plan.specs.PlanArguments.{then_parsed, parsed_beginning, parsed_part}
use Rattle.oxc_sourcemap_plan.specs.PlanArguments.{with_rest, parsed_join_part, parsed_input_part}
use Rattle.oxc_sourcemap_plan.proofs.Parts.{from_err}
use Rattle.oxc_sourcemap_plan.proofs.Plans.{outcomes-positions-pushed, outcomes-inputs-pushed}
use Rattle.oxc_sourcemap_plan.proofs.Plans.{depth_join_at, depth_remap, outcome_rewrite}
use Rattle.oxc_sourcemap_plan.proofs.Plans.{outcome_root, outcome_join_at, outcome_compose}
use Rattle.oxc_sourcemap_plan.proofs.Plans.{outcome_remap, outcome_simplified}
use Rattle.oxc_sourcemap_plan.proofs.PlanArguments.{named-start, named-rewrite, named-root}
use Rattle.oxc_sourcemap_plan.proofs.PlanArguments.{named-join, named-join_at, named-compose}
use Rattle.oxc_sourcemap_plan.proofs.PlanArguments.{named-sort, named-remap, named-text, left_after}
use Rattle.oxc_sourcemap_plan.proofs.PlanArguments.{item-error, named-simplify}
use Rattle.oxc_sourcemap_plan.proofs.PlanArguments.{item-more, items-end, list-read, placed-error}
use Rattle.oxc_sourcemap_plan.proofs.PlanArguments.{placed, join-read, path-error, with_path}
use Rattle.oxc_sourcemap_plan.proofs.PlanArguments.{first-error, remapping-read, deepest-pushed}
use Rattle.oxc_sourcemap_plan.proofs.plan_arguments.+part.Goals as goal

pub read_part-returns-in_err-part-in-rewrite-clause-error : goal.read_part-returns-in_err-part-in-rewrite-clause-error
read_part-returns-in_err-part-in-rewrite-clause-error t c =
    let start = named-start (map (λ text. text.now) c.args.inputs.now) c.args.room c.args.arguments.now c.in-Some.argument.now c.in-Some.others.now c.as_str.result.now c.if-room-eq0.false c.in-Some.ensures.cases.0 c.as_str.ensures.value in
    let part = parsed_part (map (λ text. text.now) c.args.inputs.now) (c.args.room - 1) in
    let others = map string_bytes c.in-Some.others.now in
    let T = map (λ text. text.now) c.args.inputs.now in
    from_err c.from_residual.result _ _ c.from_residual.ensures.1 (λ e h n. start ∙ named-rewrite T part c.as_str.result.now others c.in-rewrite.is
    ∙ ap (λ r. then_parsed r (λ o left. Ok (rewrite_outcome o, left))) (c.in_err-part-in-rewrite.ensures.error (λ q. n (h ∙ q))) ∙ ap Err (sym h))

pub read_part-returns-in_ok-new-in-rewrite-clause-part : goal.read_part-returns-in_ok-new-in-rewrite-clause-part
read_part-returns-in_ok-new-in-rewrite-clause-part t c =
    let start = named-start (map (λ text. text.now) c.args.inputs.now) c.args.room c.args.arguments.now c.in-Some.argument.now c.in-Some.others.now c.as_str.result.now c.if-room-eq0.false c.in-Some.ensures.cases.0 c.as_str.ensures.value in
    let part = parsed_part (map (λ text. text.now) c.args.inputs.now) (c.args.room - 1) in
    let others = map string_bytes c.in-Some.others.now in
    let T = map (λ text. text.now) c.args.inputs.now in
    start ∙ named-rewrite T part c.as_str.result.now others c.in-rewrite.is
    ∙ ap (λ r. then_parsed r (λ o left. Ok (rewrite_outcome o, left))) c.in_ok-part-in-rewrite.ensures.part
    ∙ ap (λ o. Ok (o, map string_bytes c.in_ok-part-in-rewrite.rest.now)) (sym (outcome_rewrite c.in_ok-new-in-rewrite.field-0 ∙ ap (λ p. rewrite_outcome (outcome_of p)) c.in_ok-new-in-rewrite.ensures.ok))

pub read_part-returns-in_err-first-in-compose-clause-error : goal.read_part-returns-in_err-first-in-compose-clause-error
read_part-returns-in_err-first-in-compose-clause-error t c =
    let start = named-start (map (λ text. text.now) c.args.inputs.now) c.args.room c.args.arguments.now c.in-Some.argument.now c.in-Some.others.now c.as_str.result.now c.if-room-eq0.false c.in-Some.ensures.cases.0 c.as_str.ensures.value in
    let part = parsed_part (map (λ text. text.now) c.args.inputs.now) (c.args.room - 1) in
    let others = map string_bytes c.in-Some.others.now in
    let T = map (λ text. text.now) c.args.inputs.now in
    from_err c.from_residual-in_err-first-in-compose.result _ _ c.from_residual-in_err-first-in-compose.ensures.1 (λ e h n. start ∙ named-compose T part c.as_str.result.now others c.in-compose.is
    ∙ ap (λ r. then_parsed r (λ first after. then_parsed (part after) (λ second left. Ok (composition_outcome first second, left)))) (c.in_err-first-in-compose.ensures.error (λ q. n (h ∙ q))) ∙ ap Err (sym h))

pub read_part-returns-in_err-second-in-compose-clause-error : goal.read_part-returns-in_err-second-in-compose-clause-error
read_part-returns-in_err-second-in-compose-clause-error t c =
    let start = named-start (map (λ text. text.now) c.args.inputs.now) c.args.room c.args.arguments.now c.in-Some.argument.now c.in-Some.others.now c.as_str.result.now c.if-room-eq0.false c.in-Some.ensures.cases.0 c.as_str.ensures.value in
    let part = parsed_part (map (λ text. text.now) c.args.inputs.now) (c.args.room - 1) in
    let others = map string_bytes c.in-Some.others.now in
    let T = map (λ text. text.now) c.args.inputs.now in
    from_err c.from_residual-in_err-second-in-compose.result _ _ c.from_residual-in_err-second-in-compose.ensures.1 (λ e h n. start ∙ named-compose T part c.as_str.result.now others c.in-compose.is
    ∙ ap (λ r. then_parsed r (λ first after. then_parsed (part after) (λ second left. Ok (composition_outcome first second, left)))) c.in_ok-first-in-compose.ensures.part
    ∙ ap (λ r. then_parsed r (λ second left. Ok (composition_outcome (outcome_of c.in_ok-first-in-compose.first) second, left))) (c.in_err-second-in-compose.ensures.error (λ q. n (h ∙ q))) ∙ ap Err (sym h))

pub read_part-returns-in_err-read_input-in_default-as_str-clause-error : goal.read_part-returns-in_err-read_input-in_default-as_str-clause-error
read_part-returns-in_err-read_input-in_default-as_str-clause-error t c =
    let start = named-start (map (λ text. text.now) c.args.inputs.now) c.args.room c.args.arguments.now c.in-Some.argument.now c.in-Some.others.now c.as_str.result.now c.if-room-eq0.false c.in-Some.ensures.cases.0 c.as_str.ensures.value in
    let part = parsed_part (map (λ text. text.now) c.args.inputs.now) (c.args.room - 1) in
    let others = map string_bytes c.in-Some.others.now in
    let T = map (λ text. text.now) c.args.inputs.now in
    from_err c.from_residual-in_err-read_input-in_default-as_str.result _ _ c.from_residual-in_err-read_input-in_default-as_str.ensures.1 (λ e h n. start
    ∙ named-text T part c.as_str.result.now others c.in_default-as_str.not-rewrite c.in_default-as_str.not-root c.in_default-as_str.not-simplify c.in_default-as_str.not-join c.in_default-as_str.not-joinat c.in_default-as_str.not-compose c.in_default-as_str.not-remap c.in_default-as_str.not-sort
    ∙ ap (λ r. with_rest r others) c.in_err-read_input-in_default-as_str.ensures.error ∙ ap Err (sym h))

pub read_part-returns-in_ok-new-in-compose-2-clause-part : goal.read_part-returns-in_ok-new-in-compose-2-clause-part
read_part-returns-in_ok-new-in-compose-2-clause-part t c =
    let start = named-start (map (λ text. text.now) c.args.inputs.now) c.args.room c.args.arguments.now c.in-Some.argument.now c.in-Some.others.now c.as_str.result.now c.if-room-eq0.false c.in-Some.ensures.cases.0 c.as_str.ensures.value in
    let part = parsed_part (map (λ text. text.now) c.args.inputs.now) (c.args.room - 1) in
    let others = map string_bytes c.in-Some.others.now in
    let T = map (λ text. text.now) c.args.inputs.now in
    start ∙ named-compose T part c.as_str.result.now others c.in-compose.is
    ∙ ap (λ r. then_parsed r (λ first after. then_parsed (part after) (λ second left. Ok (composition_outcome first second, left)))) c.in_ok-first-in-compose.ensures.part
    ∙ ap (λ r. then_parsed r (λ second left. Ok (composition_outcome (outcome_of c.in_ok-first-in-compose.first) second, left))) c.in_ok-second-in-compose.ensures.part
    ∙ ap (λ o. Ok (o, map string_bytes c.in_ok-second-in-compose.rest.now)) (sym (outcome_compose c.in_ok-new-in-compose.field-0 c.in_ok-new-in-compose-2.field-0
    ∙ ap (λ p. composition_outcome (outcome_of p) (outcome_of c.in_ok-new-in-compose-2.field-0.value)) c.in_ok-new-in-compose.ensures.ok
    ∙ ap (λ q. composition_outcome (outcome_of c.in_ok-first-in-compose.first) (outcome_of q)) c.in_ok-new-in-compose-2.ensures.ok))

pub read_part-returns-in-join-clause-part : goal.read_part-returns-in-join-clause-part
read_part-returns-in-join-clause-part t c =
    let start = named-start (map (λ text. text.now) c.args.inputs.now) c.args.room c.args.arguments.now c.in-Some.argument.now c.in-Some.others.now c.as_str.result.now c.if-room-eq0.false c.in-Some.ensures.cases.0 c.as_str.ensures.value in
    let part = parsed_part (map (λ text. text.now) c.args.inputs.now) (c.args.room - 1) in
    let others = map string_bytes c.in-Some.others.now in
    let T = map (λ text. text.now) c.args.inputs.now in
    IfOk-weaker c.read_join.result _ _ (λ r h. start ∙ named-join T part c.as_str.result.now others c.in-join.is ∙ h) c.read_join.ensures.part

pub read_part-returns-in-join-clause-error : goal.read_part-returns-in-join-clause-error
read_part-returns-in-join-clause-error t c =
    let start = named-start (map (λ text. text.now) c.args.inputs.now) c.args.room c.args.arguments.now c.in-Some.argument.now c.in-Some.others.now c.as_str.result.now c.if-room-eq0.false c.in-Some.ensures.cases.0 c.as_str.ensures.value in
    let part = parsed_part (map (λ text. text.now) c.args.inputs.now) (c.args.room - 1) in
    let others = map string_bytes c.in-Some.others.now in
    let T = map (λ text. text.now) c.args.inputs.now in
    IfErr-weaker c.read_join.result _ _ (λ e h n. start ∙ named-join T part c.as_str.result.now others c.in-join.is ∙ h n) c.read_join.ensures.error

pub read_part-returns-in-joinat-clause-part : goal.read_part-returns-in-joinat-clause-part
read_part-returns-in-joinat-clause-part t c =
    let start = named-start (map (λ text. text.now) c.args.inputs.now) c.args.room c.args.arguments.now c.in-Some.argument.now c.in-Some.others.now c.as_str.result.now c.if-room-eq0.false c.in-Some.ensures.cases.0 c.as_str.ensures.value in
    let part = parsed_part (map (λ text. text.now) c.args.inputs.now) (c.args.room - 1) in
    let others = map string_bytes c.in-Some.others.now in
    let T = map (λ text. text.now) c.args.inputs.now in
    IfOk-weaker c.read_join-in-joinat.result _ _ (λ r h. start ∙ named-join_at T part c.as_str.result.now others c.in-joinat.is ∙ h) c.read_join-in-joinat.ensures.part

pub read_part-returns-in-joinat-clause-error : goal.read_part-returns-in-joinat-clause-error
read_part-returns-in-joinat-clause-error t c =
    let start = named-start (map (λ text. text.now) c.args.inputs.now) c.args.room c.args.arguments.now c.in-Some.argument.now c.in-Some.others.now c.as_str.result.now c.if-room-eq0.false c.in-Some.ensures.cases.0 c.as_str.ensures.value in
    let part = parsed_part (map (λ text. text.now) c.args.inputs.now) (c.args.room - 1) in
    let others = map string_bytes c.in-Some.others.now in
    let T = map (λ text. text.now) c.args.inputs.now in
    IfErr-weaker c.read_join-in-joinat.result _ _ (λ e h n. start ∙ named-join_at T part c.as_str.result.now others c.in-joinat.is ∙ h n) c.read_join-in-joinat.ensures.error

pub read_part-returns-in_err-part-in-root-clause-error : goal.read_part-returns-in_err-part-in-root-clause-error
read_part-returns-in_err-part-in-root-clause-error t c =
    let start = named-start (map (λ text. text.now) c.args.inputs.now) c.args.room c.args.arguments.now c.in-Some.argument.now c.in-Some.others.now c.as_str.result.now c.if-room-eq0.false c.in-Some.ensures.cases.0 c.as_str.ensures.value in
    let part = parsed_part (map (λ text. text.now) c.args.inputs.now) (c.args.room - 1) in
    let others = map string_bytes c.in-Some.others.now in
    let T = map (λ text. text.now) c.args.inputs.now in
    from_err c.from_residual-in_err-part-in-root.result _ _ c.from_residual-in_err-part-in-root.ensures.1 (λ e h n. start ∙ named-root T part c.as_str.result.now others c.in-root.is
    ∙ ap (λ r. then_parsed r (λ o left. Ok (root_outcome o, left))) (c.in_err-part-in-root.ensures.error (λ q. n (h ∙ q))) ∙ ap Err (sym h))

pub read_part-returns-in_ok-new-in-root-clause-part : goal.read_part-returns-in_ok-new-in-root-clause-part
read_part-returns-in_ok-new-in-root-clause-part t c =
    let start = named-start (map (λ text. text.now) c.args.inputs.now) c.args.room c.args.arguments.now c.in-Some.argument.now c.in-Some.others.now c.as_str.result.now c.if-room-eq0.false c.in-Some.ensures.cases.0 c.as_str.ensures.value in
    let part = parsed_part (map (λ text. text.now) c.args.inputs.now) (c.args.room - 1) in
    let others = map string_bytes c.in-Some.others.now in
    let T = map (λ text. text.now) c.args.inputs.now in
    start ∙ named-root T part c.as_str.result.now others c.in-root.is
    ∙ ap (λ r. then_parsed r (λ o left. Ok (root_outcome o, left))) c.in_ok-part-in-root.ensures.part
    ∙ ap (λ o. Ok (o, map string_bytes c.in_ok-part-in-root.rest.now)) (sym (outcome_root c.in_ok-new-in-root.field-0 ∙ ap (λ p. root_outcome (outcome_of p)) c.in_ok-new-in-root.ensures.ok))

pub read_part-returns-in_err-part-in-simplify-clause-error : goal.read_part-returns-in_err-part-in-simplify-clause-error
read_part-returns-in_err-part-in-simplify-clause-error t c =
    let start = named-start (map (λ text. text.now) c.args.inputs.now) c.args.room c.args.arguments.now c.in-Some.argument.now c.in-Some.others.now c.as_str.result.now c.if-room-eq0.false c.in-Some.ensures.cases.0 c.as_str.ensures.value in
    let part = parsed_part (map (λ text. text.now) c.args.inputs.now) (c.args.room - 1) in
    let others = map string_bytes c.in-Some.others.now in
    let T = map (λ text. text.now) c.args.inputs.now in
    from_err c.from_residual-in_err-part-in-simplify.result _ _ c.from_residual-in_err-part-in-simplify.ensures.1 (λ e h n. start ∙ named-simplify T part c.as_str.result.now others c.in-simplify.is
    ∙ ap (λ r. then_parsed r (λ o left. Ok (simplified_outcome o, left))) (c.in_err-part-in-simplify.ensures.error (λ q. n (h ∙ q))) ∙ ap Err (sym h))

pub read_part-returns-in_ok-new-in-simplify-clause-part : goal.read_part-returns-in_ok-new-in-simplify-clause-part
read_part-returns-in_ok-new-in-simplify-clause-part t c =
    let start = named-start (map (λ text. text.now) c.args.inputs.now) c.args.room c.args.arguments.now c.in-Some.argument.now c.in-Some.others.now c.as_str.result.now c.if-room-eq0.false c.in-Some.ensures.cases.0 c.as_str.ensures.value in
    let part = parsed_part (map (λ text. text.now) c.args.inputs.now) (c.args.room - 1) in
    let others = map string_bytes c.in-Some.others.now in
    let T = map (λ text. text.now) c.args.inputs.now in
    start ∙ named-simplify T part c.as_str.result.now others c.in-simplify.is
    ∙ ap (λ r. then_parsed r (λ o left. Ok (simplified_outcome o, left))) c.in_ok-part-in-simplify.ensures.part
    ∙ ap (λ o. Ok (o, map string_bytes c.in_ok-part-in-simplify.rest.now)) (sym (outcome_simplified c.in_ok-new-in-simplify.field-0 ∙ ap (λ p. simplified_outcome (outcome_of p)) c.in_ok-new-in-simplify.ensures.ok))

pub read_part-returns-in-remap-clause-part : goal.read_part-returns-in-remap-clause-part
read_part-returns-in-remap-clause-part t c =
    let start = named-start (map (λ text. text.now) c.args.inputs.now) c.args.room c.args.arguments.now c.in-Some.argument.now c.in-Some.others.now c.as_str.result.now c.if-room-eq0.false c.in-Some.ensures.cases.0 c.as_str.ensures.value in
    let part = parsed_part (map (λ text. text.now) c.args.inputs.now) (c.args.room - 1) in
    let others = map string_bytes c.in-Some.others.now in
    let T = map (λ text. text.now) c.args.inputs.now in
    IfOk-weaker c.read_remapping.result _ _ (λ r h. start ∙ named-remap T part c.as_str.result.now others c.in-remap.is ∙ h) c.read_remapping.ensures.part

pub read_part-returns-in-remap-clause-error : goal.read_part-returns-in-remap-clause-error
read_part-returns-in-remap-clause-error t c =
    let start = named-start (map (λ text. text.now) c.args.inputs.now) c.args.room c.args.arguments.now c.in-Some.argument.now c.in-Some.others.now c.as_str.result.now c.if-room-eq0.false c.in-Some.ensures.cases.0 c.as_str.ensures.value in
    let part = parsed_part (map (λ text. text.now) c.args.inputs.now) (c.args.room - 1) in
    let others = map string_bytes c.in-Some.others.now in
    let T = map (λ text. text.now) c.args.inputs.now in
    IfErr-weaker c.read_remapping.result _ _ (λ e h n. start ∙ named-remap T part c.as_str.result.now others c.in-remap.is ∙ h n) c.read_remapping.ensures.error

pub read_part-returns-in-sort-clause-part : goal.read_part-returns-in-sort-clause-part
read_part-returns-in-sort-clause-part t c =
    let start = named-start (map (λ text. text.now) c.args.inputs.now) c.args.room c.args.arguments.now c.in-Some.argument.now c.in-Some.others.now c.as_str.result.now c.if-room-eq0.false c.in-Some.ensures.cases.0 c.as_str.ensures.value in
    let part = parsed_part (map (λ text. text.now) c.args.inputs.now) (c.args.room - 1) in
    let others = map string_bytes c.in-Some.others.now in
    let T = map (λ text. text.now) c.args.inputs.now in
    IfOk-weaker c.read_sort.result _ _ (λ r h. start ∙ named-sort T part c.as_str.result.now others c.in-sort.is ∙ h) c.read_sort.ensures.part

pub read_part-returns-in-sort-clause-error : goal.read_part-returns-in-sort-clause-error
read_part-returns-in-sort-clause-error t c =
    let start = named-start (map (λ text. text.now) c.args.inputs.now) c.args.room c.args.arguments.now c.in-Some.argument.now c.in-Some.others.now c.as_str.result.now c.if-room-eq0.false c.in-Some.ensures.cases.0 c.as_str.ensures.value in
    let part = parsed_part (map (λ text. text.now) c.args.inputs.now) (c.args.room - 1) in
    let others = map string_bytes c.in-Some.others.now in
    let T = map (λ text. text.now) c.args.inputs.now in
    IfErr-weaker c.read_sort.result _ _ (λ e h n. start ∙ named-sort T part c.as_str.result.now others c.in-sort.is ∙ h) c.read_sort.ensures.error

pub read_join-returns-in_err-part-clause-error : goal.read_join-returns-in_err-part-clause-error
read_join-returns-in_err-part-clause-error t c =
    let part = parsed_part (map (λ text. text.now) c.args.inputs.now) c.args.room in
    let offset = parsed_beginning c.args.has_column in
    let item = parsed_join_part part offset in
    let done = outcomes (at_positions c.loop-i.parts.items) in
    let arguments = map string_bytes c.args.arguments.now in
    let rest = map string_bytes c.loop-i.rest.now in
    from_err c.from_residual-in_err-part.result _ _ c.from_residual-in_err-part.ensures.1 (λ e h n.
    let failed = placed-error part offset rest c.in_err-part.field-0.0 (c.in_err-part.ensures.error (λ q. n (h ∙ q))) in
    join-read part offset arguments _ (list-read item arguments _ c.in_ok-count.count _ c.in_ok-count.ensures.0
    (c.loop-i.invariant.0 ∙ item-error item done c.in_ok-count.count c.loop-i.i rest c.in_err-part.field-0.0 c.loop-i-test.true failed))
    ∙ ap Err (sym h))

pub read_join-returns-in_err-position-clause-error : goal.read_join-returns-in_err-position-clause-error
read_join-returns-in_err-position-clause-error t c =
    let part = parsed_part (map (λ text. text.now) c.args.inputs.now) c.args.room in
    let offset = parsed_beginning c.args.has_column in
    let item = parsed_join_part part offset in
    let done = outcomes (at_positions c.loop-i.parts.items) in
    let arguments = map string_bytes c.args.arguments.now in
    let rest = map string_bytes c.loop-i.rest.now in
    from_err c.from_residual-in_err-position.result _ _ c.from_residual-in_err-position.ensures.1 (λ e h n.
    let failed = placed part offset rest _ (outcome_of c.in_ok-part.part) _ c.in_ok-part.ensures.part c.in_err-position.ensures.1 in
    join-read part offset arguments _ (list-read item arguments _ c.in_ok-count.count _ c.in_ok-count.ensures.0
    (c.loop-i.invariant.0 ∙ item-error item done c.in_ok-count.count c.loop-i.i rest c.in_err-position.field-0.0 c.loop-i-test.true failed))
    ∙ ap Err (sym h))

pub read_join-loop-i-preserved : goal.read_join-loop-i-preserved
read_join-loop-i-preserved t c =
    let part = parsed_part (map (λ text. text.now) c.args.inputs.now) c.args.room in
    let offset = parsed_beginning c.args.has_column in
    let item = parsed_join_part part offset in
    let done = outcomes (at_positions c.loop-i.parts.items) in
    let arguments = map string_bytes c.args.arguments.now in
    let rest = map string_bytes c.loop-i.rest.now in
    let count = c.in_ok-count.count in
    let left = map string_bytes c.in_ok-position.left.now in
    let p : Plan × ℕ × ℕ = (c.in_ok-part.part, c.in_ok-position.position.line, c.in_ok-position.position.column) in
    let new = ap (λ (xs : List (Plan × ℕ × ℕ)). outcomes (at_positions xs)) c.in_ok-push.ensures.items ∙ outcomes-positions-pushed c.loop-i.parts.items p in
    let deep = ap (map (λ (p : Plan × ℕ × ℕ). depth p.0)) c.in_ok-push.ensures.items ∙ map-append (λ (p : Plan × ℕ × ℕ). depth p.0) c.loop-i.parts.items (p ∷ []) in
    let read = placed part offset rest _ (outcome_of c.in_ok-part.part) _ c.in_ok-part.ensures.part c.in_ok-position.ensures.0 in (
      c.loop-i.invariant.0
          ∙ item-more item done count c.loop-i.i rest left (outcome_of c.in_ok-part.part, c.in_ok-position.position) c.loop-i-test.true read
          ∙ ap (λ xs. left_after item xs (count - (c.loop-i.i + 1)) left) (sym new),
      subst (λ ds. deepest ds ≤ c.args.room) (sym deep) (deepest-pushed (map (λ (p : Plan × ℕ × ℕ). depth p.0) c.loop-i.parts.items) (depth c.in_ok-part.part) c.args.room c.loop-i.invariant.1 c.in_ok-part.ensures.depth),
    )

pub read_join-returns-clause-part : goal.read_join-returns-clause-part
read_join-returns-clause-part t c =
    let part = parsed_part (map (λ text. text.now) c.args.inputs.now) c.args.room in
    let offset = parsed_beginning c.args.has_column in
    let item = parsed_join_part part offset in
    let done = outcomes (at_positions c.loop-i.parts.items) in
    let arguments = map string_bytes c.args.arguments.now in
    let rest = map string_bytes c.loop-i.rest.now in
    join-read part offset arguments _ (list-read item arguments _ c.in_ok-count.count _ c.in_ok-count.ensures.0
    (c.loop-i.invariant.0 ∙ items-end item done c.in_ok-count.count c.loop-i.i rest (let f = c.loop-i-test.false in omega (arith, f))))
    ∙ ap (λ o. Ok (o, rest)) (sym (outcome_join_at c.loop-i.parts))

pub read_join-returns-clause-depth : goal.read_join-returns-clause-depth
read_join-returns-clause-depth t c = let d = depth_join_at c.loop-i.parts in let i = c.loop-i.invariant.1 in omega (arith, d, i)

pub read_remap_inputs-returns-in_err-path-clause-error : goal.read_remap_inputs-returns-in_err-path-clause-error
read_remap_inputs-returns-in_err-path-clause-error t c =
    let part = parsed_part (map (λ text. text.now) c.args.inputs.now) c.args.room in
    let item = parsed_input_part part in
    let done = input_outcomes (by_path c.loop-i.parts.items) in
    let arguments = map string_bytes c.args.arguments.now in
    let rest = map string_bytes c.loop-i.rest.now in
    from_err c.from_residual-in_err-path.result _ _ c.from_residual-in_err-path.ensures.1 (λ e h n.
    let failed = path-error part rest c.in_err-path.field-0.0 c.in_err-path.ensures.1 in
    list-read item arguments _ c.in_ok-count.count _ c.in_ok-count.ensures.0
    (c.loop-i.invariant.0 ∙ item-error item done c.in_ok-count.count c.loop-i.i rest c.in_err-path.field-0.0 c.loop-i-test.true failed)
    ∙ ap Err (sym h))

pub read_remap_inputs-returns-in_err-part-clause-error : goal.read_remap_inputs-returns-in_err-part-clause-error
read_remap_inputs-returns-in_err-part-clause-error t c =
    let part = parsed_part (map (λ text. text.now) c.args.inputs.now) c.args.room in
    let item = parsed_input_part part in
    let done = input_outcomes (by_path c.loop-i.parts.items) in
    let arguments = map string_bytes c.args.arguments.now in
    let rest = map string_bytes c.loop-i.rest.now in
    from_err c.from_residual-in_err-part.result _ _ c.from_residual-in_err-part.ensures.1 (λ e h n.
    let failed = with_path part rest _ c.in_ok-path.path.now _ c.in_ok-path.ensures.0 (c.in_err-part.ensures.error (λ q. n (h ∙ q))) in
    list-read item arguments _ c.in_ok-count.count _ c.in_ok-count.ensures.0
    (c.loop-i.invariant.0 ∙ item-error item done c.in_ok-count.count c.loop-i.i rest c.in_err-part.field-0.0 c.loop-i-test.true failed)
    ∙ ap Err (sym h))

pub read_remap_inputs-loop-i-preserved : goal.read_remap_inputs-loop-i-preserved
read_remap_inputs-loop-i-preserved t c =
    let part = parsed_part (map (λ text. text.now) c.args.inputs.now) c.args.room in
    let item = parsed_input_part part in
    let done = input_outcomes (by_path c.loop-i.parts.items) in
    let arguments = map string_bytes c.args.arguments.now in
    let rest = map string_bytes c.loop-i.rest.now in
    let count = c.in_ok-count.count in
    let left = map string_bytes c.in_ok-part.left.now in
    let p : Bor Text × Plan = (c.in_ok-path.path, c.in_ok-part.part) in
    let new = ap (λ (xs : List (Bor Text × Plan)). input_outcomes (by_path xs)) c.in_ok-push.ensures.items ∙ outcomes-inputs-pushed c.loop-i.parts.items p in
    let deep = ap (map (λ (p : Bor Text × Plan). depth p.1)) c.in_ok-push.ensures.items ∙ map-append (λ (p : Bor Text × Plan). depth p.1) c.loop-i.parts.items (p ∷ []) in
    let read = with_path part rest _ c.in_ok-path.path.now _ c.in_ok-path.ensures.0 c.in_ok-part.ensures.part in (
      c.loop-i.invariant.0
          ∙ item-more item done count c.loop-i.i rest left (c.in_ok-path.path.now, outcome_of c.in_ok-part.part) c.loop-i-test.true read
          ∙ ap (λ xs. left_after item xs (count - (c.loop-i.i + 1)) left) (sym new),
      subst (λ ds. deepest ds ≤ c.args.room) (sym deep) (deepest-pushed (map (λ (p : Bor Text × Plan). depth p.1) c.loop-i.parts.items) (depth c.in_ok-part.part) c.args.room c.loop-i.invariant.1 c.in_ok-part.ensures.depth),
    )

pub read_remap_inputs-returns-clause-parts : goal.read_remap_inputs-returns-clause-parts
read_remap_inputs-returns-clause-parts t c =
    let part = parsed_part (map (λ text. text.now) c.args.inputs.now) c.args.room in
    let item = parsed_input_part part in
    let done = input_outcomes (by_path c.loop-i.parts.items) in
    let arguments = map string_bytes c.args.arguments.now in
    let rest = map string_bytes c.loop-i.rest.now in
    list-read item arguments _ c.in_ok-count.count _ c.in_ok-count.ensures.0
    (c.loop-i.invariant.0 ∙ items-end item done c.in_ok-count.count c.loop-i.i rest (let f = c.loop-i-test.false in omega (arith, f)))

pub read_remapping-returns-in_err-first-clause-error : goal.read_remapping-returns-in_err-first-clause-error
read_remapping-returns-in_err-first-clause-error t c =
    let part = parsed_part (map (λ text. text.now) c.args.inputs.now) c.args.room in
    let arguments = map string_bytes c.args.arguments.now in
    from_err c.from_residual.result _ _ c.from_residual.ensures.1 (λ e h n. first-error part arguments c.in_err-first.field-0.0 (c.in_err-first.ensures.error (λ q. n (h ∙ q))) ∙ ap Err (sym h))

pub read_remapping-returns-in_err-parts-clause-error : goal.read_remapping-returns-in_err-parts-clause-error
read_remapping-returns-in_err-parts-clause-error t c =
    let part = parsed_part (map (λ text. text.now) c.args.inputs.now) c.args.room in
    let arguments = map string_bytes c.args.arguments.now in
    from_err c.from_residual-in_err-parts.result _ _ c.from_residual-in_err-parts.ensures.1 (λ e h n.
    remapping-read part arguments _ (outcome_of c.in_ok-first.first) _ c.in_ok-first.ensures.part (c.in_err-parts.ensures.error (λ q. n (h ∙ q))) ∙ ap Err (sym h))

pub read_remapping-returns-clause-part : goal.read_remapping-returns-clause-part
read_remapping-returns-clause-part t c =
    let part = parsed_part (map (λ text. text.now) c.args.inputs.now) c.args.room in
    let arguments = map string_bytes c.args.arguments.now in
    remapping-read part arguments _ (outcome_of c.in_ok-first.first) _ c.in_ok-first.ensures.part c.in_ok-parts.ensures.parts
    ∙ ap (λ o. Ok (o, map string_bytes c.in_ok-parts.rest.now)) (sym (outcome_remap c.in_ok-new.field-0 c.in_ok-parts.parts
    ∙ ap (λ p. remap_outcome (outcome_of p) (input_outcomes (by_path c.in_ok-parts.parts.items))) c.in_ok-new.ensures.ok))

pub read_remapping-returns-clause-depth : goal.read_remapping-returns-clause-depth
read_remapping-returns-clause-depth t c =
    let d = depth_remap c.in_ok-new.field-0 c.in_ok-parts.parts in
    let f = ap depth c.in_ok-new.ensures.ok in
    let i = c.in_ok-parts.ensures.depth in
    let p = c.in_ok-first.ensures.depth in
    grind (arith, d, f, i, p)
