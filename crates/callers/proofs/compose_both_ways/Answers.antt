use Rattle.callers.proofs.Back.{only-memory}
use Rattle.callers.proofs.Errors.{carried}
use Rattle.callers.proofs.Composing.{error-left, error-right, never-left, never-right}
use Rattle.callers.proofs.compose_both_ways.Goals as goal

pub returns-in_err-left-clause-error : goal.returns-in_err-left-clause-error
returns-in_err-left-clause-error c =
    let law = c.composition_associative.ensures in
    let a = c.args.first.now in
    let b = c.args.second.now in
    let d = c.args.third.now in
    carried c.from_residual.result c.in_err-left.field-0.0 _ c.from_residual.ensures.1
    (λ sa sb sc n t. error-left law.tell a b d sa sb sc c.in_err-left.field-0.0 (c.in_err-left.ensures.error sb sc n) t)

pub returns-in_err-left-clause-only_memory : goal.returns-in_err-left-clause-only_memory
returns-in_err-left-clause-only_memory c =
    let law = c.composition_associative.ensures in
    let a = c.args.first.now in
    let b = c.args.second.now in
    let d = c.args.third.now in
    carried c.from_residual.result c.in_err-left.field-0.0 _ c.from_residual.ensures.1
    (λ sa sb sc one two few. only-memory _ (λ n. never-left law.answered law.names law.too_large a b d sa sb sc one two few c.in_err-left.field-0.0 (c.in_err-left.ensures.error sb sc n)))

pub returns-in_err-right-clause-error : goal.returns-in_err-right-clause-error
returns-in_err-right-clause-error c =
    let law = c.composition_associative.ensures in
    let a = c.args.first.now in
    let b = c.args.second.now in
    let d = c.args.third.now in
    carried c.from_residual-in_err-right.result c.in_err-right.field-0.0 _ c.from_residual-in_err-right.ensures.1
    (λ sa sb sc n t. absurd (t (error-right law.tell a b d sa sb sc c.in_err-right.field-0.0 c.in_ok-left.left (c.in_ok-left.ensures.map sb sc) (c.in_err-right.ensures.error sb sc n))))

pub returns-in_err-right-clause-only_memory : goal.returns-in_err-right-clause-only_memory
returns-in_err-right-clause-only_memory c =
    let law = c.composition_associative.ensures in
    let a = c.args.first.now in
    let b = c.args.second.now in
    let d = c.args.third.now in
    carried c.from_residual-in_err-right.result c.in_err-right.field-0.0 _ c.from_residual-in_err-right.ensures.1
    (λ sa sb sc one two few. only-memory _ (λ n. never-right law.answered law.names law.too_large a b d sa sb sc one two few c.in_err-right.field-0.0 (c.in_err-right.ensures.error sb sc n)))

pub returns-clause-same_meaning : goal.returns-clause-same_meaning
returns-clause-same_meaning c =
    let law = c.composition_associative.ensures in
    let a = c.args.first.now in
    let b = c.args.second.now in
    let d = c.args.third.now in
    λ sa sb sc. law.associative a b d sa sb sc c.in_ok-left.left c.in_ok-right.right (c.in_ok-left.ensures.map sb sc) (c.in_ok-right.ensures.map sb sc)
