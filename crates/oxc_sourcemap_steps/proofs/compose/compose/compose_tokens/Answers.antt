use Rattle.std.proofs.Common.{arith, get_or, length, ◌<◌, ◌++◌, ◌∷◌, [], take, ap, ◌∙◌}
use Rattle.std.proofs.lemmas.Grind.{common_steps}
use Rattle.std.proofs.lemmas.Result.{err_from_is_err_and}
use Rattle.oxc_sourcemap_steps.specs.Composed.{target_of}
use Rattle.oxc_sourcemap_steps.proofs.Targets.{made-more, past-all}
use Rattle.oxc_sourcemap_steps.proofs.Replaced.{replaced-next, left-next, taken-next, all-there}
use Rattle.oxc_sourcemap_steps.proofs.compose.compose.compose_tokens.Goals as goal

pub loop-token-preserved : goal.loop-token-preserved
loop-token-preserved c =
    let t = c.token-item.result in
    let now = c.loop-token.tokens in
    let old = c.args.tokens.now in
    let i = c.loop-token.token-index in
    let left = c.loop-token.invariant.left in
    let within : i < length now = grind (arith, common_steps) in
    let l = target_of (get_or now i t) c.target-found.result in record {
      made = made-more _ _ _ _ _ _ _ _ _ l c.loop-token.invariant.made (taken-next now old i t left within) c.target-found.ensures c.in_ok-token.ensures.names
          (replaced-next now old i t left within c.in_ok-token.field-0 ∙ ap (λ x. take i now ++ x ∷ []) c.in_ok-token.ensures.token)
          c.in_ok-token.ensures.id;
      left = left-next now old i t left within c.in_ok-token.field-0;
      kept = c.in_ok-token.ensures.kept;
    }

pub returns-in_err-token-clause-error : goal.returns-in_err-token-clause-error
returns-in_err-token-clause-error c =
    let t = c.token-item.result in
    let now = c.loop-token.tokens in
    let old = c.args.tokens.now in
    let i = c.loop-token.token-index in
    let within : i < length now = grind (arith, common_steps) in
    let l = target_of (get_or now i t) c.target-found.result in
    let all = all-there now old i t c.loop-token.invariant.left within in
    let p = err_from_is_err_and c.from_residual-in_err-token.result c.from_residual-in_err-token.ensures.1 in
    rw (p.1, p.2) (λ other.
    let r = c.in_err-token.ensures.error other in
    let past = past-all _ _ _ _ _ _ l _ _ c.loop-token.invariant.made all c.target-found.ensures r.1 in
    (r.0, past.0, past.1, past.2))
