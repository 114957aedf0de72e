use Rattle.std.proofs.Common.{◌≡◌, List, None, Ok, Err, refl, ap}
use Rattle.oxc_sourcemap.specs.Error.{Error}
use Rattle.oxc_sourcemap.specs.PlanError.TheVariants.{Map}
use Rattle.oxc_sourcemap.specs.Token.{TokenRecord}
use Rattle.oxc_sourcemap.specs.LineOrder.{first_out_of_order}
use Rattle.oxc_sourcemap.specs.Lookup.{tokens_by_line, line_table}
use Rattle.callers.proofs.Errors.{carried}
use Rattle.callers.proofs.look_up.Goals as goal

-- tokens in line order have a lookup table
has-table : (tokens : List TokenRecord) → first_out_of_order tokens ≡ None → line_table tokens ≡ Ok (tokens_by_line tokens)
has-table tokens order = rw order refl

no-error : (tokens : List TokenRecord) (e : Error) → first_out_of_order tokens ≡ None → line_table tokens ≡ Err e → ⊥
no-error tokens e order h = let table = has-table tokens order in cc

pub returns-in_err-table-clause-error : goal.returns-in_err-table-clause-error
returns-in_err-table-clause-error c =
    let e = c.in_err-table.field-0.0 in
    carried c.from_residual.result (Map e) _ c.from_residual.ensures.1
    (λ n. absurd (no-error c.args.map.now.tokens e (c.if-not-is_sorted.ensures.in_line_order refl) (c.in_err-table.ensures.table.1 (λ o. n (ap Map o)))))
