-- The messages of the errors of plans, as bytes.
use Rattle.std.specs.Prelude.{ℕ, List, codes}
use Rattle.oxc_sourcemap_tokens.specs.Messages.{error_text}
use Rattle.oxc_sourcemap_tokens.specs.declared.errors.plan_error.PlanError.{PlanError}
use Rattle.oxc_sourcemap_tokens.specs.declared.errors.plan_error.PlanError.TheVariants.{Map}
use Rattle.oxc_sourcemap_tokens.specs.declared.errors.plan_error.PlanError.TheVariants.{Unsorted}
use Rattle.oxc_sourcemap_tokens.specs.declared.errors.plan_error.PlanError.TheVariants.{TooDeep}

abbrev pub plan_error_text : PlanError → List ℕ
plan_error_text (Map error) = error_text error
plan_error_text Unsorted = codes "Tokens are not in order of line and column"
plan_error_text TooDeep = codes "The plan is deeper than 64"
