-- The texts of the program's errors, as bytes, and the status that it ends with.
use Rattle.std.specs.Prelude.{ℕ, List, ◌++◌, codes, decimal}
use Rattle.oxc_sourcemap_tokens.specs.declared.errors.error.Error.TheVariants.{OutOfMemory}
use Rattle.oxc_sourcemap_tokens.specs.PlanMessages.{plan_error_text}
use Rattle.oxc_sourcemap_tokens.specs.declared.errors.plan_error.PlanError.TheVariants.{Map}
use Rattle.oxc_sourcemap_plan.specs.declared.run_error.RunError.{RunError}
use Rattle.oxc_sourcemap_plan.specs.declared.run_error.RunError.TheVariants.{Plan, Read, Write}
use Rattle.oxc_sourcemap_plan.specs.declared.run_error.RunError.TheVariants.{Utf8, Arguments}
use Rattle.oxc_sourcemap_plan.specs.declared.run_error.RunError.TheVariants.{NoText}

abbrev pub run_error_text : RunError → List ℕ
run_error_text (Plan error) = plan_error_text error
run_error_text Read = codes "read failed"
run_error_text Write = codes "write failed"
run_error_text Utf8 = codes "input is not UTF-8"
run_error_text Arguments = codes "bad arguments"
run_error_text (NoText k) = codes "no text " ++ decimal k

-- the status of an error: 2 for bad arguments, 1 for all else
abbrev pub status_of : RunError → ℕ
status_of (Plan error) = 1
status_of Read = 1
status_of Write = 1
status_of Utf8 = 1
status_of Arguments = 2
status_of (NoText k) = 1

-- want of memory
abbrev pub out_of_memory : RunError
out_of_memory = Plan (Map OutOfMemory)
