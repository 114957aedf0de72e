use Rattle.std.proofs.Common.{◌≡◌, drop}
use Rattle.std.specs.List.{position_from}
use Rattle.std.specs.Str.{bytes_eq}
use Rattle.oxc_sourcemap_tokens.specs.Results.{lent_items}
use Rattle.oxc_sourcemap_plan.proofs.fault.input_number.Given as goal

-- the first input that is the text is among those that are left
abbrev pub invariant-loop-k : goal.invariant-loop-k
invariant-loop-k l = position_from (bytes_eq l.text) l.k (lent_items (drop l.k l.inputs)) ≡ position_from (bytes_eq l.text) 0 (lent_items l.inputs)
