use Rattle.oxc_sourcemap_plan.proofs.TracesMoved.{traces_on_own_line}
use Rattle.oxc_sourcemap_plan.proofs.TracesJoined.{traces_joined, traces_within}
use Rattle.oxc_sourcemap_plan.proofs.TracesJoined.{traces_of_joined_maps}
use Rattle.oxc_sourcemap_plan.proofs.TracesJoined.{traces_on_own_line_of_maps}
use Rattle.oxc_sourcemap_plan.proofs.laws.trace_of_join.Goals as goal

pub returns-clause-own_line : goal.returns-clause-own_line
returns-clause-own_line c = traces_on_own_line

pub returns-clause-in_order : goal.returns-clause-in_order
returns-clause-in_order c = traces_joined

pub returns-clause-within_part : goal.returns-clause-within_part
returns-clause-within_part c = traces_within

pub returns-clause-maps : goal.returns-clause-maps
returns-clause-maps c = traces_of_joined_maps

pub returns-clause-own_line_of_maps : goal.returns-clause-own_line_of_maps
returns-clause-own_line_of_maps c = traces_on_own_line_of_maps
