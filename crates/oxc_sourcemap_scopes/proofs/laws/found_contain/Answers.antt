use Rattle.oxc_sourcemap_scopes.specs.Asking.{place}
use Rattle.oxc_sourcemap_scopes.proofs.Around.{around-all, function-contains, frames-contain}
use Rattle.oxc_sourcemap_scopes.proofs.laws.found_contain.Goals as goal

pub returns-clause-ranges : goal.returns-clause-ranges
returns-clause-ranges c = λ s line column sound. around-all s.ranges 0 (place line column) sound.ranges sound.ranges_within

pub returns-clause-scopes : goal.returns-clause-scopes
returns-clause-scopes c = λ s source line column sound. around-all s.scopes source (place line column) sound.scopes sound.scopes_within

pub returns-clause-functions : goal.returns-clause-functions
returns-clause-functions c = λ s source line column sound. function-contains s source (place line column) sound.scopes sound.scopes_within

pub returns-clause-frames : goal.returns-clause-frames
returns-clause-frames c = λ s line column sound. frames-contain s (place line column) sound.ranges sound.ranges_within
