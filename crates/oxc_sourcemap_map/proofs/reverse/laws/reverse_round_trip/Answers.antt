use Rattle.oxc_sourcemap_map.proofs.RoundTrips.{found_traces_back, first_traces_back}
use Rattle.oxc_sourcemap_map.proofs.RoundTrips.{traced_is_found}
use Rattle.oxc_sourcemap_map.proofs.reverse.laws.reverse_round_trip.Goals as goal

pub returns-clause-found : goal.returns-clause-found
returns-clause-found c = found_traces_back

pub returns-clause-first : goal.returns-clause-first
returns-clause-first c = first_traces_back

pub returns-clause-traced : goal.returns-clause-traced
returns-clause-traced c = traced_is_found
