use Rattle.oxc_sourcemap_map.proofs.LeadBack.{leads_back, at_place, on_line, before, after}
use Rattle.oxc_sourcemap_map.proofs.LeadBack.{all_on_line}
use Rattle.oxc_sourcemap_map.proofs.reverse.laws.reverse_lookups.Goals as goal

pub returns-clause-leads_back : goal.returns-clause-leads_back
returns-clause-leads_back c = leads_back

pub returns-clause-at_place : goal.returns-clause-at_place
returns-clause-at_place c = at_place

pub returns-clause-on_line : goal.returns-clause-on_line
returns-clause-on_line c = on_line

pub returns-clause-before : goal.returns-clause-before
returns-clause-before c = before

pub returns-clause-after : goal.returns-clause-after
returns-clause-after c = after

pub returns-clause-all_on_line : goal.returns-clause-all_on_line
returns-clause-all_on_line c = all_on_line
