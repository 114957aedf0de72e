use Rattle.std.proofs.Common.{◌≡◌, ◌-◌, ◌<◌, ◌≤◌, length}
use Rattle.oxc_sourcemap_queries.specs.Words.{record_of_parts, IfBothSorted, AreEqualSources}
use Rattle.oxc_sourcemap_queries.proofs.Walked.{IsWalked}
use Rattle.oxc_sourcemap_queries.proofs.differ.difference.first_difference_of_parts.Given as goal

abbrev pub invariant-loop-first : goal.invariant-loop-first
invariant-loop-first l = record {
  is_first : l.first ≡ (record_of_parts l.a).tokens;
  is_second : l.second ≡ (record_of_parts l.b).tokens;
  within_first : l.passed_first ≤ length l.first;
  within_second : l.passed_second ≤ length l.second;
  fits : l.place < 18446744073709551616;
  equal : AreEqualSources (record_of_parts l.a) (record_of_parts l.b) l.equal;
  walked : IfBothSorted (record_of_parts l.a) (record_of_parts l.b) (IsWalked (record_of_parts l.a) (record_of_parts l.b) l.place l.passed_first l.passed_second);
}

abbrev pub decreases-loop-first : goal.decreases-loop-first
decreases-loop-first l = 18446744073709551616 - l.place
