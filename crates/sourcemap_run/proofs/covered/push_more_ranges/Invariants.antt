use Rattle.std.proofs.Common.{◌≡◌, ◌++◌, ℕ, codes, drop, string_bytes}
use Rattle.std.specs.List.{flat_map}
use Rattle.oxc_sourcemap_json.specs.Words.{OnlyAdds}
use Rattle.sourcemap_run.specs.Covered.{range_text}
use Rattle.sourcemap_run.proofs.covered.push_more_ranges.Given as goal

-- what is written so far, and the ranges that are left, are all ranges
abbrev pub invariant-loop-range : goal.invariant-loop-range
invariant-loop-range l = record {
  bytes : string_bytes l.out ++ flat_map (λ (range : ℕ × ℕ). codes ", " ++ range_text range) (drop l.range-index l.ranges)
      ≡ string_bytes l.fn.out ++ flat_map (λ (range : ℕ × ℕ). codes ", " ++ range_text range) l.ranges;
  adds : OnlyAdds l.fn.out l.out;
}
