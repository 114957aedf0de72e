use Rattle.std.proofs.Common.{◌≡◌, ◌++◌, ℕ, ◌+◌, codes, decimal, drop, string_bytes}
use Rattle.std.specs.List.{flat_map}
use Rattle.oxc_sourcemap_json.specs.Words.{OnlyAdds}
use Rattle.sourcemap_run.proofs.covered.push_more_numbers.Given as goal

-- what is written so far, and the numbers that are left, are all numbers
abbrev pub invariant-loop-line : goal.invariant-loop-line
invariant-loop-line l = record {
  bytes : string_bytes l.out ++ flat_map (λ (line : ℕ × ℕ). codes "," ++ decimal (line.0 + 1)) (drop l.line-index l.lines)
      ≡ string_bytes l.fn.out ++ flat_map (λ (line : ℕ × ℕ). codes "," ++ decimal (line.0 + 1)) l.lines;
  adds : OnlyAdds l.fn.out l.out;
}
