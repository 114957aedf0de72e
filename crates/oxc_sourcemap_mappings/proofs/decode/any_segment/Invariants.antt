use Rattle.std.proofs.Common.{◌≡◌, ℕ, ◌+◌, ◌-◌, ◌^◌, ◌<◌, ◌≤◌, length, get_or, drop, pos, nat_abs}
use Rattle.oxc_sourcemap_mappings.specs.Decoding.{front_digits}
use Rattle.oxc_sourcemap_mappings.proofs.Runs.{faults_from, numbers_from}
use Rattle.oxc_sourcemap_mappings.proofs.decode.any_segment.Given as goal

-- the faults and numbers of all digits of the segment are those of the digits that are left, after those that were read
abbrev pub invariant-loop-digit : goal.invariant-loop-digit
invariant-loop-digit l = record {
  faults : faults_from l.exponent (front_digits (drop l.len l.text)) ≡ faults_from 0 (front_digits l.text);
  numbers : numbers_from l.raw l.exponent (front_digits (drop l.len l.text)) ≡ drop l.count (numbers_from 0 0 (front_digits l.text));
  len : l.len + length (front_digits (drop l.len l.text)) ≡ length (front_digits l.text);
  within : l.len ≤ length l.text;
  count : l.count ≤ length (numbers_from 0 0 (front_digits l.text));
  index : l.count ≤ l.len;
  done : (k : ℕ) → k < 5 → k < l.count → get_or l.values k (pos 0) ≡ get_or (numbers_from 0 0 (front_digits l.text)) k (pos 0);
  zero : (k : ℕ) → k < 5 → l.count ≤ k → get_or l.values k (pos 0) ≡ pos 0;
  small : (k : ℕ) → nat_abs (get_or l.values k (pos 0)) < 2 ^ 62;
  five : length l.values ≡ 5;
  exponent : l.exponent < 14;
  raw : l.raw < 32 ^ l.exponent;
}

abbrev pub decreases-loop-digit : goal.decreases-loop-digit
decreases-loop-digit l = length l.text - l.len
