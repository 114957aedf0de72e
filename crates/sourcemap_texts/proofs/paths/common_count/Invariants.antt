use Rattle.std.proofs.Common.{◌≡◌, ◌≤◌, ◌+◌, ◌-◌, length, drop}
use Rattle.std.specs.List.{common_prefix_len}
use Rattle.std.specs.Str.{bytes_eq}
use Rattle.oxc_sourcemap_tokens.specs.Results.{lent_items}
use Rattle.sourcemap_texts.proofs.paths.common_count.Given as goal

-- the parts before `count` are in common
abbrev pub invariant-loop-count : goal.invariant-loop-count
invariant-loop-count l =
    (l.count ≤ length l.a) × (l.count ≤ length l.b)
    × (l.count + common_prefix_len bytes_eq (drop l.count (lent_items l.a)) (drop l.count (lent_items l.b)) ≡ common_prefix_len bytes_eq (lent_items l.a) (lent_items l.b))

abbrev pub decreases-loop-count : goal.decreases-loop-count
decreases-loop-count l = length l.a - l.count
