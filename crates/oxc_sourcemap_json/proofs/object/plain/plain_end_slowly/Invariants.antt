use Rattle.std.proofs.Common.{◌≡◌, ◌+◌, ◌-◌, ◌≤◌, length, drop}
use Rattle.std.specs.List.{prefix_len}
use Rattle.oxc_sourcemap_json.specs.PlainReader.{is_plain}
use Rattle.oxc_sourcemap_json.proofs.object.plain.plain_end_slowly.Given as goal

abbrev pub invariant-bytes : goal.invariant-bytes
invariant-bytes l =
    (l.from + prefix_len is_plain (drop l.from l.text) ≡ l.end + prefix_len is_plain (drop l.end l.text)) × (l.end ≤ length l.text)

abbrev pub decreases-bytes : goal.decreases-bytes
decreases-bytes l = length l.text - l.end
