use Rattle.std.proofs.Common.{◌≡◌, ◌≤◌, ◌+◌, take}
use Rattle.oxc_sourcemap_json.specs.Words.{line_feeds, line_start}
use Rattle.oxc_sourcemap_json.proofs.read.reading.lines_and_rest.Given as goal

abbrev pub invariant-loop-byte : goal.invariant-loop-byte
invariant-loop-byte l =
    (l.lines ≡ line_feeds (take l.byte-index l.front)) × (line_start l.front l.lines + l.rest ≡ l.byte-index) × (l.lines ≤ l.byte-index)
