use Rattle.std.proofs.Common.{◌≡◌, ◌+◌, true, false, arith, get_or, take, suc}
use Rattle.std.proofs.lemmas.Bool.Decides.{nat_tests}
use Rattle.oxc_sourcemap_json.specs.TextBytes.{is_line_feed, line_feeds, line_start}
use Rattle.oxc_sourcemap_json.proofs.TextBytes.{behind-feed, one-more, no-more}
use Rattle.oxc_sourcemap_json.proofs.read.reading.lines_and_rest.Goals as goal
use Rattle.oxc_sourcemap_json.proofs.read.reading.lines_and_rest.Goals.{then-byte-eq10}
use Rattle.oxc_sourcemap_json.proofs.read.reading.lines_and_rest.Goals.{else-byte-eq10}

pub loop-byte-preserved : goal.loop-byte-preserved
loop-byte-preserved c =
    let front = c.args.front.now in
    let i = c.loop-byte.byte-index in
    elim c.if-byte-eq10.branch [
      | then-byte-eq10 w ↦
          let is : is_line_feed (get_or front i 0) ≡ true = grind (arith, nat_tests) in
          let more = one-more front i c.loop-byte-test.true is in
          let lines : c.if-byte-eq10.lines ≡ suc (line_feeds (take i front)) = omega (arith, w.lines-is, c.loop-byte.invariant.0) in
          let start : line_start front c.if-byte-eq10.lines ≡ i + 1 = rw lines (behind-feed front i c.loop-byte-test.true is) in
          (omega arith, omega (arith, w.rest-is), omega (arith, c.loop-byte.invariant.2))
      | else-byte-eq10 w ↦
          let is : is_line_feed (get_or front i 0) ≡ false = grind (arith, nat_tests) in
          let same = no-more front i c.loop-byte-test.true is in
          (omega (arith, c.loop-byte.invariant.0), rw w.lines-is (omega (arith, w.rest-is, c.loop-byte.invariant.1)), omega (arith, c.loop-byte.invariant.2))
    ]
