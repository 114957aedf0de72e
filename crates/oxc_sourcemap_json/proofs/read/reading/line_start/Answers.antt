use Rattle.std.proofs.Common.{◌≡◌, ◌<◌, true, false, arith, get_or}
use Rattle.std.proofs.lemmas.Bool.Decides.{nat_tests}
use Rattle.oxc_sourcemap_json.specs.TextBytes.{is_line_feed}
use Rattle.oxc_sourcemap_json.proofs.TextBytes.{past-feed, past-other}
use Rattle.oxc_sourcemap_json.proofs.read.reading.line_start.Goals as goal
use Rattle.oxc_sourcemap_json.proofs.read.reading.line_start.Goals.{then-byte-eq10, else-byte-eq10}

pub loop-i-preserved : goal.loop-i-preserved
loop-i-preserved c =
    let text = c.args.text.now in
    let some : 0 < c.loop-i.left = omega arith in
    elim c.if-byte-eq10.branch [
      | then-byte-eq10 w ↦
          let is : is_line_feed (get_or text c.loop-i.i 0) ≡ true = grind (arith, nat_tests) in
          past-feed text c.args.line c.loop-i.left c.if-byte-eq10.left c.loop-i.i c.loop-i-test.true is some w.left-is c.loop-i.invariant
      | else-byte-eq10 w ↦
          let is : is_line_feed (get_or text c.loop-i.i 0) ≡ false = grind (arith, nat_tests) in
          rw w.left-is (past-other text c.args.line c.loop-i.left c.loop-i.i c.loop-i-test.true is some c.loop-i.invariant)
    ]
