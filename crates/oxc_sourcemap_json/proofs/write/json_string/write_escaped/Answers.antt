use Rattle.std.proofs.Common.{◌+◌, take, drop, ap, arith}
use Rattle.std.proofs.lemmas.List.{take_rest, length-drop}
use Rattle.std.proofs.lemmas.List.Sums.{prefix_len-le-length}
use Rattle.std.specs.List.{prefix_len}
use Rattle.oxc_sourcemap_json.specs.UnescapedBytes.{is_plain}
use Rattle.oxc_sourcemap_json.proofs.JsonString.{run_written, byte_written}
use Rattle.oxc_sourcemap_json.proofs.write.json_string.write_escaped.Goals as goal

pub loop-done-preserved-then-done-text : goal.loop-done-preserved-then-done-text
loop-done-preserved-then-done-text c =
    let text = c.args.text.now in
    let front = take c.args.at c.args.buf.now in
    let done = c.loop-done.done in
    let n = c.write_run-plain.result in
    let run = run_written front text _ _ _ done n (take_rest text done) c.loop-done.invariant.bytes c.write_run-plain.ensures.bytes c.write_run-plain.ensures.plain in
    record {
      bytes = byte_written front text _ _ (done + n) (omega (arith, c.if-done-text.true)) run c.write_byte-end.ensures.bytes;
      within = omega (arith, c.loop-done.invariant.within, c.write_byte-end.ensures.within);
      reached = omega (arith, c.if-done-text.true);
    }

pub loop-done-preserved : goal.loop-done-preserved
loop-done-preserved c =
    let text = c.args.text.now in
    let done = c.loop-done.done in
    let n = c.write_run-plain.result in
    record {
      bytes = run_written (take c.args.at c.args.buf.now) text _ _ _ done n (take_rest text done) c.loop-done.invariant.bytes c.write_run-plain.ensures.bytes c.write_run-plain.ensures.plain;
      within = omega (arith, c.loop-done.invariant.within);
      reached = omega (arith, c.write_run-plain.ensures.plain, ap (prefix_len is_plain) (take_rest text done), prefix_len-le-length is_plain (drop done text), length-drop done text, c.loop-done.invariant.reached);
    }
