use Rattle.std.proofs.Common.{◌≡◌, arith}
use Rattle.std.proofs.lemmas.List.Sums.{prefix_len-le-length}
use Rattle.std.proofs.lemmas.Simd.{length-chunk}
use Rattle.std.specs.List.{prefix_len}
use lib.Lanes.{chunk}
use Rattle.oxc_sourcemap_json.specs.PlainReader.{is_plain}
use Rattle.oxc_sourcemap_json.proofs.PlainBlocks.{stops_within, goes_on}
use Rattle.oxc_sourcemap_json.proofs.object.plain.plain_end.Goals as goal

pub returns-then-plain-lt16 : goal.returns-then-plain-lt16
returns-then-plain-lt16 c =
    let text = c.args.text.now in
    let end = c.steps.end in
    let plain : c.plain_in-plain.result ≡ prefix_len is_plain (chunk end 16 text) = c.plain_in-plain.ensures in
    let run = stops_within text end 16 (omega arith) (omega (arith, plain)) in
    omega (arith, plain, run, c.steps.invariant.0)

pub steps-preserved : goal.steps-preserved
steps-preserved c =
    let text = c.args.text.now in
    let end = c.steps.end in
    let plain : c.plain_in-plain.result ≡ prefix_len is_plain (chunk end 16 text) = c.plain_in-plain.ensures in
    let long = length-chunk end 16 text (omega arith) in
    let run = goes_on text end 16 (omega arith) (omega (arith, plain, long, prefix_len-le-length is_plain (chunk end 16 text))) in
    (omega (arith, run, c.steps.invariant.0), omega arith)
