use Rattle.std.proofs.Common.{◌+◌, ◌≤◌, length, take, ap, ◌∙◌, arith}
use Rattle.std.proofs.Math.Nat.{min-le_left, min-le_right}
use Rattle.std.proofs.lemmas.List.Sums.{prefix_len-le-length}
use Rattle.std.specs.List.{prefix_len}
use lib.Lanes.{put_chunk}
use Rattle.oxc_sourcemap_json.specs.UnescapedBytes.{is_plain}
use Rattle.oxc_sourcemap_json.proofs.UnescapedBlocks.{block_placed, block_plain, length-block}
use Rattle.oxc_sourcemap_json.proofs.write.json_string.write_run.Goals as goal

pub returns-clause-few : goal.returns-clause-few
returns-clause-few c =
    let least = min-le_left c.plain_in.result (length c.args.text.now) in
    omega (arith, least, c.min.ensures, c.plain_in.ensures, prefix_len-le-length is_plain c.first_block-block.result, ap length c.first_block-block.ensures, length-block c.args.text.now)

pub returns-clause-plain : goal.returns-clause-plain
returns-clause-plain c =
    let text = c.args.text.now in
    let least = min-le_left c.plain_in.result (length text) in
    let within = min-le_right c.plain_in.result (length text) in
    let run = c.plain_in.ensures ∙ ap (prefix_len is_plain) c.first_block-block.ensures in
    block_plain text c.min.result (omega (arith, least, c.min.ensures, run)) (omega (arith, within, c.min.ensures))

pub returns-clause-bytes : goal.returns-clause-bytes
returns-clause-bytes c =
    let text = c.args.text.now in
    let least = min-le_left c.plain_in.result (length text) in
    let within = min-le_right c.plain_in.result (length text) in
    let few : c.min.result ≤ 16 = omega (arith, least, c.min.ensures, c.plain_in.ensures, prefix_len-le-length is_plain c.first_block-block.result, ap length c.first_block-block.ensures, length-block text) in
    ap (λ block. take (c.args.at + c.min.result) (put_chunk c.args.at c.args.buf.now block)) c.first_block-block.ensures
    ∙ block_placed c.args.buf.now text c.args.at c.min.result (omega (arith, c.requires.room)) few (omega (arith, within, c.min.ensures))
