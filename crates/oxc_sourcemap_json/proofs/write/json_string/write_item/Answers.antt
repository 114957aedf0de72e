use Rattle.std.proofs.Common.{◌+◌, set, arith}
use Rattle.std.proofs.lemmas.List.{take_more_set, length-set}
use Rattle.oxc_sourcemap_json.proofs.Items.{comma_written, item_written}
use Rattle.oxc_sourcemap_json.proofs.write.json_string.write_item.Goals as goal

pub returns-clause-bytes : goal.returns-clause-bytes
returns-clause-bytes c =
    let buf = c.args.buf.now in
    let at = c.args.at in
    let start = at + c.commas.result in
    let end = c.write_escaped-end.result in
    item_written _ c.args.is_first _ _ _ _ _
    (comma_written buf at c.commas.result c.args.is_first (omega (arith, c.requires.room)) c.commas.ensures.value)
    (take_more_set (set buf at 44) start 34 (omega (arith, c.requires.room, length-set buf at 44, c.commas.ensures.few)))
    c.write_escaped-end.ensures.bytes
    (take_more_set c.write_escaped-end.new.buf end 34 (omega (arith, c.requires.room, c.commas.ensures.few, c.write_escaped-end.ensures.within, c.write_escaped-end.auto.buf, length-set buf at 44, length-set (set buf at 44) start 34)))
