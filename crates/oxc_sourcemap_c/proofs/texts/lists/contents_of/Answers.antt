use Rattle.std.proofs.Common.{◌+◌, [], drop}
use Rattle.oxc_sourcemap_tokens.specs.Results.{lent_items, lent_item}
use Rattle.oxc_sourcemap_c.specs.Lists.{known_texts}
use Rattle.oxc_sourcemap_c.proofs.TextLists.{one_more, contents_from, are_contents}
use Rattle.oxc_sourcemap_c.proofs.TextLists.{not_contents}
use Rattle.oxc_sourcemap_c.proofs.texts.lists.contents_of.Goals as goal

pub loop-i-preserved : goal.loop-i-preserved
loop-i-preserved c =
    let list = c.args.list.now in
    let flags = c.args.known.now in
    let i = c.loop-i.i in
    let content = c.in_ok-content_of.ensures.content in
    let from = contents_from list flags i c.flag_at.result (record { ref_ptr = (0, 0); now = [] }) c.loop-i-test.true c.flag_at.ensures in
    record {
      contents = one_more lent_item c.loop-i.contents.items c.push.new.self.items c.in_ok-content_of.field-0 _ (known_texts (lent_items (drop i list)) (drop i flags)) (known_texts (lent_items (drop (i + 1) list)) (drop (i + 1) flags)) (known_texts (lent_items list) flags) from content.0 c.in_ok-push.ensures.items c.loop-i.invariant.contents;
      are = λ all. c.loop-i.invariant.are (are_contents _ _ _ from content.1 all);
      error = λ r not. c.loop-i.invariant.error r (not_contents _ _ _ r from content.1 not);
    }
