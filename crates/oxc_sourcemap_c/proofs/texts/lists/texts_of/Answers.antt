use Rattle.std.proofs.Common.{◌+◌, [], drop}
use Rattle.oxc_sourcemap_tokens.specs.Results.{lent_items}
use Rattle.oxc_sourcemap_c.proofs.TextLists.{one_more, texts_from, are_texts, not_texts}
use Rattle.oxc_sourcemap_c.proofs.texts.lists.texts_of.Goals as goal

pub loop-bytes-preserved : goal.loop-bytes-preserved
loop-bytes-preserved c =
    let list = c.args.list.now in
    let i = c.loop-bytes.bytes-index in
    let text = c.in_ok-text_of.ensures.text in
    let from = texts_from list i (record { ref_ptr = (0, 0); now = [] }) c.loop-bytes-test.true in
    record {
      texts = one_more (λ item. item.now) c.loop-bytes.texts.items c.push.new.self.items c.in_ok-text_of.field-0 _ (lent_items (drop i list)) (lent_items (drop (i + 1) list)) (lent_items list) from text.0 c.in_ok-push.ensures.items c.loop-bytes.invariant.texts;
      are = λ all. c.loop-bytes.invariant.are (are_texts _ _ _ from text.1 all);
      error = λ r not. c.loop-bytes.invariant.error r (not_texts _ _ _ r from text.1 not);
    }
