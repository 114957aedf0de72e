use Rattle.std.proofs.Common.{◌≡◌, ◌++◌, drop}
use Rattle.oxc_sourcemap_tokens.specs.Results.{lent_items}
use Rattle.oxc_sourcemap_c.specs.declared.numbers.call_error.CallError.{CallError}
use Rattle.oxc_sourcemap_c.specs.Lists.{AreTexts, IsNotTexts}
use Rattle.oxc_sourcemap_c.proofs.texts.lists.texts_of.Given as goal

abbrev pub invariant-loop-bytes : goal.invariant-loop-bytes
invariant-loop-bytes l = record {
  texts : lent_items l.texts.items ++ lent_items (drop l.bytes-index l.list) ≡ lent_items l.list;
  are : AreTexts (lent_items (drop l.bytes-index l.list)) → AreTexts (lent_items l.list);
  error : (r : CallError) → IsNotTexts (lent_items (drop l.bytes-index l.list)) r → IsNotTexts (lent_items l.list) r;
}
