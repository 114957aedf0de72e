use Rattle.std.proofs.Common.{◌≡◌, ◌++◌, drop, map}
use Rattle.oxc_sourcemap_tokens.specs.Results.{lent_items, lent_item}
use Rattle.oxc_sourcemap_c.specs.declared.numbers.call_error.CallError.{CallError}
use Rattle.oxc_sourcemap_c.specs.Lists.{known_texts, AreContents, IsNotContents}
use Rattle.oxc_sourcemap_c.proofs.texts.lists.contents_of.Given as goal

abbrev pub invariant-loop-i : goal.invariant-loop-i
invariant-loop-i l = record {
  contents : map lent_item l.contents.items ++ known_texts (lent_items (drop l.i l.list)) (drop l.i l.known) ≡ known_texts (lent_items l.list) l.known;
  are : AreContents (known_texts (lent_items (drop l.i l.list)) (drop l.i l.known)) → AreContents (known_texts (lent_items l.list) l.known);
  error : (r : CallError) → IsNotContents (known_texts (lent_items (drop l.i l.list)) (drop l.i l.known)) r → IsNotContents (known_texts (lent_items l.list) l.known) r;
}
