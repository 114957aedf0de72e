use Rattle.std.proofs.Common.{◌≡◌, ℕ, ◌<◌, List, Option, get_or, drop}
use Rattle.oxc_sourcemap_c.specs.Listed.{cow_options}
use Rattle.oxc_sourcemap_c.specs.declared.texts.text.Text.{Text}
use Rattle.oxc_sourcemap_c.specs.Structs.{IsContentText}
use Rattle.oxc_sourcemap_c.proofs.reading.getters.write_contents.Given as goal

abbrev pub invariant-loop-i : goal.invariant-loop-i
invariant-loop-i l = record {
  written : (k : ℕ) (lent : Text) (text : Option (List ℕ)) → k < l.i → IsContentText (get_or l.out k lent) (get_or (cow_options l.contents) k text);
  left : drop l.i l.out ≡ drop l.i l.fn.out;
}
