use Rattle.std.proofs.Common.{◌≡◌, ℕ, ◌<◌, List, get_or, drop}
use Rattle.oxc_sourcemap_parts.specs.Views.{cow_texts}
use Rattle.oxc_sourcemap_c.specs.declared.texts.text.Text.{Text}
use Rattle.oxc_sourcemap_c.specs.Structs.{LendsText}
use Rattle.oxc_sourcemap_c.proofs.reading.getters.write_texts.Given as goal

abbrev pub invariant-loop-i : goal.invariant-loop-i
invariant-loop-i l = record {
  written : (k : ℕ) (lent : Text) (text : List ℕ) → k < l.i → LendsText (get_or l.out k lent) (get_or (cow_texts l.texts) k text);
  left : drop l.i l.out ≡ drop l.i l.fn.out;
}
