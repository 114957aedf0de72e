use Rattle.std.proofs.Common.{◌∙◌, ap, sym, map-id}
use Rattle.std.specs.List.{flat_map}
use Rattle.std.specs.Char.Escape.{encode_utf16}
use Rattle.std.proofs.lemmas.Iterator.{YieldsList-from_chars}
use Rattle.std.proofs.lemmas.Iterator.Consumers.{YieldsList-end}
use Rattle.oxc_sourcemap_text.proofs.positions.text_lines.utf16_units.Goals as goal

pub returns : goal.returns
returns c =
    let end = YieldsList-end (YieldsList-from_chars c.args.text.now c.utf8.text cc) c.loop-ch.yielded _ c.loop-ch.yielded_by _ _ c.in-None.is c.next.ensures.steps in
    c.loop-ch.invariant ∙ ap (flat_map encode_utf16) (sym (map-id c.loop-ch.yielded) ∙ end.0)
