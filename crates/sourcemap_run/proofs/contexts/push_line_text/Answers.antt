use Rattle.std.proofs.Common.{◌++◌, ◌∙◌, ap, sym, map-id, string_bytes}
use Rattle.std.specs.List.{flat_map}
use Rattle.std.proofs.lemmas.Iterator.{YieldsList-from_chars}
use Rattle.std.proofs.lemmas.Iterator.Consumers.{YieldsList-end}
use Rattle.sourcemap_run.specs.Contexts.{line_char}
use Rattle.sourcemap_run.proofs.contexts.push_line_text.Goals as goal

pub returns-clause-text : goal.returns-clause-text
returns-clause-text c =
    let end = YieldsList-end (YieldsList-from_chars c.args.line.now c.utf8.line cc) c.loop-ch.yielded _ c.loop-ch.yielded_by _ _ c.in-None.is c.next.ensures.steps in
    c.loop-ch.invariant.bytes ∙ ap (λ cs. string_bytes c.args.out.now ++ flat_map line_char cs) (sym (map-id c.loop-ch.yielded) ∙ end.0)
