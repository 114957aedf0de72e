use Rattle.std.proofs.Common.{◌++◌, ◌∙◌, ap, sym, map-id, string_bytes}
use Rattle.std.specs.List.{flat_map}
use Rattle.std.proofs.lemmas.Iterator.{YieldsList-from_chars}
use Rattle.std.proofs.lemmas.Iterator.Consumers.{YieldsList-end}
use Rattle.oxc_sourcemap_text.proofs.Steps.{utf16-length}
use Rattle.sourcemap_run.specs.Contexts.{blank_char, before_column}
use Rattle.sourcemap_run.proofs.Appends.{begins_still}
use Rattle.sourcemap_run.proofs.Around.{blank_next, blank_none, left_next}
use Rattle.sourcemap_run.proofs.contexts.push_blanks.Goals as goal
use Rattle.sourcemap_run.proofs.contexts.push_blanks.Goals.{then-left-gt0+in_ok-push_str}
use Rattle.sourcemap_run.proofs.contexts.push_blanks.Goals.{else-left-gt0}

pub loop-ch-preserved : goal.loop-ch-preserved
loop-ch-preserved c =
    let inv = c.loop-ch.invariant in
    let size = utf16-length c.in-Some.ch c.len_utf16.result c.len_utf16.ensures.bmp c.len_utf16.ensures.surrogate_pair in
    let left = c.saturating_sub-left.ensures ∙ left_next c.args.column c.loop-ch.yielded c.in-Some.ch c.loop-ch.left c.len_utf16.result c.loop-ch.invariant.left size in
    elim c.if-left-gt0.branch [
      | then-left-gt0+in_ok-push_str w ↦
          (let appends = w.in_ok-push_str.ensures.bytes ∙ ap (λ t. string_bytes c.loop-ch.out ++ t) w.blank_char.ensures in
          rw w.out-is
          record {
            bytes = blank_next c.args.column c.loop-ch.yielded c.in-Some.ch c.loop-ch.left (string_bytes c.args.out.now) (string_bytes c.loop-ch.out) (string_bytes w.push_str.new.self) c.loop-ch.invariant.left w.if-left-gt0.true c.loop-ch.invariant.bytes appends;
            left = left;
            adds = λ front begins. begins_still (string_bytes c.loop-ch.out) (string_bytes w.push_str.new.self) front (blank_char c.in-Some.ch) appends (c.loop-ch.invariant.adds front begins);
          })
      | else-left-gt0 w ↦
          rw w.out-is
          record {
            bytes = blank_none c.args.column c.loop-ch.yielded c.in-Some.ch c.loop-ch.left (string_bytes c.args.out.now) (string_bytes c.loop-ch.out) c.loop-ch.invariant.left w.if-left-gt0.false c.loop-ch.invariant.bytes;
            left = left;
            adds = c.loop-ch.invariant.adds;
          }
    ]

pub returns-clause-text : goal.returns-clause-text
returns-clause-text c =
    let end = YieldsList-end (YieldsList-from_chars c.args.line.now c.utf8.line cc) c.loop-ch.yielded _ c.loop-ch.yielded_by _ _ c.in-None.is c.next.ensures.steps in
    c.loop-ch.invariant.bytes
    ∙ ap (λ cs. string_bytes c.args.out.now ++ flat_map blank_char (before_column c.args.column cs)) (sym (map-id c.loop-ch.yielded) ∙ end.0)
