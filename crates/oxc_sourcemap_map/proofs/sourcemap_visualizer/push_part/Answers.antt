use Rattle.std.proofs.Common.{◌≡◌, OnOk, string_bytes, arith, rules, not, eqb, filter, ap, sym, ◌∙◌}
use Rattle.std.specs.Fmt.{AppendsText, debug_str}
use Rattle.std.specs.Str.{chars, encode_utf8_all}
use Rattle.std.proofs.lemmas.Grind.{common_steps}
use Rattle.std.proofs.lemmas.Fn.{filter_same}
use Rattle.std.proofs.lemmas.Str.{chars-encodes}
use Rattle.oxc_sourcemap_map.specs.VisualText.{part_text, without_returns}
use Rattle.oxc_sourcemap_map.proofs.sourcemap_visualizer.push_part.Goals as goal

pub returns-clause-text : goal.returns-clause-text
returns-clause-text c =
    let r = c.retain.ensures.filtered in
    let kept = filter_same _ (λ ch. not (eqb ch 13)) _ (λ x b f' k. search rules) r.all r.kept r.chosen in
    let all : r.all ≡ chars (string_bytes c.in_ok-part.part) = sym (chars-encodes r.all r.are) ∙ ap chars r.spell in
    let left : string_bytes c.retain.new.self ≡ without_returns (string_bytes c.in_ok-part.part) = r.stay ∙ ap encode_utf8_all (kept ∙ ap (filter (λ ch. not (eqb ch 13))) all) in
    let text : debug_str (string_bytes c.retain.new.self) ≡ part_text c.args.units.now = ap debug_str (left ∙ ap without_returns c.in_ok-part.ensures) in
    let written : OnOk c.write.result (AppendsText (string_bytes c.args.out.now) (string_bytes c.write.new.self) (part_text c.args.units.now)) = rw (← text) c.write.ensures.bytes in
    grind (arith, common_steps, written)
