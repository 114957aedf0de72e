use Rattle.std.proofs.Common.{◌++◌, flat_map, string_bytes, sym, ap, ◌∙◌, subst}
use Rattle.std.proofs.lemmas.Str.{IsUtf8-take, IsUtf8-drop}
use Rattle.std.specs.Str.{IsUtf8}
use Rattle.oxc_sourcemap_json.specs.JsonString.{escaped}
use Rattle.oxc_sourcemap_json.proofs.EscapedText.{utf8-escaped}
use Rattle.oxc_sourcemap_json.proofs.JsonString.{piece_added}
use Rattle.oxc_sourcemap_json.proofs.write.json_string.push_escaped.Goals as goal

pub push_gathered-requires : goal.push_gathered-requires
push_gathered-requires c =
    let cut = IsUtf8-take c.loop-rest.rest.now c.gathered_len.result c.loop-rest.invariant.text c.gathered_len.ensures.boundary in
    let piece = subst IsUtf8 (sym (c.as_bytes.ensures.value ∙ c.split_at.ensures.front)) cut in
    subst IsUtf8 (sym c.write_escaped-end.ensures.bytes) (utf8-escaped _ piece)

pub loop-rest-preserved : goal.loop-rest-preserved
loop-rest-preserved c =
    let rest = c.loop-rest.rest.now in
    let written = c.write_escaped-end.ensures.bytes ∙ ap (flat_map escaped) c.as_bytes.ensures.value in
    let added = c.in_ok-push_gathered.ensures.ok ∙ ap (λ bs. string_bytes c.loop-rest.out ++ bs) written in
    record {
      bytes = piece_added _ rest _ _ _ c.gathered_len.result c.split_at.ensures.front c.split_at.ensures.back added ∙ c.loop-rest.invariant.bytes;
      adds = λ front b. c.push_gathered.ensures.adds front (c.loop-rest.invariant.adds front b);
      text = subst IsUtf8 (sym c.split_at.ensures.back) (IsUtf8-drop rest c.gathered_len.result c.loop-rest.invariant.text c.gathered_len.ensures.boundary);
    }
