use Rattle.std.proofs.Common.{◌≡◌, ◌++◌, drop, map, true, string_bytes}
use Rattle.oxc_sourcemap_parts.specs.Views.{text_of}
use Rattle.oxc_sourcemap_json.specs.Appends.{OnlyAdds}
use Rattle.oxc_sourcemap_json.specs.JsonText.{content_text}
use Rattle.oxc_sourcemap_json.proofs.Separated.{separated}
use Rattle.oxc_sourcemap_json.proofs.write.json_text.push_contents.Given as goal

abbrev pub invariant-loop-content : goal.invariant-loop-content
invariant-loop-content l = record {
  bytes : string_bytes l.out ++ separated content_text l.is_first (map text_of (drop l.content-index l.contents))
      ≡ string_bytes l.initial.out ++ separated content_text true (map text_of l.contents);
  adds : OnlyAdds l.initial.out l.out;
}
