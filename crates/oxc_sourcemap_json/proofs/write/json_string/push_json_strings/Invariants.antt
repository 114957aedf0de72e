use Rattle.std.proofs.Common.{◌≡◌, ◌++◌, ◌≤◌, take, drop, map, true, string_bytes}
use Rattle.std.specs.Cow.{cow_str_bytes}
use Rattle.std.specs.Str.{IsUtf8}
use Rattle.oxc_sourcemap_json.specs.Appends.{OnlyAdds}
use Rattle.oxc_sourcemap_json.specs.JsonString.{json_string}
use Rattle.oxc_sourcemap_json.proofs.Separated.{separated}
use Rattle.oxc_sourcemap_json.proofs.write.json_string.push_json_strings.Given as goal

-- the text of all strings is what `out` and the buffer have, and then the text of the strings that are left
abbrev pub invariant-loop-text : goal.invariant-loop-text
invariant-loop-text l = record {
  bytes : (string_bytes l.out ++ take l.len l.buf) ++ separated json_string l.is_first (map cow_str_bytes (drop l.text-index l.texts))
      ≡ string_bytes l.initial.out ++ separated json_string true (map cow_str_bytes l.texts);
  utf8 : IsUtf8 (take l.len l.buf);
  within : l.len ≤ 2032;
  adds : OnlyAdds l.initial.out l.out;
}
