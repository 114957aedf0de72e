use denote.Shadow.{shadow}
use denote.Text.{Utf8}
use Rattle.std.proofs.Common.{◌≡◌, ◌++◌, length, flat_map, string_bytes}
use Rattle.oxc_sourcemap_json.specs.Appends.{OnlyAdds}
use Rattle.oxc_sourcemap_json.specs.JsonString.{escaped}
use Rattle.oxc_sourcemap_json.proofs.write.json_string.push_escaped.Given as goal

abbrev pub invariant-loop-rest : goal.invariant-loop-rest
invariant-loop-rest l = record {
  bytes : string_bytes l.out ++ flat_map escaped l.rest ≡ string_bytes l.fn.out ++ flat_map escaped l.text;
  adds : OnlyAdds l.fn.out l.out;
  text : shadow (Utf8 l.rest);
}

abbrev pub decreases-loop-rest : goal.decreases-loop-rest
decreases-loop-rest l = length l.rest
