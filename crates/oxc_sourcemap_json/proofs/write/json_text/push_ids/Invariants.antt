use Rattle.std.proofs.Common.{◌≡◌, ◌++◌, drop, true, decimal, string_bytes}
use Rattle.oxc_sourcemap_json.specs.Appends.{OnlyAdds}
use Rattle.oxc_sourcemap_json.proofs.Separated.{separated}
use Rattle.oxc_sourcemap_json.proofs.write.json_text.push_ids.Given as goal

abbrev pub invariant-loop-id : goal.invariant-loop-id
invariant-loop-id l = record {
  bytes : string_bytes l.out ++ separated decimal l.is_first (drop l.id-index l.ids)
      ≡ string_bytes l.initial.out ++ separated decimal true l.ids;
  adds : OnlyAdds l.initial.out l.out;
}
