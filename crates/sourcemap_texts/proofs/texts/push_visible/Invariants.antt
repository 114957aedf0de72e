use Rattle.std.proofs.Common.{◌≡◌, ◌++◌, string_bytes}
use Rattle.std.specs.List.{flat_map}
use Rattle.oxc_sourcemap_json.specs.Words.{OnlyAdds}
use Rattle.sourcemap_texts.specs.Texts.{visible_char}
use Rattle.sourcemap_texts.proofs.texts.push_visible.Given as goal

abbrev pub invariant-loop-ch : goal.invariant-loop-ch
invariant-loop-ch l = record {
  bytes : string_bytes l.out ≡ string_bytes l.fn.out ++ flat_map visible_char l.yielded;
  adds : OnlyAdds l.fn.out l.out;
}
