use Rattle.std.proofs.Common.{◌≡◌, ◌++◌, string_bytes}
use Rattle.std.specs.List.{flat_map}
use Rattle.oxc_sourcemap_json.specs.Words.{OnlyAdds}
use Rattle.sourcemap_run.specs.Contexts.{line_char}
use Rattle.sourcemap_run.proofs.contexts.push_line_text.Given as goal

abbrev pub invariant-loop-ch : goal.invariant-loop-ch
invariant-loop-ch l = record {
  bytes : string_bytes l.out ≡ string_bytes l.fn.out ++ flat_map line_char l.yielded;
  adds : OnlyAdds l.fn.out l.out;
}
