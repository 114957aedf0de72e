use Rattle.std.proofs.Common.{◌≡◌, ◌-◌, ◌++◌, length, string_bytes}
use Rattle.std.specs.List.{flat_map}
use Rattle.std.specs.Char.Escape.{encode_utf16}
use Rattle.oxc_sourcemap_json.specs.Words.{OnlyAdds}
use Rattle.sourcemap_run.specs.Contexts.{blank_char, before_column}
use Rattle.sourcemap_run.proofs.contexts.push_blanks.Given as goal

abbrev pub invariant-loop-ch : goal.invariant-loop-ch
invariant-loop-ch l = record {
  bytes : string_bytes l.out ≡ string_bytes l.fn.out ++ flat_map blank_char (before_column l.column l.yielded);
  left : l.left ≡ l.column - length (flat_map encode_utf16 l.yielded);
  adds : OnlyAdds l.fn.out l.out;
}
