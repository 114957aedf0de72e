use Rattle.std.proofs.Common.{◌≡◌, ◌++◌, string_bytes}
use Rattle.std.specs.List.{flat_map}
use Rattle.oxc_sourcemap_json.specs.Words.{OnlyAdds}
use Rattle.sourcemap_tracing.specs.Reversed.{next_generated}
use Rattle.sourcemap_tracing.proofs.reversing.push_more.Given as goal

-- the positions so far are written
abbrev pub invariant-loop-token : goal.invariant-loop-token
invariant-loop-token l = record {
  bytes : string_bytes l.out ≡ string_bytes l.fn.out ++ flat_map (next_generated l.style) l.yielded;
  adds : OnlyAdds l.fn.out l.out;
}
