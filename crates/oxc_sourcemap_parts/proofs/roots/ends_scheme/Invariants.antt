use Rattle.std.proofs.Common.{◌≡◌, drop}
use Rattle.oxc_sourcemap_parts.specs.Roots.{ends_scheme}
use Rattle.oxc_sourcemap_parts.proofs.roots.ends_scheme.Given as goal

-- what is left decides
abbrev pub invariant-loop-byte : goal.invariant-loop-byte
invariant-loop-byte l = ends_scheme (drop l.byte-index l.bytes) ≡ ends_scheme l.bytes
