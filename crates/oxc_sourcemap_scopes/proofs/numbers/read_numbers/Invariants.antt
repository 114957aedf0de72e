use Rattle.std.proofs.Common.{◌≡◌, ◌<◌, ◌≤◌, drop}
use Rattle.oxc_sourcemap_scopes.specs.Numbers.{numbers_after, numbers_of}
use Rattle.oxc_sourcemap_scopes.proofs.Spelled.{after_read}
use Rattle.oxc_sourcemap_scopes.proofs.numbers.read_numbers.Given as goal

-- the numbers of the item are those that were read, and those that the rest of it spells
abbrev pub invariant-loop-byte : goal.invariant-loop-byte
invariant-loop-byte l = record {
  read : after_read l.numbers.items (numbers_after l.at l.raw l.scale (drop l.byte-index l.item)) ≡ numbers_of l.at l.item;
  small : l.raw < l.scale;
  scale : l.scale ≤ 34359738368;
}
