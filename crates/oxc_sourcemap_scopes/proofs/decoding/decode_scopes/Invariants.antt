use Rattle.std.proofs.Common.{◌≡◌, ◌+◌, ◌≤◌, drop, length}
use Rattle.oxc_sourcemap_tokens.specs.Results.{lent_items}
use Rattle.oxc_sourcemap_scopes.specs.Items.{nothing_read}
use Rattle.oxc_sourcemap_scopes.specs.Reading.{items_read, items_of}
use Rattle.oxc_sourcemap_scopes.proofs.Pieces.{total}
use Rattle.oxc_sourcemap_scopes.proofs.decoding.decode_scopes.Given as goal

-- the items that are left, after what was read, read as all
abbrev pub invariant-loop-item : goal.invariant-loop-item
invariant-loop-item l = record {
  read : items_read l.names l.at l.read (lent_items (drop l.item-index l.item-items)) ≡ items_read l.names 0 nothing_read (items_of l.text);
  room : l.at + total (lent_items (drop l.item-index l.item-items)) ≤ length l.text + 1;
}
