use Rattle.std.proofs.Common.{◌≡◌, ℕ, ◌+◌, ◌<◌, List, length, drop, get_or, [], Ok, refl, sym, ap}
use Rattle.std.proofs.Common.{◌∙◌, arith, rules}
use Rattle.std.specs.Borrow.{Bor}
use Rattle.oxc_sourcemap_tokens.specs.Results.{lent_items}
use Rattle.oxc_sourcemap_scopes.specs.Numbers.{numbers_of}
use Rattle.oxc_sourcemap_scopes.specs.Items.{nothing_read, item_read}
use Rattle.oxc_sourcemap_scopes.specs.Reading.{items_read, items_of}
use Rattle.oxc_sourcemap_scopes.proofs.Pieces.{total, items-total, lent-drop, read-one}
use Rattle.oxc_sourcemap_scopes.proofs.decoding.decode_scopes.Goals as goal

pub loop-item-init : goal.loop-item-init
loop-item-init c =
    let e : lent_items c.deref-item-items.result.now ≡ items_of c.args.text.now = search rules in
    let n : c.new-read.result ≡ nothing_read = c.new-read.ensures in
    record { read = rw (e, n) refl; room = rw e (omega (arith, items-total c.args.text.now)) }

pub loop-item-preserved : goal.loop-item-preserved
loop-item-preserved c =
    let xs = c.deref-item-items.result.now in
    let i = c.loop-item.item-index in
    let d : Bor (List ℕ) = record { ref_ptr = (0, 0); now = [] } in
    let item : List ℕ = (get_or xs i d).now in
    let more = lent_items (drop (i + 1) xs) in
    let l : i < length xs = omega arith in
    let front = lent-drop xs i d l in
    let numbers : numbers_of c.loop-item.at item ≡ Ok c.read_numbers.new.numbers.items = search rules in
    let read : item_read c.args.names c.loop-item.at c.loop-item.read c.read_numbers.new.numbers.items ≡ Ok c.in_ok-read.read = search rules in
    let next : c.loop-item.at + (length item + 1) ≡ c.loop-item.at + length item + 1 = omega arith in
    record {
      read = rw next (sym (read-one c.args.names c.loop-item.at c.loop-item.read c.in_ok-read.read item more c.read_numbers.new.numbers.items numbers read) ∙ sym (ap (items_read c.args.names c.loop-item.at c.loop-item.read) front) ∙ c.loop-item.invariant.read);
      room = omega (arith, c.loop-item.invariant.room, ap total front);
    }
