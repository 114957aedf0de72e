use Rattle.std.proofs.Common.{arith}
use Rattle.std.proofs.lemmas.Grind.{common_steps}
use Rattle.std.proofs.lemmas.List.{length-map}
use Rattle.std.proofs.lemmas.Slice.Eq.{bytes_eq-Decides}
use Rattle.std.specs.Cow.{cow_str_bytes}
use Rattle.std.specs.Cmp.Lexicographic.{nat_list_eq_equiv}
use Rattle.std.specs.declared.borrow.CowStr.TheVariants.{Borrowed}
use Rattle.oxc_sourcemap_map.proofs.GivenIds.{place_more}
use Rattle.oxc_sourcemap_map.proofs.builders.sourcemap_builder.SourceMapBuilder.push_name.Goals as goal

pub invariant_of-self-2 : goal.invariant_of-self-2
invariant_of-self-2 c =
    let updated = rw c.unwrap-none.ensures at c.insert-inserted.ensures.updates in
    let pushed = rw c.unwrap.ensures at c.push-pushed.ensures.items in (
      grind (arith, common_steps, pushed),
      (λ text.
          let key = Borrowed (record { ref_ptr = (0, 0); now = text }) in
          let put = updated.0 key in
          let index = place_more text c.reserve.new.self.items c.args.name in
          let same = c.in_ok-reserve-2.ensures.entries.2 key in
          let turned = nat_list_eq_equiv.symm text (cow_str_bytes c.args.name) in
          let count = length-map c.self.inside.names.items cow_str_bytes in
          grind (arith, put, pushed, index, same, turned, count, bytes_eq-Decides text (cow_str_bytes c.args.name), c.self.view_is, c.requires.same, c.requires.new, c.requires.id, c.in_ok-reserve.ensures.items, c.self.invariant.1 text)),
    )
