use Rattle.std.proofs.Common.{ℕ, List, arith}
use Rattle.std.proofs.lemmas.Grind.{common_steps}
use Rattle.std.specs.Cow.{cow_str_bytes}
use Rattle.std.specs.declared.borrow.CowStr.TheVariants.{Borrowed}
use Rattle.oxc_sourcemap_map.proofs.GivenIds.{given_more, given_same}
use Rattle.oxc_sourcemap_map.proofs.builders.sourcemap_builder.SourceMapBuilder.push_given.Goals as goal

pub returns-in_err-push_source-clause-unchanged : goal.returns-in_err-push_source-clause-unchanged
returns-in_err-push_source-clause-unchanged c =
    let same = given_same c.self.inside.given.entries c.reserve.new.self.entries (λ q. c.in_ok-reserve.ensures.entries.2 (Borrowed (record { ref_ptr = (0, 0); now = q }))) in
    grind (arith, common_steps, same, c.self.view_is)

pub returns-clause-added : goal.returns-clause-added
returns-clause-added c =
    let updated = rw c.unwrap-none.ensures at c.insert-inserted.ensures.updates in
    let put = λ (q : List ℕ). updated.0 (Borrowed (record { ref_ptr = (0, 0); now = q })) in
    let same = λ (q : List ℕ). c.in_ok-reserve.ensures.entries.2 (Borrowed (record { ref_ptr = (0, 0); now = q })) in
    let more = given_more c.self.inside.given.entries c.insert-inserted.new.self.entries (cow_str_bytes c.args.key) c.args.id (λ q. grind (arith, put q, same q)) in
    grind (arith, common_steps, more, c.self.view_is, c.requires.same, c.requires.id)
