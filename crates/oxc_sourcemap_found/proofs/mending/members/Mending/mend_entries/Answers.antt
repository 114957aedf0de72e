use Rattle.std.proofs.Common.{◌≡◌, ◌≢◌, ◌++◌, [], arith, ap, sym, ◌∙◌, Some}
use Rattle.std.proofs.lemmas.Grind.{common_steps}
use Rattle.std.proofs.lemmas.Result.{on_ok_weaker}
use Rattle.serde_json.specs.Data.{array, null, put}
use Rattle.serde_json.specs.Find.{get_member}
use Rattle.serde_json.specs.View.{items_view, members_view}
use Rattle.serde_json.proofs.Views.{view-Array}
use Rattle.oxc_sourcemap_found.specs.Views.{state_of}
use Rattle.oxc_sourcemap_found.proofs.Entries.{entries-kept, entries-changed, items-mended}
use Rattle.oxc_sourcemap_found.proofs.Entries.{mended_of, some-array, on_ok_if}
use Rattle.oxc_sourcemap_found.proofs.mending.members.Mending.mend_entries.Goals as goal

pub returns-then-is_empty : goal.returns-then-is_empty
returns-then-is_empty c =
    let none : c.in_ok-kinds.kinds.items ≡ [] = grind (arith, common_steps) in
    entries-kept c.args.list c.args.key.now (state_of c.args.self.now) c.in-Some.items.now c.in-Some.ensures (sym c.in_ok-kinds.ensures ∙ none)

pub returns : goal.returns
returns c =
    let some : c.in_ok-kinds.kinds.items ≢ [] = λ e. grind (arith, common_steps) in
    let list = some-array (get_member c.args.key.now (members_view c.args.self.now.object.entries)) (items_view c.in-Some.items.now) c.in-Some.ensures in
    let same = c.in_ok-items.ensures.items (items_view c.in-Some.items.now) list in
    let old : Some (array (items_view c.in_ok-items.items.items)) ≡ get_member c.args.key.now (members_view c.args.self.now.object.entries) =
    ap (λ ds. Some (array ds)) same ∙ sym list in
    let members : members_view c.put.new.self.object.entries
    ≡ put c.args.key.now (array (items_view c.in_ok-items-2.items.items)) (put c.args.key.now null (members_view c.args.self.now.object.entries)) =
    c.in_ok-_null.ensures.members
    ∙ ap (λ d. put c.args.key.now d (members_view c.take_items.new.self.object.entries)) (view-Array c.in_ok-items-2.items)
    ∙ ap (put c.args.key.now (array (items_view c.in_ok-items-2.items.items))) c.in_ok-items.ensures.members in
    on_ok_weaker c.append.result
    (λ added.
    ap (λ ms. mended_of ms c.append.new.self.items) members
    ∙ ap (mended_of (put c.args.key.now (array (items_view c.in_ok-items-2.items.items)) (put c.args.key.now null (members_view c.args.self.now.object.entries))))
    (added ∙ ap (λ v. v.items ++ c.in_ok-kinds.kinds.items) (c.in_ok-_null.ensures.kinds ∙ c.in_ok-items.ensures.kinds))
    ∙ entries-changed c.args.list c.args.key.now (state_of c.args.self.now) c.in-Some.items.now c.in_ok-items.items.items c.in_ok-kinds.kinds.items
    (items_view c.in_ok-items-2.items.items) c.in-Some.ensures old c.in_ok-kinds.ensures some
    (items-mended c.args.list c.in_ok-items.items.items c.in_ok-items-2.items.items c.in_ok-items-2.ensures))
    (on_ok_if c.append.result _ _ _ c.append.ensures.items)
