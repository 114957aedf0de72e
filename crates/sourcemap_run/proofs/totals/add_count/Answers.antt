use Rattle.std.proofs.Common.{rules, ◌≡◌, Some, None, sym, ap, ◌∙◌, string_bytes}
use Rattle.std.specs.Map.{update}
use Rattle.std.specs.Str.{bytes_eq}
use Rattle.std.specs.BTreeMap.{get_by_text}
use Rattle.std.proofs.lemmas.Result.{on_ok_weaker}
use Rattle.std.proofs.lemmas.Map.Text.{btree_map_updates_text}
use Rattle.sourcemap_run.proofs.Sums.{counted, old_lines, first_line}
use Rattle.sourcemap_run.proofs.totals.add_count.Goals as goal

pub returns-in-Some : goal.returns-in-Some
returns-in-Some c =
    let puts = (c.get_mut.follows.holds c.add_to_line.new.lines).3 (search rules) in
    on_ok_weaker c.add_to_line.result
    (λ adds.
    counted c.args.totals.now (c.get_mut.follows.lender c.add_to_line.new.lines) c.args.path.now c.args.line c.args.count c.add_to_line.new.lines
    (old_lines c.args.totals.now c.args.path.now c.args.line c.args.count c.in-Some.lines.now c.add_to_line.new.lines (sym c.in-Some.ensures.value) adds)
    (btree_map_updates_text c.args.path.now c.args.totals.now (c.get_mut.follows.lender c.add_to_line.new.lines) (Some c.add_to_line.new.lines) puts))
    c.add_to_line.ensures

pub returns : goal.returns
returns c =
    let none : get_by_text c.args.totals.now c.args.path.now ≡ None = search rules in
    let text : string_bytes c.in_ok-from_str.field-0 ≡ c.args.path.now = search rules in
    let stays : c.get_mut.follows.lender-at-none ≡ c.args.totals.now = c.get_mut.follows.holds-at-none in
    counted c.args.totals.now c.insert.new.self c.args.path.now c.args.line c.args.count c.add_to_line-2.new.lines
    (first_line c.args.totals.now c.args.path.now c.args.line c.args.count c.new-lines.result c.add_to_line-2.new.lines none c.new-lines.ensures.empty c.in_ok-add_to_line.ensures)
    (λ p.
    btree_map_updates_text (string_bytes c.in_ok-from_str.field-0) c.get_mut.follows.lender-at-none c.insert.new.self (Some c.add_to_line-2.new.lines) c.in_ok-insert.ensures.updates p
    ∙ ap (λ bs. update bytes_eq (get_by_text c.get_mut.follows.lender-at-none) bs (Some c.add_to_line-2.new.lines) p) text
    ∙ ap (λ m. update bytes_eq (get_by_text m) c.args.path.now (Some c.add_to_line-2.new.lines) p) stays)
