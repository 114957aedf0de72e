use Rattle.std.proofs.Common.{◌∙◌, sym, ap, ap₂, subst, arith, length, take, drop, ◌+◌, ◌-◌}
use Rattle.std.proofs.lemmas.List.{length-map}
use Rattle.std.proofs.lemmas.Result.{IfOk-weaker}
use Rattle.oxc_sourcemap_tokens.specs.Results.{lent_items}
use Rattle.sourcemap_texts.specs.Paths.{climbing, way, LeadsTo}
use Rattle.sourcemap_texts.proofs.LentTexts.{lent_rest}
use Rattle.sourcemap_texts.proofs.Ways.{leads_from}
use Rattle.sourcemap_texts.proofs.paths.path_from.Goals as goal

pub returns : goal.returns
returns c =
    let base = c.args.base.now in
    let parts = c.args.place.now.parts.items in
    let above = c.args.place.now.above.len in
    let shared = c.shared_count-shared.result in
    let long = length-map base (λ x. x.now) in
    let up = ap₂ (λ m n. m + (n - shared)) c.len.ensures (sym long) in
    let rest = ap (λ l. lent_items (take (length l - shared) (drop shared l))) c.as_slice.ensures.value ∙ lent_rest parts shared in
    IfOk-weaker c.climbing_path.result _ _
    (λ path text names.
    subst (LeadsTo (lent_items base) (way c.args.place.now)) (sym (text ∙ ap₂ climbing up rest))
    (leads_from (lent_items base) (lent_items parts) shared above names (omega (arith, long, c.shared_count-shared.ensures.within.0))
    c.shared_count-shared.ensures.same c.shared_count-shared.ensures.above c.shared_count-shared.ensures.apart))
    c.climbing_path.ensures
