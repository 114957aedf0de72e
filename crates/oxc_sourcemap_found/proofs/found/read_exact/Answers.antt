use Rattle.std.proofs.Common.{List, ap, sym, ◌∙◌, Ok}
use Rattle.oxc_sourcemap_parts.specs.Views.{record_of_parts}
use Rattle.oxc_sourcemap_found.specs.declared.mending.mend.Mend.{Mend}
use Rattle.oxc_sourcemap_found.specs.FoundMaps.{found_record, in_order}
use Rattle.oxc_sourcemap_found.proofs.Reader.{exact-sorted}
use Rattle.oxc_sourcemap_found.proofs.found.read_exact.Goals as goal

pub returns-in_ok-in_order-in-Ok : goal.returns-in_ok-in_order-in-Ok
returns-in_ok-in_order-in-Ok c =
    let r = record_of_parts c.in-Ok.parts in
    exact-sorted c.args.text.now r c.in-Ok.ensures.0
    ∙ ap (λ (mends : List Mend). Ok (in_order (found_record mends r))) (sym c.new.ensures.items)
    ∙ ap (λ f. Ok f) (sym c.in_ok-in_order-in-Ok.ensures)
