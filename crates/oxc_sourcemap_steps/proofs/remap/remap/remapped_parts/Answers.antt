use Rattle.std.proofs.Common.{◌≡◌, ◌∙◌, ◌<◌, sym, ap, subst, length, List}
use Rattle.std.proofs.lemmas.Result.{err_from_is_err_and}
use Rattle.oxc_sourcemap_parts.specs.Record.{Text, MapRecord}
use Rattle.oxc_sourcemap_parts.specs.Views.{record_of_parts}
use Rattle.oxc_sourcemap_steps.specs.Blocks.{remapped_sources}
use Rattle.oxc_sourcemap_steps.specs.RemapSteps.{ready_records, AreBlocks, AreUsable, put_together}
use Rattle.oxc_sourcemap_steps.specs.RemapSteps.{names_in}
use Rattle.oxc_sourcemap_steps.specs.Inputs.{input_records, decoded_inputs}
use Rattle.oxc_sourcemap_steps.specs.Remapped.{listed_sources}
use Rattle.oxc_sourcemap_steps.specs.declared.remap.blocks.Block.{Block}
use Rattle.oxc_sourcemap_steps.proofs.Gathered.{at-fault, too-many-sources, too-many-names}
use Rattle.oxc_sourcemap_steps.proofs.Gathered.{is-remapped}
use Rattle.oxc_sourcemap_steps.proofs.SourceBlocks.{are-usable}
use Rattle.oxc_sourcemap_steps.proofs.remap.remap.remapped_parts.Goals as goal

-- the blocks of a map, and their number, by the inputs as they were lent
module _ (ready inputs : List (Text × MapRecord)) (a : MapRecord) (same : ready ≡ inputs) where
  blocks-by : (bs : List Block) → AreBlocks ready a bs → AreBlocks inputs a bs
  blocks-by bs h = subst (λ is. AreBlocks is a bs) same h

  past-by : 4294967295 < length (remapped_sources (decoded_inputs ready) (listed_sources a)) → 4294967295 < length (remapped_sources (decoded_inputs inputs) (listed_sources a))
  past-by h = subst (λ is. 4294967295 < length (remapped_sources (decoded_inputs is) (listed_sources a))) same h

pub returns-in_err-ready-clause-error : goal.returns-in_err-ready-clause-error
returns-in_err-ready-clause-error g c =
    let p = err_from_is_err_and c.from_residual.result c.from_residual.ensures.1 in
    rw (p.1, p.2) (λ other. at-fault (record_of_parts c.args.map.now) (input_records g.M.AsParts.as_record c.args.inputs.now) _ (c.in_err-ready.ensures.error other))

pub returns-in_err-blocks-clause-error : goal.returns-in_err-blocks-clause-error
returns-in_err-blocks-clause-error g c =
    let a = record_of_parts c.args.map.now in
    let inputs = input_records g.M.AsParts.as_record c.args.inputs.now in
    let same = ap ready_records c.as_slice-2.ensures.value ∙ c.in_ok-ready.ensures.inputs in
    let p = err_from_is_err_and c.from_residual-in_err-blocks.result c.from_residual-in_err-blocks.ensures.1 in
    rw (p.1, p.2) (λ other.
    let r = c.in_err-blocks.ensures.error other in
    rw r.0 (too-many-sources a inputs c.in_ok-ready.ensures.well (past-by _ inputs a same r.1)))

pub remapped_tokens-requires : goal.remapped_tokens-requires
remapped_tokens-requires g c =
    let a = record_of_parts c.args.map.now in
    let inputs = input_records g.M.AsParts.as_record c.args.inputs.now in
    let bs = c.in_ok-blocks.blocks.items in
    let same = ap ready_records c.as_slice-2.ensures.value ∙ c.in_ok-ready.ensures.inputs in
    subst AreUsable (sym c.as_slice-5.ensures.value) (are-usable inputs a bs (blocks-by _ inputs a same bs c.in_ok-blocks.ensures.made))

pub returns-in_err-tokens-clause-error : goal.returns-in_err-tokens-clause-error
returns-in_err-tokens-clause-error g c =
    let a = record_of_parts c.args.map.now in
    let inputs = input_records g.M.AsParts.as_record c.args.inputs.now in
    let bs = c.in_ok-blocks.blocks.items in
    let same = ap ready_records c.as_slice-2.ensures.value ∙ c.in_ok-ready.ensures.inputs in
    let p = err_from_is_err_and c.from_residual-in_err-tokens.result c.from_residual-in_err-tokens.ensures.1 in
    rw (p.1, p.2) (λ other.
    let r = rw (c.as_slice-3.ensures.value, c.as_slice-4.ensures.value, c.as_slice-5.ensures.value) at c.in_err-tokens.ensures.error other in
    rw r.0 (too-many-names a inputs bs (blocks-by _ inputs a same bs c.in_ok-blocks.ensures.made) c.in_ok-ready.ensures.well r.1 r.2 r.3))

pub put_together-requires : goal.put_together-requires
put_together-requires g c =
    let a = record_of_parts c.args.map.now in
    let inputs = input_records g.M.AsParts.as_record c.args.inputs.now in
    let bs = c.in_ok-blocks.blocks.items in
    let same = ap ready_records c.as_slice-2.ensures.value ∙ c.in_ok-ready.ensures.inputs in
    subst AreUsable (sym c.as_slice-6.ensures.value) (are-usable inputs a bs (blocks-by _ inputs a same bs c.in_ok-blocks.ensures.made))

pub returns-clause-made : goal.returns-clause-made
returns-clause-made g c =
    let a = record_of_parts c.args.map.now in
    let inputs = input_records g.M.AsParts.as_record c.args.inputs.now in
    let bs = c.in_ok-blocks.blocks.items in
    let tokens = c.in_ok-tokens.tokens.items in
    let names = names_in c.in_ok-tokens.needed in
    let same = ap ready_records c.as_slice-2.ensures.value ∙ c.in_ok-ready.ensures.inputs in
    let r = rw (c.as_slice-3.ensures.value, c.as_slice-4.ensures.value, c.as_slice-5.ensures.value) at c.in_ok-tokens.ensures.made in
    is-remapped a inputs bs (blocks-by _ inputs a same bs c.in_ok-blocks.ensures.made) c.in_ok-ready.ensures.well r.0 tokens names _ r.1 r.2 r.3 r.4
    (c.in_ok-put_together.ensures ∙ ap (λ (bs : List Block). put_together a bs tokens names) c.as_slice-6.ensures.value)
