use Rattle.std.proofs.Common.{◌≡◌, arith, ap, ◌∙◌, length, map, string_bytes}
use Rattle.std.proofs.lemmas.Grind.{common_steps}
use Rattle.oxc_sourcemap_json.specs.JsonRecord.{json_ids}
use Rattle.oxc_sourcemap_json.proofs.ReadPlaces.{entry_place}
use Rattle.oxc_sourcemap_json.proofs.read.decode.json_fault.Goals as goal

pub returns-clause-place : goal.returns-clause-place
returns-clause-place c = λ _.
    let size : c.len.result ≡ length (map string_bytes c.args.json.now.sources.items) = grind (arith, common_steps, c.len.ensures) in
    c.list_fault.ensures.place ∙ ap (λ n. entry_place c.args.ignored n (json_ids c.args.json.now.ignore_list)) size
