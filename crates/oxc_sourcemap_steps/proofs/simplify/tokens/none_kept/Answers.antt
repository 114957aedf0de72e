use Rattle.std.proofs.Common.{◌≡◌, ◌∙◌, sym, arith, map, length}
use Rattle.std.proofs.lemmas.List.{length-map}
use Rattle.oxc_sourcemap_steps.specs.SimplifySteps.{listed_once}
use Rattle.oxc_sourcemap_steps.proofs.NewIds.{no-new-ids}
use Rattle.oxc_sourcemap_steps.proofs.simplify.tokens.none_kept.Goals as goal

pub returns-clause-numbers : goal.returns-clause-numbers
returns-clause-numbers c =
    let tables = c.args.tables.now in
    let sources = c.in_ok-no_ids.ensures in
    let names = c.in_ok-no_ids-2.ensures in
    let one : c.len.result ≡ length tables.sources.items = omega (arith, c.len.ensures, tables.sources.ok.0) in
    let two : c.len-2.result ≡ length tables.names.items = omega (arith, c.len-2.ensures, tables.names.ok.0) in record {
      sources = no-new-ids tables.sources.items c.in_ok-no_ids.field-0 c.len.result one sources.numbering sources.count sources.len sources.last sources.unknown;
      names = no-new-ids (map listed_once tables.names.items) c.in_ok-no_ids-2.field-0 c.len-2.result (two ∙ sym (length-map tables.names.items listed_once)) names.numbering names.count names.len names.last names.unknown;
    }
