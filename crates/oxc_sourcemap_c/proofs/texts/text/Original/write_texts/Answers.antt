use Rattle.std.proofs.Common.{refl, arith}
use Rattle.std.proofs.lemmas.Grind.{common_steps}
use Rattle.oxc_sourcemap_tokens.specs.Results.{lent_item}
use Rattle.oxc_sourcemap_map.specs.View.{view_of}
use Rattle.oxc_sourcemap_map.proofs.Picks.{tuple_says}
use Rattle.oxc_sourcemap_c.proofs.texts.text.Original.write_texts.Goals as goal

pub returns-in-Some-get_name-clause-original : goal.returns-in-Some-get_name-clause-original
returns-in-Some-get_name-clause-original c = λ line col.
    let view = view_of c.args.view.now in
    let says = tuple_says view (lent_item c.get_source.result) view.token.src_line view.token.src_col (lent_item c.get_name.result) c.get_source.ensures refl refl c.get_name.ensures in
    grind (arith, common_steps, says, line, col)

pub returns-in-None-get_name-clause-original : goal.returns-in-None-get_name-clause-original
returns-in-None-get_name-clause-original c = λ line col.
    let view = view_of c.args.view.now in
    let says = tuple_says view (lent_item c.get_source.result) view.token.src_line view.token.src_col (lent_item c.get_name.result) c.get_source.ensures refl refl c.get_name.ensures in
    grind (arith, common_steps, says, line, col)

pub returns-in-None-clause-original : goal.returns-in-None-clause-original
returns-in-None-clause-original c = λ line col.
    let view = view_of c.args.view.now in
    let says = tuple_says view (lent_item c.get_source.result) view.token.src_line view.token.src_col (lent_item c.get_name-in-None.result) c.get_source.ensures refl refl c.get_name-in-None.ensures in
    grind (arith, common_steps, says, line, col)
