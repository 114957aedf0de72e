use Rattle.std.proofs.Common.{◌∙◌, sym, Some, None, arith}
use Rattle.std.proofs.lemmas.Str.Pattern.{strip_prefix_char}
use Rattle.sourcemap_texts.proofs.OwnFolder.{only_behind, in_no_folder}
use Rattle.sourcemap_texts.proofs.matching.ends_in_folder.Goals as goal

pub returns-else-eq : goal.returns-else-eq
returns-else-eq c =
    let own = strip_prefix_char 47 c.args.own.now (Some c.in-Some.bare) c.in-Some.ensures.cases (omega arith) in
    c.ends_with.ensures ∙ only_behind c.args.own.now c.in-Some.bare.now c.args.prefix.now own (sym c.eq.ensures ∙ c.if-eq.false)

pub returns-in-None : goal.returns-in-None
returns-in-None c = in_no_folder c.args.own.now c.args.prefix.now (strip_prefix_char 47 c.args.own.now None c.in-None.ensures.cases (omega arith))
