use Rattle.std.proofs.Common.{◌∙◌, lit<}
use Rattle.std.proofs.lemmas.Str.Pattern.{starts_char}
use Rattle.oxc_sourcemap_plan.proofs.Digits.{number_of-parse}
use Rattle.oxc_sourcemap_plan.proofs.numbers.read_number.Goals as goal

pub returns : goal.returns
returns c =
    let first = starts_char 43 c.args.argument.now c.starts_with.result c.starts_with.ensures.cases (lit< tt) (lit< tt) in
    c.ok.ensures.value ∙ number_of-parse c.args.argument.now c.parse.result (λ plus. let t = first.1 plus in cc) c.parse.ensures.value.0
