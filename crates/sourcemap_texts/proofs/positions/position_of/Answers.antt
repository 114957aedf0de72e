use Rattle.std.proofs.Common.{◌≡◌, None, lit<, rules}
use Rattle.std.proofs.lemmas.Str.Pattern.{split_once_first}
use Rattle.sourcemap_texts.proofs.Numerals.{no_line, no_column}
use Rattle.sourcemap_texts.proofs.positions.position_of.Goals as goal

pub returns-in_err-number_of : goal.returns-in_err-number_of
returns-in_err-number_of c =
    let halves = rw c.in_ok-line.was at (split_once_first 58 c.args.word.now c.split_once.result c.split_once.ensures.cases (lit< tt)) in
    let none : c.from_residual-in_err-number_of.result ≡ None = search rules in
    rw none (no_line c.args.base c.args.word.now c.in_ok-line.line.now halves.1 (rw c.in_err-number_of.was at c.number_of.ensures))

pub returns-in_err-number_of-2 : goal.returns-in_err-number_of-2
returns-in_err-number_of-2 c =
    let halves = rw c.in_ok-line.was at (split_once_first 58 c.args.word.now c.split_once.result c.split_once.ensures.cases (lit< tt)) in
    let none : c.from_residual-in_err-number_of-2.result ≡ None = search rules in
    rw none (no_column c.args.base c.args.word.now c.in_ok-line.column.now halves.2 (rw c.in_err-number_of-2.was at c.number_of-2.ensures))
