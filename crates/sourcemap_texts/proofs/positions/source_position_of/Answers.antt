use Rattle.std.proofs.Common.{◌≡◌, None, lit<, rules}
use Rattle.sourcemap_texts.proofs.LastCuts.{last_parts, no_colon_at_all, no_second_colon}
use Rattle.sourcemap_texts.proofs.LastCuts.{no_line_number, no_column_number, whole}
use Rattle.sourcemap_texts.proofs.positions.source_position_of.Goals as goal

pub returns-in_err-rest : goal.returns-in_err-rest
returns-in_err-rest c =
    let cut = rw c.in_err-rest.was at (last_parts 58 c.args.word.now c.rsplit_once.result c.rsplit_once.ensures.cases (lit< tt)) in
    let none : c.from_residual.result ≡ None = search rules in
    rw none (no_colon_at_all c.args.base c.args.word.now cut)

pub returns-in_err-source : goal.returns-in_err-source
returns-in_err-source c =
    let cut = rw c.in_ok-rest.was at (last_parts 58 c.args.word.now c.rsplit_once.result c.rsplit_once.ensures.cases (lit< tt)) in
    let second = rw c.in_err-source.was at (last_parts 58 c.in_ok-rest.rest.now c.rsplit_once-2.result c.rsplit_once-2.ensures.cases (lit< tt)) in
    let none : c.from_residual-in_err-source.result ≡ None = search rules in
    rw none (no_second_colon c.args.base c.args.word.now c.in_ok-rest.rest.now c.in_ok-rest.column.now cut.0 cut.1 second)

pub returns-in_err-number_of : goal.returns-in_err-number_of
returns-in_err-number_of c =
    let cut = rw c.in_ok-rest.was at (last_parts 58 c.args.word.now c.rsplit_once.result c.rsplit_once.ensures.cases (lit< tt)) in
    let second = rw c.in_ok-source.was at (last_parts 58 c.in_ok-rest.rest.now c.rsplit_once-2.result c.rsplit_once-2.ensures.cases (lit< tt)) in
    let none : c.from_residual-in_err-number_of.result ≡ None = search rules in
    rw none
    (no_line_number c.args.base c.args.word.now c.in_ok-rest.rest.now c.in_ok-rest.column.now cut.0 cut.1 c.in_ok-source.source.now c.in_ok-source.line.now second.0 second.1
    (rw c.in_err-number_of.was at c.number_of.ensures))

pub returns-in_err-number_of-2 : goal.returns-in_err-number_of-2
returns-in_err-number_of-2 c =
    let cut = rw c.in_ok-rest.was at (last_parts 58 c.args.word.now c.rsplit_once.result c.rsplit_once.ensures.cases (lit< tt)) in
    let none : c.from_residual-in_err-number_of-2.result ≡ None = search rules in
    rw none
    (no_column_number c.args.base c.args.word.now c.in_ok-rest.rest.now c.in_ok-rest.column.now cut.0 cut.1 (rw c.in_err-number_of-2.was at c.number_of-2.ensures))

pub returns : goal.returns
returns c =
    let cut = rw c.in_ok-rest.was at (last_parts 58 c.args.word.now c.rsplit_once.result c.rsplit_once.ensures.cases (lit< tt)) in
    let second = rw c.in_ok-source.was at (last_parts 58 c.in_ok-rest.rest.now c.rsplit_once-2.result c.rsplit_once-2.ensures.cases (lit< tt)) in
    record {
      line = c.in_ok-source.line.now;
      column = c.in_ok-rest.column.now;
      parts = whole c.args.base c.args.word.now c.in_ok-rest.rest.now c.in_ok-rest.column.now cut.0 cut.1 c.in_ok-source.source.now c.in_ok-source.line.now second.0 second.1;
      is_line = rw c.in_ok-number_of.was at c.number_of.ensures;
      is_column = rw c.in_ok-number_of-2.was at c.number_of-2.ensures;
    }
