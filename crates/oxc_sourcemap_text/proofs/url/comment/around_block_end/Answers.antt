use Rattle.std.proofs.Common.{sym, arith}
use Rattle.oxc_sourcemap_text.proofs.Blocks.{block-missing, block-found, back-utf8, front-utf8}
use Rattle.oxc_sourcemap_text.proofs.Blocks.{block-whole}
use Rattle.oxc_sourcemap_text.proofs.url.comment.around_block_end.Goals as goal

pub returns-in-Some-clause-parts : goal.returns-in-Some-clause-parts
returns-in-Some-clause-parts c =
    let found = c.in-Some.ensures.cases in
    rw (found.3, found.4)
    (sym (block-found c.args.text.now found.0 found.1 c.utf8.text (omega (arith, found.5, found.7)) found.2.0 found.2.1))

pub returns-in-Some-clause-utf8 : goal.returns-in-Some-clause-utf8
returns-in-Some-clause-utf8 c =
    let found = c.in-Some.ensures.cases in
    rw found.4 (back-utf8 c.args.text.now found.0 found.1 c.utf8.text found.2.1)

pub returns-in-None-clause-parts : goal.returns-in-None-clause-parts
returns-in-None-clause-parts c = sym (block-missing c.args.text.now c.utf8.text c.in-None.ensures.cases)

pub returns-in-Some-clause-whole : goal.returns-in-Some-clause-whole
returns-in-Some-clause-whole c =
    let found = c.in-Some.ensures.cases in
    rw (found.3, found.4) (block-whole c.args.text.now found.0 found.1 found.2.1)

pub returns-in-Some-clause-front : goal.returns-in-Some-clause-front
returns-in-Some-clause-front c =
    let found = c.in-Some.ensures.cases in
    rw found.3 (front-utf8 c.args.text.now found.0 found.1 c.utf8.text found.2.1)
