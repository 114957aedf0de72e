use Rattle.std.proofs.Common.{◌≡◌, ◌+◌, ◌≤◌, ◌∙◌, sym, length, slice_get, Some, None, arith}
use Rattle.std.proofs.lemmas.Grind.{common_steps}
use Rattle.oxc_sourcemap_text.specs.TextLines.{units_of, text_lines}
use Rattle.oxc_sourcemap_text.specs.Positions.{line_start}
use Rattle.oxc_sourcemap_text.specs.Scans.{starts_from}
use Rattle.oxc_sourcemap_text.proofs.Inverse.{at-offset}
use Rattle.oxc_sourcemap_text.proofs.Calls.{start-count, past-none, offset-no_line, offset-past}
use Rattle.oxc_sourcemap_text.proofs.Calls.{offset-inside, there-some, within-text}
use Rattle.oxc_sourcemap_text.proofs.positions.text_positions.TextPositions.offset.Goals as goal

pub returns-in_default : goal.returns-in_default
returns-in_default c =
    let lines = text_lines c.args.self.now in
    let is : c.as_slice.result.now ≡ starts_from 0 lines = cc in
    let none : slice_get c.as_slice.result.now c.args.line ≡ None = grind (arith, common_steps) in
    let past : length lines ≤ c.args.line = omega (arith, past-none c.as_slice.result.now c.args.line none, start-count lines c.as_slice.result.now is) in
    sym (offset-no_line c.args.self.now c.args.line c.args.col past)

pub line_limit-requires : goal.line_limit-requires
line_limit-requires c =
    let text = c.args.self.now in
    let is : c.as_slice.result.now ≡ starts_from 0 (text_lines text) = cc in
    let some : slice_get c.as_slice.result.now c.args.line ≡ Some c.in-Some.start = cc in
    let found = there-some (text_lines text) c.args.line c.in-Some.start c.as_slice.result.now is some in
    found.0

pub returns-then-offset-line_limit : goal.returns-then-offset-line_limit
returns-then-offset-line_limit c =
    let text = c.args.self.now in
    let is : c.as_slice.result.now ≡ starts_from 0 (text_lines text) = cc in
    let some : slice_get c.as_slice.result.now c.args.line ≡ Some c.in-Some.start = cc in
    let found = there-some (text_lines text) c.args.line c.in-Some.start c.as_slice.result.now is some in
    sym (offset-past text c.args.line c.args.col found.0 (omega (arith, found.1, c.line_limit.ensures)))

pub overflow_cast-offset : goal.overflow_cast-offset
overflow_cast-offset c =
    let text = c.args.self.now in
    let is : c.as_slice.result.now ≡ starts_from 0 (text_lines text) = cc in
    let some : slice_get c.as_slice.result.now c.args.line ≡ Some c.in-Some.start = cc in
    let found = there-some (text_lines text) c.args.line c.in-Some.start c.as_slice.result.now is some in
    let end = within-text text c.args.line c.args.col found.0 (omega (arith, found.1, c.line_limit.ensures)) in
    let size : c.self.inside.len ≡ length (units_of text) = cc in
    let small = c.self.invariant.small in
    let few : c.from.result + c.from-2.result ≤ 4294967295 = omega (arith, found.1, end, size, small) in
    grind (arith, few)

pub returns-then-is_inside_pair : goal.returns-then-is_inside_pair
returns-then-is_inside_pair c =
    let text = c.args.self.now in
    let is : c.as_slice.result.now ≡ starts_from 0 (text_lines text) = cc in
    let some : slice_get c.as_slice.result.now c.args.line ≡ Some c.in-Some.start = cc in
    let found = there-some (text_lines text) c.args.line c.in-Some.start c.as_slice.result.now is some in
    let sum : line_start (text_lines text) c.args.line + c.args.col ≡ c.from.result + c.from-2.result = omega (arith, found.1) in
    sym (offset-inside text c.args.line c.args.col (c.from.result + c.from-2.result) found.0 sum (omega (arith, c.line_limit.ensures)) (sym c.is_inside_pair.ensures ∙ c.if-is_inside_pair.true))

pub overflow_cast-result : goal.overflow_cast-result
overflow_cast-result c =
    let text = c.args.self.now in
    let is : c.as_slice.result.now ≡ starts_from 0 (text_lines text) = cc in
    let some : slice_get c.as_slice.result.now c.args.line ≡ Some c.in-Some.start = cc in
    let found = there-some (text_lines text) c.args.line c.in-Some.start c.as_slice.result.now is some in
    let end = within-text text c.args.line c.args.col found.0 (omega (arith, found.1, c.line_limit.ensures)) in
    let size : c.self.inside.len ≡ length (units_of text) = cc in
    let small = c.self.invariant.small in
    let few : c.from.result + c.from-2.result ≤ 4294967295 = omega (arith, found.1, end, size, small) in
    grind (arith, few)

pub returns : goal.returns
returns c =
    let text = c.args.self.now in
    let is : c.as_slice.result.now ≡ starts_from 0 (text_lines text) = cc in
    let some : slice_get c.as_slice.result.now c.args.line ≡ Some c.in-Some.start = cc in
    let found = there-some (text_lines text) c.args.line c.in-Some.start c.as_slice.result.now is some in
    let sum : line_start (text_lines text) c.args.line + c.args.col ≡ c.from.result + c.from-2.result = omega (arith, found.1) in
    sym (at-offset text (c.from.result + c.from-2.result) c.args.line c.args.col (record {
      there = found.0;
      column = omega (arith, found.1, c.line_limit.ensures);
      apart = sym c.is_inside_pair.ensures ∙ c.if-is_inside_pair.false;
      sum = sum;
    }))
