use Rattle.std.proofs.Common.{◌≡◌, ◌-◌, ◌≤◌, ◌∙◌, ap, sym, length, arith}
use Rattle.std.proofs.lemmas.Grind.{common_steps}
use Rattle.oxc_sourcemap_text.specs.TextLines.{units_of, text_lines}
use Rattle.oxc_sourcemap_text.specs.Positions.{line_start, line_of}
use Rattle.oxc_sourcemap_text.specs.Scans.{starts_from}
use Rattle.oxc_sourcemap_text.proofs.Starts.{lines-few}
use Rattle.oxc_sourcemap_text.proofs.Inverse.{found-at, at-position}
use Rattle.oxc_sourcemap_text.proofs.Calls.{start-count, start-at, position-past, position-inside}
use Rattle.oxc_sourcemap_text.proofs.positions.text_positions.TextPositions.position.Goals as goal

pub returns-then-offset-self : goal.returns-then-offset-self
returns-then-offset-self c =
    let size : c.self.inside.len ≡ length (units_of c.args.self.now) = cc in
    sym (position-past c.args.self.now c.args.offset (omega (arith, size)))

pub returns-then-is_inside_pair : goal.returns-then-is_inside_pair
returns-then-is_inside_pair c =
    let size : c.self.inside.len ≡ length (units_of c.args.self.now) = cc in
    sym (position-inside c.args.self.now c.args.offset (omega (arith, size)) (sym c.is_inside_pair.ensures ∙ c.if-is_inside_pair.true))

pub overflow_cast-result : goal.overflow_cast-result
overflow_cast-result c =
    let size : c.self.inside.len ≡ length (units_of c.args.self.now) = cc in
    let few = lines-few (units_of c.args.self.now) in
    grind (arith, common_steps, size, few)

pub bounds-starts-line : goal.bounds-starts-line
bounds-starts-line c =
    let lines = text_lines c.args.self.now in
    let is : c.as_slice-starts.result.now ≡ starts_from 0 lines = cc in
    let count = start-count lines c.as_slice-starts.result.now is in
    grind (arith, common_steps, count)

pub offset_bounds-starts-line : goal.offset_bounds-starts-line
offset_bounds-starts-line c =
    let size : c.self.inside.len ≡ length (units_of c.args.self.now) = cc in
    let few = lines-few (units_of c.args.self.now) in
    let small : c.line_of-line.result ≤ 4294967296 = omega (arith, size, few, c.self.invariant.small, c.line_of-line.ensures.within) in
    grind (arith, small)

pub overflow_sub-result : goal.overflow_sub-result
overflow_sub-result c =
    let text = c.args.self.now in
    let lines = text_lines text in
    let size : c.self.inside.len ≡ length (units_of text) = cc in
    let is : c.as_slice-starts.result.now ≡ starts_from 0 lines = cc in
    let found = found-at text c.args.offset (omega (arith, size)) (sym c.is_inside_pair.ensures ∙ c.if-is_inside_pair.false) in
    let begins = start-at lines c.as_slice-starts.result.now c.line_of-line.result is c.line_of-line.ensures.within in
    let same : line_start lines c.line_of-line.result ≡ line_start lines (line_of lines c.args.offset) = ap (line_start lines) c.line_of-line.ensures.line in
    omega (arith, begins, same, found.sum)

pub returns : goal.returns
returns c =
    let text = c.args.self.now in
    let lines = text_lines text in
    let size : c.self.inside.len ≡ length (units_of text) = cc in
    let is : c.as_slice-starts.result.now ≡ starts_from 0 lines = cc in
    let found = found-at text c.args.offset (omega (arith, size)) (sym c.is_inside_pair.ensures ∙ c.if-is_inside_pair.false) in
    let begins = start-at lines c.as_slice-starts.result.now c.line_of-line.result is c.line_of-line.ensures.within in
    let answer = at-position text c.args.offset (line_of lines c.args.offset) (c.args.offset - line_start lines (line_of lines c.args.offset)) found in
    let line = c.line_of-line.ensures.line in
    rw (begins, line) (sym answer)
