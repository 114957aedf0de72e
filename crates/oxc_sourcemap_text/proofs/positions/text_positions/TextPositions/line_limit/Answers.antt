use Rattle.std.proofs.Common.{◌≡◌, ◌+◌, length, slice_get, Some, None, arith}
use Rattle.std.proofs.lemmas.Grind.{common_steps}
use Rattle.oxc_sourcemap_text.specs.TextLines.{units_of, text_lines}
use Rattle.oxc_sourcemap_text.specs.Scans.{starts_from}
use Rattle.oxc_sourcemap_text.proofs.Starts.{text-whole}
use Rattle.oxc_sourcemap_text.proofs.Calls.{start-count, limit-next, limit-none}
use Rattle.oxc_sourcemap_text.proofs.positions.text_positions.TextPositions.line_limit.Goals as goal

pub overflow_add-line : goal.overflow_add-line
overflow_add-line c =
    let lines = text_lines c.args.self.now in
    let is : c.as_slice.result.now ≡ starts_from 0 lines = cc in
    let count = start-count lines c.as_slice.result.now is in
    grind (arith, common_steps, count)

pub returns-in-Some : goal.returns-in-Some
returns-in-Some c =
    let lines = text_lines c.args.self.now in
    let is : c.as_slice.result.now ≡ starts_from 0 lines = cc in
    let found : slice_get c.as_slice.result.now (c.args.line + 1) ≡ Some c.in-Some.next = cc in
    let limit = limit-next lines c.args.line c.in-Some.next c.as_slice.result.now is found in
    cc

pub returns-in-None : goal.returns-in-None
returns-in-None c =
    let lines = text_lines c.args.self.now in
    let is : c.as_slice.result.now ≡ starts_from 0 lines = cc in
    let none : slice_get c.as_slice.result.now (c.args.line + 1) ≡ None = cc in
    let limit = limit-none lines c.args.line c.as_slice.result.now is c.requires none in
    let whole = text-whole c.args.self.now in
    let size : c.self.inside.len ≡ length (units_of c.args.self.now) = cc in
    omega (arith, limit, whole, size)
