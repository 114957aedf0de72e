use Rattle.std.proofs.Common.{◌≡◌, ◌+◌, ◌∙◌, arith, refl, sym, ap, subst, take, drop, length}
use Rattle.std.proofs.lemmas.List.{take-append-drop, length-take-le}
use Rattle.oxc_sourcemap_tokens.specs.declared.errors.fault.FaultPlace.{FaultPlace}
use Rattle.oxc_sourcemap_json.specs.TextBytes.{line_start, line_feeds}
use Rattle.oxc_sourcemap_json.specs.ValuePlaces.{IsBytePlaceFrom}
use Rattle.oxc_sourcemap_json.proofs.TextBytes.{front-start}
use Rattle.oxc_sourcemap_json.proofs.read.reading.reading_place.Goals as goal

pub returns : goal.returns
returns c =
    let text = c.args.text.now in
    let byte = c.args.byte in
    let found = c.lines_and_rest-line in
    let front : take byte c.as_bytes.result.now ≡ take byte text = ap (take byte) c.as_bytes.ensures.value in
    let line : found.result.0 ≡ line_feeds (take byte text) = found.ensures.lines ∙ ap line_feeds front in
    let begins : line_start text found.result.0 ≡ line_start (take byte c.as_bytes.result.now) found.result.0 =
    rw line (ap (λ xs. line_start xs (line_feeds (take byte text))) (sym (take-append-drop byte text)) ∙ front-start (take byte text) (drop byte text)
    ∙ ap (λ xs. line_start xs (line_feeds (take byte text))) (sym front)) in
    let size : length (take byte c.as_bytes.result.now) ≡ byte = ap length front ∙ length-take-le byte text c.requires in
    let sum : line_start text found.result.0 + found.result.1 ≡ byte = omega (arith, begins, found.ensures.rest, size) in
    subst (IsBytePlaceFrom byte text) (sym c.new.ensures) (refl, refl, (omega arith, (c.requires, line, sum)))
