use Rattle.std.proofs.Common.{◌≡◌, ◌+◌, ◌≤◌, ◌∙◌, ap, sym, subst, map-id, length, take, get_or}
use Rattle.std.proofs.Common.{arith}
use Rattle.std.specs.List.{flat_map}
use Rattle.std.specs.Char.Escape.{encode_utf16}
use Rattle.std.specs.Str.{chars}
use Rattle.std.proofs.lemmas.Grind.{common_steps}
use Rattle.std.proofs.lemmas.Iterator.{YieldsList-from_chars}
use Rattle.std.proofs.lemmas.Iterator.Consumers.{YieldsList-end, YieldsList-so_far, YieldsList-turn}
use Rattle.oxc_sourcemap_text.specs.TextLines.{units_of}
use Rattle.oxc_sourcemap_text.specs.Scans.{IsScan}
use Rattle.oxc_sourcemap_text.proofs.Steps.{units-front}
use Rattle.oxc_sourcemap_text.proofs.positions.scan.read_all.Goals as goal

pub returns : goal.returns
returns c =
    let end = YieldsList-end (YieldsList-from_chars c.args.text.now c.utf8.text cc) c.loop-ch.yielded _ c.loop-ch.yielded_by _ _ c.in-None.is c.next.ensures.steps in
    let scan : IsScan (units_of c.args.text.now) c.loop-ch.scan = subst (λ cs. IsScan (flat_map encode_utf16 cs) c.loop-ch.scan) (sym (map-id c.loop-ch.yielded) ∙ end.0) c.loop-ch.invariant in
    record { scan = scan; error = tt }

pub returns-in_err-read-clause-error : goal.returns-in_err-read-clause-error
returns-in_err-read-clause-error c =
    let chain = YieldsList-from_chars c.args.text.now c.utf8.text cc in
    let all = chars c.args.text.now in
    let n = length c.loop-ch.yielded in
    let ch = c.in-Some.ch in
    let turn = YieldsList-turn chain c.loop-ch.yielded _ c.loop-ch.yielded_by _ _ ch c.in-Some.is c.next.ensures.steps in
    let so_far = YieldsList-so_far chain c.loop-ch.yielded _ c.loop-ch.yielded_by in
    let front : c.loop-ch.yielded ≡ take n all = sym (map-id c.loop-ch.yielded) ∙ so_far in
    let more = units-front all n ch turn.0 in
    let here : length (encode_utf16 ch) ≡ length (encode_utf16 (get_or all n ch)) = ap (λ d. length (encode_utf16 d)) turn.1 in
    let before : c.loop-ch.scan.len ≡ length (flat_map encode_utf16 (take n all)) = c.loop-ch.invariant.size ∙ ap (λ cs. length (flat_map encode_utf16 cs)) front in
    let fits : c.loop-ch.scan.len + length (encode_utf16 ch) ≤ length (units_of c.args.text.now) = omega (arith, more, here, before) in
    grind (arith, common_steps, fits)
