use Rattle.std.proofs.Common.{◌≡◌, ◌+◌, ◌-◌, ◌<◌, ◌++◌, ◌∷◌, [], ◌∙◌, Some, IsCharBoundary, drop}
use Rattle.std.proofs.Common.{take, get_or, string_bytes, sym, ap, subst, arith}
use Rattle.std.proofs.lemmas.List.{get_or_default}
use Rattle.std.proofs.lemmas.Str.{IsCharBoundary-after_ascii}
use Rattle.std.specs.List.{prefix_len}
use Rattle.json.specs.Text.{short_escape}
use Rattle.json.specs.Lex.{between, lex}
use Rattle.oxc_sourcemap_json.specs.PlainReader.{is_plain}
use Rattle.oxc_sourcemap_json.proofs.PlainTokens.{ReadSoFar, run_read, quote_read, escape_read}
use Rattle.oxc_sourcemap_json.proofs.PlainTokens.{escape_within}
use Rattle.oxc_sourcemap_json.proofs.object.plain.escaped_text.Goals as goal

pub returns-then-byte-eq34 : goal.returns-then-byte-eq34
returns-then-byte-eq34 c =
    let d = c.args.text.now in
    let l = c.escapes in
    let stop = c.plain_end-stop.result in
    let text = c.as_bytes-bytes.ensures.value in
    let run : stop ≡ l.at + prefix_len is_plain (drop l.at d) = rw (← text) c.plain_end-stop.ensures in
    let quote : get_or d stop 32 ≡ 34 = grind arith in
    let pushed : string_bytes c.push_str.new.self ≡ string_bytes l.found ++ take (stop - l.at) (drop l.at d) = c.in_ok-push_str.ensures.bytes ∙ ap (λ s. string_bytes l.found ++ s) c.range.ensures.value in
    let read = quote_read d _ c.args.from stop (run_read d (string_bytes l.found) c.args.from l.at stop l.invariant.0 run) quote in
    let blanks : lex between (drop c.blanks_end.result d) ≡ lex between (drop (stop + 1) d) = rw (← text) c.blanks_end.ensures in
    (read.0 ∙ ap Some (sym pushed), read.1 ∙ sym blanks)

pub escapes-preserved : goal.escapes-preserved
escapes-preserved c =
    let d = c.args.text.now in
    let l = c.escapes in
    let stop = c.plain_end-stop.result in
    let text = c.as_bytes-bytes.ensures.value in
    let run : stop ≡ l.at + prefix_len is_plain (drop l.at d) = rw (← text) c.plain_end-stop.ensures in
    let backslash : get_or d stop 32 ≡ 92 = grind arith in
    let pushed : string_bytes c.push_str.new.self ≡ string_bytes l.found ++ take (stop - l.at) (drop l.at d) = c.in_ok-push_str.ensures.bytes ∙ ap (λ s. string_bytes l.found ++ s) c.range.ensures.value in
    let byte : c.byte_at.result ≡ get_or d (stop + 1) 32 = grind arith in
    let short : short_escape (get_or d (stop + 1) 32) ≡ Some c.in-Some.escape = subst (λ x. short_escape x ≡ Some c.in-Some.escape) byte (sym c.in-Some.ensures.value) in
    let within = escape_within d (stop + 1) c.in-Some.escape short in
    let so_far = run_read d (string_bytes l.found) c.args.from l.at stop l.invariant.0 run in
    let read = escape_read d _ c.args.from stop c.in-Some.escape so_far backslash short within in
    let added : string_bytes c.push.new.self ≡ (string_bytes l.found ++ take (stop - l.at) (drop l.at d)) ++ c.in-Some.escape ∷ [] =
    c.in_ok-push.ensures.bytes ∙ ap (λ s. string_bytes c.push_str.new.self ++ s) (c.in_ok-push.ensures.ascii c.in-Some.ensures.ascii.0) ∙ ap (λ s. s ++ c.in-Some.escape ∷ []) pushed in
    let next : stop + 1 + 1 ≡ stop + 2 = omega arith in
    let ascii : get_or d (stop + 1) 0 < 128 = omega (arith, get_or_default d (stop + 1) 0 32 within, byte, c.in-Some.ensures.ascii.1) in (
      subst (λ s. ReadSoFar d c.args.from s (stop + 2)) (sym added) read,
      subst (IsCharBoundary d) next (IsCharBoundary-after_ascii d (stop + 1) c.utf8.text within ascii),
    )
