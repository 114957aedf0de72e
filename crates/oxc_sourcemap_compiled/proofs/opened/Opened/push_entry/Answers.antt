use Rattle.std.proofs.Common.{◌≡◌, ◌+◌, ◌-◌, ◌++◌, ◌∷◌, [], map, sym, ap, ◌∙◌, arith, append_assoc}
use Rattle.std.proofs.lemmas.List.FromFn.{map-range_with_len_more}
use Rattle.std.specs.List.{range_with_len}
use Rattle.oxc_sourcemap_compiled.specs.Words.{token_in, entry_begin}
use Rattle.oxc_sourcemap_compiled.proofs.opened.Opened.push_entry.Goals as goal

pub loop-i-preserved : goal.loop-i-preserved
loop-i-preserved c =
    let o = c.args.self.now in
    let f = token_in o.bytes.now o.header c.line_of-line.result in
    let begin = entry_begin o.bytes.now o.header c.args.k in
    let i = c.loop-i.i in
    let n = i - begin in
    let at : begin + n ≡ i = omega (arith, c.loop-i.auto.i, c.span-span.ensures.start) in
    let next : n + 1 ≡ i + 1 - begin = omega (arith, at) in
    c.in_ok-push.ensures.items ∙ ap (λ xs. xs ++ c.token_on.result ∷ []) c.loop-i.invariant ∙ append_assoc c.args.out.now.items (map f (range_with_len begin n)) (c.token_on.result ∷ [])
    ∙ ap (λ t. c.args.out.now.items ++ (map f (range_with_len begin n) ++ t ∷ [])) c.token_on.ensures
    ∙ ap (λ xs. c.args.out.now.items ++ xs) (sym (map-range_with_len_more f begin n i at) ∙ ap (λ m. map f (range_with_len begin m)) next)
