use Rattle.std.proofs.Common.{◌≡◌, ◌+◌, ◌-◌, ◌<◌, take, length, get_or, refl, nat_lt, if◌then◌else◌}
use Rattle.std.proofs.Common.{◌∙◌, sym, ap, arith}
use Rattle.std.proofs.lemmas.Grind.{common_steps}
use Rattle.std.proofs.lemmas.Option.{slice_get_read}
use Rattle.oxc_sourcemap_tokens.specs.Token.{last}
use Rattle.oxc_sourcemap_lookup.specs.Lookup.{index_before}
use Rattle.oxc_sourcemap_lookup.proofs.Halving.{before, nearer-last, front-goes_on, fewer-digits}
use Rattle.oxc_sourcemap_lookup.proofs.Indices.{index-last}
use Rattle.oxc_sourcemap_lookup.proofs.lookup.count_through.Goals as goal

pub returns-clause-token : goal.returns-clause-token
returns-clause-token c = λ g.
    let col = c.args.col in
    let line = c.args.line.now in
    let n = c.count_before-before.result in
    let t = c.index-line-before.result in
    let rest : c.in-Some.last ≡ length line - 1 = grind (arith, common_steps) in
    let within : n < length line = grind (arith, common_steps) in
    let read : t ≡ get_or line n t = grind (arith, common_steps) in
    let here = slice_get_read line _ n t refl within read in
    let count = c.count_before-before.ensures.count (front-goes_on c.in-Some.last line g) ∙ ap (λ m. before col (take m line)) rest in
    let end = ap (λ k. n + k) (c.compare_column.ensures.value ∙ ap (λ k. if nat_lt t.dst_col (k + 1) then 1 else 0) c.from.ensures) in
    ap (λ k. last (take k line)) end ∙ sym (nearer-last col line n t g within (sym read) here count)

pub returns-clause-index : goal.returns-clause-index
returns-clause-index c = λ g.
    let col = c.args.col in
    let line = c.args.line.now in
    let n = c.count_before-before.result in
    let t = c.index-line-before.result in
    let rest : c.in-Some.last ≡ length line - 1 = grind (arith, common_steps) in
    let within : n < length line = grind (arith, common_steps) in
    let read : t ≡ get_or line n t = grind (arith, common_steps) in
    let here = slice_get_read line _ n t refl within read in
    let count = c.count_before-before.ensures.count (front-goes_on c.in-Some.last line g) ∙ ap (λ m. before col (take m line)) rest in
    let end = ap (λ k. n + k) (c.compare_column.ensures.value ∙ ap (λ k. if nat_lt t.dst_col (k + 1) then 1 else 0) c.from.ensures) in
    ap index_before end ∙ index-last col n t line g within (sym read) here count

pub returns-clause-counted : goal.returns-clause-counted
returns-clause-counted c =
    let fewer = fewer-digits (length (take c.in-Some.last c.args.line.now)) (length c.args.line.now) (grind (arith, common_steps)) in
    (grind (arith, common_steps, fewer), λ e. absurd (grind (arith, common_steps, e)))
