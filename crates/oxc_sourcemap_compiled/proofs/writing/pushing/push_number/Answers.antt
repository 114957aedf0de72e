use Rattle.std.proofs.Common.{◌≡◌, ◌++◌, ◌+◌, ◌-◌, ◌%◌, ◌/◌, ◌∷◌, [], ap, ◌∙◌, sym, arith}
use Rattle.std.proofs.Common.{append_assoc, append-nil, bit_and}
use Rattle.std.proofs.lemmas.Nat.{and_mask}
use Rattle.oxc_sourcemap_compiled.specs.Words.{bytes_of}
use Rattle.oxc_sourcemap_compiled.proofs.Bytes.{bytes-more, bytes-none}
use Rattle.oxc_sourcemap_compiled.proofs.writing.pushing.push_number.Goals as goal

pub loop-init : goal.loop-init
loop-init c =
    let all : c.args.width - 0 ≡ c.args.width = omega arith in
    ap (λ w. c.args.out.now.items ++ bytes_of w c.args.number) all

pub loop-preserved : goal.loop-preserved
loop-preserved c =
    let out = c.loop.out.items in
    let rest = c.loop.rest in
    let left = c.args.width - c.loop.counter in
    let front = bytes-more left rest (omega (arith, c.loop-test.true)) in
    let byte : bit_and rest 255 ≡ rest % 256 = and_mask rest 8 in
    let next : c.args.width - (c.loop.counter + 1) ≡ left - 1 = omega arith in
    let more = bytes_of (c.args.width - (c.loop.counter + 1)) (rest / 256) in
    ap (λ xs. xs ++ more) c.in_ok-push.ensures.items ∙ append_assoc out (bit_and rest 255 ∷ []) more ∙ ap (λ b. out ++ b ∷ more) byte
    ∙ ap (λ n. out ++ rest % 256 ∷ bytes_of n (rest / 256)) next ∙ ap (λ xs. out ++ xs) (sym front) ∙ c.loop.invariant

pub returns : goal.returns
returns c =
    let none : c.args.width - c.loop.counter ≡ 0 = omega (arith, c.loop-test.false) in
    sym (append-nil c.loop.out.items) ∙ ap (λ xs. c.loop.out.items ++ xs) (sym (ap (λ w. bytes_of w c.loop.rest) none ∙ bytes-none c.loop.rest)) ∙ c.loop.invariant
