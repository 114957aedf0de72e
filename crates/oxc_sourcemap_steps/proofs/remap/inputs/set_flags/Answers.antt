use Rattle.std.proofs.Common.{◌≡◌, ◌∙◌, ◌+◌, ◌++◌, ◌∷◌, ◌<◌, ◌≤◌, [], sym, ap, arith, take, length}
use Rattle.std.proofs.Common.{set, get_or, Some, true, Vec, Bool, Global}
use Rattle.std.proofs.lemmas.List.{take_more}
use Rattle.oxc_sourcemap_steps.specs.Blocks.{listed_flags}
use Rattle.oxc_sourcemap_steps.proofs.Flags.{flag-set, flag-past, count-listed}
use Rattle.oxc_sourcemap_steps.proofs.remap.inputs.set_flags.Goals as goal
use Rattle.oxc_sourcemap_steps.proofs.remap.inputs.set_flags.Goals.{then-i-len, else-i-len}

pub loop-id-preserved : goal.loop-id-preserved
loop-id-preserved c =
    let ids = c.args.ids.now in
    let k = c.loop-id.id-index in
    let id = get_or ids k 0 in
    let n = length c.args.flags.now.items in
    let count : length c.loop-id.flags.items ≡ n = ap length c.loop-id.invariant ∙ count-listed (Some (take k ids)) n in
    let more : listed_flags (Some (take k ids ++ id ∷ [])) n ≡ listed_flags (Some (take (k + 1) ids)) n =
    ap (λ is. listed_flags (Some is) n) (sym (take_more ids k 0 c.loop-id-test.true)) in
    elim c.if-i-len.branch [
      | then-i-len w ↦ (
          let within : id < n = omega (arith, w.if-i-len.true, c.len.ensures, c.loop-id.flags.ok.0, count) in
          ap (λ (v : Vec Bool Global). v.items) w.flags-is ∙ ap (λ fs. set fs id true) c.loop-id.invariant ∙ flag-set (take k ids) id n within ∙ more)
      | else-i-len w ↦ (
          let past : n ≤ id = omega (arith, w.if-i-len.false, c.len.ensures, c.loop-id.flags.ok.0, count) in
          ap (λ (v : Vec Bool Global). v.items) w.flags-is ∙ c.loop-id.invariant ∙ sym (flag-past (take k ids) id n past) ∙ more)
    ]
