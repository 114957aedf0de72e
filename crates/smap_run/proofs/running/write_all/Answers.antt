use Rattle.std.proofs.Common.{◌≡◌, ◌++◌, ◌-◌, ℕ, List, take, drop, length, arith, ap, ◌∙◌}
use Rattle.std.proofs.Common.{append_assoc, take-append-drop}
use Rattle.std.proofs.lemmas.Grind.{common_steps}
use Rattle.std.proofs.lemmas.List.{take_rest}
use Rattle.std.proofs.KnownBytes.{Appends-trans}
use Rattle.smap_run.proofs.running.write_all.Goals as goal

moves_front : (all done rest : List ℕ) (n : ℕ) → done ++ rest ≡ all → (done ++ take n rest) ++ take (length rest - n) (drop n rest) ≡ all
moves_front all done rest n e =
    ap (λ l. (done ++ take n rest) ++ l) (take_rest rest n) ∙ append_assoc done (take n rest) (drop n rest) ∙ ap (λ l. done ++ l) (take-append-drop n rest) ∙ e

pub loop-rest-preserved : goal.loop-rest-preserved
loop-rest-preserved g c =
    let (flag, part) = c.loop-rest.invariant in
    let (done, split, appended) = part in
    let n = c.in-Ok.n in
    let rest = c.loop-rest.rest.now in
    (grind (arith, common_steps, flag, c.in-Ok.ensures.flag, c.in-Ok.n-test), (done ++ take n rest, moves_front _ done rest n split, Appends-trans _ _ _ _ _ appended c.in-Ok.ensures.bytes))
