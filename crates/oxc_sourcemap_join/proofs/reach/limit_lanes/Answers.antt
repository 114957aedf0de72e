use Rattle.std.proofs.Common.{◌≡◌, ◌∷◌, [], ◌+◌, ◌%◌, ◌<◌, ℕ, Option, Some}
use Rattle.std.proofs.Common.{None, arith, refl, ap, ◌∙◌}
use Rattle.std.specs.Option.{IfSome, unwrap_or}
use Rattle.oxc_sourcemap_join.specs.Joining.{id_limit}
use Rattle.oxc_sourcemap_join.proofs.reach.limit_lanes.Goals as goal

limit : (o : Option ℕ) → IfSome o (λ i. i < 4294967295) → (unwrap_or o 4294967295 + 1) % 4294967296 ≡ id_limit o
limit None h = refl
limit (Some i) h = omega (arith, h)

pub returns : goal.returns
returns c =
    rw c.id_lanes.ensures.lanes (
    ap (λ n. n ∷ (unwrap_or c.args.token.now.name_id 4294967295 + 1) % 4294967296 ∷ 1 ∷ 1 ∷ []) (limit c.args.token.now.source_id c.id_lanes.ensures.source)
    ∙ ap (λ n. id_limit c.args.token.now.source_id ∷ n ∷ 1 ∷ 1 ∷ []) (limit c.args.token.now.name_id c.id_lanes.ensures.name)
    )
