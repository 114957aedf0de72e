use Rattle.std.proofs.Common.{◌≡◌, ◌≢◌, IfErr, Err, subst}
use Rattle.oxc_sourcemap_map.specs.Words.{OutOfMemory, Map, simplification}
use Rattle.oxc_sourcemap_map.proofs.maps.owned_sourcemap.OwnedSourceMap.simplify.Goals as goal

pub returns-clause-error : goal.returns-clause-error
returns-clause-error c =
    let view : c.self.inside.inner ≡ c.args.self.now = cc (c.self.view_is) in
    subst (λ r. IfErr c.simplify.result (λ e. (e ≢ Map OutOfMemory) → simplification r ≡ Err e)) view c.simplify.ensures.error
