use Rattle.std.proofs.Common.{◌≡◌, ◌≢◌, OnOk, IfErr, Ok, Err, subst}
use Rattle.oxc_sourcemap_parts.specs.Views.{record_of_parts}
use Rattle.oxc_sourcemap_map.specs.Words.{OutOfMemory, Map, simplification}
use Rattle.oxc_sourcemap_map.proofs.maps.sourcemap.SourceMap.simplify.Goals as goal

pub returns-clause-simplified : goal.returns-clause-simplified
returns-clause-simplified c =
    let view : record_of_parts c.self.inside.parts ≡ c.args.self.now = cc (c.self.view_is) in
    subst (λ r. OnOk c.simplify_parts.result (simplification r ≡ Ok (record_of_parts c.simplify_parts.new.parts))) view c.simplify_parts.ensures.simplified

pub returns-clause-error : goal.returns-clause-error
returns-clause-error c =
    let view : record_of_parts c.self.inside.parts ≡ c.args.self.now = cc (c.self.view_is) in
    subst (λ r. IfErr c.simplify_parts.result (λ e. (e ≢ Map OutOfMemory) → simplification r ≡ Err e)) view c.simplify_parts.ensures.error
