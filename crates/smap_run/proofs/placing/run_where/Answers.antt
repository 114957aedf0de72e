use Rattle.std.proofs.Common.{◌≡◌, true, false, sym, ap, ◌∙◌}
use Rattle.oxc_sourcemap_plan.proofs.PortErrors.{is_of_port}
use Rattle.smap_run.specs.Request.{request_of}
use Rattle.smap_run.proofs.PortErrors.{not_of_port}
use Rattle.smap_run.proofs.placing.run_where.Goals as goal

pub returns-in-Err-clause-write : goal.returns-in-Err-clause-write
returns-in-Err-clause-write g c = λ f w.
    let fails = not_of_port (request_of c.args.command.now) _ c.in-Err.failure.error c.in-Err.ensures.error in
    let both : true ≡ false = sym (ap is_of_port w) ∙ fails in
    absurd (cc (both))
