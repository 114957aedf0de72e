use Rattle.std.proofs.Common.{◌≡◌, rules, ◌++◌, ◌∷◌, [], string_bytes, subst, sym, ◌∙◌, refl}
use Rattle.std.specs.Io.KnownBytes.{Appends}
use Rattle.std.proofs.lemmas.Result.{IfOk-weaker}
use Rattle.oxc_sourcemap_plan.specs.declared.run_error.RunError.TheVariants.{Read, Write}
use Rattle.smap_run.specs.Request.{request_of}
use Rattle.smap_run.specs.Answer.{FailsWith, AppendsBeginning}
use Rattle.oxc_sourcemap_plan.proofs.Parts.{from_err}
use Rattle.smap_run.proofs.PlanAnswers.{of_err}
use Rattle.smap_run.proofs.PortErrors.{not_of_port, not_this_error}
use Rattle.smap_run.proofs.running.run.Goals as goal

pub returns-in_err-out-clause-error : goal.returns-in_err-out-clause-error
returns-in_err-out-clause-error g c =
    let asked = request_of c.args.command.now in
    let input = c.in_ok-input.input.items in
    from_err c.from_residual-in_err-out.result _ _ c.from_residual-in_err-out.ensures.1 (λ e h n r w. (
      input,
      c.in_ok-input.ensures.bytes,
      subst (λ f. FailsWith asked input f) (sym h) (c.in_err-out.ensures.error (λ q. n (h ∙ q))),
    ))

pub returns-in_err-out-clause-begun : goal.returns-in_err-out-clause-begun
returns-in_err-out-clause-begun g c = λ w.
    let fails = not_of_port (request_of c.args.command.now) c.in_ok-input.input.items c.in_err-out.field-0.0.error c.in_err-out.ensures.error in
    absurd (not_this_error c.from_residual-in_err-out.result c.in_err-out.field-0.0.error Write c.from_residual-in_err-out.ensures.1 fails refl w)

pub returns-in_err-out-clause-read : goal.returns-in_err-out-clause-read
returns-in_err-out-clause-read g c = λ f.
    let fails = not_of_port (request_of c.args.command.now) c.in_ok-input.input.items c.in_err-out.field-0.0.error c.in_err-out.ensures.error in (
      λ r. absurd (not_this_error c.from_residual-in_err-out.result c.in_err-out.field-0.0.error Read c.from_residual-in_err-out.ensures.1 fails refl r),
      λ t. let read = (c.in_ok-input.ensures.flag f).1 t in absurd (cc (read)),
    )

pub returns-in_err-out-clause-write : goal.returns-in_err-out-clause-write
returns-in_err-out-clause-write g c = λ f.
    let fails = not_of_port (request_of c.args.command.now) c.in_ok-input.input.items c.in_err-out.field-0.0.error c.in_err-out.ensures.error in (
      λ w. absurd (not_this_error c.from_residual-in_err-out.result c.in_err-out.field-0.0.error Write c.from_residual-in_err-out.ensures.1 fails refl w),
      λ t. absurd (cc (f, t)),
    )

pub returns-clause-begun : goal.returns-clause-begun
returns-clause-begun g c = λ w.
    let bytes : c.as_bytes.result.now ≡ string_bytes c.in_ok-out.out ++ 10 ∷ [] = search rules in
    let begun = of_err c.write_all.result Write _ w c.write_all.ensures.begun in
    let contents = g.W.Write.contents in (
      c.in_ok-input.input.items,
      string_bytes c.in_ok-out.out,
      c.in_ok-input.ensures.bytes,
      c.in_ok-out.ensures.text.0,
      c.in_ok-out.ensures.text.1,
      subst (λ b. AppendsBeginning (contents c.args.writer.now.inner) (contents c.write_all.new.writer.inner) b) bytes begun,
    )

pub returns-clause-written : goal.returns-clause-written
returns-clause-written g c =
    let bytes : c.as_bytes.result.now ≡ string_bytes c.in_ok-out.out ++ 10 ∷ [] = search rules in
    let contents = g.W.Write.contents in
    IfOk-weaker c.write_all.result _ _ (λ _ written. (
      c.in_ok-input.input.items,
      string_bytes c.in_ok-out.out,
      c.in_ok-input.ensures.bytes,
      c.in_ok-out.ensures.text.0,
      c.in_ok-out.ensures.text.1,
      subst (λ b. Appends (contents c.args.writer.now.inner) (contents c.write_all.new.writer.inner) b) bytes written,
    )) c.write_all.ensures.ok
