use Rattle.std.proofs.Common.{rules, ◌≢◌, IfErr, Ok, Err}
use Rattle.std.proofs.lemmas.Result.{err_from_is_err_and}
use Rattle.oxc_sourcemap_steps.proofs.Compositions.{exact, exact_error, of_equals}
use Rattle.oxc_sourcemap_map.specs.Words.{OutOfMemory, SomeComposition}
use Rattle.oxc_sourcemap_map.proofs.maps.sourcemap.SourceMap.compose.Goals as goal

pub returns-in_err-parts : goal.returns-in_err-parts
returns-in_err-parts c =
    let p = err_from_is_err_and c.from_residual.result c.from_residual.ensures.1 in
    let any : IfErr c.from_residual.result (λ e. (e ≢ OutOfMemory) → SomeComposition c.args.self c.args.input (Err e)) =
    rw (p.1, p.2) (λ other. of_equals _ c.args.self _ c.args.input _ c.self.view_is c.input.view_is (c.in_err-parts.ensures.any_error other)) in
    record {
      map = search rules;
      error = λ g. exact_error c.args.self c.args.input c.from_residual.result g any;
      any_map = search rules;
      any_error = any;
      fault = search rules;
    }

pub returns : goal.returns
returns c = record {
  map = λ g. exact c.args.self c.args.input (Ok c.from_parts.result) g
      (rw c.from_parts.ensures (of_equals _ c.args.self _ c.args.input _ c.self.view_is c.input.view_is c.in_ok-parts.ensures.any_map));
  error = search rules;
  any_map = rw c.from_parts.ensures (of_equals _ c.args.self _ c.args.input _ c.self.view_is c.input.view_is c.in_ok-parts.ensures.any_map);
  any_error = search rules;
  fault = search rules;
}
