use Rattle.std.proofs.Common.{rules, Ok}
use Rattle.oxc_sourcemap_steps.proofs.Compositions.{exact, of_equals}
use Rattle.oxc_sourcemap_map.proofs.maps.owned_sourcemap.OwnedSourceMap.compose.Goals as goal

pub returns : goal.returns
returns c = record {
  map = λ g. exact c.args.self c.args.input (Ok c.new.result) g
      (rw c.new.ensures (of_equals _ c.args.self _ c.args.input _ c.self.view_is c.input.view_is c.in_ok-compose.ensures.any_map));
  error = search rules;
  any_map = rw c.new.ensures (of_equals _ c.args.self _ c.args.input _ c.self.view_is c.input.view_is c.in_ok-compose.ensures.any_map);
  any_error = search rules;
  fault = search rules;
}
