use Rattle.std.proofs.Common.{rules, arith}
use Rattle.std.proofs.lemmas.Grind.{common_steps}
use Rattle.oxc_sourcemap_map.proofs.GivenIds.{get_given}
use Rattle.oxc_sourcemap_map.proofs.builders.sourcemap_builder.SourceMapBuilder.add_source.Goals as goal

pub returns-in-Some : goal.returns-in-Some
returns-in-Some c =
    let known = get_given c.self.inside.given.entries c.args.path.now in
    record {
      added = grind (arith, common_steps, known, c.self.view_is);
      too_large = grind (arith, common_steps, known, c.self.view_is);
      error = search rules;
      unchanged = search rules;
    }

pub returns-in_err-id : goal.returns-in_err-id
returns-in_err-id c =
    let known = get_given c.self.inside.given.entries c.args.path.now in
    record {
      added = search rules;
      too_large = grind (arith, common_steps, known, c.self.view_is);
      error = search rules;
      unchanged = search rules;
    }

pub returns : goal.returns
returns c =
    let known = get_given c.self.inside.given.entries c.args.path.now in
    record {
      added = grind (arith, common_steps, c.self.view_is, known);
      too_large = grind (arith, common_steps);
      error = search rules;
      unchanged = search rules;
    }
