use Rattle.std.proofs.Common.{◌∙◌}
use Rattle.sourcemap_run.proofs.Originals.{pointed_answer}
use Rattle.sourcemap_run.proofs.tracer.Tracer.answer.Goals as goal

pub returns : goal.returns
returns c = c.answer_by.ensures ∙ pointed_answer c.args.bias c.args.self.now c.args.position.line c.args.position.column
