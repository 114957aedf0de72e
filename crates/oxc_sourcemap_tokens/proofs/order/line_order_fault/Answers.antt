use Rattle.std.proofs.Common.{◌∙◌}
use Rattle.oxc_sourcemap_tokens.proofs.InOrder.{back_from-all}
use Rattle.oxc_sourcemap_tokens.proofs.order.line_order_fault.Goals as goal

pub returns : goal.returns
returns c = c.line_back_from.ensures ∙ back_from-all c.args.tokens.now
