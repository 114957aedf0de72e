use Rattle.std.proofs.Common.{subst}
use Rattle.oxc_sourcemap_tokens.specs.Token.{IsInBounds}
use Rattle.oxc_sourcemap_tokens.specs.TokenFields.{in_bounds}
use Rattle.oxc_sourcemap_tokens.proofs.token.Token.get_dst_line.Goals as goal

pub returns-clause-in_bounds : goal.returns-clause-in_bounds
returns-clause-in_bounds c = subst IsInBounds c.self.view_is (in_bounds c.self.inside c.self.invariant)
