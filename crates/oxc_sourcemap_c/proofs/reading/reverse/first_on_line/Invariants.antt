use Rattle.std.proofs.Common.{◌≡◌, ◌<◌, ℕ, false, get_or}
use Rattle.oxc_sourcemap_tokens.specs.Token.{TokenRecord}
use Rattle.oxc_sourcemap_map.specs.Reverse.{is_into}
use Rattle.oxc_sourcemap_c.proofs.reading.reverse.first_on_line.Given as goal

abbrev pub invariant-loop-i : goal.invariant-loop-i
invariant-loop-i l = (k : ℕ) (d : TokenRecord) → k < l.i → is_into l.at.source_id l.at.line (get_or l.tokens k d) ≡ false
