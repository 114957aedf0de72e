use Rattle.oxc_sourcemap_compiled.proofs.Listings.{IsListing}
use Rattle.oxc_sourcemap_compiled.proofs.writing.lines.filled_lines.Given as goal

abbrev pub invariant-loop-token : goal.invariant-loop-token
invariant-loop-token l = IsListing l.tokens l.token-index l.lines.items l.next
