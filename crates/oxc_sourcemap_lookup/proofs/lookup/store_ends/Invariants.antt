use Rattle.std.proofs.Common.{◌≡◌, ℕ, ◌<◌, length, take, drop}
use Rattle.oxc_sourcemap_tokens.specs.LineOrder.{IsInLineOrder}
use Rattle.oxc_sourcemap_tokens.specs.Token.{last}
use Rattle.oxc_sourcemap_lookup.specs.Lookup.{lines_through}
use Rattle.oxc_sourcemap_lookup.specs.LineSpans.{count_before_line, EndsOf}
use Rattle.oxc_sourcemap_lookup.proofs.Tables.{IsFrom}
use Rattle.oxc_sourcemap_lookup.proofs.lookup.store_ends.Given as goal

abbrev pub invariant-loop-token : goal.invariant-loop-token
invariant-loop-token l = record {
  lines : length l.ends ≡ lines_through (last l.tokens);
  count : l.end ≡ l.token-index;
  order : IsInLineOrder l.tokens → IsFrom l.line (drop l.token-index l.tokens);
  back : IsFrom l.line (drop l.token-index l.tokens) → IsFrom 0 l.tokens;
  before : (n : ℕ) → l.line < n → count_before_line n (take l.token-index l.tokens) ≡ l.token-index;
  each : EndsOf (take l.token-index l.tokens) l.ends;
}
