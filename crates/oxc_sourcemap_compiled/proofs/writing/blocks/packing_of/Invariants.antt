use Rattle.std.proofs.Common.{◌≡◌, ◌≤◌, ◌<◌, ℕ, length, get_or}
use Rattle.oxc_sourcemap_tokens.specs.Token.{TokenRecord}
use Rattle.oxc_sourcemap_compiled.specs.Words.{field_number}
use Rattle.oxc_sourcemap_compiled.proofs.writing.blocks.packing_of.Given as goal

abbrev pub invariant-loop-token : goal.invariant-loop-token
invariant-loop-token l = record {
  order : l.least ≤ l.most;
  least : (i : ℕ) (d : TokenRecord) → i < l.token-index → l.least ≤ field_number l.k (get_or l.tokens i d);
  most : (i : ℕ) (d : TokenRecord) → i < l.token-index → field_number l.k (get_or l.tokens i d) ≤ l.most;
  highest : (d : TokenRecord) → (i : ℕ) × (i < length l.tokens) × (l.most ≡ field_number l.k (get_or l.tokens i d));
  reached : (d : TokenRecord) → (i : ℕ) × (i < length l.tokens) × (l.least ≡ field_number l.k (get_or l.tokens i d));
}
