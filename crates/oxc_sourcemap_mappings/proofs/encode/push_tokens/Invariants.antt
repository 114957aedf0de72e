use Rattle.std.proofs.Common.{◌≡◌, ◌≤◌, ◌<◌, ◌++◌, take, drop, None, string_bytes}
use Rattle.std.specs.List.{AllByRecursion}
use Rattle.oxc_sourcemap_tokens.specs.LineOrder.{back_from}
use Rattle.oxc_sourcemap_tokens.specs.Steps.{state_of}
use Rattle.oxc_sourcemap_mappings.specs.Encoding.{text_from, OnlyAdds}
use Rattle.oxc_sourcemap_mappings.proofs.encode.push_tokens.Given as goal

-- the text of all tokens is what `out` and the buffer have, and then the text of the tokens that are left
abbrev pub invariant-loop-token : goal.invariant-loop-token
invariant-loop-token l = record {
  bytes : (string_bytes l.out ++ take l.len l.buf) ++ text_from l.is_first (state_of l.previous) (drop l.token-index l.tokens)
      ≡ string_bytes l.initial.out ++ text_from l.at_start (state_of l.fn.header) l.tokens;
  order : back_from l.previous.dst_line 0 (drop l.token-index l.tokens) ≡ None → back_from l.fn.header.dst_line 0 l.tokens ≡ None;
  plain : AllByRecursion (λ b. b < 128) (take l.len l.buf);
  room : l.len ≤ 1024;
  adds : OnlyAdds (string_bytes l.initial.out) (string_bytes l.out);
}
