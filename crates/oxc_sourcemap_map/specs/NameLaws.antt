-- Calls of a builder, and the law on the ids of names.
use Rattle.std.specs.Prelude.{◌≡◌, ◌↔◌, List, [], ◌∷◌, ◌++◌, Some}
use Rattle.oxc_sourcemap_tokens.specs.declared.token.TokenChunk.{TokenChunk}
use Rattle.oxc_sourcemap_tokens.specs.Token.{TokenRecord}
use Rattle.oxc_sourcemap_parts.specs.Record.{Text}
use Rattle.oxc_sourcemap_map.specs.Built.{Built}
use Rattle.oxc_sourcemap_map.specs.Building.{with_name, with_another_source, with_path}
use Rattle.oxc_sourcemap_map.specs.Building.{with_bare_path}

-- A call that may change a builder, and does not fail. (One that fails leaves the builder as it was.)
pub data Call : Type 0 where
  AddName : (name : Text) → Call
  AddSource : (path content : Text) → Call
  AddBareSource : (path : Text) → Call
  SetSource : (path content : Text) → Call
  AddToken : (token : TokenRecord) → Call
  AddTokens : (tokens : List TokenRecord) → Call
  SetFile : (file : Text) → Call
  SetChunks : (chunks : List TokenChunk) → Call

-- the builder after a call
abbrev pub after_call : Built → Call → Built
after_call b (AddName name) = (with_name b name).0
after_call b (AddSource path content) = (with_path b path content).0
after_call b (AddBareSource path) = (with_bare_path b path).0
after_call b (SetSource path content) = (with_another_source b path content).0
after_call b (AddToken token) = record b { map = record b.map { tokens = b.map.tokens ++ token ∷ [] } }
after_call b (AddTokens tokens) = record b { map = record b.map { tokens = b.map.tokens ++ tokens } }
after_call b (SetFile file) = record b { map = record b.map { file = Some file } }
after_call b (SetChunks chunks) = record b { map = record b.map { token_chunks = Some chunks } }

-- the builder after calls, one after the other
abbrev pub after_calls : Built → List Call → Built
after_calls b [] = b
after_calls b (call ∷ calls) = after_calls (after_call b call) calls

-- Two names that are added to a builder, with any calls between, get the same id exactly if they are equal.
abbrev pub EqualIdsForEqualNames : Type 0
EqualIdsForEqualNames =
    (b : Built) (name other : Text) (calls : List Call)
    → ((with_name b name).1 ≡ (with_name (after_calls (with_name b name).0 calls) other).1) ↔ (name ≡ other)
