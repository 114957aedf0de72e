-- What contracts see of a map.
use Rattle.std.specs.Prelude.{ℕ, List, Option}
use Rattle.oxc_sourcemap_tokens.specs.declared.token.TokenChunk.{TokenChunk}
use Rattle.oxc_sourcemap_tokens.specs.Token.{TokenRecord}

-- a string, as its bytes
abbrev pub Text : Type 0
Text = List ℕ

-- A map: its nine fields, as strings, lists and options.
pub record MapRecord : Type 0 where
  pub file : Option Text
  pub names : List Text
  pub source_root : Option Text
  pub sources : List Text
  pub source_contents : List (Option Text)
  pub tokens : List TokenRecord
  pub token_chunks : Option (List TokenChunk)
  pub ignore_list : Option (List ℕ)
  pub debug_id : Option Text
