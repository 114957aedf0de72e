-- What a compiled map in a handle says of generated positions.
use Rattle.std.specs.Prelude.{◌≡◌, ◌⊎◌, ℕ, List, None}
use Rattle.oxc_sourcemap_tokens.specs.Token.{TokenRecord}
use Rattle.oxc_sourcemap_tokens.specs.declared.position.Position.{Position}
use Rattle.oxc_sourcemap_lookup.specs.Biased.{index_by}
use Rattle.oxc_sourcemap_lookup.specs.declared.bias.Bias.{Bias}
use Rattle.oxc_sourcemap_compiled.specs.Words.{compiled_in, header_in, token_in, IsInOrder}
use Rattle.oxc_sourcemap_compiled.specs.Words.{IsOnLine}
use Rattle.oxc_sourcemap_c.specs.declared.texts.text.Original.{Original}
use Rattle.oxc_sourcemap_c.specs.Structs.{HasOriginal, IsShown, index_number, no_numbers}
use Rattle.oxc_sourcemap_c.specs.Traces.{IsTraceOf}

-- an answer says that there is no token
pub record IsNothing (p : Original) : Type 0 where
  pub index : p.index ≡ 4294967295
  pub token : p.token ≡ no_numbers
  pub original : HasOriginal p None

-- an answer is that of a token on this line of a compiled map, with its index
pub record IsOfLine (bytes : List ℕ) (line : ℕ) (p : Original) : Type 0 where
  pub index : ℕ
  pub token : TokenRecord
  pub on_line : IsOnLine bytes (header_in bytes) line index
  pub is : token ≡ token_in bytes (header_in bytes) line index
  pub shown : IsShown (compiled_in bytes).content index token p

-- An answer of a compiled map for a position: in bytes that are in order the trace of their map there; in any bytes what some token of
-- the line says, by its index, or nothing.
pub record IsCompiledTrace (bias : Bias) (bytes : List ℕ) (at : Position) (p : Original) : Type 0 where
  pub traced : IsInOrder bytes → IsTraceOf bias (compiled_in bytes).content at p
  pub among : IsNothing p ⊎ IsOfLine bytes at.line p

-- A number that is found at a position: in bytes that are in order the index of the token that answers; in any bytes that of some token
-- of the line, or 4294967295 for none.
pub record IsCompiledIndex (bias : Bias) (bytes : List ℕ) (at : Position) (n : ℕ) : Type 0 where
  pub is : IsInOrder bytes → n ≡ index_number (index_by bias (compiled_in bytes).content.tokens at.line at.column)
  pub among : (n ≡ 4294967295) ⊎ IsOnLine bytes (header_in bytes) at.line n
