-- The steps of the encoder, beside the states of `State`. No public contract cites this module.
use Rattle.std.specs.Prelude.{◌≡◌, ℕ, ◌+◌, ◌-◌, ◌*◌, ◌<◌, ◌++◌, ◌==◌, nat_lt, Bool, true, false}
use Rattle.std.specs.Prelude.{None, List, [], ◌∷◌, replicate, if◌then◌else◌, Result, IfOk}
use Rattle.std.specs.List.{AllByRecursion}
use Rattle.oxc_sourcemap_tokens.specs.declared.token.TokenChunk.{TokenChunk}
use Rattle.oxc_sourcemap_tokens.specs.Token.{TokenRecord}
use Rattle.oxc_sourcemap_tokens.specs.State.{State}
use Rattle.oxc_sourcemap_tokens.specs.Steps.{advanced}
use Rattle.oxc_sourcemap_mappings.specs.Canonical.{delta_text, source_text, name_text, token_text}
use Rattle.oxc_sourcemap_mappings.specs.ChunkTexts.{chunk_text_fault}

-- the text of these tokens from a state on, the state carried along
abbrev pub text_from : Bool → State → List TokenRecord → List ℕ
text_from is_first s [] = []
text_from is_first s (t ∷ ts) = token_text is_first s t ++ text_from false (advanced s t) ts

-- a text with some ASCII bytes more
abbrev pub Extends : List ℕ → List ℕ → Type 0
Extends old new = (more : List ℕ) × (new ≡ old ++ more) × AllByRecursion (λ b. b < 128) more

-- Whatever text the old one extended, the new one extends: what was added can be cut off again.
abbrev pub OnlyAdds : List ℕ → List ℕ → Type 0
OnlyAdds old new = (base : List ℕ) → Extends base old → Extends base new

-- the separator of a token from the one before, which lies so many lines further up
abbrev pub line_marks : Bool → ℕ → List ℕ
line_marks is_first lines = if lines == 0 then (if is_first then [] else 44 ∷ []) else replicate lines 59

-- where the delta of the generated column starts
abbrev pub column_from : State → TokenRecord → ℕ
column_from s t = if t.dst_line == s.dst_line then s.dst_col else 0

-- the text of a token without its separator
abbrev pub fields_text : ℕ → State → TokenRecord → List ℕ
fields_text column s t = delta_text t.dst_col column ++ source_text s t ++ name_text s t

-- the raw number of the delta that lies so far above -512
abbrev pub raw_at : ℕ → ℕ
raw_at rank = if nat_lt rank 512 then 2 * (512 - rank) + 1 else 2 * (rank - 512)

-- where the call returned that it wrote all
abbrev pub IfWritten : {E : Type 0} → Result Bool E → Type 0 → Type 0
IfWritten result P = IfOk result (λ is_written. is_written ≡ true → P)

-- each of these chunks can be written
abbrev pub AreWritten : List TokenRecord → List TokenChunk → Type 0
AreWritten tokens chunks = AllByRecursion (λ c. chunk_text_fault tokens c ≡ None) chunks
