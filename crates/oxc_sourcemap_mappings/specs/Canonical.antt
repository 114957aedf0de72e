-- The one canonical text of a list of tokens (for its form, ECMA-426, "Mappings structure").
use Rattle.std.specs.Prelude.{ℕ, zero, suc, ◌+◌, ◌-◌, ◌*◌, ◌/◌, ◌%◌, Bool, true, false, List, []}
use Rattle.std.specs.Prelude.{◌∷◌, ◌++◌, map, replicate, None, if◌then◌else◌, nat_lt, ◌==◌}
use Rattle.std.specs.Option.{option_map_or}
use Rattle.oxc_sourcemap_tokens.specs.Token.{TokenRecord, is_mapped, mapped_name}
use Rattle.oxc_sourcemap_tokens.specs.State.{State, initial, state_after}

-- the byte of a digit below 64 in the base64 alphabet
unfoldable pub letter : ℕ → ℕ
letter d =
    if nat_lt d 26 then d + 65
    else if nat_lt d 52 then d + 71
    else if nat_lt d 62 then d - 4
    else if d == 62 then 43
    else 47

-- The digits of a raw number in base 32, lowest first and without leading zeros; to a digit that another follows, 32 is
-- added. The first argument bounds how many follow the first digit: the raw number itself always suffices.
unfoldable pub digits : ℕ → ℕ → List ℕ
digits zero raw = raw ∷ []
digits (suc most) raw = elim (nat_lt raw 32) [ true ↦ raw ∷ [] | false ↦ (raw % 32 + 32) ∷ digits most (raw / 32) ]

-- the text of a raw number
unfoldable pub vlq_text : ℕ → List ℕ
vlq_text raw = map letter (digits raw raw)

-- the raw number of the delta a - b: twice its magnitude, and one more where it is negative
abbrev pub raw_delta : ℕ → ℕ → ℕ
raw_delta a b = if nat_lt a b then 2 * (b - a) + 1 else 2 * (a - b)

-- the text of the delta a - b
abbrev pub delta_text : ℕ → ℕ → List ℕ
delta_text a b = vlq_text (raw_delta a b)

-- The separator before a token, after a state: on a later line one `;` for each line that it is further down, and on the
-- same line a `,`, which the first token of the list goes without.
unfoldable pub separator : Bool → State → TokenRecord → List ℕ
separator is_first s t = if t.dst_line == s.dst_line then (if is_first then [] else 44 ∷ []) else replicate (t.dst_line - s.dst_line) 59

-- the delta of the generated column, which starts from 0 on a new line
abbrev pub column_text : State → TokenRecord → List ℕ
column_text s t = delta_text t.dst_col (if t.dst_line == s.dst_line then s.dst_col else 0)

-- the deltas of a mapped token's source id, source line and source column
abbrev pub source_text : State → TokenRecord → List ℕ
source_text s t =
    option_map_or (λ id. delta_text id s.source_id ++ delta_text t.src_line s.src_line ++ delta_text t.src_col s.src_col) t.source_id []

-- the delta of a mapped token's name id
abbrev pub name_text : State → TokenRecord → List ℕ
name_text s t = option_map_or (λ id. delta_text id s.name_id) (mapped_name t) []

-- what a token adds to the text at a state
unfoldable pub token_text : Bool → State → TokenRecord → List ℕ
token_text is_first s t = separator is_first s t ++ column_text s t ++ source_text s t ++ name_text s t

-- there is no token before
abbrev pub has_none_before : List TokenRecord → Bool
has_none_before [] = true
has_none_before (t ∷ ts) = false

-- The text of these tokens, after the tokens before them, the nearest first. Each token is written relative to the state
-- there, and the first of all without a `,`.
unfoldable pub text_after : List TokenRecord → List TokenRecord → List ℕ
text_after before [] = []
text_after before (t ∷ ts) = token_text (has_none_before before) (state_after initial before) t ++ text_after (t ∷ before) ts

-- the canonical text of a list in line order
unfoldable pub canonical : List TokenRecord → List ℕ
canonical tokens = text_after [] tokens

-- a token as far as it is written: of an unmapped one, the generated position alone
abbrev pub token_as_written : TokenRecord → TokenRecord
token_as_written t = if is_mapped t then t else record t { src_line = 0; src_col = 0; name_id = None }

-- a list without what its text leaves out
abbrev pub as_written : List TokenRecord → List TokenRecord
as_written tokens = map token_as_written tokens

-- A token as it comes back from its text: an unmapped one takes its source position from the state, and has no name.
abbrev pub carried_token : State → TokenRecord → TokenRecord
carried_token s t =
    if is_mapped t then t else record t { src_line = s.src_line; src_col = s.src_col; name_id = None }

-- tokens as they come back from their text, after the tokens before them, the nearest of these first
abbrev pub carried_after : List TokenRecord → List TokenRecord → List TokenRecord
carried_after before [] = []
carried_after before (t ∷ ts) = carried_token (state_after initial before) t ∷ carried_after (t ∷ before) ts

-- a list as it comes back from its text
abbrev pub carried : List TokenRecord → List TokenRecord
carried tokens = carried_after [] tokens
