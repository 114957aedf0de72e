-- What contracts see of a token.
use Rattle.std.specs.Prelude.{ℕ, ◌<◌, Bool, List, [], ◌∷◌, Option, Some, None, if◌then◌else◌}
use Rattle.std.specs.Prelude.{nat_lt, is_some, IfSome}
use Rattle.std.specs.List.{All, last_or}
use Rattle.std.specs.Option.{option_map}

-- A token: its generated line and column, its source line and column, its source id and its name id.
pub record TokenRecord : Type 0 where
  pub dst_line : ℕ
  pub dst_col : ℕ
  pub src_line : ℕ
  pub src_col : ℕ
  pub source_id : Option ℕ
  pub name_id : Option ℕ

-- the id that a stored number stands for: 4294967295 stands for none
abbrev pub id_of : ℕ → Option ℕ
id_of n = if nat_lt n 4294967295 then Some n else None

-- the id of a token that is made with this one
abbrev pub kept_id : Option ℕ → Option ℕ
kept_id None = None
kept_id (Some n) = id_of n

-- a token is mapped if it has a source
abbrev pub is_mapped : TokenRecord → Bool
is_mapped t = is_some t.source_id

-- this number of the source position, or none where there is no source
abbrev pub beside_source : Option ℕ → ℕ → Option ℕ
beside_source source_id n = option_map (λ _. n) source_id

-- this name id, or none where there is no source
abbrev pub name_beside : Option ℕ → Option ℕ → Option ℕ
name_beside source_id name_id = if is_some source_id then name_id else None

-- the name id of a mapped token
abbrev pub mapped_name : TokenRecord → Option ℕ
mapped_name t = name_beside t.source_id t.name_id

-- lines and columns are 0 to 4294967295, and ids 0 to 4294967294
pub record IsInBounds (t : TokenRecord) : Type 0 where
  pub dst_line : t.dst_line < 4294967296
  pub dst_col : t.dst_col < 4294967296
  pub src_line : t.src_line < 4294967296
  pub src_col : t.src_col < 4294967296
  pub source_id : IfSome t.source_id (λ n. n < 4294967295)
  pub name_id : IfSome t.name_id (λ n. n < 4294967295)

-- all of these tokens are in bounds
abbrev pub AreInBounds : List TokenRecord → Type 0
AreInBounds tokens = All IsInBounds tokens

-- the generated line of the last token, or this line where there is none
abbrev pub last_line : ℕ → List TokenRecord → ℕ
last_line line [] = line
last_line line (t ∷ ts) = last_line t.dst_line ts

-- the last item, or none
abbrev pub last : {A : Type 0} → List A → Option A
last items = last_or None items
