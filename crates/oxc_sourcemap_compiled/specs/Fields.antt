-- The values of fields of tokens. Tokens stand in blocks, one after the other, and each field of a token behind that before it, bit by bit:
-- in as many bits as the width of the field in that block. So eight tokens take a whole number of bytes, the sum of the widths.
use Rattle.std.specs.Prelude.{ℕ, zero, suc, ◌+◌, ◌-◌, ◌*◌, ◌/◌, ◌%◌, ◌^◌, ◌≤◌, ◌≡◌}
use Rattle.std.specs.Prelude.{List, take, drop, get_or, Bool, min, sum, nat_le, if◌then◌else◌}
use Rattle.oxc_sourcemap_compiled.specs.Numbers.{number_at}
use Rattle.oxc_sourcemap_compiled.specs.Layout.{rows_base, groups_base, block_size, groups_in}
use Rattle.oxc_sourcemap_compiled.specs.declared.fields.Field.{Field}
use Rattle.oxc_sourcemap_compiled.specs.declared.fields.Row.{Row}
use Rattle.oxc_sourcemap_compiled.specs.declared.layout.Header.{Header}

-- a field that is read, of tokens with so many bits: it has at most 32 bits, which are among those of the token, and its mask is the
-- greatest number of so many bits
pub record IsField (stride : ℕ) (f : Field) : Type 0 where
  pub width : f.width ≤ 32
  pub mask : f.mask ≡ 2 ^ f.width - 1
  pub within : f.first + f.width ≤ stride

-- a block that is read: its fields are such, columns first, and its places are numbers that a machine can add
pub record IsRow (row : Row) : Type 0 where
  pub at : row.at ≤ 1099511627776
  pub stride : row.stride ≤ 1275
  pub front : row.column.first ≡ 0
  pub column : IsField row.stride row.column
  pub source : IsField row.stride row.source
  pub src_line : IsField row.stride row.src_line
  pub src_col : IsField row.stride row.src_col
  pub name : IsField row.stride row.name

-- the first tokens of a block, so many, lie within so many bytes, with eight more from the byte on in which they end
abbrev pub HasRoom : ℕ → Row → ℕ → Type 0
HasRoom size row count = row.at + count * row.stride / 8 + 8 ≤ size

-- the value of a field that begins at a bit of its block
unfoldable pub value_at : List ℕ → Row → Field → ℕ → ℕ
value_at bytes row f bit = (f.least + number_at 8 bytes (row.at + bit / 8) / 2 ^ (bit % 8) % 2 ^ f.width) % 2 ^ 32

-- the value of a field in a token, by the number of the token in its block
abbrev pub value_in : List ℕ → Row → Field → ℕ → ℕ
value_in bytes row f j = value_at bytes row f (f.first + j * row.stride)

-- where the row of a block lies: 4 bytes for where its groups begin, 4 for the least value of each field, 1 for each width
abbrev pub row_base : Header → ℕ → ℕ
row_base h b = rows_base h + 29 * b

-- the widths of the five fields in a block
abbrev pub widths_in : List ℕ → Header → ℕ → List ℕ
widths_in bytes h b = take 5 (drop (row_base h b + 24) bytes)

-- a field with this least value, which begins at this bit of a token and has this many bits
abbrev pub field_of : ℕ → ℕ → ℕ → Field
field_of least first width = record { least = least; first = first; width = width; mask = 2 ^ width - 1 }

-- the field of this number in a block: 0 for columns, then sources, source lines, source columns and names
unfoldable pub field_in : List ℕ → Header → ℕ → ℕ → Field
field_in bytes h b k =
    let widths = widths_in bytes h b in
    field_of (number_at 4 bytes (row_base h b + 4 + 4 * k)) (sum (take k widths)) (min (get_or widths k 0) 32)

-- whether the groups of a block lie within the bytes of all groups
abbrev pub is_placed : List ℕ → Header → ℕ → Bool
is_placed bytes h b = nat_le (number_at 4 bytes (row_base h b) + groups_in h b * sum (widths_in bytes h b)) h.group_bytes

-- how a block is read that does: where it lies, how many bits a token has, and its five fields
abbrev pub placed_row : List ℕ → Header → ℕ → Row
placed_row bytes h b = record {
  at = groups_base h + number_at 4 bytes (row_base h b);
  stride = sum (widths_in bytes h b);
  column = field_in bytes h b 0;
  source = field_in bytes h b 1;
  src_line = field_in bytes h b 2;
  src_col = field_in bytes h b 3;
  name = field_in bytes h b 4;
}

-- how a block is read whose tokens have no bits, so that all their fields are 0
abbrev pub empty_field : Field
empty_field = field_of 0 0 0

abbrev pub empty_row : Row
empty_row = record { at = 0; stride = 0; column = empty_field; source = empty_field; src_line = empty_field; src_col = empty_field; name = empty_field }

-- how a block is read: one whose groups do not lie within the bytes of all groups as one whose fields are all 0
unfoldable pub row_in : List ℕ → Header → ℕ → Row
row_in bytes h b = if is_placed bytes h b then placed_row bytes h b else empty_row

-- the field of this number in a row
abbrev pub row_field : ℕ → Row → Field
row_field zero row = row.column
row_field (suc zero) row = row.source
row_field (suc (suc zero)) row = row.src_line
row_field (suc (suc (suc zero))) row = row.src_col
row_field (suc (suc (suc (suc k)))) row = row.name

-- the value of a field of a token, by the number of the field and the index of the token
abbrev pub value_of : List ℕ → Header → ℕ → ℕ → ℕ
value_of bytes h k i =
    let row = row_in bytes h (i / block_size h.tokens) in
    value_in bytes row (row_field k row) (i % block_size h.tokens)
