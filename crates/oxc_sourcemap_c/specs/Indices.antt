-- The indices that a handle keeps beside a map.
use Rattle.std.specs.Prelude.{◌≡◌, ⊤, ℕ, ◌+◌, Bool, List, Option, Some, None, Result, Ok, Err}
use Rattle.std.specs.Prelude.{option_map, is_some}
use Rattle.oxc_sourcemap_tokens.specs.declared.errors.error.Error.{Error}
use Rattle.oxc_sourcemap_tokens.specs.declared.errors.error.Error.TheVariants.{LineOrder}
use Rattle.oxc_sourcemap_tokens.specs.Token.{TokenRecord}
use Rattle.oxc_sourcemap_tokens.specs.LineOrder.{first_out_of_order}
use Rattle.oxc_sourcemap_parts.specs.Record.{MapRecord}
use Rattle.oxc_sourcemap_lookup.specs.declared.line_index.LineIndex.{LineIndex}
use Rattle.oxc_sourcemap_lookup.specs.LineSpans.{IsIndexOf, index_bytes}
use Rattle.oxc_sourcemap_map.specs.declared.reverse.source_order.SourceOrder.{SourceOrder}
use Rattle.oxc_sourcemap_map.specs.Orders.{IsSourceOrderOf, order_bytes}

-- the error of making the index of the lines of tokens
abbrev pub IsOutOfOrder : List TokenRecord → Error → Type 0
IsOutOfOrder tokens e = option_map LineOrder (first_out_of_order tokens) ≡ Some e

-- the index of the lines of tokens, or the error of making it
abbrev pub IsIndexed : List TokenRecord → Result LineIndex Error → Type 0
IsIndexed tokens (Ok index) = IsIndexOf tokens index
IsIndexed tokens (Err e) = IsOutOfOrder tokens e

-- the order of tokens by their sources, if there is one
abbrev pub IsOrdered : List TokenRecord → Option SourceOrder → Type 0
IsOrdered tokens None = ⊤
IsOrdered tokens (Some order) = IsSourceOrderOf tokens order

-- the indices of these tokens
pub record IsLoaded (tokens : List TokenRecord) (index : Result LineIndex Error) (order : Option SourceOrder) : Type 0 where
  pub lines : IsIndexed tokens index
  pub sources : IsOrdered tokens order

-- ---- the bytes of memory of an index that may not be there
abbrev pub line_bytes : Result LineIndex Error → ℕ
line_bytes (Ok index) = index_bytes index
line_bytes (Err e) = 0

abbrev pub source_bytes : Option SourceOrder → ℕ
source_bytes None = 0
source_bytes (Some order) = order_bytes order

-- a map in a handle, the bytes of memory that its indices hold, and whether it has the one by original positions
pub record Loaded : Type 0 where
  pub map : MapRecord
  pub index_bytes : ℕ
  pub has_order : Bool

-- a map with its indices
abbrev pub loaded_of : MapRecord → Result LineIndex Error → Option SourceOrder → Loaded
loaded_of map index order = record { map = map; index_bytes = line_bytes index + source_bytes order; has_order = is_some order }
