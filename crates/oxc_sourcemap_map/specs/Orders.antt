-- Orders of tokens by the places that they point to, and the memory that they hold.
use Rattle.std.specs.Prelude.{ℕ, ◌*◌, List, length, min}
use Rattle.oxc_sourcemap_tokens.specs.Token.{TokenRecord}
use Rattle.oxc_sourcemap_map.specs.Places.{IsOrderOf}
use Rattle.oxc_sourcemap_map.specs.declared.reverse.source_order.SourceOrder.{SourceOrder}

-- the order of these tokens
abbrev pub IsSourceOrderOf : List TokenRecord → SourceOrder → Type 0
IsSourceOrderOf tokens order = IsOrderOf tokens order.indices.items

-- the number of bytes of memory that an order holds: 4 for each index; at most 2^64 - 1
abbrev pub order_bytes : SourceOrder → ℕ
order_bytes order = min (length order.indices.items * 4) 18446744073709551615
