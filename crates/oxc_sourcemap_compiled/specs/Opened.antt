-- What is opened, and searched.
use Rattle.std.specs.Prelude.{ℕ, ◌≡◌, ◌+◌, ◌*◌, ◌-◌, ◌≤◌, length}
use Rattle.oxc_sourcemap_compiled.specs.declared.opened.Opened.{Opened}
use Rattle.oxc_sourcemap_lookup.specs.Digits.{binary_digits}
use Rattle.oxc_sourcemap_compiled.specs.Cuts.{IsCut, DoNotFall}
use Rattle.oxc_sourcemap_compiled.specs.Order.{AreRowsExact, column_of}
use Rattle.oxc_sourcemap_compiled.specs.Layout.{header_in, HasParts, layout_in, groups_in}
use Rattle.oxc_sourcemap_compiled.specs.Fields.{row_in, IsRow, HasRoom}

-- The layout is that of the header, the parts lie within the bytes, and the row is that of the first block, whose tokens are there. (If
-- there are no tokens, it is that of what lies in its place.)
pub record IsOpened (o : Opened) : Type 0 where
  pub header : o.header ≡ header_in o.bytes.now
  pub layout : o.layout ≡ layout_in o.header
  pub parts : HasParts (length o.bytes.now) o.header
  pub front : o.front ≡ row_in o.bytes.now o.header 0
  pub fields : IsRow o.front
  pub room : HasRoom (length o.bytes.now) o.front (8 * groups_in o.header 0)

-- A search in bytes that are opened, which has compared at most so many numbers.
pub record IsSearchIn (o : Opened) (most steps : ℕ) : Type 0 where
  pub opened : IsOpened o
  pub few : steps ≤ most

-- A search among the columns of the tokens from one index to before another: if the rows are exact and no column falls, it finds where
-- they stop being below a limit. The last two numbers are how many were compared before it, and with it.
pub record IsColumnCut (o : Opened) (first end limit old found new : ℕ) : Type 0 where
  pub search : IsSearchIn o (old + binary_digits (end - first) + 2) new
  pub few : new ≤ old + 48
  pub reached : first ≤ found
  pub within : found ≤ end
  pub cut : AreRowsExact o.bytes.now o.header → DoNotFall (column_of o.bytes.now o.header) first end → (cut : ℕ)
      → IsCut (column_of o.bytes.now o.header) limit first end cut → found ≡ cut
