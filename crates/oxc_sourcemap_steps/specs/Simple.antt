-- Which items of a list that is sorted by generated position change a trace, and where.
use Rattle.std.specs.Prelude.{ℕ, ◌+◌, Bool, false, ◌&&◌, List, [], ◌∷◌, ◌++◌, if◌then◌else◌, nat_le}
use Rattle.std.specs.Prelude.{◌==◌}

-- two items are at one position
abbrev pub are_together : {A : Type 0} → (A → ℕ) → (A → ℕ) → A → A → Bool
are_together line column x y = line x == line y && column x == column y

-- The item before one is at its position, so that one is not the first there. What comes before an item is a list, the nearest
-- first.
abbrev pub is_further : {A : Type 0} → (A → ℕ) → (A → ℕ) → List A → A → Bool
is_further line column [] y = false
is_further line column (x ∷ before) y = are_together line column x y

-- the item after one is on its line, at its column or at the next one
abbrev pub is_followed : {A : Type 0} → (A → ℕ) → (A → ℕ) → A → List A → Bool
is_followed line column x [] = false
is_followed line column x (y ∷ after) = line x == line y && nat_le (column y) (column x + 1)

-- the items that a lookup may find, of those that stand after `before`: the first at its column, and the last on the columns
-- after it, if the next item leaves it one
abbrev pub found_after : {A : Type 0} → (A → ℕ) → (A → ℕ) → List A → List A → List A
found_after line column before [] = []
found_after line column before (x ∷ after) =
    if is_further line column before x && is_followed line column x after
    then found_after line column (x ∷ before) after
    else x ∷ found_after line column (x ∷ before) after

-- the items that a lookup may find
abbrev pub found_items : {A : Type 0} → (A → ℕ) → (A → ℕ) → List A → List A
found_items line column items = found_after line column [] items

-- an item repeats the one before it: that is on its line, and points where it points
abbrev pub is_repeat : {A : Type 0} → (A → ℕ) → (A → A → Bool) → List A → A → Bool
is_repeat line same [] y = false
is_repeat line same (x ∷ before) y = line x == line y && same x y

-- the item before one is at its position, and is itself a repeat
abbrev pub is_after_repeat : {A : Type 0} → (A → ℕ) → (A → ℕ) → (A → A → Bool) → List A → A → Bool
is_after_repeat line column same [] y = false
is_after_repeat line column same (x ∷ before) y = are_together line column x y && is_repeat line same before x

-- what becomes of an item: nothing if it is a repeat; it moves where this test says so
abbrev pub kept_item : {A : Type 0} → (A → ℕ) → (A → A → Bool) → (A → A) → (List A → A → Bool) → List A → A → List A
kept_item line same move moves before y =
    if is_repeat line same before y then [] else (if moves before y then move y else y) ∷ []

abbrev pub kept_after : {A : Type 0} → (A → ℕ) → (A → A → Bool) → (A → A) → (List A → A → Bool) → List A → List A → List A
kept_after line same move moves before [] = []
kept_after line same move moves before (y ∷ after) =
    kept_item line same move moves before y ++ kept_after line same move moves (y ∷ before) after

-- The simple list: of the items that a lookup may find those that are no repeats. Where the first of two at a position is a
-- repeat, the second one moves to the next column.
abbrev pub simple_items : {A : Type 0} → (A → ℕ) → (A → ℕ) → (A → A → Bool) → (A → A) → List A → List A
simple_items line column same move items =
    kept_after line same move (is_after_repeat line column same) [] (found_items line column items)
