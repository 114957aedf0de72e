-- What the traces of a bundle are: of a join of maps, each at the line where its code begins.
use Rattle.std.specs.Prelude.{◌≡◌, ℕ, ◌+◌, ◌≤◌, ◌<◌, List, ◌∷◌, ◌++◌}
use Rattle.std.specs.List.{AllByRecursion}
use Rattle.oxc_sourcemap_parts.specs.Record.{MapRecord}
use Rattle.oxc_sourcemap_parts.specs.DecodedMap.{decoded_map_of}
use Rattle.oxc_sourcemap_lookup.specs.Trace.{trace, clamped_trace}
use Rattle.oxc_sourcemap_join.specs.Joined.{at_lines, joined}
use Rattle.oxc_sourcemap_plan.specs.JoinLaws.{AreAllInRange}

-- Each token of these maps, each of which begins at its line, is before this line.
abbrev pub AreBefore : ℕ → List (MapRecord × ℕ) → Type 0
AreBefore line ms = AllByRecursion (λ m. AllByRecursion (λ t. t.dst_line + m.1 < line) m.0.tokens) ms

-- these maps begin at this line or behind it
abbrev pub BeginFrom : ℕ → List (MapRecord × ℕ) → Type 0
BeginFrom line ms = AllByRecursion (λ m. line ≤ m.1) ms

-- On the lines of one code, which begins at line `start` of a bundle, the traces of the bundle, exact and clamped, are those of the code's
-- map there: if all ids are in range, the tokens of the maps before it are before its code, and the maps behind it begin behind its code.
abbrev pub TracesOfBundle : Type 0
TracesOfBundle =
    (before : List (MapRecord × ℕ)) (m : MapRecord) (start lines : ℕ) (after : List (MapRecord × ℕ)) (line col : ℕ)
    → let maps = at_lines (before ++ (m, start) ∷ after) in
    AreAllInRange maps → AreBefore start before → BeginFrom (start + lines) after → line < lines
    → (trace (decoded_map_of (joined maps)) (line + start) col ≡ trace (decoded_map_of m) line col)
    × (clamped_trace (decoded_map_of (joined maps)) (line + start) col ≡ clamped_trace (decoded_map_of m) line col)
