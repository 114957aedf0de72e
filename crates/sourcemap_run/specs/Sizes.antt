-- How many bytes of a code come from each source. The code is cut where its pieces begin.
use Rattle.std.specs.Prelude.{ℕ, ◌-◌, ◌==◌, min, max, List, [], ◌∷◌, map, sum}
use Rattle.std.specs.Prelude.{Option, Some, None}
use Rattle.std.specs.Option.{option_and_then}
use Rattle.std.specs.List.{filter}
use Rattle.oxc_sourcemap_queries.specs.declared.pieces.cuts.Piece.{Piece}
use Rattle.sourcemap_run.specs.declared.sizes.Start.{Start}

-- the source of a piece; none if it has no token, or that points to none
abbrev pub source_of : Piece → Option ℕ
source_of piece = option_and_then (λ t. t.source_id) piece.token

-- the byte at which a piece with this offset begins, behind one that begins at `from`, in a code with so many bytes: not before that, and
-- not past the code
abbrev pub begin_of : ℕ → ℕ → ℕ → ℕ
begin_of len from offset = min (max offset from) len

-- The pieces of a code from the byte `from` on: the source of each, and its bytes, up to where the next one begins, or up to the end.
abbrev pub lengths_from : ℕ → ℕ → Option ℕ → List Start → List (Option ℕ × ℕ)
lengths_from len from source [] = (source, len - from) ∷ []
lengths_from len from source (s ∷ ss) =
    (source, begin_of len from s.offset - from) ∷ lengths_from len (begin_of len from s.offset) s.source ss

-- those of a whole code: what stands ahead of its first piece has no source
abbrev pub lengths_of : ℕ → List Start → List (Option ℕ × ℕ)
lengths_of len starts = lengths_from len 0 None starts

-- the slot of a source, of so many sources: behind those of all sources is the slot of what has none
abbrev pub slot_of : ℕ → Option ℕ → ℕ
slot_of count None = count
slot_of count (Some id) = min id count

-- the bytes of a slot: of all pieces whose sources have it
abbrev pub bytes_at : ℕ → List (Option ℕ × ℕ) → ℕ → ℕ
bytes_at count lengths slot = sum (map (λ l. l.1) (filter (λ l. slot_of count l.0 == slot) lengths))
