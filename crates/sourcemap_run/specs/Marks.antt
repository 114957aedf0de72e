-- What pieces of blocks say of the lines of originals.
use Rattle.std.specs.Prelude.{ℕ, Option, option_map}
use Rattle.std.specs.Option.{option_and_then}
use Rattle.oxc_sourcemap_tokens.specs.Token.{TokenRecord}
use Rattle.oxc_sourcemap_queries.specs.declared.pieces.cuts.Piece.{Piece}
use Rattle.sourcemap_run.specs.declared.counting.Mark.{Mark}

-- the mark of a piece with this token and this source
abbrev pub marked : ℕ → Piece → TokenRecord → ℕ → Mark
marked count piece t id = record {
  source_id = id;
  line = t.src_line;
  count = count;
  start = record { line = piece.line; column = piece.col };
  end = record { line = piece.end_line; column = piece.end_col };
}

-- what a piece of a block that ran so often says of a line; none if it comes from no source
abbrev pub mark_of : ℕ → Piece → Option Mark
mark_of count piece = option_and_then (λ t. option_map (marked count piece t) t.source_id) piece.token
