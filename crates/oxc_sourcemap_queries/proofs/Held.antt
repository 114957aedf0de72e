-- What the lookup and the trace find at the positions of the pieces of a range.
use Rattle.std.proofs.Common.{◌≡◌, refl, sym, ap, ◌∙◌, ℕ, ◌-◌, ◌<◌, ◌≤◌, List, [], ◌∷◌, map}
use Rattle.std.proofs.Common.{option_map, slice_get, arith}
use Rattle.std.specs.List.{AllByRecursion}
use Rattle.std.specs.Option.{option_and_then}
use Rattle.oxc_sourcemap_tokens.specs.Token.{TokenRecord}
use Rattle.oxc_sourcemap_parts.specs.DecodedMap.{decoded_map_of}
use Rattle.oxc_sourcemap_lookup.specs.Lookup.{token_for, index_for}
use Rattle.oxc_sourcemap_lookup.specs.Trace.{trace, original_in}
use Rattle.oxc_sourcemap_lookup.proofs.Numbers.{token_of-index_for}
use Rattle.oxc_sourcemap_lookup.proofs.Traces.{token_traced}
use Rattle.oxc_sourcemap_queries.specs.RangePieces.{Run, place, line_of, column_of}
use Rattle.oxc_sourcemap_queries.specs.RangePieces.{index_at_position, piece_of, runs_from}
use Rattle.oxc_sourcemap_queries.specs.RangePieces.{pieces_of}
use Rattle.oxc_sourcemap_queries.specs.RangeLaws.{IsIn, PiecesCover, PiecesHold, PiecesTrace}
use Rattle.oxc_sourcemap_queries.specs.RangeLaws.{PiecesIndex}
use Rattle.oxc_sourcemap_queries.specs.declared.pieces.cuts.Piece.{Piece}
use Rattle.oxc_sourcemap_queries.proofs.Runs.{back, runs-hold, runs-cover, Holds}

all-mapped : {A B : Type 0} (P : A → Type 0) (Q : B → Type 0) (f : A → B) → ((x : A) → P x → Q (f x)) → (xs : List A) → AllByRecursion P xs → AllByRecursion Q (map f xs)
all-mapped P Q f h [] all = tt
all-mapped P Q f h (x ∷ xs) all = (h x all.0, all-mapped P Q f h xs all.1)

all-so : {A : Type 0} (P Q : A → Type 0) → ((x : A) → P x → Q x) → (xs : List A) → AllByRecursion P xs → AllByRecursion Q xs
all-so P Q h [] all = tt
all-so P Q h (x ∷ xs) all = (h x all.0, all-so P Q h xs all.1)

-- the token of a piece is the one that is found at each of its positions
abbrev HoldsIn : List TokenRecord → Piece → Type 0
HoldsIn tokens piece = (l c : ℕ) → IsIn piece l c → token_for tokens l c ≡ piece.token

-- the index of a piece is that of the token that is found at each of its positions
abbrev HasIndex : List TokenRecord → Piece → Type 0
HasIndex tokens piece = (l c : ℕ) → IsIn piece l c → index_for tokens l c ≡ piece.index

run-index : (tokens : List TokenRecord) (run : Run) → Holds (index_at_position tokens) run → HasIndex tokens (piece_of tokens run)
run-index tokens run h = λ l c is.
    let q = place l c in
    let low : run.start ≤ q = omega (arith, is.from_start, back run.start) in
    let high : q < run.end = omega (arith, is.before_end, back run.end) in
    let line : line_of q ≡ l = omega (arith, is.column) in
    let col : column_of q ≡ c = omega (arith, is.column) in
    ap (λ n. index_for tokens l n) (sym col) ∙ ap (λ n. index_for tokens n (column_of q)) (sym line) ∙ h q low high

run-holds : (tokens : List TokenRecord) (run : Run) → Holds (index_at_position tokens) run → HoldsIn tokens (piece_of tokens run)
run-holds tokens run h = λ l c is. sym (token_of-index_for tokens l c) ∙ ap (option_and_then (slice_get tokens)) (run-index tokens run h l c is)

pub cover : PiecesCover
cover tokens line col end_line end_col =
    runs-cover tokens (index_at_position tokens) (place line col) (place end_line end_col) (place end_line end_col - place line col) refl

pub hold : PiecesHold
hold tokens line col end_line end_col =
    all-mapped (Holds (index_at_position tokens)) (HoldsIn tokens) (piece_of tokens) (run-holds tokens)
    (runs_from (index_at_position tokens) (place line col) (place end_line end_col - place line col)) (runs-hold (index_at_position tokens) (place line col) (place end_line end_col - place line col))

pub index : PiecesIndex
index tokens line col end_line end_col =
    all-mapped (Holds (index_at_position tokens)) (HasIndex tokens) (piece_of tokens) (run-index tokens)
    (runs_from (index_at_position tokens) (place line col) (place end_line end_col - place line col)) (runs-hold (index_at_position tokens) (place line col) (place end_line end_col - place line col))

pub traces : PiecesTrace
traces r line col end_line end_col =
    all-so (HoldsIn r.tokens) (λ piece. (l c : ℕ) → IsIn piece l c → trace (decoded_map_of r) l c ≡ option_map (original_in r) piece.token) (λ piece h l c is. sym (token_traced r l c) ∙ ap (option_map (original_in r)) (h l c is))
    (pieces_of r.tokens line col end_line end_col) (hold r.tokens line col end_line end_col)
