-- A piece that is read behind the used bytes.
use Rattle.std.proofs.Common.{◌≡◌, ℕ, ◌+◌, ◌≤◌, List, ◌++◌, length, take, sym, ap, ◌∙◌}
use Rattle.std.proofs.Math.Seq.{take-append-add}
use Rattle.std.proofs.lemmas.List.{append_assoc, length-take-le, take-take, take-append-le}

-- the used bytes after a piece is read: those before, and those of the piece
pub piece_read : (before piece after more : List ℕ) (used n len : ℕ) → used ≤ length before → n ≤ length piece → used + n ≤ len
    → take (used + n) (take len ((take used before ++ (piece ++ after)) ++ more)) ≡ take used before ++ take n piece
piece_read before piece after more used n len u p l =
    let front = take used before in
    let behind = piece ++ (after ++ more) in
    take-take (used + n) len ((front ++ (piece ++ after)) ++ more) l
    ∙ ap (take (used + n)) (append_assoc front (piece ++ after) more ∙ ap (λ xs. front ++ xs) (append_assoc piece after more))
    ∙ ap (λ k. take (k + n) (front ++ behind)) (sym (length-take-le used before u))
    ∙ take-append-add front behind n
    ∙ ap (λ xs. front ++ xs) (take-append-le n piece (after ++ more) p)
