-- A line of a stack trace from its next cut on.
use Rattle.std.proofs.Common.{◌≡◌, ◌↔◌, ◌≤◌, ◌<◌, ◌+◌, ℕ, suc, List, [], ◌∷◌, ◌++◌, drop, length}
use Rattle.std.proofs.Common.{Option, None, slice_index_or, refl, sym, ap, subst, ◌∙◌}
use Rattle.std.proofs.Common.{append_assoc, arith}
use Rattle.std.proofs.Math.Seq.{drop-cons}
use Rattle.std.proofs.lemmas.List.{append-nil}
use Rattle.oxc_sourcemap_parts.specs.Record.{Text, MapRecord}
use Rattle.oxc_sourcemap_parts.specs.DecodedMap.{OriginalPosition}
use Rattle.sourcemap_run.specs.declared.frames.Cut.{Cut}
use Rattle.sourcemap_run.specs.declared.frames.Target.{Target}
use Rattle.sourcemap_run.specs.Frames.{between, IsCutAt, AreInRow, line_led_back, location_text}
use Rattle.sourcemap_run.specs.Frames.{answer_to}

abbrev pub no_cut : Cut
no_cut = record { start = 0; end = 0; target = None }

next_of : (cuts : List Cut) (i : ℕ) → i < length cuts → drop i cuts ≡ slice_index_or cuts i no_cut ∷ drop (i + 1) cuts
next_of cuts i lt =
    let next : suc i ≡ i + 1 = omega arith in
    drop-cons cuts i no_cut lt ∙ ap (λ n. slice_index_or cuts i no_cut ∷ drop n cuts) next

-- what is printed up to one more cut
pub one_more_cut : (print : OriginalPosition → Text) (maps : List MapRecord) (line : Text) (from : ℕ) (cuts : List Cut) (i : ℕ)
    (front location : Text) (target : Option Target) (old new all : Text) → i < length cuts
    → front ≡ between line from (slice_index_or cuts i no_cut).start
    → location ≡ between line (slice_index_or cuts i no_cut).start (slice_index_or cuts i no_cut).end
    → target ≡ (slice_index_or cuts i no_cut).target
    → new ≡ old ++ (front ++ (location_text print location (answer_to maps target) ++ []))
    → old ++ line_led_back print maps line from (drop i cuts) ≡ all
    → new ++ line_led_back print maps line (slice_index_or cuts i no_cut).end (drop (i + 1) cuts) ≡ all
one_more_cut print maps line from cuts i front location target old new all lt f l t n so_far =
    let cut = slice_index_or cuts i no_cut in
    let rest = line_led_back print maps line cut.end (drop (i + 1) cuts) in
    let own = location_text print location (answer_to maps target) in
    let whole : line_led_back print maps line from (drop i cuts) ≡ front ++ (own ++ rest) =
    ap (line_led_back print maps line from) (next_of cuts i lt) ∙ sym (rw (f, l, t) refl) in
    ap (λ x. x ++ rest) (n ∙ ap (λ x. old ++ (front ++ x)) (append-nil own))
    ∙ append_assoc old (front ++ own) rest ∙ ap (λ x. old ++ x) (append_assoc front own rest ∙ sym whole) ∙ so_far

-- the cuts behind one that is in its row
pub one_more_row : (line : Text) (from : ℕ) (cuts : List Cut) (i : ℕ) (All : Type 0) → i < length cuts
    → (from ≤ (slice_index_or cuts i no_cut).start) × IsCutAt line (slice_index_or cuts i no_cut).start (slice_index_or cuts i no_cut).end
    → (AreInRow line from (drop i cuts) ↔ All) → (AreInRow line (slice_index_or cuts i no_cut).end (drop (i + 1) cuts) ↔ All)
one_more_row line from cuts i All lt cut row =
    let next = next_of cuts i lt in
    ((λ h. row.0 (subst (AreInRow line from) (sym next) (cut.0, cut.1, h))), λ all. (subst (AreInRow line from) next (row.1 all)).2)
