-- The lines of a text by bytes, one byte at a time.
use Rattle.std.proofs.Common.{◌≡◌, ℕ, ◌+◌, ◌<◌, Bool, true, false, List, [], ◌∷◌, ◌++◌, length}
use Rattle.std.proofs.Common.{take, drop}
use Rattle.std.proofs.Common.{zero, ◌-◌, arith, refl, ap, ◌∙◌, sym, suc, cond, get_or, min, ◌≤◌}
use Rattle.std.proofs.Common.{add-one, ◌==◌}
use Rattle.std.specs.Prelude.{count_by, sum_by}
use Rattle.std.specs.List.{slice_split, onto_first}
use Rattle.std.proofs.Math.Seq.{drop-cons}
use Rattle.std.proofs.lemmas.List.{drop_all, take_more, take_all, take-append-drop}
use Rattle.std.proofs.lemmas.List.Splits.{length-slice_split}
use Rattle.std.proofs.lemmas.List.Sums.{sum_by-cons, count_by_more_yes, count_by_more_no}
use Rattle.oxc_sourcemap_json.specs.TextBytes.{is_line_feed, line_feeds, line_start}

-- how many bytes these lines have, each with its line feed
abbrev size : List (List ℕ) → ℕ
size lines = sum_by (λ line. length line + 1) lines

size-none : (line : List ℕ) (lines : List (List ℕ)) → size (line ∷ lines) ≡ length line + 1 + size lines
size-none line lines = sum_by-cons (λ (line : List ℕ). length line + 1) line lines

size-onto : (b : ℕ) (n : ℕ) (lines : List (List ℕ)) → 0 < length lines → size (take (suc n) (onto_first b lines)) ≡ 1 + size (take (suc n) lines)
size-onto b n [] h = absurd (omega arith)
size-onto b n (line ∷ lines) h = omega (arith, size-none (b ∷ line) (take n lines), size-none line (take n lines))

-- ---- a line further on, by the first byte

start-feed : (b : ℕ) (text : List ℕ) (n : ℕ) → is_line_feed b ≡ true → line_start (b ∷ text) (suc n) ≡ 1 + line_start text n
start-feed b text n e = rw e (size-none [] (take n (slice_split is_line_feed text)))

start-other : (b : ℕ) (text : List ℕ) (n : ℕ) → is_line_feed b ≡ false → line_start (b ∷ text) (suc n) ≡ 1 + line_start text (suc n)
start-other b text n e =
    let some : 0 < length (slice_split is_line_feed text) = omega (arith, length-slice_split is_line_feed text) in
    rw e (size-onto b n (slice_split is_line_feed text) some)

-- ---- the start of a line, by what is left of the text

opened : (text : List ℕ) (i : ℕ) → i < length text → drop i text ≡ get_or text i 0 ∷ drop (i + 1) text
opened text i h = rw (add-one, drop-cons text i 0 h)

pub past-feed : (text : List ℕ) (line left next i : ℕ) → i < length text → is_line_feed (get_or text i 0) ≡ true → 0 < left → next ≡ left - 1
    → i + line_start (drop i text) left ≡ line_start text line → (i + 1) + line_start (drop (i + 1) text) next ≡ line_start text line
past-feed text line zero next i h is some p e = absurd (omega arith)
past-feed text line (suc n) next i h is some p e =
    let same : next ≡ n = omega arith in
    let step : line_start (drop i text) (suc n) ≡ 1 + line_start (drop (i + 1) text) n =
    ap (λ (rest : List ℕ). line_start rest (suc n)) (opened text i h) ∙ start-feed (get_or text i 0) (drop (i + 1) text) n is in
    rw same (omega arith)

pub past-other : (text : List ℕ) (line left i : ℕ) → i < length text → is_line_feed (get_or text i 0) ≡ false → 0 < left
    → i + line_start (drop i text) left ≡ line_start text line → (i + 1) + line_start (drop (i + 1) text) left ≡ line_start text line
past-other text line zero i h is some e = absurd (omega arith)
past-other text line (suc n) i h is some e =
    let step : line_start (drop i text) (suc n) ≡ 1 + line_start (drop (i + 1) text) (suc n) =
    ap (λ (rest : List ℕ). line_start rest (suc n)) (opened text i h) ∙ start-other (get_or text i 0) (drop (i + 1) text) n is in
    omega arith

-- ---- the line and the column of a byte

feeds-cons : (b : ℕ) (text : List ℕ) → line_feeds (b ∷ text) ≡ cond (is_line_feed b) 1 0 + line_feeds text
feeds-cons b text = sum_by-cons (λ (b : ℕ). cond (is_line_feed b) 1 0) b text

feeds-feed : (b : ℕ) (text : List ℕ) → is_line_feed b ≡ true → line_feeds (b ∷ text) ≡ suc (line_feeds text)
feeds-feed b text e = omega (arith, feeds-cons b text, ap (λ (v : Bool). cond {A = ℕ} v 1 0) e)

feeds-other : (b : ℕ) (text : List ℕ) → is_line_feed b ≡ false → line_feeds (b ∷ text) ≡ line_feeds text
feeds-other b text e = omega (arith, feeds-cons b text, ap (λ (v : Bool). cond {A = ℕ} v 1 0) e)

front-other : (b : ℕ) (front back : List ℕ) (n : ℕ) → is_line_feed b ≡ false → line_start (front ++ back) n ≡ line_start front n
    → line_start (b ∷ front ++ back) n ≡ line_start (b ∷ front) n
front-other b front back zero is e = refl
front-other b front back (suc n) is e = start-other b (front ++ back) n is ∙ ap (λ k. 1 + k) e ∙ sym (start-other b front n is)

-- the line at the end of a front of the text begins where that line of the front does
pub front-start : (front back : List ℕ) → line_start (front ++ back) (line_feeds front) ≡ line_start front (line_feeds front)
front-start [] back = refl
front-start (b ∷ front) back =
    elim (is_line_feed b) as (λ v. is_line_feed b ≡ v → line_start (b ∷ front ++ back) (line_feeds (b ∷ front)) ≡ line_start (b ∷ front) (line_feeds (b ∷ front))) [
      | true ↦ (λ e. rw (feeds-feed b front e)
          (start-feed b (front ++ back) (line_feeds front) e ∙ ap (λ k. 1 + k) (front-start front back) ∙ sym (start-feed b front (line_feeds front) e)))
      | false ↦ (λ e. rw (feeds-other b front e) (front-other b front back (line_feeds front) e (front-start front back)))
    ] refl

-- behind a line feed a line begins
pub behind-feed : (text : List ℕ) (i : ℕ) → i < length text → is_line_feed (get_or text i 0) ≡ true
    → line_start text (suc (line_feeds (take i text))) ≡ i + 1
behind-feed [] i h e = absurd (omega arith)
behind-feed (b ∷ text) zero h e = start-feed b text 0 e
behind-feed (b ∷ text) (suc i) h e =
    elim (is_line_feed b) as (λ v. is_line_feed b ≡ v → line_start (b ∷ text) (suc (line_feeds (b ∷ take i text))) ≡ suc i + 1) [
      | true ↦ (λ f. rw (feeds-feed b (take i text) f)
          (let first = start-feed b text (suc (line_feeds (take i text))) f in let rest = behind-feed text i (omega arith) e in omega arith))
      | false ↦ (λ f. rw (feeds-other b (take i text) f)
          (let first = start-other b text (line_feeds (take i text)) f in let rest = behind-feed text i (omega arith) e in omega arith))
    ] refl

pub one-more : (text : List ℕ) (i : ℕ) → i < length text → is_line_feed (get_or text i 0) ≡ true → line_feeds (take (i + 1) text) ≡ line_feeds (take i text) + 1
one-more text i h e = count_by_more_yes is_line_feed text i 0 h e

pub no-more : (text : List ℕ) (i : ℕ) → i < length text → is_line_feed (get_or text i 0) ≡ false → line_feeds (take (i + 1) text) ≡ line_feeds (take i text)
no-more text i h e = count_by_more_no is_line_feed text i 0 h e
