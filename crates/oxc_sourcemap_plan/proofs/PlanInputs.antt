-- The first text of an input, and what comes after the line that separates it from the next.
use Rattle.std.proofs.Common.{◌≡◌, ◌≢◌, ℕ, ◌<◌, Bool, true, false, cond, ◌==◌, List, [], ◌∷◌, ◌++◌}
use Rattle.std.proofs.Common.{map, codes, length, drop, refl, sym, ap, ◌∙◌, arith}
use Rattle.std.specs.List.{All, slice_split, join_with_byte, onto_first}
use Rattle.std.specs.Cmp.Lexicographic.{bytes_decides}
use Rattle.std.proofs.lemmas.Bool.{false_from_ne_true}
use Rattle.std.proofs.Math.Seq.{drop-append_seam}
use Rattle.std.proofs.lemmas.List.{append_assoc, length-append}
use Rattle.std.proofs.lemmas.List.Elements.{All-nil, All-cons}
use Rattle.std.proofs.lemmas.List.Splits.{slice_split-cons_yes, slice_split_none, slice_split_at}
use Rattle.std.proofs.lemmas.List.Splits.{length-slice_split, join_with_byte-slice_split}
use Rattle.oxc_sourcemap_parts.specs.Record.{Text}
use Rattle.oxc_sourcemap_plan.specs.PlanInputs.{input_lines, is_parting, inputs_of}

abbrev dashes : Text
dashes = codes "---"

-- ---- lines of two texts with a line feed between them
onto-front : {X : Type 0} (x : X) (groups more : List (List X)) → (length groups ≡ 0 → ⊥) → onto_first x (groups ++ more) ≡ onto_first x groups ++ more
onto-front x [] more n = absurd (n refl)
onto-front x (g ∷ groups) more n = refl

split-some : {X : Type 0} (p : X → Bool) (xs : List X) → length (slice_split p xs) ≡ 0 → ⊥
split-some p xs e = let k = length-slice_split p xs in omega arith

-- a list is split at each element that passes
split-at : {X : Type 0} (p : X → Bool) (xs : List X) (y : X) (ys : List X) → p y ≡ true → slice_split p (xs ++ y ∷ ys) ≡ slice_split p xs ++ slice_split p ys
split-at p [] y ys e = slice_split-cons_yes p y ys e
split-at p (x ∷ xs) y ys e =
    elim (p x) as (λ b. cond b ([] ∷ slice_split p (xs ++ y ∷ ys)) (onto_first x (slice_split p (xs ++ y ∷ ys))) ≡ cond b ([] ∷ slice_split p xs) (onto_first x (slice_split p xs)) ++ slice_split p ys) [
      | true ↦ ap (λ groups. [] ∷ groups) (split-at p xs y ys e)
      | false ↦ ap (onto_first x) (split-at p xs y ys e) ∙ onto-front x (slice_split p xs) (slice_split p ys) (split-some p xs)
    ]

-- ---- the separating lines of a text
join-front : (x : Text) (xs : List Text) (y : Text) (ys : List Text) → join_with_byte 10 ((x ∷ xs) ++ y ∷ ys) ≡ join_with_byte 10 (x ∷ xs) ++ 10 ∷ join_with_byte 10 (y ∷ ys)
join-front x [] y ys = refl
join-front x (z ∷ xs) y ys = ap (λ t. x ++ 10 ∷ t) (join-front z xs y ys) ∙ sym (append_assoc x (10 ∷ join_with_byte 10 (z ∷ xs)) (10 ∷ join_with_byte 10 (y ∷ ys)))

-- no line of a text is a separating one: by itself, first, last, or between two others
abbrev pub HasNone : Text → Type 0
HasNone text =
    (text ≢ codes "---")
    × ((rest : Text) → text ≢ codes "---\n" ++ rest)
    × ((front : Text) → text ≢ front ++ codes "\n---")
    × ((front rest : Text) → text ≢ front ++ (codes "\n---\n" ++ rest))

none-among : (text : Text) (front after : List Text) → HasNone text → text ≡ join_with_byte 10 (front ++ dashes ∷ after) → ⊥
none-among text [] [] h e = h.0 e
none-among text [] (y ∷ after) h e = h.1 (join_with_byte 10 (y ∷ after)) e
none-among text (x ∷ front) [] h e = h.2 (join_with_byte 10 (x ∷ front)) (e ∙ join-front x front dashes [])
none-among text (x ∷ front) (y ∷ after) h e = h.3 (join_with_byte 10 (x ∷ front)) (join_with_byte 10 (y ∷ after)) (e ∙ join-front x front dashes (y ∷ after))

not-parting : (line : Text) → line ≢ dashes → is_parting line ≡ false
not-parting line n = false_from_ne_true (is_parting line) (λ t. n ((bytes_decides line dashes).0 t))

pub not_dashes : (text : Text) → is_parting text ≡ false → text ≢ dashes
not_dashes text f e = cc (sym f ∙ ap is_parting e)

-- lines among which there is no separating line, wherever one is looked for
none-left : (lines : List Text) → ((front after : List Text) → lines ≢ front ++ dashes ∷ after) → All (λ line. is_parting line ≡ false) lines
none-left [] n = All-nil (λ line. is_parting line ≡ false)
none-left (line ∷ lines) n =
    All-cons (λ line. is_parting line ≡ false) line lines (not-parting line (λ e. n [] lines (ap (λ l. l ∷ lines) e)))
    (none-left lines (λ front after e. n (line ∷ front) after (ap (λ ls. line ∷ ls) e)))

none-parting : (text : Text) → HasNone text → All (λ line. is_parting line ≡ false) (input_lines text)
none-parting text h = none-left (input_lines text) (λ front after e. none-among text front after h (sym (join_with_byte-slice_split 10 text) ∙ ap (join_with_byte 10) e))

-- ---- the texts of an input, by the first of them
pub only_text : (text : Text) → HasNone text → inputs_of text ≡ text ∷ []
only_text text h = ap (map (join_with_byte 10)) (slice_split_none is_parting (input_lines text) (none-parting text h)) ∙ ap (λ t. t ∷ []) (join_with_byte-slice_split 10 text)

with-dashes : (text after : Text) (lines : List Text) → HasNone text → input_lines after ≡ dashes ∷ lines → inputs_of (text ++ 10 ∷ after) ≡ text ∷ map (join_with_byte 10) (slice_split is_parting lines)
with-dashes text after lines h e =
    ap (λ ls. map (join_with_byte 10) (slice_split is_parting ls)) (split-at (λ b. b == 10) text 10 after refl ∙ ap (λ ls. input_lines text ++ ls) e)
    ∙ ap (map (join_with_byte 10)) (slice_split_at is_parting (input_lines text) dashes lines (none-parting text h) refl)
    ∙ ap (λ t. t ∷ map (join_with_byte 10) (slice_split is_parting lines)) (join_with_byte-slice_split 10 text)

-- a text with a separating line after it, and then others
pub text_and_more : (input text rest : Text) → input ≡ text ++ (codes "\n---\n" ++ rest) → HasNone text → inputs_of input ≡ text ∷ inputs_of rest
text_and_more input text rest e h = ap inputs_of e ∙ with-dashes text (codes "---\n" ++ rest) (input_lines rest) h refl

-- a text with a separating line after it, which ends the input
pub text_and_none : (input text : Text) → input ≡ text ++ codes "\n---" → HasNone text → inputs_of input ≡ text ∷ [] ∷ []
text_and_none input text e h = ap inputs_of e ∙ with-dashes text dashes [] h refl

-- ---- a search that found no separating line
module _ (input text : Text) (no_first : (rest : Text) → input ≢ codes "---\n" ++ rest) where
  shorter : (front after : Text) → text ≡ front ++ after → 0 < length after → length front < length text
  shorter front after e l = let k = ap length e ∙ length-append front after in omega (arith, k, l)

  -- the text before the first separating line between two others
  pub none_before : (rest : Text) → input ≡ text ++ (codes "\n---\n" ++ rest)
      → ((i : ℕ) → i < length text → (after : Text) → drop i input ≢ codes "\n---\n" ++ after) → HasNone text
  none_before rest e first =
      let stands : (front after : Text) → length front < length text → input ≡ front ++ (codes "\n---\n" ++ after) → ⊥ =
      λ front after l q. first (length front) l after (ap (drop (length front)) q ∙ drop-append_seam front (codes "\n---\n" ++ after)) in (
        λ q. no_first (codes "---\n" ++ rest) (e ∙ ap (λ t. t ++ (codes "\n---\n" ++ rest)) q),
        λ ys q. no_first (ys ++ (codes "\n---\n" ++ rest)) (e ∙ ap (λ t. t ++ (codes "\n---\n" ++ rest)) q),
        λ front q. stands front (codes "---\n" ++ rest) (shorter front (codes "\n---") q (omega arith)) (e ∙ ap (λ t. t ++ (codes "\n---\n" ++ rest)) q ∙ append_assoc front (codes "\n---") (codes "\n---\n" ++ rest)),
        λ front ys q. stands front (ys ++ (codes "\n---\n" ++ rest)) (shorter front (codes "\n---\n" ++ ys) q (omega arith)) (e ∙ ap (λ t. t ++ (codes "\n---\n" ++ rest)) q ∙ append_assoc front (codes "\n---\n" ++ ys) (codes "\n---\n" ++ rest)),
      )

  -- the text before a separating line that ends the input, if there is none between two others
  pub none_before_last : input ≡ text ++ codes "\n---" → ((front rest : Text) → input ≢ front ++ (codes "\n---\n" ++ rest)) → HasNone text
  none_before_last e none = (
    λ q. no_first dashes (e ∙ ap (λ t. t ++ codes "\n---") q),
    λ ys q. no_first (ys ++ codes "\n---") (e ∙ ap (λ t. t ++ codes "\n---") q),
    λ front q. none front dashes (e ∙ ap (λ t. t ++ codes "\n---") q ∙ append_assoc front (codes "\n---") (codes "\n---")),
    λ front ys q. none front (ys ++ codes "\n---") (e ∙ ap (λ t. t ++ codes "\n---") q ∙ append_assoc front (codes "\n---\n" ++ ys) (codes "\n---")),
  )
