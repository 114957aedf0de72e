-- Reading from the front on: what is left of a text, after a line and a place.
use Rattle.std.proofs.Common.{◌≡◌, ℕ, ◌+◌, ◌<◌, Bool, true, false, cond, List, [], ◌∷◌, ◌++◌}
use Rattle.std.proofs.Common.{length, map, drop, filter, ℤ, ◌+ℤ◌, Some, Result, Ok, Err}
use Rattle.std.proofs.Common.{if◌then◌else◌, nat_lt, slice_get, arith, refl, sym, ap, ◌∙◌}
use Rattle.std.proofs.Common.{append_assoc, ◌⊎◌, inl, inr}
use Rattle.std.specs.List.{slice_split, onto_first}
use Rattle.std.proofs.lemmas.List.{append-nil}
use Rattle.std.proofs.Math.IntN.{+ℤ_assoc, +ℤ_comm}
use Rattle.std.proofs.lemmas.Bool.Decides.{nat_tests}
use Rattle.oxc_sourcemap_tokens.specs.declared.errors.error.Error.{Error}
use Rattle.oxc_sourcemap_tokens.specs.declared.errors.error.Error.TheVariants.{TooLarge}
use Rattle.oxc_sourcemap_mappings.specs.Number.{digit}
use Rattle.oxc_sourcemap_mappings.specs.Parts.{Segment, segment, segments, lines, field, is_filled}
use Rattle.oxc_sourcemap_mappings.specs.Parts.{is_semicolon, is_comma, has_source, has_name}
use Rattle.oxc_sourcemap_mappings.specs.Places.{Before, nothing_before, past_segment, past_line}
use Rattle.oxc_sourcemap_mappings.specs.Places.{Place, place, field_sum, of_any_size}
use Rattle.oxc_sourcemap_mappings.specs.Faults.{Counts, counts_of}
use Rattle.oxc_sourcemap_tokens.specs.Token.{TokenRecord}
use Rattle.oxc_sourcemap_mappings.specs.Reading.{segment_result, line_results, text_results, onto}
use Rattle.oxc_sourcemap_mappings.specs.Reading.{gathered, reading}
use Rattle.oxc_sourcemap_mappings.specs.Decoding.{ends_segment, front_digits, front_segment}
use Rattle.oxc_sourcemap_mappings.specs.Decoding.{moved_by, at_line_start}

-- ---- the outcomes of a text, the place carried along

-- the outcomes of the segments of a line, after this place
abbrev pub along : Counts → ℕ → Place → List Segment → List (Result TokenRecord Error)
along c line p [] = []
along c line p (s ∷ more) = segment_result c line p s (moved_by p s) ∷ along c line (moved_by p s) more

abbrev pub moved_by_all : Place → List Segment → Place
moved_by_all p [] = p
moved_by_all p (s ∷ more) = moved_by_all (moved_by p s) more

-- the outcomes of some lines, the first of which has this number
abbrev pub along_lines : Counts → ℕ → Place → List (List Segment) → List (Result TokenRecord Error)
along_lines c line p [] = []
along_lines c line p (l ∷ ls) =
    if nat_lt line 4294967296
    then along c line (at_line_start p) l ++ along_lines c (line + 1) (moved_by_all (at_line_start p) l) ls
    else Err TooLarge ∷ []

-- a sum with one segment more
sum-swap : (a b c : ℤ) → (a +ℤ b) +ℤ c ≡ (a +ℤ c) +ℤ b
sum-swap a b c = +ℤ_assoc a b c ∙ ap (λ z. a +ℤ z) (+ℤ_comm b c) ∙ sym (+ℤ_assoc a c b)

step-swap : (x y : Bool) (a b c : ℤ) → cond x (cond y (a +ℤ b) a +ℤ c) (cond y (a +ℤ b) a) ≡ cond y (cond x (a +ℤ c) a +ℤ b) (cond x (a +ℤ c) a)
step-swap true true a b c = sum-swap a b c
step-swap true false a b c = refl
step-swap false true a b c = refl
step-swap false false a b c = refl

sum-last : (test : ℕ → Bool) (k : ℕ) (ss : List Segment) (s : Segment) → field_sum test k (ss ++ s ∷ []) ≡ cond (test (length s)) (field_sum test k ss +ℤ field k s) (field_sum test k ss)
sum-last test k [] s = refl
sum-last test k (x ∷ ss) s =
    ap (λ n. cond (test (length x)) (n +ℤ field k x) n) (sum-last test k ss s)
    ∙ step-swap (test (length x)) (test (length s)) (field_sum test k ss) (field k s) (field k x)

place-past : (b : Before) (s : Segment) → place (past_segment b s) ≡ moved_by (place b) s
place-past b s =
    rw (sum-last of_any_size 0 b.on_line s, sum-last has_source 1 b.in_text s, sum-last has_source 2 b.in_text s, sum-last has_source 3 b.in_text s, sum-last has_name 4 b.in_text s)

-- the segments before, with some more on the line
abbrev past_all : Before → List Segment → Before
past_all b ss = record { on_line = b.on_line ++ ss; in_text = b.in_text ++ ss }

moved_by_all-place : (ss : List Segment) (b : Before) → moved_by_all (place b) ss ≡ place (past_all b ss)
moved_by_all-place [] b = rw (append-nil b.on_line, append-nil b.in_text)
moved_by_all-place (s ∷ more) b =
    ap (λ p. moved_by_all p more) (sym (place-past b s)) ∙ moved_by_all-place more (past_segment b s)
    ∙ rw (append_assoc b.on_line (s ∷ []) more, append_assoc b.in_text (s ∷ []) more)

line_results-is : (c : Counts) (line : ℕ) (ss : List Segment) (b : Before) → line_results c line b ss ≡ along c line (place b) ss
unfolding line_results
line_results-is c line [] b = refl
line_results-is c line (s ∷ more) b =
    ap (λ rest. segment_result c line (place b) s (place (past_segment b s)) ∷ rest) (line_results-is c line more (past_segment b s))
    ∙ ap (λ p. segment_result c line (place b) s p ∷ along c line p more) (place-past b s)

text_results-is : (c : Counts) (line : ℕ) (ls : List (List Segment)) (b : Before) (p : Place) → at_line_start p ≡ place b → text_results c line b ls ≡ along_lines c line p ls
unfolding text_results
text_results-is c line [] b p e = refl
text_results-is c line (l ∷ ls) b p e =
    let here : line_results c line b l ≡ along c line (at_line_start p) l = line_results-is c line l b ∙ ap (λ q. along c line q l) (sym e) in
    let reached : at_line_start (moved_by_all (at_line_start p) l) ≡ place (past_line b l) =
    ap (λ q. at_line_start (moved_by_all q l)) e ∙ ap at_line_start (moved_by_all-place l b) in
    let there : text_results c (line + 1) (past_line b l) ls ≡ along_lines c (line + 1) (moved_by_all (at_line_start p) l) ls =
    text_results-is c (line + 1) ls (past_line b l) (moved_by_all (at_line_start p) l) reached in
    rw (here, there)

-- ---- what is left, from anywhere in a line on

-- the outcomes of the parts of a text, the first of which is the rest of a line
abbrev along_parts : Counts → ℕ → Place → List (List ℕ) → List (Result TokenRecord Error)
along_parts c line p [] = []
along_parts c line p (l ∷ ls) = along c line p (segments l) ++ along_lines c (line + 1) (moved_by_all p (segments l)) (map segments ls)

abbrev pub left_outcomes : Counts → ℕ → Place → List ℕ → List (Result TokenRecord Error)
left_outcomes c line p text = along_parts c line p (slice_split is_semicolon text)

along_lines-parts : (c : Counts) (line : ℕ) (p : Place) (parts : List (List ℕ)) → line < 4294967296 → along_lines c line p (map segments parts) ≡ along_parts c line (at_line_start p) parts
along_lines-parts c line p [] h = refl
along_lines-parts c line p (l ∷ ls) h = let t : nat_lt line 4294967296 ≡ true = grind (arith, nat_tests) in rw t

pub reading-lines : (text : List ℕ) (names sources : ℕ) → reading text names sources ≡ gathered (along_lines (counts_of names sources) 0 (place nothing_before) (lines text))
unfolding reading
reading-lines text names sources = ap gathered (text_results-is (counts_of names sources) 0 (lines text) nothing_before (place nothing_before) refl)

pub reading-is : (text : List ℕ) (names sources : ℕ) → reading text names sources ≡ gathered (left_outcomes (counts_of names sources) 0 (place nothing_before) text)
reading-is text names sources =
    reading-lines text names sources ∙ ap gathered (along_lines-parts (counts_of names sources) 0 (place nothing_before) (slice_split is_semicolon text) (omega arith))

pub results-left : (text : List ℕ) (c : Counts) → text_results c 0 nothing_before (lines text) ≡ left_outcomes c 0 (place nothing_before) text
results-left text c =
    text_results-is c 0 (lines text) nothing_before (place nothing_before) refl
    ∙ along_lines-parts c 0 (place nothing_before) (slice_split is_semicolon text) (omega arith)

-- what is left after a `;`
pub left-semicolon : (c : Counts) (line : ℕ) (p : Place) (text : List ℕ) → line + 1 < 4294967296 → left_outcomes c line p (59 ∷ text) ≡ left_outcomes c (line + 1) (at_line_start p) text
left-semicolon c line p text h = along_lines-parts c (line + 1) p (slice_split is_semicolon text) h

onto_first-lines : (c : Counts) (p : Place) (line b : ℕ) (parts : List (List ℕ)) → nat_lt line 4294967296 ≡ false → along_lines c line p (map segments (onto_first b parts)) ≡ Err TooLarge ∷ []
onto_first-lines c p line b [] t = rw t
onto_first-lines c p line b (l ∷ ls) t = rw t

lines-too_large : (c : Counts) (line : ℕ) (p : Place) (text : List ℕ) → nat_lt line 4294967296 ≡ false → along_lines c line p (lines text) ≡ Err TooLarge ∷ []
lines-too_large c line p [] t = rw t
lines-too_large c line p (b ∷ bs) t =
    elim (is_semicolon b) as (λ v. along_lines c line p (map segments (cond v ([] ∷ slice_split is_semicolon bs) (onto_first b (slice_split is_semicolon bs)))) ≡ Err TooLarge ∷ []) [
      | true ↦ rw t
      | false ↦ onto_first-lines c p line b (slice_split is_semicolon bs) t
    ]

pub left-too_large : (c : Counts) (line : ℕ) (p : Place) (text : List ℕ) → line ≡ 4294967295 → left_outcomes c line p (59 ∷ text) ≡ Err TooLarge ∷ []
left-too_large c line p text e = let t : nat_lt (line + 1) 4294967296 ≡ false = grind (arith, nat_tests) in lines-too_large c (line + 1) p text t

-- what is left after a `,`
parts-comma : (c : Counts) (line : ℕ) (p : Place) (parts : List (List ℕ)) → along_parts c line p (onto_first 44 parts) ≡ along_parts c line p parts
parts-comma c line p [] = refl
parts-comma c line p (l ∷ ls) = refl

pub left-comma : (c : Counts) (line : ℕ) (p : Place) (text : List ℕ) → left_outcomes c line p (44 ∷ text) ≡ left_outcomes c line p text
left-comma c line p text = parts-comma c line p (slice_split is_semicolon text)

-- what is left after a `,`, if there is one
pub left-after : (c : Counts) (line : ℕ) (p : Place) (text rest : List ℕ) → (text ≡ rest) ⊎ (text ≡ 44 ∷ rest) → left_outcomes c line p text ≡ left_outcomes c line p rest
left-after c line p text rest (inl e) = ap (left_outcomes c line p) e
left-after c line p text rest (inr e) = ap (left_outcomes c line p) e ∙ left-comma c line p rest

-- ---- the segment at the front

abbrev front : List ℕ → List ℕ
front [] = []
front (b ∷ bs) = if ends_segment b then [] else b ∷ front bs

abbrev after_front : List ℕ → List ℕ
after_front [] = []
after_front (b ∷ bs) = if ends_segment b then b ∷ bs else after_front bs

front_digits-front : (text : List ℕ) → front_digits text ≡ map digit (front text)
front_digits-front [] = refl
front_digits-front (b ∷ bs) =
    elim (ends_segment b) as (λ v. (if v then [] else digit b ∷ front_digits bs) ≡ map digit (if v then [] else b ∷ front bs)) [
      | true ↦ refl
      | false ↦ ap (λ ds. digit b ∷ ds) (front_digits-front bs)
    ]

drop-front : (text : List ℕ) → drop (length (front_digits text)) text ≡ after_front text
drop-front [] = refl
drop-front (b ∷ bs) =
    elim (ends_segment b) as (λ v. drop (length (if v then [] else digit b ∷ front_digits bs)) (b ∷ bs) ≡ (if v then b ∷ bs else after_front bs)) [
      | true ↦ refl
      | false ↦ drop-front bs
    ]

-- bytes put before the first part
abbrev onto_all_first : List ℕ → List (List ℕ) → List (List ℕ)
onto_all_first [] parts = parts
onto_all_first (b ∷ bs) parts = onto_first b (onto_all_first bs parts)

onto_all_first-cons : (bs part : List ℕ) (parts : List (List ℕ)) → onto_all_first bs (part ∷ parts) ≡ (bs ++ part) ∷ parts
onto_all_first-cons [] part parts = refl
onto_all_first-cons (b ∷ bs) part parts = ap (onto_first b) (onto_all_first-cons bs part parts)

-- a byte inside a segment is neither `;` nor `,`
inside : (b : ℕ) → ends_segment b ≡ false → (is_semicolon b ≡ false) × (is_comma b ≡ false)
inside b e = (grind (arith, nat_tests), grind (arith, nat_tests))

split-front : (text : List ℕ) → slice_split is_semicolon text ≡ onto_all_first (front text) (slice_split is_semicolon (after_front text))
split-front [] = refl
split-front (b ∷ bs) =
    elim (ends_segment b) as (λ v. ends_segment b ≡ v → slice_split is_semicolon (b ∷ bs) ≡ onto_all_first (if v then [] else b ∷ front bs) (slice_split is_semicolon (if v then b ∷ bs else after_front bs))) [
      | true ↦ (λ e. refl)
      | false ↦ (λ e. rw ((inside b e).0) (ap (onto_first b) (split-front bs)))
    ] refl

split-comma : (text more : List ℕ) → slice_split is_comma (front text ++ more) ≡ onto_all_first (front text) (slice_split is_comma more)
split-comma [] more = refl
split-comma (b ∷ bs) more =
    elim (ends_segment b) as (λ v. ends_segment b ≡ v → slice_split is_comma ((if v then [] else b ∷ front bs) ++ more) ≡ onto_all_first (if v then [] else b ∷ front bs) (slice_split is_comma more)) [
      | true ↦ (λ e. refl)
      | false ↦ (λ e. rw ((inside b e).1) (ap (onto_first b) (split-comma bs more)))
    ] refl

-- the rest of a line is empty or begins with a `,`
abbrev IsCut : List (List ℕ) → Type 0
IsCut [] = ⊥
IsCut ([] ∷ ls) = Unit {0}
IsCut ((b ∷ l) ∷ ls) = is_comma b ≡ true

onto_first-cut : (b : ℕ) (parts : List (List ℕ)) → is_comma b ≡ true → IsCut (onto_first b parts)
onto_first-cut b [] e = e
onto_first-cut b (l ∷ ls) e = e

mark-comma : (b : ℕ) → ends_segment b ≡ true → is_semicolon b ≡ false → is_comma b ≡ true
mark-comma b e s = grind (arith, nat_tests)

mark-cut : (b : ℕ) (bs : List ℕ) → ends_segment b ≡ true → IsCut (slice_split is_semicolon (b ∷ bs))
mark-cut b bs e =
    elim (is_semicolon b) as (λ v. is_semicolon b ≡ v → IsCut (cond v ([] ∷ slice_split is_semicolon bs) (onto_first b (slice_split is_semicolon bs)))) [
      | true ↦ (λ s. tt)
      | false ↦ (λ s. onto_first-cut b (slice_split is_semicolon bs) (mark-comma b e s))
    ] refl

after_front-cut : (text : List ℕ) → IsCut (slice_split is_semicolon (after_front text))
after_front-cut [] = tt
after_front-cut (b ∷ bs) =
    elim (ends_segment b) as (λ v. ends_segment b ≡ v → IsCut (slice_split is_semicolon (if v then b ∷ bs else after_front bs))) [
      | true ↦ (λ e. mark-cut b bs e)
      | false ↦ (λ e. after_front-cut bs)
    ] refl

segments-front : (text l : List ℕ) (ls : List (List ℕ)) → is_filled (front text) ≡ true → IsCut (l ∷ ls) → segments (front text ++ l) ≡ segment (front text) ∷ segments l
segments-front text [] ls f h =
    let e : slice_split is_comma (front text ++ []) ≡ (front text ++ []) ∷ [] = split-comma text [] ∙ onto_all_first-cons (front text) [] [] in
    rw (e, append-nil (front text), f)
segments-front text (b ∷ l) ls f h =
    let parts = slice_split is_comma l in
    let cut : slice_split is_comma (b ∷ l) ≡ [] ∷ parts = rw h in
    let e : slice_split is_comma (front text ++ b ∷ l) ≡ (front text ++ []) ∷ parts =
    split-comma text (b ∷ l) ∙ ap (onto_all_first (front text)) cut ∙ onto_all_first-cons (front text) [] parts in
    ap (λ ps. map segment (filter is_filled ps)) (e ∙ ap (λ bs. bs ∷ parts) (append-nil (front text))) ∙ rw (f, h)

parts-front : (c : Counts) (line : ℕ) (p : Place) (text : List ℕ) (parts : List (List ℕ)) → is_filled (front text) ≡ true → IsCut parts →
    along_parts c line p (onto_all_first (front text) parts)
    ≡ segment_result c line p (segment (front text)) (moved_by p (segment (front text))) ∷ along_parts c line (moved_by p (segment (front text))) parts
parts-front c line p text [] f h = absurd h
parts-front c line p text (l ∷ ls) f h =
    ap (along_parts c line p) (onto_all_first-cons (front text) l ls)
    ∙ ap (λ ss. along c line p ss ++ along_lines c (line + 1) (moved_by_all p ss) (map segments ls)) (segments-front text l ls f h)

-- the outcomes of a text that begins with a segment: that of the segment, then those of the rest
pub left-segment : (c : Counts) (line : ℕ) (p : Place) (text : List ℕ) → is_filled (front text) ≡ true →
    left_outcomes c line p text
    ≡ segment_result c line p (front_segment text) (moved_by p (front_segment text)) ∷ left_outcomes c line (moved_by p (front_segment text)) (drop (length (front_digits text)) text)
left-segment c line p text f =
    ap (along_parts c line p) (split-front text)
    ∙ parts-front c line p text (slice_split is_semicolon (after_front text)) f (after_front-cut text)
    ∙ rw (drop-front text, front_digits-front text)

-- a text whose first byte belongs to a segment begins with one
pub front-filled : (text : List ℕ) (b : ℕ) → slice_get text 0 ≡ Some b → ends_segment b ≡ false → is_filled (front text) ≡ true
front-filled [] b e h = cc
front-filled (a ∷ text) b e h = let k : a ≡ b = cc in rw (k, h)

-- ---- the tokens so far, and what is left

-- a reading with these tokens before its tokens
abbrev pub onto_all : List TokenRecord → Result (List TokenRecord) Error → Result (List TokenRecord) Error
onto_all front (Ok ts) = Ok (front ++ ts)
onto_all front (Err e) = Err e

onto_all-onto : (toks : List TokenRecord) (t : TokenRecord) (r : Result (List TokenRecord) Error) → onto_all toks (onto t r) ≡ onto_all (toks ++ t ∷ []) r
onto_all-onto toks t (Ok ts) = ap Ok (sym (append_assoc toks (t ∷ []) ts))
onto_all-onto toks t (Err e) = refl

pub onto_all-token : (toks : List TokenRecord) (t : TokenRecord) (o : Result TokenRecord Error) (more : List (Result TokenRecord Error)) → o ≡ Ok t → onto_all toks (gathered (o ∷ more)) ≡ onto_all (toks ++ t ∷ []) (gathered more)
onto_all-token toks t o more e = rw e (onto_all-onto toks t (gathered more))

pub onto_all-fault : (toks : List TokenRecord) (e : Error) (o : Result TokenRecord Error) (more : List (Result TokenRecord Error)) → o ≡ Err e → onto_all toks (gathered (o ∷ more)) ≡ Err e
onto_all-fault toks e o more h = rw h

pub onto_all-none : (r : Result (List TokenRecord) Error) → onto_all [] r ≡ r
onto_all-none (Ok ts) = refl
onto_all-none (Err e) = refl

pub front-byte : (text : List ℕ) (b : ℕ) → slice_get text 0 ≡ Some b → text ≡ b ∷ drop 1 text
front-byte [] b e = cc
front-byte (a ∷ text) b e = let k : a ≡ b = cc in rw k refl
