-- What is written into a buffer, and how its pieces make the text of a token.
use Rattle.std.proofs.Common.{◌≡◌, ℕ, zero, suc, ◌+◌, ◌-◌, ◌/◌, ◌%◌, ◌<◌, ◌≤◌, Bool, true, false}
use Rattle.std.proofs.Common.{◌*◌, ◌==◌, nat_lt, List, [], ◌∷◌, ◌++◌, length, take, set, replicate}
use Rattle.std.proofs.Common.{arith, lit<, refl, sym, ap, ◌∙◌, append_assoc, if◌then◌else◌, inl}
use Rattle.std.proofs.Common.{inr, Some}
use Rattle.std.proofs.Math.Seq.{take-append-add}
use Rattle.std.proofs.lemmas.Bool.{cases_lt}
use Rattle.std.proofs.lemmas.Bool.Decides.{nat_tests}
use Rattle.std.proofs.lemmas.List.{take-set-le, take_more_set, take-append-le, length-take-le}
use Rattle.std.proofs.lemmas.List.{append-nil, take-replicate, replicate-append-replicate}
use borrow.Rule.Slice.PartMut.{put_mid, post_of}
use Rattle.std.specs.Option.{option_map_or}
use Rattle.oxc_sourcemap_tokens.specs.Token.{TokenRecord, name_beside}
use Rattle.oxc_sourcemap_tokens.specs.State.{State}
use Rattle.oxc_sourcemap_mappings.specs.Canonical.{letter, vlq_text, raw_delta, delta_text}
use Rattle.oxc_sourcemap_mappings.specs.Canonical.{separator, token_text, source_text, name_text}
use Rattle.oxc_sourcemap_mappings.specs.Encoding.{line_marks, raw_at, column_from, fields_text}
use Rattle.oxc_sourcemap_mappings.specs.Encoding.{text_from}
use Rattle.oxc_sourcemap_tokens.specs.Steps.{advanced}
use Rattle.oxc_sourcemap_mappings.proofs.Vlq.{vlq_text_small, vlq_text_large}

-- a digit of a number that others follow
pub digit-placed : (b : List ℕ) (at x raw : ℕ) → at < length b → 32 ≤ raw → x ≡ letter (raw % 32 + 32) → take (at + 1) (set b at x) ++ vlq_text (raw / 32) ≡ take at b ++ vlq_text raw
digit-placed b at x raw h s l =
    ap (λ xs. xs ++ vlq_text (raw / 32)) (take_more_set b at x h)
    ∙ append_assoc (take at b) (x ∷ []) (vlq_text (raw / 32))
    ∙ ap (λ xs. take at b ++ xs) (ap (λ k. k ∷ vlq_text (raw / 32)) l ∙ sym (vlq_text_large raw s))

-- the last digit of a number
pub last-placed : (b : List ℕ) (at x raw : ℕ) → at < length b → raw < 32 → x ≡ letter raw → take (at + 1) (set b at x) ≡ take at b ++ vlq_text raw
last-placed b at x raw h s l = take_more_set b at x h ∙ ap (λ xs. take at b ++ xs) (ap (λ k. k ∷ []) l ∙ sym (vlq_text_small raw s))

-- bytes that are written at once, of which only the first count
pub mid-placed : (xs ys : List ℕ) (a k n end : ℕ) → end ≡ a + n → a ≤ length xs → n ≤ length ys → take end (put_mid a k xs ys) ≡ take a xs ++ take n ys
mid-placed xs ys a k n end e h l =
    let m : end ≡ length (take a xs) + n = omega (arith, length-take-le a xs h) in
    ap (λ j. take j (put_mid a k xs ys)) m ∙ take-append-add (take a xs) (ys ++ post_of a k xs) n
    ∙ ap (λ zs. take a xs ++ zs) (take-append-le n ys (post_of a k xs) l)

-- the separator of a token, by how many lines it lies below the one before
separator-is : (first : Bool) (s : State) (t : TokenRecord) → s.dst_line ≤ t.dst_line → separator first s t ≡ line_marks first (t.dst_line - s.dst_line)
unfolding separator
separator-is first s t h =
    elim (cases_lt s.dst_line t.dst_line) [
      | inl l ↦ (let p : (t.dst_line == s.dst_line) ≡ false = grind (arith, nat_tests) in let q : (t.dst_line - s.dst_line == 0) ≡ false = grind (arith, nat_tests) in rw (p, q) refl)
      | inr l ↦ (let p : (t.dst_line == s.dst_line) ≡ true = grind (arith, nat_tests) in let q : (t.dst_line - s.dst_line == 0) ≡ true = grind (arith, nat_tests) in rw (p, q) refl)
    ]

marks-split : (first : Bool) (lines left : ℕ) → left ≤ lines → (left ≡ 0 → lines ≡ 0) → replicate (lines - left) 59 ++ line_marks first left ≡ line_marks first lines
marks-split first lines zero h e = rw (e refl) refl
marks-split first lines (suc left) h e =
    let n : lines - suc left + suc left ≡ lines = omega arith in
    let p : (suc left == 0) ≡ false = grind (arith, nat_tests) in
    let q : (lines == 0) ≡ false = grind (arith, nat_tests) in
    rw (p, q) (replicate-append-replicate (lines - suc left) (suc left) 59 ∙ ap (λ k. replicate k 59) n)

-- a token some of whose `;` are written ahead
pub token-parts : (first : Bool) (s : State) (t : TokenRecord) (left : ℕ) → s.dst_line ≤ t.dst_line → left ≤ t.dst_line - s.dst_line → (left ≡ 0 → t.dst_line - s.dst_line ≡ 0) → replicate (t.dst_line - s.dst_line - left) 59 ++ (line_marks first left ++ fields_text (column_from s t) s t) ≡ token_text first s t
unfolding token_text
token-parts first s t left h l e =
    let column = delta_text t.dst_col (column_from s t) in
    let apart = separator first s t in
    sym (append_assoc (replicate (t.dst_line - s.dst_line - left) 59) (line_marks first left) (fields_text (column_from s t) s t))
    ∙ ap (λ xs. xs ++ fields_text (column_from s t) s t) (marks-split first (t.dst_line - s.dst_line) left l e ∙ sym (separator-is first s t h))
    ∙ ap (λ xs. apart ++ xs) (append_assoc column (source_text s t) (name_text s t))
    ∙ sym (append_assoc apart column (source_text s t ++ name_text s t))
    ∙ sym (append_assoc (apart ++ column) (source_text s t) (name_text s t))

-- one token further, where some bytes are in the text and the others in the buffer
pub gathered-more : (text kept text2 kept2 marks token kept3 rest : List ℕ) → text2 ++ kept2 ≡ (text ++ kept) ++ marks → kept3 ≡ kept2 ++ token → (text2 ++ kept3) ++ rest ≡ (text ++ kept) ++ ((marks ++ token) ++ rest)
gathered-more text kept text2 kept2 marks token kept3 rest e f =
    ap (λ x. x ++ rest) (ap (λ x. text2 ++ x) f ∙ sym (append_assoc text2 kept2 token) ∙ ap (λ x. x ++ token) e ∙ append_assoc (text ++ kept) marks token)
    ∙ append_assoc (text ++ kept) (marks ++ token) rest

pub one-more : (text kept text2 kept2 kept3 all : List ℕ) (first : Bool) (s next : State) (t : TokenRecord) (rest : List TokenRecord) (lines left : ℕ) → s.dst_line ≤ t.dst_line → lines ≡ t.dst_line - s.dst_line → left ≤ lines → (left ≡ 0 → lines ≡ 0) → text2 ++ kept2 ≡ (text ++ kept) ++ replicate (lines - left) 59 → kept3 ≡ kept2 ++ (line_marks first left ++ fields_text (column_from s t) s t) → next ≡ advanced s t → (text ++ kept) ++ text_from first s (t ∷ rest) ≡ all → (text2 ++ kept3) ++ text_from false next rest ≡ all
one-more text kept text2 kept2 kept3 all first s next t rest lines left h n l e room placed after before =
    let here : replicate (lines - left) 59 ++ (line_marks first left ++ fields_text (column_from s t) s t) ≡ token_text first s t =
    ap (λ k. replicate (k - left) 59 ++ (line_marks first left ++ fields_text (column_from s t) s t)) n ∙ token-parts first s t left h (omega (arith, n)) (λ z. sym n ∙ e z) in
    gathered-more text kept text2 kept2 (replicate (lines - left) 59) (line_marks first left ++ fields_text (column_from s t) s t) kept3 (text_from false next rest) room placed
    ∙ ap (λ x. (text ++ kept) ++ (x ++ text_from false next rest)) here
    ∙ ap (λ q. (text ++ kept) ++ (token_text first s t ++ text_from false q rest)) after
    ∙ before

-- the separator on the line of the token before
pub comma-placed : (first : Bool) (b : List ℕ) (at n end : ℕ) → at < length b → n ≡ (if first then 0 else 1) → end ≡ at + n → take end (set b at 44) ≡ take at b ++ (if first then [] else 44 ∷ [])
comma-placed true b at n end h m e =
    let same : end ≡ at = omega (arith, m) in
    ap (λ k. take k (set b at 44)) same ∙ take-set-le at b at 44 (omega arith) ∙ sym (append-nil (take at b))
comma-placed false b at n end h m e =
    let more : end ≡ at + 1 = omega (arith, m) in
    ap (λ k. take k (set b at 44)) more ∙ take_more_set b at 44 h

-- the separator on a later line, as the first of eight bytes
pub semicolons-placed : (first : Bool) (b new : List ℕ) (at k end lines : ℕ) → at ≤ length b → new ≡ replicate 8 59 → end ≡ at + lines → lines ≤ 8 → 0 < lines → take end (put_mid at k b new) ≡ take at b ++ line_marks first lines
semicolons-placed first b new at k end lines h e f l p =
    let q : (lines == 0) ≡ false = grind (arith, nat_tests) in
    mid-placed b new at k lines end f h (omega (arith, ap length e))
    ∙ ap (λ xs. take at b ++ xs) (ap (take lines) e ∙ take-replicate lines 8 59 l ∙ rw q refl)

-- the text of a number that has not changed
pub same-text : (n : ℕ) → delta_text n n ≡ 65 ∷ []
unfolding letter
same-text n =
    let p : nat_lt n n ≡ false = grind (arith, nat_tests) in
    let z : 2 * (n - n) ≡ 0 = omega arith in
    rw (p, z) (vlq_text_small 0 (lit< tt))

-- the fields of a token with the source of the token before
pub same-source : (column : ℕ) (s : State) (t : TokenRecord) → t.source_id ≡ Some s.source_id → fields_text column s t
    ≡ (delta_text t.dst_col column ++ (((65 ∷ []) ++ delta_text t.src_line s.src_line) ++ delta_text t.src_col s.src_col)) ++ option_map_or (λ id. delta_text id s.name_id) t.name_id []
same-source column s t e =
    ap (λ o. (delta_text t.dst_col column ++ option_map_or (λ id. delta_text id s.source_id ++ delta_text t.src_line s.src_line ++ delta_text t.src_col s.src_col) o []) ++ option_map_or (λ id. delta_text id s.name_id) (name_beside o t.name_id) []) e
    ∙ ap (λ a. (delta_text t.dst_col column ++ ((a ++ delta_text t.src_line s.src_line) ++ delta_text t.src_col s.src_col)) ++ option_map_or (λ id. delta_text id s.name_id) t.name_id []) (same-text s.source_id)

-- a delta from the table
pub near-placed : (start xs : List ℕ) (to value from raw : ℕ) → to ≡ value → raw_delta to from ≡ raw → xs ≡ start ++ vlq_text raw → xs ≡ start ++ delta_text value from
near-placed start xs to value from raw e near placed = placed ∙ ap (λ r. start ++ vlq_text r) (sym near ∙ ap (λ n. raw_delta n from) e)

-- five texts, one after the other
pub five-placed : (start a b c d e xs1 xs2 xs3 xs4 xs5 : List ℕ) → xs1 ≡ start ++ a → xs2 ≡ xs1 ++ b → xs3 ≡ xs2 ++ c → xs4 ≡ xs3 ++ d → xs5 ≡ xs4 ++ e → xs5 ≡ start ++ ((a ++ ((b ++ c) ++ d)) ++ e)
five-placed start a b c d e xs1 xs2 xs3 xs4 xs5 e1 e2 e3 e4 e5 = rw (e5, e4, e3, e2, e1) (simp append_assoc refl)

-- a number has a digit, and one more than what is left of it after its lowest
pub vlq-filled : (n : ℕ) → 0 < length (vlq_text n)
vlq-filled n = elim (cases_lt n 32) [ inl s ↦ rw (vlq_text_small n s) (lit< tt) | inr l ↦ rw (vlq_text_large n l) (omega arith) ]

pub vlq-shorter : (n : ℕ) → 32 ≤ n → length (vlq_text n) ≡ 1 + length (vlq_text (n / 32))
vlq-shorter n l = rw (vlq_text_large n l) (omega arith)

-- a delta from its distance, taken in 64 bits
pub near-raw : (to from r : ℕ) → to < 4294967296 → from < 4294967296 → r ≡ (to + 512 + (18446744073709551616 - from)) % 18446744073709551616 → r < 1024 → raw_delta to from ≡ raw_at r
near-raw to from r h k e l =
    let sum : to + 512 ≡ r + from = omega (arith, e) in
    elim (cases_lt to from) [
      | inl g ↦ (let p : nat_lt to from ≡ true = grind (arith, nat_tests) in let q : nat_lt r 512 ≡ true = grind (arith, nat_tests) in rw (p, q) (omega (arith, sum)))
      | inr g ↦ (let p : nat_lt to from ≡ false = grind (arith, nat_tests) in let q : nat_lt r 512 ≡ false = grind (arith, nat_tests) in rw (p, q) (omega (arith, sum)))
    ]
