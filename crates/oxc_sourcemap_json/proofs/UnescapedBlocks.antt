-- Runs of bytes that need no escape, looked at in blocks.
use Rattle.std.proofs.Common.{◌≡◌, ℕ, zero, suc, ◌+◌, ◌-◌, ◌≤◌, ◌%◌, ◌^◌, Bool, true, false, not}
use Rattle.std.proofs.Common.{cond, eqb, ltb, ◌||◌, List, [], ◌∷◌, ◌++◌, length, map, replicate}
use Rattle.std.proofs.Common.{take, drop, refl, sym, ap, ap₂, ◌∙◌, arith}
use Rattle.std.proofs.Math.Seq.{take-append-add}
use Rattle.std.proofs.lemmas.Simd.{first_set_mask_l, mask_l-mod, put_chunk_is}
use Rattle.std.proofs.lemmas.List.{length-map, take-take, take-append-le, length-take-le}
use Rattle.std.proofs.lemmas.List.{length-append, length-replicate, take-replicate}
use Rattle.std.specs.List.{prefix_len}
use lib.Bits.{bit_or}
use lib.Count.{count_trailing_zeros}
use lib.Lanes.{zip2, mask_l, top, put_chunk}
use Rattle.oxc_sourcemap_json.specs.UnescapedBytes.{needs_escape, is_plain, block_of}

-- ---- a lane of a comparison
abbrev lane : Bool → ℕ
lane b = cond b 255 0

one_of_three : (a b c : Bool) → top 7 (bit_or (bit_or (lane a) (lane b)) (lane c)) ≡ a || (b || c)
one_of_three true true true = refl
one_of_three true true false = refl
one_of_three true false true = refl
one_of_three true false false = refl
one_of_three false true true = refl
one_of_three false true false = refl
one_of_three false false true = refl
one_of_three false false false = refl

-- three comparisons of a block, joined lane by lane
abbrev pub compared : ℕ → List ℕ → List ℕ
compared n bytes =
    zip2 bit_or
    (zip2 bit_or
    (zip2 (λ a b. lane (eqb a b)) bytes (replicate n 34))
    (zip2 (λ a b. lane (eqb a b)) bytes (replicate n 92)))
    (zip2 (λ a b. lane (ltb a b)) bytes (replicate n 32))

marks : (bytes : List ℕ) → map (top 7) (compared (length bytes) bytes) ≡ map needs_escape bytes
marks [] = refl
marks (b ∷ bytes) = ap₂ (λ m ms. m ∷ ms) (one_of_three (eqb b 34) (eqb b 92) (ltb b 32)) (marks bytes)

pub marked : (bytes : List ℕ) (n : ℕ) → length bytes ≡ n → n ≤ 64 → mask_l (map (top 7) (compared n bytes)) % 2 ^ 64 ≡ mask_l (map needs_escape bytes)
marked bytes n long few =
    ap (λ k. mask_l (map (top 7) (compared k bytes)) % 2 ^ 64) (sym long)
    ∙ ap (λ ms. mask_l ms % 2 ^ 64) (marks bytes)
    ∙ mask_l-mod (map needs_escape bytes) 64 (omega (arith, length-map bytes needs_escape))

-- ---- a block
-- the run at the front of a block ends at its first mark, or with the block
pub block_run : (bytes : List ℕ) (n m : ℕ) → length bytes ≡ n → n ≤ 64 → m ≡ mask_l (map needs_escape bytes) → cond (eqb m 0) n (count_trailing_zeros 64 m) ≡ prefix_len is_plain bytes
block_run bytes n m long few e = ap (λ k. cond (eqb k 0) n (count_trailing_zeros 64 k)) e ∙ first_set_mask_l needs_escape bytes n long few

pub length-block : (text : List ℕ) → length (block_of text) ≡ 16
length-block text = length-take-le 16 (text ++ replicate 16 32) (omega (arith, length-append text (replicate 16 32), length-replicate {A = ℕ} 16 32))

pub block_front : (text : List ℕ) (n : ℕ) → n ≤ 16 → n ≤ length text → take n (block_of text) ≡ take n text
block_front text n few within = take-take n 16 (text ++ replicate 16 32) few ∙ take-append-le n text (replicate 16 32) within

-- the spaces aside, the run at the front of a block is one of the text
within_step : (escapes : Bool) (n p q l : ℕ) → (n - 1 ≤ p → n - 1 ≤ l → n - 1 ≤ q) → n ≤ cond (not escapes) (1 + p) 0 → n ≤ suc l → n ≤ cond (not escapes) (1 + q) 0
within_step true n p q l later run within = run
within_step false n p q l later run within = let less = later (omega arith) (omega arith) in omega (arith, less)

within_run : (k n : ℕ) (text more : List ℕ) → n ≤ prefix_len is_plain (take k (text ++ more)) → n ≤ length text → n ≤ prefix_len is_plain text
within_run k n [] more run within = within
within_run zero n (b ∷ text) more run within = omega (arith, run)
within_run (suc k) n (b ∷ text) more run within = within_step (needs_escape b) n _ _ (length text) (within_run k (n - 1) text more) run within

pub block_plain : (text : List ℕ) (n : ℕ) → n ≤ prefix_len is_plain (block_of text) → n ≤ length text → n ≤ prefix_len is_plain text
block_plain text n run within = within_run 16 n text (replicate 16 32) run within

-- a block that is stored, of which only the first bytes count
pub block_placed : (buf text : List ℕ) (at n : ℕ) → at + 16 ≤ length buf → n ≤ 16 → n ≤ length text → take (at + n) (put_chunk at buf (block_of text)) ≡ take at buf ++ take n text
block_placed buf text at n room few within =
    let long = length-block text in
    let front : at + n ≡ length (take at buf) + n = omega (arith, length-take-le at buf (omega arith)) in
    let after = drop (length (block_of text)) (drop at buf) in
    ap (take (at + n)) (put_chunk_is at buf (block_of text) (omega (arith, long)))
    ∙ ap (λ k. take k (take at buf ++ (block_of text ++ after))) front
    ∙ take-append-add (take at buf) (block_of text ++ after) n
    ∙ ap (λ bs. take at buf ++ bs) (take-append-le n (block_of text) after (omega (arith, long)) ∙ block_front text n few within)

-- bytes with spaces behind them
pub padded : (text : List ℕ) (n m : ℕ) → n ≤ m → length text ≤ n → text ++ drop (length text) (replicate n 32) ≡ take n (text ++ replicate m 32)
padded [] n m h l = sym (take-replicate n m 32 h)
padded (b ∷ text) zero m h l = absurd (omega arith)
padded (b ∷ text) (suc n) m h l = ap (λ bs. b ∷ bs) (padded text n m (omega arith) (omega arith))
