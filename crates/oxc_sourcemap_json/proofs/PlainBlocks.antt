-- Plain bytes, looked at in blocks.
use Rattle.std.proofs.Common.{◌≡◌, ℕ, ◌+◌, ◌<◌, ◌≤◌, ◌%◌, ◌^◌, Bool, true, false, cond, eqb, ltb}
use Rattle.std.proofs.Common.{◌||◌, List, [], ◌∷◌, length, map, replicate, drop, refl, sym, ap, ap₂}
use Rattle.std.proofs.Common.{◌∙◌, arith}
use Rattle.std.proofs.lemmas.Bool.{eq-eqb, ne_eqb}
use Rattle.std.proofs.lemmas.List.{length-map}
use Rattle.std.proofs.lemmas.List.Folds.{prefix_len-append}
use Rattle.std.proofs.lemmas.Simd.{chunk-drop, length-chunk, first_set_mask_l, mask_l-mod}
use Rattle.std.specs.List.{prefix_len}
use lib.Bits.{bit_or}
use lib.Count.{count_trailing_zeros}
use lib.Lanes.{zip2, mask_l, top, chunk}
use Rattle.oxc_sourcemap_json.specs.PlainReader.{is_stop, is_plain}

-- ---- a lane of a comparison
abbrev lane : Bool → ℕ
lane b = cond b 255 0

one_of_three : (a b c : Bool) → top 7 (bit_or (bit_or (lane a) (lane b)) (lane c)) ≡ a || (b || c)
one_of_three true true true = refl
one_of_three true true false = refl
one_of_three true false true = refl
one_of_three true false false = refl
one_of_three false true true = refl
one_of_three false true false = refl
one_of_three false false true = refl
one_of_three false false false = refl

-- three comparisons of a block, joined lane by lane
abbrev pub compared : ℕ → List ℕ → List ℕ
compared n bytes =
    zip2 bit_or
    (zip2 bit_or
    (zip2 (λ a b. lane (eqb a b)) bytes (replicate n 34))
    (zip2 (λ a b. lane (eqb a b)) bytes (replicate n 92)))
    (zip2 (λ a b. lane (ltb a b)) bytes (replicate n 32))

marks : (bytes : List ℕ) → map (top 7) (compared (length bytes) bytes) ≡ map is_stop bytes
marks [] = refl
marks (b ∷ bytes) = ap₂ (λ m ms. m ∷ ms) (one_of_three (eqb b 34) (eqb b 92) (ltb b 32)) (marks bytes)

pub marked : (bytes : List ℕ) (n : ℕ) → length bytes ≡ n → n ≤ 64 → mask_l (map (top 7) (compared n bytes)) % 2 ^ 64 ≡ mask_l (map is_stop bytes)
marked bytes n long few =
    ap (λ k. mask_l (map (top 7) (compared k bytes)) % 2 ^ 64) (sym long)
    ∙ ap (λ ms. mask_l ms % 2 ^ 64) (marks bytes)
    ∙ mask_l-mod (map is_stop bytes) 64 (omega (arith, length-map bytes is_stop))

-- the run at the front of a block ends at its first mark, or with the block
pub block_run : (bytes : List ℕ) (n m : ℕ) → length bytes ≡ n → n ≤ 64 → m ≡ mask_l (map is_stop bytes) → cond (eqb m 0) n (count_trailing_zeros 64 m) ≡ prefix_len is_plain bytes
block_run bytes n m long few e = ap (λ k. cond (eqb k 0) n (count_trailing_zeros 64 k)) e ∙ first_set_mask_l is_stop bytes n long few

-- ---- the run from an index on, by a block there

split : (d : List ℕ) (i n : ℕ) → prefix_len is_plain (drop i d)
    ≡ cond (eqb (prefix_len is_plain (chunk i n d)) (length (chunk i n d))) (length (chunk i n d) + prefix_len is_plain (drop (i + n) d)) (prefix_len is_plain (chunk i n d))
split d i n = ap (prefix_len is_plain) (chunk-drop i n d) ∙ prefix_len-append is_plain (chunk i n d) (drop (i + n) d)

pub stops_within : (d : List ℕ) (i n : ℕ) → i + n ≤ length d → prefix_len is_plain (chunk i n d) < n → prefix_len is_plain (drop i d) ≡ prefix_len is_plain (chunk i n d)
stops_within d i n room less =
    let long = length-chunk i n d room in
    split d i n ∙ ap (λ b. cond b (length (chunk i n d) + prefix_len is_plain (drop (i + n) d)) (prefix_len is_plain (chunk i n d))) (ne_eqb _ _ (λ e. omega (arith, long, less, e)))

pub goes_on : (d : List ℕ) (i n : ℕ) → i + n ≤ length d → prefix_len is_plain (chunk i n d) ≡ n → prefix_len is_plain (drop i d) ≡ n + prefix_len is_plain (drop (i + n) d)
goes_on d i n room all =
    let long = length-chunk i n d room in
    split d i n ∙ ap (λ b. cond b (length (chunk i n d) + prefix_len is_plain (drop (i + n) d)) (prefix_len is_plain (chunk i n d))) (eq-eqb _ _ (all ∙ sym long))
    ∙ ap (λ k. k + prefix_len is_plain (drop (i + n) d)) long
