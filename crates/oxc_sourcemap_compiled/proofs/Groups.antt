-- The groups of tokens: how many bytes they take, and where each lies.
use Rattle.std.proofs.Common.{◌≡◌, ℕ, zero, suc, ◌+◌, ◌-◌, ◌*◌, ◌/◌, ◌<◌, ◌≤◌, Bool, true, false}
use Rattle.std.proofs.Common.{List, [], ◌∷◌, length, take, drop, get_or, min, nat_lt}
use Rattle.std.proofs.Common.{refl, sym, ap, ◌∙◌, arith, length-append}
use Rattle.std.proofs.lemmas.Nat.{mul-le}
use Rattle.std.specs.List.{flat_map, range_with_len}
use Rattle.oxc_sourcemap_tokens.specs.Token.{TokenRecord}
use Rattle.oxc_sourcemap_compiled.specs.Compiled.{group_bytes_of, stride_of}
use Rattle.oxc_sourcemap_compiled.specs.Compiled.{no_block, group_of, group_bits}
use Rattle.oxc_sourcemap_compiled.specs.declared.writing.blocks.Block.{Block}
use Rattle.oxc_sourcemap_compiled.proofs.Bytes.{bytes-length}
use Rattle.oxc_sourcemap_compiled.proofs.Sizes.{each, first-block, next-block, same-block}
use Rattle.oxc_sourcemap_compiled.proofs.Slices.{flat_map-more}

-- ---- how many bytes they take
no-groups : (p : ℕ) (blocks : List Block) → group_bytes_of p 0 blocks ≡ 0
no-groups p [] = refl
no-groups p (b ∷ bs) =
    let none : 0 - p ≡ 0 = omega arith in
    let nothing : min 0 p ≡ 0 = omega arith in
    omega (arith, ap (λ m. m * stride_of b) nothing, ap (λ n. group_bytes_of p n bs) none, no-groups p bs)

low-step : (g s x y z t : ℕ) → x ≡ (g + 1) * s + z → y ≡ g * s + z → t ≡ s → x ≡ y + t
low-step g s x y z t p q r = omega (arith, p, q, r)

high-step : (low x y u v t q : ℕ) → x ≡ low + u → y ≡ low + v → u ≡ v + q → t ≡ q → x ≡ y + t
high-step low x y u v t q p r s e = omega (arith, p, r, s, e)

product-step : (m s x y z t : ℕ) → x ≡ y + t → y ≡ z + m * s → t ≡ s → x ≡ z + suc m * s
product-step m s x y z t p q r = omega (arith, p, q, r)

-- so many groups in each block, which is the only one or is not
module _ (one : Bool) where
  bytes-more-by : (full : Bool) (g : ℕ) (b : Block) (bs : List Block) → nat_lt g (each one) ≡ full
      → (each one ≤ g → group_bytes_of (each one) (g - each one + 1) bs
      ≡ group_bytes_of (each one) (g - each one) bs + stride_of (get_or bs ((g - each one) / each one) no_block))
      → group_bytes_of (each one) (g + 1) (b ∷ bs) ≡ group_bytes_of (each one) g (b ∷ bs) + stride_of (get_or (b ∷ bs) (g / each one) no_block)
  bytes-more-by true g b bs e more =
      let p = each one in
      let lt : g < p = grind (arith, e) in
      let s = stride_of b in
      let m : min (g + 1) p ≡ g + 1 = omega (arith, lt) in
      let n : min g p ≡ g = omega (arith, lt) in
      let none : g + 1 - p ≡ 0 = omega (arith, lt) in
      let nothing : g - p ≡ 0 = omega (arith, lt) in
      low-step g s (group_bytes_of p (g + 1) (b ∷ bs)) (group_bytes_of p g (b ∷ bs)) (group_bytes_of p 0 bs) (stride_of (get_or (b ∷ bs) (g / p) no_block))
      (ap (λ m. m * s + group_bytes_of p (g + 1 - p) bs) m ∙ ap (λ n. (g + 1) * s + group_bytes_of p n bs) none)
      (ap (λ m. m * s + group_bytes_of p (g - p) bs) n ∙ ap (λ n. g * s + group_bytes_of p n bs) nothing)
      (ap (λ k. stride_of (get_or (b ∷ bs) k no_block)) (first-block one g lt))
  bytes-more-by false g b bs e more =
      let p = each one in
      let le : p ≤ g = grind (arith, e) in
      let s = stride_of b in
      let m : min (g + 1) p ≡ p = omega (arith, le) in
      let n : min g p ≡ p = omega (arith, le) in
      let rest : g + 1 - p ≡ g - p + 1 = omega (arith, le) in
      high-step (p * s) (group_bytes_of p (g + 1) (b ∷ bs)) (group_bytes_of p g (b ∷ bs)) (group_bytes_of p (g - p + 1) bs) (group_bytes_of p (g - p) bs)
      (stride_of (get_or (b ∷ bs) (g / p) no_block)) (stride_of (get_or bs ((g - p) / p) no_block))
      (ap (λ m. m * s + group_bytes_of p (g + 1 - p) bs) m ∙ ap (λ n. p * s + group_bytes_of p n bs) rest)
      (ap (λ m. m * s + group_bytes_of p (g - p) bs) n) (more le) (ap (λ k. stride_of (get_or (b ∷ bs) k no_block)) (next-block one g le))

  -- one group more takes the bytes of its block's widths
  bytes-more : (g : ℕ) (blocks : List Block) → g < each one * length blocks
      → group_bytes_of (each one) (g + 1) blocks ≡ group_bytes_of (each one) g blocks + stride_of (get_or blocks (g / each one) no_block)
  bytes-more g [] lt = absurd (omega (arith, lt))
  bytes-more g (b ∷ bs) lt = bytes-more-by (nat_lt g (each one)) g b bs refl (λ le. bytes-more (g - each one) bs (omega (arith, lt, le)))

  bytes-grow : (d g : ℕ) (blocks : List Block) → g + d ≤ each one * length blocks → group_bytes_of (each one) g blocks ≤ group_bytes_of (each one) (g + d) blocks
  bytes-grow zero g blocks le =
      let same : g + 0 ≡ g = omega arith in
      omega (arith, ap (λ n. group_bytes_of (each one) n blocks) same)
  bytes-grow (suc d) g blocks le =
      let next : g + suc d ≡ g + d + 1 = omega arith in
      omega (arith, ap (λ n. group_bytes_of (each one) n blocks) next, bytes-more (g + d) blocks (omega (arith, le)), bytes-grow d g blocks (omega (arith, le)))

  pub bytes-below : (g n : ℕ) (blocks : List Block) → g ≤ n → n ≤ each one * length blocks → group_bytes_of (each one) g blocks ≤ group_bytes_of (each one) n blocks
  bytes-below g n blocks le within =
      let gap : g + (n - g) ≡ n = omega (arith, le) in
      omega (arith, bytes-grow (n - g) g blocks (omega (arith, gap, within)), ap (λ n. group_bytes_of (each one) n blocks) gap)

  -- the blocks before one, which are full
  pub bytes-before : (i groups : ℕ) (blocks : List Block) → each one * i ≤ groups → i ≤ length blocks
      → group_bytes_of (each one) groups (take i blocks) ≡ group_bytes_of (each one) (each one * i) blocks
  bytes-before zero groups blocks le within =
      let none : each one * 0 ≡ 0 = omega arith in
      sym (ap (λ n. group_bytes_of (each one) n blocks) none ∙ no-groups (each one) blocks)
  bytes-before (suc i) groups [] le within = absurd (omega (arith, within))
  bytes-before (suc i) groups (b ∷ bs) le within =
      let p = each one in
      let m : min groups p ≡ min (p * suc i) p = omega (arith, le) in
      let rest : p * i ≡ p * suc i - p = omega arith in
      let more = bytes-before i (groups - p) bs (omega (arith, le)) (omega (arith, within)) in
      ap (λ m. m * stride_of b + group_bytes_of p (groups - p) (take i bs)) m ∙ ap (λ n. min (p * suc i) p * stride_of b + n) (more ∙ ap (λ n. group_bytes_of p n bs) rest)

  -- the groups of one block before a group
  pub bytes-within : (i m : ℕ) (blocks : List Block) → m ≤ each one → i < length blocks
      → group_bytes_of (each one) (each one * i + m) blocks ≡ group_bytes_of (each one) (each one * i) blocks + m * stride_of (get_or blocks i no_block)
  bytes-within i zero blocks le lt =
      let same : each one * i + 0 ≡ each one * i = omega arith in
      ap (λ n. group_bytes_of (each one) n blocks) same ∙ nothing (group_bytes_of (each one) (each one * i) blocks) (stride_of (get_or blocks i no_block)) where
        nothing : (x s : ℕ) → x ≡ x + 0 * s
        nothing x s = omega arith
  bytes-within i (suc m) blocks le lt =
      let p = each one in
      let next : p * i + suc m ≡ p * i + m + 1 = omega arith in
      let block : (p * i + m) / p ≡ i = same-block one i m (omega (arith, le)) in
      let there : p * suc i ≤ p * length blocks = mul-le p (suc i) p (length blocks) (omega arith) (omega (arith, lt)) in
      product-step m (stride_of (get_or blocks i no_block)) (group_bytes_of p (p * i + suc m) blocks) (group_bytes_of p (p * i + m) blocks) (group_bytes_of p (p * i) blocks)
      (stride_of (get_or blocks ((p * i + m) / p) no_block))
      (ap (λ n. group_bytes_of p n blocks) next ∙ bytes-more (p * i + m) blocks (omega (arith, le, there))) (bytes-within i m blocks (omega (arith, le)) lt)
      (ap (λ k. stride_of (get_or blocks k no_block)) block)

-- ---- one group
pub group-length : (b : Block) (ts : List TokenRecord) → length (group_of b ts) ≡ stride_of b
group-length b ts = bytes-length (stride_of b) (group_bits b ts)

-- ---- all groups
-- a group of tokens, by its number, if so many are in each block
abbrev pub group_at : ℕ → List Block → List TokenRecord → ℕ → List ℕ
group_at p blocks tokens g = group_of (get_or blocks (g / p) no_block) (take 8 (drop (8 * g) tokens))

pub groups-length : (one : Bool) (n : ℕ) (blocks : List Block) (tokens : List TokenRecord) → n ≤ each one * length blocks
    → length (flat_map (group_at (each one) blocks tokens) (range_with_len 0 n)) ≡ group_bytes_of (each one) n blocks
groups-length one zero blocks tokens le = sym (no-groups (each one) blocks)
groups-length one (suc n) blocks tokens le =
    let p = each one in
    let f = group_at p blocks tokens in
    let next : suc n ≡ n + 1 = omega arith in
    let front = flat_map f (range_with_len 0 n) in
    ap (λ m. length (flat_map f (range_with_len 0 m))) next ∙ ap length (flat_map-more f n) ∙ length-append front (f n)
    ∙ ap (λ m. m + length (f n)) (groups-length one n blocks tokens (omega (arith, le))) ∙ ap (λ m. group_bytes_of p n blocks + m) (group-length (get_or blocks (n / p) no_block) (take 8 (drop (8 * n) tokens)))
    ∙ sym (bytes-more one n blocks (omega (arith, le))) ∙ ap (λ m. group_bytes_of p m blocks) (sym next)
