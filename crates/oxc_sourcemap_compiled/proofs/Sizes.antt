-- How many groups a block has, in which block a token lies, and where in it.
use Rattle.std.proofs.Common.{◌≡◌, ℕ, suc, ◌+◌, ◌-◌, ◌*◌, ◌/◌, ◌%◌, ◌<◌, ◌≤◌, Bool, true, false}
use Rattle.std.proofs.Common.{arith, ap, ◌∙◌, sym, subst, nat_le, List, if◌then◌else◌}
use Rattle.oxc_sourcemap_compiled.specs.Layout.{block_size, block_count}
use Rattle.oxc_sourcemap_compiled.specs.Fields.{value_in, row_in}
use Rattle.oxc_sourcemap_compiled.specs.CompiledMeaning.{token_at, token_in}
use Rattle.oxc_sourcemap_compiled.specs.declared.fields.Row.{Row}
use Rattle.oxc_sourcemap_compiled.specs.Order.{column_of, least_column_of, AreRowsExact}
use Rattle.oxc_sourcemap_compiled.specs.declared.layout.Header.{Header}

-- how many groups a block has, by whether it is the only one, and how many tokens
abbrev pub each : Bool → ℕ
each one = if one then 2048 else 8

abbrev pub size : Bool → ℕ
size one = 8 * each one

pub each-some : (one : Bool) → 0 < each one
each-some true = omega arith
each-some false = omega arith

pub first-block : (one : Bool) (g : ℕ) → g < each one → g / each one ≡ 0
first-block true g lt = omega (arith, lt)
first-block false g lt = omega (arith, lt)

pub next-block : (one : Bool) (g : ℕ) → each one ≤ g → g / each one ≡ suc ((g - each one) / each one)
next-block true g le = omega (arith, le)
next-block false g le = omega (arith, le)

pub same-block : (one : Bool) (i m : ℕ) → m < each one → (each one * i + m) / each one ≡ i
same-block true i m lt = omega (arith, lt)
same-block false i m lt = omega (arith, lt)

pub token-block : (one : Bool) (b m : ℕ) → m < size one → (size one * b + m) / size one ≡ b
token-block true b m lt = omega (arith, lt)
token-block false b m lt = omega (arith, lt)

pub group-block : (one : Bool) (g n : ℕ) → n < 8 → g / each one ≡ (8 * g + n) / size one
group-block true g n lt = omega (arith, lt)
group-block false g n lt = omega (arith, lt)

pub group-again : (one : Bool) (i n : ℕ) → n < 8 → i / size one ≡ (8 * (i / 8) + n) / size one
group-again true i n lt = omega (arith, lt)
group-again false i n lt = omega (arith, lt)

pub group-in : (one : Bool) (i : ℕ) → i / 8 / each one ≡ i / size one
group-in true i = omega arith
group-in false i = omega arith

pub token-is : (one : Bool) (i : ℕ) → size one * (i / size one) + i % size one ≡ i
token-is true i = omega arith
token-is false i = omega arith

pub token-low : (one : Bool) (i : ℕ) → i % size one < size one
token-low true i = omega arith
token-low false i = omega arith

pub group-is : (one : Bool) (i : ℕ) → i / 8 ≡ each one * (i / size one) + i % size one / 8
group-is true i = omega arith
group-is false i = omega arith

pub group-low : (one : Bool) (i : ℕ) → i % size one / 8 ≤ each one
group-low true i = omega arith
group-low false i = omega arith

pub in-group : (one : Bool) (i : ℕ) → i % size one % 8 ≡ i % 8
in-group true i = omega arith
in-group false i = omega arith

pub block-there : (one : Bool) (i n : ℕ) → i < n → i / size one < (n + (size one - 1)) / size one
block-there true i n lt = omega (arith, lt)
block-there false i n lt = omega (arith, lt)

pub groups-fit : (one : Bool) (n : ℕ) → (n + 7) / 8 ≤ each one * ((n + (size one - 1)) / size one)
groups-fit true n = omega arith
groups-fit false n = omega arith

pub groups-before : (one : Bool) (i n : ℕ) → i < n → each one * (i / size one) ≤ (n + 7) / 8
groups-before true i n lt = omega (arith, lt)
groups-before false i n lt = omega (arith, lt)

-- the block of a group is there
pub group-there : (one : Bool) (g n : ℕ) → g < (n + 7) / 8 → g / each one < (n + (size one - 1)) / size one
group-there true g n lt = omega (arith, lt)
group-there false g n lt = omega (arith, lt)

pub few-blocks : (one : Bool) (n : ℕ) → n ≤ 4294967295 → (n + (size one - 1)) / size one ≤ 67108864
few-blocks true n h = omega (arith, h)
few-blocks false n h = omega (arith, h)

-- ---- by the count of tokens
pub one-size : (n : ℕ) → n ≤ 16384 → block_size n ≡ 16384
one-size n le =
    let is : nat_le n 16384 ≡ true = grind (arith, le) in
    ap size is

pub many-size : (n : ℕ) → 16384 < n → block_size n ≡ 64
many-size n lt =
    let is : nat_le n 16384 ≡ false = grind (arith, lt) in
    ap size is

pub few-counted : (h : Header) → h.tokens ≤ 4294967295 → block_count h ≤ 67108864
few-counted h le = few-blocks (nat_le h.tokens 16384) h.tokens le

-- the columns of the only block, and those of one of many
abbrev column_by : List ℕ → Row → ℕ → ℕ
column_by bytes row j = value_in bytes row row.column j

pub column-of-one : (bytes : List ℕ) (h : Header) (j : ℕ) → h.tokens ≤ 16384 → j < 16384 → value_in bytes (row_in bytes h 0) (row_in bytes h 0).column j ≡ column_of bytes h j
column-of-one bytes h j le lt =
    let home : 0 ≡ j / 16384 = omega (arith, lt) in
    let number : j ≡ j % 16384 = omega (arith, lt) in
    ap (λ b. column_by bytes (row_in bytes h b) j) home ∙ ap (column_by bytes (row_in bytes h (j / 16384))) number ∙ ap (λ s. column_by bytes (row_in bytes h (j / s)) (j % s)) (sym (one-size h.tokens le))

-- what is read of a token of one of many blocks
of-many : {A : Type 0} (f : ℕ → ℕ → A) (n b j : ℕ) → 16384 < n → j < 64 → f b j ≡ f ((64 * b + j) / block_size n) ((64 * b + j) % block_size n)
of-many f n b j lt low =
    let home : b ≡ (64 * b + j) / 64 = omega (arith, low) in
    let number : j ≡ (64 * b + j) % 64 = omega (arith, low) in
    ap (λ b. f b j) home ∙ ap (f ((64 * b + j) / 64)) number ∙ ap (λ s. f ((64 * b + j) / s) ((64 * b + j) % s)) (sym (many-size n lt))

pub column-of-many : (bytes : List ℕ) (h : Header) (b j : ℕ) → 16384 < h.tokens → j < 64 → value_in bytes (row_in bytes h b) (row_in bytes h b).column j ≡ column_of bytes h (64 * b + j)
column-of-many bytes h b j lt low = of-many (λ b. column_by bytes (row_in bytes h b)) h.tokens b j lt low

pub exact-of-many : (bytes : List ℕ) (h : Header) → 16384 < h.tokens → AreRowsExact bytes h → (b : ℕ) → b < (h.tokens + 63) / 64
    → ((i : ℕ) → i < h.tokens → i / 64 ≡ b → column_of bytes h (64 * b) ≤ column_of bytes h i) → least_column_of bytes h b ≡ column_of bytes h (64 * b)
exact-of-many bytes h lt exact =
    subst (λ s. (b : ℕ) → b < (h.tokens + (s - 1)) / s → ((i : ℕ) → i < h.tokens → i / s ≡ b → column_of bytes h (s * b) ≤ column_of bytes h i) → least_column_of bytes h b ≡ column_of bytes h (s * b))
    (many-size h.tokens lt) exact
