-- The rows of blocks: where each lies, and what is read of it.
use Rattle.std.proofs.Common.{◌≡◌, ℕ, zero, suc, ◌+◌, ◌-◌, ◌*◌, ◌<◌, ◌≤◌, List, [], ◌∷◌, ◌++◌}
use Rattle.std.proofs.Common.{nat_lt, if◌then◌else◌, length, take, get_or, min, sum, refl, ap, ◌∙◌}
use Rattle.std.proofs.Common.{arith, subst}
use Rattle.std.proofs.Common.{append_assoc, length-append, add_assoc}
use Rattle.oxc_sourcemap_tokens.specs.Token.{TokenRecord}
use Rattle.oxc_sourcemap_compiled.specs.Compiled.{table, row_of, rows_of, group_bytes_of, stride_of}
use Rattle.oxc_sourcemap_compiled.specs.Compiled.{widths_of, no_block, IsPacked, ArePacked}
use Rattle.oxc_sourcemap_compiled.specs.Numbers.{number_at}
use Rattle.oxc_sourcemap_compiled.specs.Fields.{field_in, field_of, widths_in, row_base}
use Rattle.oxc_sourcemap_compiled.specs.declared.layout.Header.{Header}
use Rattle.oxc_sourcemap_compiled.specs.declared.writing.blocks.Packing.{Packing}
use Rattle.oxc_sourcemap_compiled.specs.declared.writing.blocks.Block.{Block}
use Rattle.oxc_sourcemap_compiled.proofs.Blocks.{same-field}
use Rattle.oxc_sourcemap_compiled.proofs.Parts.{LiesAt, lies-front, lies-next, lies-same, lies-take}
use Rattle.oxc_sourcemap_compiled.proofs.ReadNumbers.{table-length, entry-read}

-- how a field is written, by its number
abbrev pub packing_at : ℕ → Block → Packing
packing_at zero b = b.column
packing_at (suc zero) b = b.source
packing_at (suc (suc zero)) b = b.src_line
packing_at (suc (suc (suc zero))) b = b.src_col
packing_at (suc (suc (suc (suc k)))) b = b.name

-- how many bits it may have to spare
abbrev pub spare_at : ℕ → ℕ
spare_at k = if nat_lt k 4 then 0 else 4

pub packed-at : (k : ℕ) (ts : List TokenRecord) (b : Block) → k < 5 → ArePacked ts b → IsPacked k (spare_at k) ts (packing_at k b)
packed-at zero ts b lt are = are.column
packed-at (suc zero) ts b lt are = are.source
packed-at (suc (suc zero)) ts b lt are = are.src_line
packed-at (suc (suc (suc zero))) ts b lt are = are.src_col
packed-at (suc (suc (suc (suc zero)))) ts b lt are = are.name
packed-at (suc (suc (suc (suc (suc k))))) ts b lt are = absurd (omega (arith, lt))

-- ---- a row
-- the six numbers of a row
abbrev numbers_of : ℕ → Block → List ℕ
numbers_of place b = place ∷ b.column.least ∷ b.source.least ∷ b.src_line.least ∷ b.src_col.least ∷ b.name.least ∷ []

row-is : (place : ℕ) (b : Block) → row_of place b ≡ table (numbers_of place b) ++ widths_of b
row-is place b = simp append_assoc

row-length : (place : ℕ) (b : Block) → length (row_of place b) ≡ 29
row-length place b =
    let numbers = numbers_of place b in
    omega (arith, ap length (row-is place b), length-append (table numbers) (widths_of b), table-length numbers)

pub rows-length : (place each groups : ℕ) (blocks : List Block) → length (rows_of place each groups blocks) ≡ 29 * length blocks
rows-length place each groups [] = refl
rows-length place each groups (b ∷ bs) =
    let next = place + min groups each * stride_of b in
    let more = rows_of next each (groups - each) bs in
    length-append (row_of place b) more ∙ ap (λ n. n + length more) (row-length place b) ∙ ap (λ n. 29 + n) (rows-length next each (groups - each) bs) ∙ one-more (length bs) where
      one-more : (n : ℕ) → 29 + 29 * n ≡ 29 * suc n
      one-more n = omega arith

pub rows-lie : (at place each groups i : ℕ) (blocks : List Block) (all : List ℕ) → LiesAt at (rows_of place each groups blocks) all → i < length blocks
    → LiesAt (at + 29 * i) (row_of (place + group_bytes_of each groups (take i blocks)) (get_or blocks i no_block)) all
rows-lie at place each groups i [] all h lt = absurd (omega (arith, lt))
rows-lie at place each groups zero (b ∷ bs) all h lt =
    let row = lies-front at (row_of place b) (rows_of (place + min groups each * stride_of b) each (groups - each) bs) all h in
    let same : place ≡ place + 0 = omega arith in
    subst (λ p. LiesAt (at + 29 * 0) (row_of p b) all) same (lies-same at (at + 29 * 0) (row_of place b) all (omega arith) row)
rows-lie at place each groups (suc i) (b ∷ bs) all h lt =
    let size = min groups each * stride_of b in
    let next = lies-next at 29 (row_of place b) (rows_of (place + size) each (groups - each) bs) all h (row-length place b) in
    let found = rows-lie (at + 29) (place + size) each (groups - each) i bs all next (omega (arith, lt)) in
    let more = group_bytes_of each (groups - each) (take i bs) in
    let far : at + 29 + 29 * i ≡ at + 29 * suc i = omega arith in
    subst (λ p. LiesAt (at + 29 * suc i) (row_of p (get_or bs i no_block)) all) (add_assoc place size more)
    (lies-same (at + 29 + 29 * i) (at + 29 * suc i) (row_of (place + size + more) (get_or bs i no_block)) all far found)

-- ---- what is read of a row
least-at : (k place : ℕ) (b : Block) → k < 5 → get_or (numbers_of place b) (k + 1) 0 ≡ (packing_at k b).least
least-at zero place b lt = refl
least-at (suc zero) place b lt = refl
least-at (suc (suc zero)) place b lt = refl
least-at (suc (suc (suc zero))) place b lt = refl
least-at (suc (suc (suc (suc zero)))) place b lt = refl
least-at (suc (suc (suc (suc (suc k))))) place b lt = absurd (omega (arith, lt))

width-at : (k : ℕ) (b : Block) → k < 5 → get_or (widths_of b) k 0 ≡ (packing_at k b).width
width-at zero b lt = refl
width-at (suc zero) b lt = refl
width-at (suc (suc zero)) b lt = refl
width-at (suc (suc (suc zero))) b lt = refl
width-at (suc (suc (suc (suc zero)))) b lt = refl
width-at (suc (suc (suc (suc (suc k))))) b lt = absurd (omega (arith, lt))

numbers-lie : (at place : ℕ) (b : Block) (all : List ℕ) → LiesAt at (row_of place b) all → LiesAt at (table (numbers_of place b)) all
numbers-lie at place b all h = lies-front at (table (numbers_of place b)) (widths_of b) all (subst (λ part. LiesAt at part all) (row-is place b) h)

widths-lie : (at place : ℕ) (b : Block) (all : List ℕ) → LiesAt at (row_of place b) all → LiesAt (at + 24) (widths_of b) all
widths-lie at place b all h =
    lies-next at 24 (table (numbers_of place b)) (widths_of b) all (subst (λ part. LiesAt at part all) (row-is place b) h) (table-length (numbers_of place b))

place-read : (at place : ℕ) (b : Block) (all : List ℕ) → LiesAt at (row_of place b) all → place ≤ 4294967295 → number_at 4 all at ≡ place
place-read at place b all h small =
    let here : at ≡ at + 4 * 0 = omega arith in
    ap (number_at 4 all) here ∙ entry-read 0 at (numbers_of place b) all (numbers-lie at place b all h) (omega arith) small

pub least-read : (k at place : ℕ) (b : Block) (all : List ℕ) → k < 5 → LiesAt at (row_of place b) all → (packing_at k b).least ≤ 4294967295 → number_at 4 all (at + 4 + 4 * k) ≡ (packing_at k b).least
least-read k at place b all lt h small =
    let here : at + 4 + 4 * k ≡ at + 4 * (k + 1) = omega arith in
    let is = least-at k place b lt in
    ap (number_at 4 all) here ∙ entry-read (k + 1) at (numbers_of place b) all (numbers-lie at place b all h) (omega (arith, lt)) (omega (arith, is, small)) ∙ is

-- the widths of a block, by its row
widths-read : (i place : ℕ) (b : Block) (all : List ℕ) (h : Header) → LiesAt (row_base h i) (row_of place b) all → widths_in all h i ≡ widths_of b
widths-read i place b all h row = lies-take (row_base h i + 24) 5 (widths_of b) all (widths-lie (row_base h i) place b all row) refl

-- the field of a block, by its row
pub field-read : (k i place : ℕ) (b : Block) (all : List ℕ) (h : Header) → k < 5 → LiesAt (row_base h i) (row_of place b) all → (packing_at k b).least ≤ 4294967295 → (packing_at k b).width ≤ 32
    → field_in all h i k ≡ field_of (packing_at k b).least (sum (take k (widths_of b))) (packing_at k b).width
unfolding field_in
field-read k i place b all h lt row small narrow =
    let widths : widths_in all h i ≡ widths_of b = widths-read i place b all h row in
    let is = width-at k b lt in
    let width : min (get_or (widths_of b) k 0) 32 ≡ (packing_at k b).width = omega (arith, is, narrow) in
    same-field (least-read k (row_base h i) place b all lt row small) (ap (λ ws. sum (take k ws)) widths) (ap (λ ws. min (get_or ws k 0) 32) widths ∙ width)

-- where the block lies, and how many bits a token has
pub row-read : (i place : ℕ) (b : Block) (all : List ℕ) (h : Header) → LiesAt (row_base h i) (row_of place b) all → place ≤ 4294967295
    → (number_at 4 all (row_base h i) ≡ place) × (sum (widths_in all h i) ≡ sum (widths_of b))
row-read i place b all h row small = (place-read (row_base h i) place b all row small, ap sum (widths-read i place b all h row))
