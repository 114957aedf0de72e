-- The fields of tokens, read back: what is read of a token's field is what was written.
use Rattle.std.proofs.Common.{◌≡◌, ℕ, zero, suc, ◌+◌, ◌-◌, ◌*◌, ◌/◌, ◌%◌, ◌^◌, ◌<◌, ◌≤◌, Bool, true}
use Rattle.std.proofs.Common.{false, List, length, take, drop, get_or, slice_get, Option, Some}
use Rattle.std.proofs.Common.{None, IfSome, sum, min, nat_lt, nat_le, refl, sym, ap, ◌∙◌, arith}
use Rattle.std.proofs.Common.{subst}
use Rattle.std.proofs.Common.{length-take, length-drop}
use Rattle.std.proofs.Math.Nat.{mod-eq_of_lt, add-mul-div_left, div-eq_of_lt, div-one, mod-add-div}
use Rattle.std.proofs.Math.Nat.{add-mul-mod_self_left}
use Rattle.std.proofs.lemmas.List.{get_or-take, get_or-drop}
use Rattle.std.proofs.lemmas.List.Elements.{All-get_or}
use Rattle.std.proofs.lemmas.Nat.{pow_pos, shr-shr, mul-le}
use Rattle.std.proofs.lemmas.Option.{slice_get-get_or, slice_get_past}
use Rattle.std.specs.List.{flat_map, range_with_len}
use Rattle.oxc_sourcemap_tokens.specs.Token.{TokenRecord, IsInBounds, AreInBounds}
use Rattle.oxc_sourcemap_compiled.specs.Compiled.{id_number, field_number, IsPacked, AreBlocksOf}
use Rattle.oxc_sourcemap_compiled.specs.Compiled.{group_bytes_of, stride_of, widths_of, no_block}
use Rattle.oxc_sourcemap_compiled.specs.Compiled.{above_in, row_of, rows_of, groups_of, group_of}
use Rattle.oxc_sourcemap_compiled.specs.Compiled.{token_bits, group_bits}
use Rattle.oxc_sourcemap_compiled.specs.Compiled.{FieldsFit, ArePacked, block_tokens}
use Rattle.oxc_sourcemap_compiled.specs.Compiled.{all_group_bytes}
use Rattle.oxc_sourcemap_compiled.specs.Numbers.{number_at}
use Rattle.oxc_sourcemap_compiled.specs.Layout.{rows_base, groups_base, block_groups, block_size}
use Rattle.oxc_sourcemap_compiled.specs.Layout.{groups_in}
use Rattle.oxc_sourcemap_compiled.specs.Fields.{value_at, value_in, value_of, field_in, row_in}
use Rattle.oxc_sourcemap_compiled.specs.Fields.{row_base, row_field, is_placed, placed_row}
use Rattle.oxc_sourcemap_compiled.specs.Fields.{widths_in, field_of}
use Rattle.oxc_sourcemap_compiled.specs.declared.fields.Field.{Field}
use Rattle.oxc_sourcemap_compiled.specs.declared.fields.Row.{Row}
use Rattle.oxc_sourcemap_compiled.specs.declared.layout.Header.{Header}
use Rattle.oxc_sourcemap_compiled.specs.declared.writing.blocks.Packing.{Packing}
use Rattle.oxc_sourcemap_compiled.specs.declared.writing.blocks.Block.{Block}
use Rattle.oxc_sourcemap_compiled.proofs.Parts.{LiesAt, lies-whole, lies-within}
use Rattle.oxc_sourcemap_compiled.proofs.Parts.{lies-among}
use Rattle.oxc_sourcemap_compiled.proofs.Digits.{first-small, token-read}
use Rattle.oxc_sourcemap_compiled.proofs.Rows.{packing_at, packed-at, spare_at, rows-lie}
use Rattle.oxc_sourcemap_compiled.proofs.Rows.{field-read}
use Rattle.oxc_sourcemap_compiled.proofs.Rows.{row-read}
use Rattle.oxc_sourcemap_compiled.proofs.Blocks.{row-placed, field-placed}
use Rattle.oxc_sourcemap_compiled.proofs.Groups.{bytes-below, bytes-before, bytes-within}
use Rattle.oxc_sourcemap_compiled.proofs.Groups.{group_at, groups-length, group-length}
use Rattle.oxc_sourcemap_compiled.proofs.ReadNumbers.{bytes-bits}
use Rattle.oxc_sourcemap_compiled.proofs.Bits.{window, low-value, one-more}
use Rattle.oxc_sourcemap_compiled.proofs.Sizes.{each, size, group-block, group-again, group-in}
use Rattle.oxc_sourcemap_compiled.proofs.Sizes.{token-is}
use Rattle.oxc_sourcemap_compiled.proofs.Sizes.{token-low, group-is, group-low, in-group}
use Rattle.oxc_sourcemap_compiled.proofs.Sizes.{block-there}
use Rattle.oxc_sourcemap_compiled.proofs.Sizes.{groups-fit, groups-before}

-- ---- parts of lists
part-get : {A : Type 0} (xs : List A) (n s i : ℕ) (d : A) → i < n → s + i < length xs → slice_get (take n (drop s xs)) i ≡ Some (get_or xs (s + i) d)
part-get xs n s i d lt there =
    let within : i < length (take n (drop s xs)) = omega (arith, length-take n (drop s xs), length-drop s xs, lt, there) in
    slice_get-get_or (take n (drop s xs)) i d within ∙ ap Some (get_or-take n (drop s xs) i d lt ∙ get_or-drop s xs i d)

part-past : {A : Type 0} (xs : List A) (n s i : ℕ) → length xs ≤ s + i → slice_get (take n (drop s xs)) i ≡ None
part-past xs n s i past = slice_get_past (take n (drop s xs)) i (omega (arith, length-take n (drop s xs), length-drop s xs, past))

-- ---- numbers of fields
id-small : (id : Option ℕ) → IfSome id (λ n. n < 4294967295) → id_number id ≤ 4294967295
id-small None h = omega arith
id-small (Some n) h = omega (arith, h)

field-small : (k : ℕ) (t : TokenRecord) → IsInBounds t → field_number k t ≤ 4294967295
field-small zero t h = omega (arith, h.dst_col)
field-small (suc zero) t h = id-small t.source_id h.source_id
field-small (suc (suc zero)) t h = omega (arith, h.src_line)
field-small (suc (suc (suc zero))) t h = omega (arith, h.src_col)
field-small (suc (suc (suc (suc k)))) t h = id-small t.name_id h.name_id

-- ---- the values of a field
-- a token of a block, by its index among all
module _ (k spare : ℕ) (tokens : List TokenRecord) (i : ℕ) (p : Packing) (are : IsPacked k spare (block_tokens tokens (i / block_size (length tokens))) p) where
  abbrev only : Bool
  only = nat_le (length tokens) 16384

  abbrev size_of : ℕ
  size_of = block_size (length tokens)

  of-block : (d : TokenRecord) → i < length tokens → (i % size_of < length (block_tokens tokens (i / size_of))) × (get_or (block_tokens tokens (i / size_of)) (i % size_of) d ≡ get_or tokens i d)
  of-block d lt =
      let s = size_of * (i / size_of) in
      let at : s + i % size_of ≡ i = token-is only i in
      let low : i % size_of < size_of = token-low only i in (
        omega (arith, length-take size_of (drop s tokens), length-drop s tokens, at, low, lt),
        get_or-take size_of (drop s tokens) (i % size_of) d low ∙ get_or-drop s tokens (i % size_of) d ∙ ap (λ n. get_or tokens n d) at,
      )

  pub least-below : (d : TokenRecord) → i < length tokens → p.least ≤ field_number k (get_or tokens i d)
  least-below d lt =
      let token = of-block d lt in
      omega (arith, are.least (i % size_of) d token.0, ap (field_number k) token.1)

  pub above-fits : (d : TokenRecord) → i < length tokens → field_number k (get_or tokens i d) - p.least < 2 ^ p.width
  above-fits d lt =
      let token = of-block d lt in
      subst (λ t. field_number k t - p.least < 2 ^ p.width) token.1 (are.fits (i % size_of) d token.0)

-- what is written of one of eight tokens fits
pub above-small-by : (b : Bool) (k : ℕ) (tokens : List TokenRecord) (p : Packing) (s n : ℕ) → nat_lt (s + n) (length tokens) ≡ b → n < 8
    → (s + n < length tokens → (d : TokenRecord) → field_number k (get_or tokens (s + n) d) - p.least < 2 ^ p.width) → (d : TokenRecord) → above_in k p (slice_get (take 8 (drop s tokens)) n) < 2 ^ p.width
above-small-by true k tokens p s n e lt fits d =
    let there : s + n < length tokens = grind (arith, e) in
    subst (λ o. above_in k p o < 2 ^ p.width) (sym (part-get tokens 8 s n d lt there)) (fits there d)
above-small-by false k tokens p s n e lt fits d =
    let past : length tokens ≤ s + n = grind (arith, e) in
    subst (λ o. above_in k p o < 2 ^ p.width) (sym (part-past tokens 8 s n past)) (pow_pos p.width)

-- what is written of each field of eight tokens of a block fits
one-fits : (tokens : List TokenRecord) (b : Block) (g n j : ℕ) → n < 8 → j < 5 → ArePacked (block_tokens tokens (g / block_groups (length tokens))) b
    → above_in j (packing_at j b) (slice_get (take 8 (drop (8 * g) tokens)) n) < 2 ^ (packing_at j b).width
one-fits tokens b g n j lt is are =
    let block = g / block_groups (length tokens) in
    let same : block ≡ (8 * g + n) / block_size (length tokens) = group-block (nat_le (length tokens) 16384) g n lt in
    let packed = subst (λ k. IsPacked j (spare_at j) (block_tokens tokens k) (packing_at j b)) same (packed-at j (block_tokens tokens block) b is are) in
    above-small-by (nat_lt (8 * g + n) (length tokens)) j tokens (packing_at j b) (8 * g) n refl lt (λ less d. above-fits j (spare_at j) tokens (8 * g + n) (packing_at j b) packed d less)
    (record { dst_line = 0; dst_col = 0; src_line = 0; src_col = 0; source_id = None; name_id = None })

pub group-fits : (tokens : List TokenRecord) (b : Block) (g n : ℕ) → n < 8 → ArePacked (block_tokens tokens (g / block_groups (length tokens))) b → FieldsFit b (slice_get (take 8 (drop (8 * g) tokens)) n)
group-fits tokens b g n lt are = record {
  column = one-fits tokens b g n 0 lt (omega arith) are;
  source = one-fits tokens b g n 1 lt (omega arith) are;
  src_line = one-fits tokens b g n 2 lt (omega arith) are;
  src_col = one-fits tokens b g n 3 lt (omega arith) are;
  name = one-fits tokens b g n 4 lt (omega arith) are;
}

-- the value of a field, by the word that is read
value-is : (bytes : List ℕ) (row : Row) (f : Field) (j at s v : ℕ) → row.at ≡ at → row.stride ≡ s
    → (f.least + number_at 8 bytes (at + (f.first + j * s) / 8) / 2 ^ ((f.first + j * s) % 8) % 2 ^ f.width) % 2 ^ 32 ≡ v → value_in bytes row f j ≡ v
unfolding value_at
value-is bytes row f j at s v here each is = rw (here, each) is

-- ---- the fields of a token in its bits
skip : (v rest w r : ℕ) → v < 2 ^ w → (v + 2 ^ w * rest) / 2 ^ (w + r) ≡ rest / 2 ^ r
skip v rest w r lt =
    let none : 0 + rest ≡ rest = omega arith in
    sym (shr-shr (v + 2 ^ w * rest) w r) ∙ ap (λ n. n / 2 ^ r) (add-mul-div_left v rest (pow_pos w) ∙ ap (λ q. q + rest) (div-eq_of_lt lt) ∙ none)

front : (v rest w : ℕ) → v < 2 ^ w → (v + 2 ^ w * rest) / 2 ^ 0 % 2 ^ w ≡ v
front v rest w lt = ap (λ n. n % 2 ^ w) (div-one (v + 2 ^ w * rest)) ∙ add-mul-mod_self_left v (2 ^ w) rest ∙ mod-eq_of_lt lt

field-bits : (k : ℕ) (b : Block) (t : Option TokenRecord) → k < 5 → FieldsFit b t
    → token_bits b t / 2 ^ (sum (take k (widths_of b))) % 2 ^ (packing_at k b).width ≡ above_in k (packing_at k b) t
field-bits zero b t lt fit = front (above_in 0 b.column t) _ b.column.width fit.column
field-bits (suc zero) b t lt fit =
    let at : sum (take 1 (widths_of b)) ≡ b.column.width + 0 = omega arith in
    ap (λ e. token_bits b t / 2 ^ e % 2 ^ b.source.width) at ∙ ap (λ n. n % 2 ^ b.source.width) (skip (above_in 0 b.column t) _ b.column.width 0 fit.column)
    ∙ front (above_in 1 b.source t) _ b.source.width fit.source
field-bits (suc (suc zero)) b t lt fit =
    let at : sum (take 2 (widths_of b)) ≡ b.column.width + (b.source.width + 0) = omega arith in
    ap (λ e. token_bits b t / 2 ^ e % 2 ^ b.src_line.width) at
    ∙ ap (λ n. n % 2 ^ b.src_line.width) (skip (above_in 0 b.column t) _ b.column.width (b.source.width + 0) fit.column ∙ skip (above_in 1 b.source t) _ b.source.width 0 fit.source)
    ∙ front (above_in 2 b.src_line t) _ b.src_line.width fit.src_line
field-bits (suc (suc (suc zero))) b t lt fit =
    let at : sum (take 3 (widths_of b)) ≡ b.column.width + (b.source.width + (b.src_line.width + 0)) = omega arith in
    ap (λ e. token_bits b t / 2 ^ e % 2 ^ b.src_col.width) at
    ∙ ap (λ n. n % 2 ^ b.src_col.width) (skip (above_in 0 b.column t) _ b.column.width (b.source.width + (b.src_line.width + 0)) fit.column
    ∙ skip (above_in 1 b.source t) _ b.source.width (b.src_line.width + 0) fit.source ∙ skip (above_in 2 b.src_line t) _ b.src_line.width 0 fit.src_line)
    ∙ front (above_in 3 b.src_col t) _ b.src_col.width fit.src_col
field-bits (suc (suc (suc (suc zero)))) b t lt fit =
    let v = above_in 4 b.name t in
    let at : sum (take 4 (widths_of b)) ≡ b.column.width + (b.source.width + (b.src_line.width + (b.src_col.width + 0))) = omega arith in
    ap (λ e. token_bits b t / 2 ^ e % 2 ^ b.name.width) at
    ∙ ap (λ n. n % 2 ^ b.name.width) (skip (above_in 0 b.column t) _ b.column.width (b.source.width + (b.src_line.width + (b.src_col.width + 0))) fit.column
    ∙ skip (above_in 1 b.source t) _ b.source.width (b.src_line.width + (b.src_col.width + 0)) fit.source
    ∙ skip (above_in 2 b.src_line t) _ b.src_line.width (b.src_col.width + 0) fit.src_line ∙ skip (above_in 3 b.src_col t) v b.src_col.width 0 fit.src_col ∙ div-one v)
    ∙ mod-eq_of_lt fit.name
field-bits (suc (suc (suc (suc (suc k))))) b t lt fit = absurd (omega (arith, lt))

-- the bits of a token are as many as it says
pub token-small : (b : Block) (t : Option TokenRecord) → FieldsFit b t → token_bits b t < 2 ^ stride_of b
token-small b t fit =
    let whole : b.column.width + (b.source.width + (b.src_line.width + (b.src_col.width + b.name.width))) ≡ stride_of b = omega arith in
    subst (λ e. token_bits b t < 2 ^ e) whole
    (one-more b.column.width _ _ _ fit.column (one-more b.source.width _ _ _ fit.source (one-more b.src_line.width _ _ _ fit.src_line
    (one-more b.src_col.width _ _ _ fit.src_col fit.name))))

-- a value within the lowest bits of a number is one of the number
inner : (x t f w s : ℕ) → f + w + s ≡ t → x % 2 ^ t / 2 ^ f % 2 ^ w ≡ x / 2 ^ f % 2 ^ w
inner x t f w s e =
    let whole : x ≡ x % 2 ^ t + 2 ^ t * (x / 2 ^ t) = omega (arith, mod-add-div x (2 ^ t)) in
    sym (ap (λ n. n / 2 ^ f % 2 ^ w) whole ∙ low-value (x % 2 ^ t) (x / 2 ^ t) t f w s e)

five-widths : (b : Block) → sum (widths_of b) ≡ stride_of b
five-widths b = omega arith

-- ---- where a token's bits lie
split-bits : (g m s f : ℕ) → f + (8 * g + m) * s ≡ 8 * (g * s) + (m * s + f)
split-bits g m s f = omega arith

div-eight : (x y : ℕ) → (8 * x + y) / 8 ≡ x + y / 8
div-eight x y = omega arith

mod-eight : (x y : ℕ) → (8 * x + y) % 8 ≡ y % 8
mod-eight x y = omega arith

-- a field ends within the bits of its token
field-within : (k : ℕ) (b : Block) → k < 5 → sum (take k (widths_of b)) + (packing_at k b).width ≤ stride_of b
field-within zero b lt = omega arith
field-within (suc zero) b lt = omega arith
field-within (suc (suc zero)) b lt = omega arith
field-within (suc (suc (suc zero))) b lt = omega arith
field-within (suc (suc (suc (suc zero)))) b lt = omega arith
field-within (suc (suc (suc (suc (suc k))))) b lt = absurd (omega (arith, lt))

-- and so within those of eight
within-eight : (m f w s : ℕ) → m < 8 → f + w ≤ s → m * s + f + w ≤ 8 * s
within-eight m f w s lt le = omega (arith, le, mul-le m s 7 s (omega (arith, lt)) (omega arith))

-- Of eight tokens in the bytes of a group: the field of one of them, through a window of eight bytes.
module _ (b : Block) (ts : List TokenRecord) (at : ℕ) (bytes : List ℕ) (fit : (n : ℕ) → n < 8 → FieldsFit b (slice_get ts n)) (lies : LiesAt at (group_of b ts) bytes) where
  module _ (k m : ℕ) (is_field : k < 5) (lt : m < 8) (narrow : (packing_at k b).width ≤ 32) where
    abbrev ahead : ℕ
    ahead = sum (take k (widths_of b))

    abbrev begin : ℕ
    begin = m * stride_of b + ahead

    abbrev bits : ℕ
    bits = (packing_at k b).width

    each-small : (n : ℕ) → n < 8 → token_bits b (slice_get ts n) < 2 ^ stride_of b
    each-small n less = token-small b (slice_get ts n) (fit n less)

    fits : begin + bits ≤ 8 * stride_of b
    fits = within-eight m ahead bits (stride_of b) lt (field-within k b is_field)

    pub value-of-group : number_at 8 bytes (at + begin / 8) / 2 ^ (begin % 8) % 2 ^ bits ≡ above_in k (packing_at k b) (slice_get ts m)
    value-of-group =
        let s = stride_of b in
        let number = group_bits b ts in
        let all : number < 256 ^ s = omega (arith, first-small b ts 8 each-small, bytes-bits s) in
        let window_is = window number s (begin / 8) (begin % 8) bits at bytes all lies (omega (arith, fits)) (omega (arith, narrow)) (omega (arith, fits)) in
        let whole : 8 * (begin / 8) + begin % 8 ≡ m * s + ahead = omega arith in
        let rest : ahead + bits + (s - (ahead + bits)) ≡ s = omega (arith, field-within k b is_field) in
        window_is ∙ ap (λ e. number / 2 ^ e % 2 ^ bits) whole ∙ ap (λ n. n % 2 ^ bits) (sym (shr-shr number (m * s) ahead))
        ∙ sym (inner (number / 2 ^ (m * s)) s ahead bits (s - (ahead + bits)) rest) ∙ ap (λ n. n / 2 ^ ahead % 2 ^ bits) (token-read b ts 8 m lt each-small)
        ∙ field-bits k b (slice_get ts m) is_field (fit m lt)

-- the value of a field of a row, by its number
abbrev value_by : List ℕ → ℕ → Row → ℕ → ℕ
value_by bytes k row j = value_in bytes row (row_field k row) j

is-within : (a b n : ℕ) → a + b ≤ n → nat_le (a + b) n ≡ true
is-within a b n le = grind (arith, le)

-- ---- the field of a token in bytes that have the rows and the groups of its blocks
module _ (tokens : List TokenRecord) (blocks : List Block) (bytes : List ℕ) (h : Header) (are : AreBlocksOf tokens blocks) (bounds : AreInBounds tokens)
    (few : all_group_bytes tokens blocks ≤ 4294967295)
    (rows : LiesAt (rows_base h) (rows_of 0 (block_groups (length tokens)) ((length tokens + 7) / 8) blocks) bytes) (counted : h.tokens ≡ length tokens)
    (sized : h.group_bytes ≡ all_group_bytes tokens blocks)
    (groups : LiesAt (groups_base h) (groups_of blocks tokens) bytes) where
  module _ (k i : ℕ) (d : TokenRecord) (is_field : k < 5) (there : i < length tokens) where
    abbrev one : Bool
    one = nat_le (length tokens) 16384

    -- the block of the token, and its number there
    abbrev home : ℕ
    home = i / size one

    abbrev in_block : ℕ
    in_block = i % size one

    abbrev all_groups : ℕ
    all_groups = (length tokens + 7) / 8

    abbrev block : Block
    block = get_or blocks home no_block

    abbrev packing : Packing
    packing = packing_at k block

    abbrev place : ℕ
    place = 0 + group_bytes_of (each one) all_groups (take home blocks)

    -- the group of the token, and how many bytes the groups before it take
    abbrev group : List TokenRecord
    group = take 8 (drop (8 * (i / 8)) tokens)

    abbrev before : ℕ
    before = length (flat_map (group_at (each one) blocks tokens) (range_with_len 0 (i / 8)))

    abbrev field : Field
    field = field_of packing.least (sum (take k (widths_of block))) packing.width

    abbrev bit : ℕ
    bit = in_block % 8 * stride_of block + sum (take k (widths_of block))

    abbrev at : ℕ
    at = groups_base h + before + bit / 8

    abbrev number : ℕ
    number = field_number k (get_or tokens i d)

    block-is : home < length blocks
    block-is = omega (arith, block-there one i (length tokens) there, are.count)

    few-groups : all_groups ≤ each one * length blocks
    few-groups = subst (λ n. all_groups ≤ each one * n) (sym are.count) (groups-fit one (length tokens))

    abbrev first : ℕ
    first = sum (take k (widths_of block))

    fields-at : (j : ℕ) → j < 5 → IsPacked j (spare_at j) (block_tokens tokens home) (packing_at j block)
    fields-at j is = packed-at j (block_tokens tokens home) block is (are.each home no_block block-is)

    fields : IsPacked k (spare_at k) (block_tokens tokens home) packing
    fields = fields-at k is_field

    least-reached : packing.least ≤ number
    least-reached = least-below k (spare_at k) tokens i packing fields d there

    small : number ≤ 4294967295
    small = field-small k (get_or tokens i d) (All-get_or IsInBounds tokens i d there bounds)

    place-is : place ≡ group_bytes_of (each one) (each one * home) blocks
    place-is =
        let none : 0 + group_bytes_of (each one) all_groups (take home blocks) ≡ group_bytes_of (each one) all_groups (take home blocks) = omega arith in
        none ∙ bytes-before one home all_groups blocks (groups-before one i (length tokens) there) (omega (arith, block-is))

    place-small : place ≤ 4294967295
    place-small =
        let below = bytes-below one (each one * home) all_groups blocks (groups-before one i (length tokens) there) few-groups in
        omega (arith, place-is, below, few)

    row-lies : LiesAt (row_base h home) (row_of place block) bytes
    row-lies = rows-lie (rows_base h) 0 (each one) all_groups home blocks bytes rows block-is

    row-is : (number_at 4 bytes (row_base h home) ≡ place) × (sum (widths_in bytes h home) ≡ sum (widths_of block))
    row-is = row-read home place block bytes h row-lies place-small

    -- the groups of the block lie among those of all
    abbrev count : ℕ
    count = min (all_groups - each one * home) (each one)

    counted-groups : groups_in h home ≡ count
    counted-groups = ap (λ n. min ((n + 7) / 8 - block_groups n * home) (block_groups n)) counted

    placed : is_placed bytes h home ≡ true
    placed =
        let whole = bytes-within one home count blocks (omega arith) block-is in
        let below = bytes-below one (each one * home + count) all_groups blocks (omega (arith, groups-before one i (length tokens) there)) few-groups in
        let size : groups_in h home * sum (widths_in bytes h home) ≡ count * stride_of block = ap (λ n. n * sum (widths_in bytes h home)) counted-groups ∙ ap (λ n. count * n) (row-is.1 ∙ five-widths block) in
        is-within (number_at 4 bytes (row_base h home)) (groups_in h home * sum (widths_in bytes h home)) h.group_bytes (omega (arith, row-is.0, place-is, size, whole, below, sized))

    at-base : (placed_row bytes h home).at ≡ groups_base h + place
    at-base = ap (λ n. groups_base h + n) row-is.0

    field-is : field_in bytes h home k ≡ field
    field-is = field-read k home place block bytes h is_field row-lies (omega (arith, least-reached, small)) fields.width

    group-lies : (base : ℕ) (all : List ℕ) → LiesAt base (groups_of blocks tokens) all → LiesAt (base + before) (group_of block group) all
    group-lies base all g =
        let same : i / 8 / each one ≡ home = group-in one i in
        let lies = lies-among (group_at (each one) blocks tokens) 0 all_groups (i / 8) (i / 8) base all g (omega (arith, there)) (omega arith) in
        subst (λ b. LiesAt (base + before) (group_of (get_or blocks b no_block) group) all) same lies

    before-is : before ≡ place + in_block / 8 * stride_of block
    before-is =
        groups-length one (i / 8) blocks tokens (omega (arith, few-groups, there)) ∙ ap (λ n. group_bytes_of (each one) n blocks) (group-is one i)
        ∙ bytes-within one home (in_block / 8) blocks (group-low one i) block-is ∙ ap (λ n. n + in_block / 8 * stride_of block) (sym place-is)

    -- the bits of the field begin where they are read
    bits-are : (first + in_block * sum (widths_of block)) ≡ 8 * (in_block / 8 * stride_of block) + bit
    bits-are =
        let split : in_block ≡ 8 * (in_block / 8) + in_block % 8 = omega arith in
        ap (λ s. first + in_block * s) (five-widths block) ∙ ap (λ j. first + j * stride_of block) split ∙ split-bits (in_block / 8) (in_block % 8) (stride_of block) first

    at-is : groups_base h + place + (first + in_block * sum (widths_of block)) / 8 ≡ at
    at-is =
        let far = ap (λ n. n / 8) bits-are ∙ div-eight (in_block / 8 * stride_of block) bit in
        omega (arith, far, before-is)

    bit-is : (first + in_block * sum (widths_of block)) % 8 ≡ bit % 8
    bit-is = ap (λ n. n % 8) bits-are ∙ mod-eight (in_block / 8 * stride_of block) bit

    one-small : (j n : ℕ) → j < 5 → n < 8 → above_in j (packing_at j block) (slice_get group n) < 2 ^ (packing_at j block).width
    one-small j n is lt =
        let s = 8 * (i / 8) in
        let same : home ≡ (s + n) / size one = group-again one i n lt in
        above-small-by (nat_lt (s + n) (length tokens)) j tokens (packing_at j block) s n refl lt
        (λ less d. above-fits j (spare_at j) tokens (s + n) (packing_at j block) (subst (λ b. IsPacked j (spare_at j) (block_tokens tokens b) (packing_at j block)) same (fields-at j is)) d less) d

    values-small : (n : ℕ) → n < 8 → FieldsFit block (slice_get group n)
    values-small n lt = record {
      column = one-small 0 n (omega arith) lt;
      source = one-small 1 n (omega arith) lt;
      src_line = one-small 2 n (omega arith) lt;
      src_col = one-small 3 n (omega arith) lt;
      name = one-small 4 n (omega arith) lt;
    }

    token-there : slice_get group (in_block % 8) ≡ Some (get_or tokens i d)
    token-there =
        let here : 8 * (i / 8) + in_block % 8 ≡ i = omega (arith, in-group one i) in
        part-get tokens 8 (8 * (i / 8)) (in_block % 8) d (omega arith) (omega (arith, here, there)) ∙ ap (λ n. Some (get_or tokens n d)) here

    above-is : number_at 8 bytes at / 2 ^ (bit % 8) % 2 ^ packing.width ≡ number - packing.least
    above-is =
        value-of-group block group (groups_base h + before) bytes values-small (group-lies (groups_base h) bytes groups) k (in_block % 8) is_field (omega arith) fields.width
        ∙ ap (above_in k packing) token-there

    read-is : number_at 8 bytes (groups_base h + place + (first + in_block * sum (widths_of block)) / 8) / 2 ^ ((first + in_block * sum (widths_of block)) % 8) % 2 ^ packing.width ≡ number - packing.least
    read-is =
        ap (λ a. number_at 8 bytes a / 2 ^ ((first + in_block * sum (widths_of block)) % 8) % 2 ^ packing.width) at-is
        ∙ ap (λ r. number_at 8 bytes at / 2 ^ r % 2 ^ packing.width) bit-is ∙ above-is

    abbrev row : Row
    row = placed_row bytes h home

    pub value-read : value_of bytes h k i ≡ field_number k (get_or tokens i d)
    value-read =
        let whole : packing.least + (number - packing.least) ≡ number = omega (arith, least-reached) in
        let low : number < 4294967296 = omega (arith, small) in
        ap (λ n. value_by bytes k (row_in bytes h (i / block_size n)) (i % block_size n)) counted ∙ ap (λ row. value_by bytes k row in_block) (row-placed bytes h home placed)
        ∙ ap (λ f. value_in bytes row f in_block) (field-placed k bytes h home is_field ∙ field-is)
        ∙ value-is bytes row field in_block (groups_base h + place) (sum (widths_of block)) number at-base row-is.1 (ap (λ n. (packing.least + n) % 4294967296) read-is ∙ ap (λ n. n % 4294967296) whole ∙ mod-eq_of_lt low)
