-- The bytes of a map mean the map, and are in order.
use Rattle.std.proofs.Common.{◌≡◌, ℕ, ◌+◌, ◌*◌, ◌/◌, ◌<◌, ◌≤◌, Bool, true, false, ◌==◌, List, map}
use Rattle.std.proofs.Common.{nat_le}
use Rattle.std.proofs.Common.{length, get_or, take, drop, nat_lt, Option, Some, None, Ok, is_some}
use Rattle.std.proofs.Common.{refl, sym, ap, ◌∙◌, arith, subst, [], length-take, length-drop}
use Rattle.std.proofs.Common.{if◌then◌else◌}
use Rattle.std.proofs.lemmas.List.{get_or-take, get_or-drop, length-map, length_push}
use Rattle.std.proofs.lemmas.List.Elements.{All-get_or}
use Rattle.std.proofs.lemmas.List.FromFn.{fill_by_all}
use Rattle.std.specs.List.{range_with_len}
use Rattle.std.specs.Option.{unwrap_or}
use Rattle.oxc_sourcemap_tokens.specs.Token.{TokenRecord, IsInBounds}
use Rattle.oxc_sourcemap_parts.specs.Record.{MapRecord}
use Rattle.oxc_sourcemap_lookup.specs.Biased.{index_by, token_by}
use Rattle.oxc_sourcemap_lookup.specs.LineSpans.{count_before_line}
use Rattle.oxc_sourcemap_lookup.specs.declared.bias.Bias.{Bias}
use Rattle.oxc_sourcemap_compiled.specs.Compiled.{line_starts, field_number, AreBlocksOf}
use Rattle.oxc_sourcemap_compiled.specs.Compiled.{group_bytes_of, no_block, rows_of, groups_of}
use Rattle.oxc_sourcemap_compiled.specs.Compiled.{stored_count, text_offset, ignored_of}
use Rattle.oxc_sourcemap_compiled.specs.Compiled.{listed_table, header_of_map, compiled_length}
use Rattle.oxc_sourcemap_compiled.specs.Compiled.{map_bytes, AreBytesOf, block_tokens}
use Rattle.oxc_sourcemap_compiled.specs.Compiled.{all_group_bytes}
use Rattle.oxc_sourcemap_compiled.specs.Numbers.{number_at}
use Rattle.oxc_sourcemap_compiled.specs.Layout.{header_in, AreCounts, texts_base, compiled_fault}
use Rattle.oxc_sourcemap_compiled.specs.Layout.{rows_base, groups_base, line_numbers_base}
use Rattle.oxc_sourcemap_compiled.specs.Layout.{ignored_base, block_groups, block_size, blocks_for}
use Rattle.oxc_sourcemap_compiled.specs.Fields.{value_of, row_base}
use Rattle.oxc_sourcemap_compiled.specs.CompiledMeaning.{start_in, line_in, ignored_in}
use Rattle.oxc_sourcemap_compiled.specs.CompiledMeaning.{ignore_list_in}
use Rattle.oxc_sourcemap_compiled.specs.CompiledMeaning.{map_in, compiled_in, compiled_unless}
use Rattle.oxc_sourcemap_compiled.specs.CompiledMeaning.{compiled_meaning}
use Rattle.oxc_sourcemap_compiled.specs.Order.{AreRowsExact, AreInOrder, IsInOrder, column_of}
use Rattle.oxc_sourcemap_compiled.specs.Order.{least_column_of}
use Rattle.oxc_sourcemap_compiled.specs.Decompiled.{checked_map, DoTextsFollow, DoesNotGoBack}
use Rattle.oxc_sourcemap_compiled.specs.Means.{stored_map, compiled_of, FitsFormat}
use Rattle.oxc_sourcemap_compiled.specs.declared.layout.Header.{Header}
use Rattle.oxc_sourcemap_compiled.specs.declared.writing.blocks.Block.{Block}
use Rattle.oxc_sourcemap_compiled.proofs.Blocks.{line_in-listed, line_in-all}
use Rattle.oxc_sourcemap_compiled.proofs.Parts.{LiesAt}
use Rattle.oxc_sourcemap_compiled.proofs.ReadNumbers.{entry-read}
use Rattle.oxc_sourcemap_compiled.proofs.Rows.{rows-lie, least-read}
use Rattle.oxc_sourcemap_compiled.proofs.Values.{value-read}
use Rattle.oxc_sourcemap_compiled.proofs.Sizes.{token-block, few-blocks}
use Rattle.oxc_sourcemap_compiled.proofs.LineStarts.{start-within, any_token}
use Rattle.oxc_sourcemap_compiled.proofs.ReadTokens.{AreReadAs, in-order, tokens-read}
use Rattle.oxc_sourcemap_compiled.proofs.ReadTexts.{sources-read, names-read, contents-read}
use Rattle.oxc_sourcemap_compiled.proofs.ReadTexts.{file-read, root-read, debug_id-read}
use Rattle.oxc_sourcemap_compiled.proofs.ReadTexts.{offset-read}
use Rattle.oxc_sourcemap_compiled.proofs.Slices.{offset-next}
use Rattle.oxc_sourcemap_compiled.proofs.StoredMaps.{stored-utf8}
use Rattle.oxc_sourcemap_compiled.proofs.Taken.{same-map}
use Rattle.oxc_sourcemap_compiled.proofs.WrittenHeader.{HeaderRead, header-read}
use Rattle.oxc_sourcemap_compiled.proofs.WrittenParts.{PartsLie, parts-lie}

-- ---- rows of blocks are exact
-- the first of the tokens of a block has the least column, if it has at most that of each
exact-by : (least first : ℕ) → least ≤ first → first ≤ least → least ≡ first
exact-by least first le ge = omega (arith, le, ge)

module _ (tokens : List TokenRecord) (blocks : List Block) (bytes : List ℕ) (h : Header) (are : AreBlocksOf tokens blocks) (counted : h.tokens ≡ length tokens)
    (rows : LiesAt (rows_base h) (rows_of 0 (block_groups (length tokens)) ((length tokens + 7) / 8) blocks) bytes)
    (columns : (i : ℕ) (d : TokenRecord) → i < length tokens → value_of bytes h 0 i ≡ (get_or tokens i d).dst_col)
    (small : (i : ℕ) (d : TokenRecord) → i < length tokens → (get_or tokens i d).dst_col ≤ 4294967295) where
  abbrev size_of : ℕ
  size_of = block_size (length tokens)

  row-exact : (b : ℕ) → b < blocks_for (length tokens) → ((i : ℕ) → i < length tokens → i / size_of ≡ b → column_of bytes h (size_of * b) ≤ column_of bytes h i)
      → least_column_of bytes h b ≡ column_of bytes h (size_of * b)
  row-exact b lt first =
      let one = nat_le (length tokens) 16384 in
      let s = size_of in
      let block = get_or blocks b no_block in
      let part = block_tokens tokens b in
      let there : b < length blocks = omega (arith, lt, are.count) in
      let fits = (are.each b no_block there).column in
      let reached = fits.reached any_token in
      let x = reached.0 in
      let short : x < s = omega (arith, reached.1, length-take s (drop (s * b) tokens)) in
      let within : s * b + x < length tokens = omega (arith, reached.1, length-take s (drop (s * b) tokens), length-drop (s * b) tokens) in
      let begin : s * b < length tokens = omega (arith, within) in
      let front : s * b + 0 ≡ s * b = omega arith in
      let token : get_or part x any_token ≡ get_or tokens (s * b + x) any_token = get_or-take s (drop (s * b) tokens) x any_token short ∙ get_or-drop (s * b) tokens x any_token in
      let head : get_or part 0 any_token ≡ get_or tokens (s * b) any_token =
      get_or-take s (drop (s * b) tokens) 0 any_token (omega (arith, short)) ∙ get_or-drop (s * b) tokens 0 any_token ∙ ap (λ n. get_or tokens n any_token) front in
      let least : block.column.least ≡ (get_or tokens (s * b + x) any_token).dst_col = reached.2 ∙ ap (λ t. t.dst_col) token in
      let some : 0 < length part = omega (arith, reached.1) in
      let below : block.column.least ≤ (get_or tokens (s * b) any_token).dst_col = omega (arith, fits.least 0 any_token some, ap (λ t. t.dst_col) head) in
      let fewest = small (s * b + x) any_token within in
      let row = rows-lie (rows_base h) 0 (block_groups (length tokens)) ((length tokens + 7) / 8) b blocks bytes rows there in
      let place = 0 + group_bytes_of (block_groups (length tokens)) ((length tokens + 7) / 8) (take b blocks) in
      let spot : row_base h b + 4 ≡ row_base h b + 4 + 4 * 0 = omega arith in
      let read : least_column_of bytes h b ≡ block.column.least =
      ap (number_at 4 bytes) spot ∙ least-read 0 (row_base h b) place block bytes (omega arith) row (omega (arith, least, fewest)) in
      let up = first (s * b + x) within (token-block one b x short) in
      exact-by (least_column_of bytes h b) (column_of bytes h (s * b)) (omega (arith, read, below, columns (s * b) any_token begin))
      (omega (arith, read, least, up, columns (s * b + x) any_token within))

  pub rows-exact : AreRowsExact bytes h
  rows-exact =
      subst (λ n. (b : ℕ) → b < blocks_for n → ((i : ℕ) → i < n → i / block_size n ≡ b → column_of bytes h (block_size n * b) ≤ column_of bytes h i)
      → least_column_of bytes h b ≡ column_of bytes h (block_size n * b)) (sym counted) row-exact

-- ---- parts of a map
-- an ignore list, by its entries
list-is : (list : Option (List ℕ)) (f : ℕ → ℕ) → ((k : ℕ) → k < length (unwrap_or list []) → f k ≡ get_or (unwrap_or list []) k 0)
    → (if is_some list then Some (map f (range_with_len 0 (length (unwrap_or list [])))) else None) ≡ list
list-is None f same = refl
list-is (Some xs) f same = ap Some (sym (fill_by_all f xs (length xs) 0 refl (λ k lt. sym (same k lt))))

-- bytes that are as long as they say, with room for their parts, have no fault
no-fault : (bytes : List ℕ) → 104 ≤ length bytes → number_at 4 bytes 0 ≡ 1885433203 → number_at 4 bytes 4 ≡ 1 → number_at 8 bytes 8 ≡ length bytes
    → texts_base (header_in bytes) + 16 ≤ length bytes → compiled_fault bytes ≡ None
unfolding compiled_fault
no-fault bytes long magic version size room =
    let short : nat_lt (length bytes) 8 ≡ false = grind (arith, long) in
    let first : (number_at 4 bytes 0 == 1885433203) ≡ true = grind (arith, magic) in
    let second : (number_at 4 bytes 4 == 1) ≡ true = grind (arith, version) in
    let cut : nat_lt (length bytes) 104 ≡ false = grind (arith, long) in
    let third : (number_at 8 bytes 8 == length bytes) ≡ true = grind (arith, size) in
    let full : nat_lt (length bytes) (texts_base (header_in bytes) + 16) ≡ false = grind (arith, room) in
    rw (short, first, second, cut, third, full) refl

few-listed : (b : Bool) (n : ℕ) → (if b then n else 0) ≤ n
few-listed true n = omega arith
few-listed false n = omega arith

-- the bytes of parts that each have at most so many
sum-fits : (lines blocks ignored count listed groups texts : ℕ) → lines ≤ 4294967295 → blocks ≤ 4294967295 → ignored ≤ 4294967295 → count ≤ 12884901888 → listed ≤ lines → groups ≤ 4294967295
    → texts ≤ 4294967295 → 88 + 4 * (lines + 1) + 29 * blocks + 4 * ignored + 4 * (count + 1) + 4 * listed + groups + texts + 16 < 18446744073709551616
sum-fits lines blocks ignored count listed groups texts a b c d e f g = omega (arith, a, b, c, d, e, f, g)

module _ (r : MapRecord) (text_length : ℕ) (stamp bytes : List ℕ) (fits : FitsFormat r text_length stamp) (are : AreBytesOf r text_length stamp bytes) where
  abbrev h : Header
  h = header_of_map r are.lines are.listed are.blocks

  abbrev all : List ℕ
  all = map_bytes r are.lines are.listed are.blocks text_length stamp

  abbrev size : ℕ
  size = compiled_length r are.lines are.listed are.blocks

  lie : PartsLie r are.lines are.listed are.blocks text_length stamp all
  lie = parts-lie r are.lines are.listed are.blocks text_length stamp are.blocks_of fits.stamp_size

  counts : AreCounts h
  counts = record {
    tokens = are.small.tokens;
    lines = are.few_lines;
    sources = are.small.sources;
    names = are.small.names;
    ignored = are.small.ignored;
    group_bytes = are.few_groups;
  }

  size-fits : size < 18446744073709551616
  size-fits =
      sum-fits (length are.lines) (blocks_for (length r.tokens)) (length (ignored_of r)) (stored_count r) (if are.listed then length are.lines else 0) (all_group_bytes r.tokens are.blocks)
      (text_offset r (stored_count r)) are.few_lines (omega (arith, few-blocks (nat_le (length r.tokens) 16384) (length r.tokens) are.small.tokens)) are.small.ignored (omega (arith, are.small.sources, are.small.names)) (few-listed are.listed (length are.lines))
      are.few_groups are.few_texts

  header : HeaderRead h size text_length stamp all
  header = header-read h size text_length stamp all lie.header counts size-fits fits.length_fits fits.stamp_size

  fault : compiled_fault all ≡ None
  fault =
      let base = ap texts_base header.header in
      no-fault all (omega (arith, lie.whole)) header.magic header.version (header.says_size ∙ sym lie.whole) (omega (arith, lie.whole, base))

  -- ---- tokens
  starts-read : (k : ℕ) → k ≤ length are.lines → start_in all k ≡ get_or (line_starts r.tokens are.lines) k 0
  starts-read k le =
      let size = length_push (map (λ n. count_before_line n r.tokens) are.lines) (length r.tokens) in
      let lines = length-map are.lines (λ n. count_before_line n r.tokens) in
      let within = start-within r.tokens are.lines are.lines_of are.sorted k le in
      entry-read k 88 (line_starts r.tokens are.lines) all lie.starts (omega (arith, size, lines, le)) (omega (arith, within, are.small.tokens))

  numbers-by : (b : Bool) (k : ℕ) → are.listed ≡ b → k < length are.lines → line_in all h k ≡ get_or are.lines k 0
  numbers-by true k e lt =
      let numbers = subst (λ b. LiesAt (line_numbers_base h) (listed_table b are.lines) all) e lie.numbers in
      line_in-listed all h k e ∙ entry-read k (line_numbers_base h) are.lines all numbers lt (are.small_lines k lt)
  numbers-by false k e lt = line_in-all all h k e ∙ sym (are.all_listed e k lt)

  values : (k i : ℕ) (d : TokenRecord) → k < 5 → i < length r.tokens → value_of all h k i ≡ field_number k (get_or r.tokens i d)
  values k i d lt there =
      value-read r.tokens are.blocks all h are.blocks_of fits.tokens are.few_groups lie.rows refl refl lie.groups k i d lt there

  as-read : AreReadAs r.tokens are.lines all h
  as-read = record {
    counted = refl;
    lined = refl;
    starts = starts-read;
    numbers = λ k lt. numbers-by are.listed k refl lt;
    values = values;
    rows = rows-exact r.tokens are.blocks all h are.blocks_of refl lie.rows (λ i d lt. values 0 i d (omega arith) lt) (λ i d lt.
        let column = (All-get_or IsInBounds r.tokens i d lt fits.tokens).dst_col in
        omega (arith, column));
  }

  -- ---- the map
  ignored-read : ignore_list_in all h ≡ r.ignore_list
  ignored-read = list-is r.ignore_list (ignored_in all h) (λ k lt. entry-read k (ignored_base h) (ignored_of r) all lie.ignored lt (All-get_or (λ id. id ≤ 4294967295) (ignored_of r) k 0 lt fits.ignored))

  map-read : map_in all h ≡ stored_map r
  map-read =
      same-map (file-read r all h refl refl are.few_texts lie.offsets lie.texts) (names-read r all h refl refl are.few_texts lie.offsets lie.texts) (root-read r all h refl refl are.few_texts lie.offsets lie.texts)
      (sources-read r all h refl refl are.few_texts lie.offsets lie.texts) (contents-read r all h refl refl are.few_texts lie.offsets lie.texts)
      (tokens-read r.tokens are.lines all h are.lines_of are.sorted as-read) ignored-read (debug_id-read r all h refl refl are.few_texts lie.offsets lie.texts)

  compiled-read : compiled_in all ≡ compiled_of r text_length stamp
  compiled-read =
      ap (λ c. record { content = c; text_length = number_at 8 all 16; stamp = take 32 (drop 24 all) }) (ap (map_in all) header.header ∙ map-read)
      ∙ ap (λ n. record { content = stored_map r; text_length = n; stamp = take 32 (drop 24 all) }) header.says_text_length
      ∙ ap (λ s. record { content = stored_map r; text_length = text_length; stamp = s }) header.says_stamp

  pub compiled-means : compiled_meaning bytes ≡ Ok (compiled_of r text_length stamp)
  compiled-means = ap compiled_meaning are.are ∙ ap (λ fault. compiled_unless fault (compiled_in all)) fault ∙ ap Ok compiled-read

  pub compiled-in-order : IsInOrder bytes
  compiled-in-order =
      let order : AreInOrder all (header_in all) = subst (AreInOrder all) (sym header.header) (in-order r.tokens are.lines all h are.lines_of are.sorted as-read) in
      subst IsInOrder (sym are.are) order

  content-read : (compiled_in bytes).content ≡ stored_map r
  content-read = ap (λ bytes. (compiled_in bytes).content) are.are ∙ ap (λ c. c.content) compiled-read

  pub compiled-looks-up : (bias : Bias) (line col : ℕ) → (index_by bias (compiled_in bytes).content.tokens line col ≡ index_by bias r.tokens line col)
      × (token_by bias (compiled_in bytes).content.tokens line col ≡ token_by bias r.tokens line col)
  compiled-looks-up bias line col =
      let same : (compiled_in bytes).content.tokens ≡ r.tokens = ap (λ m. m.tokens) content-read in
      (ap (λ ts. index_by bias ts line col) same, ap (λ ts. token_by bias ts line col) same)

  texts-follow : DoTextsFollow all h
  texts-follow = λ t lt.
      let begin = offset-read r all h refl refl are.few_texts lie.offsets lie.texts t (omega (arith, lt)) in
      let end = offset-read r all h refl refl are.few_texts lie.offsets lie.texts (t + 1) (omega (arith, lt)) in
      omega (arith, begin, end, offset-next r t)

  not-repeated : DoesNotGoBack bytes (header_in bytes)
  not-repeated =
      let texts : DoTextsFollow all (header_in all) = subst (DoTextsFollow all) (sym header.header) texts-follow in
      record {
        lines = compiled-in-order.starts;
        texts = subst (λ bytes. DoTextsFollow bytes (header_in bytes)) (sym are.are) texts;
      }

  pub compiled-taken-apart : (checked_map (compiled_in bytes).content ≡ Some (stored_map r)) × DoesNotGoBack bytes (header_in bytes)
  compiled-taken-apart = (ap checked_map content-read ∙ ap (λ b. if b then Some (stored_map r) else None) (stored-utf8 r fits.texts), not-repeated)
