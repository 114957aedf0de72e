-- Where the parts of a compiled map lie in the bytes that are written, and how many bytes there are.
use Rattle.std.proofs.Common.{◌≡◌, ℕ, ◌+◌, ◌*◌, ◌/◌, Bool, true, false, List, ◌++◌, length, map}
use Rattle.std.proofs.Common.{refl, ap, ◌∙◌, arith, length-append, if◌then◌else◌, ◌≤◌, subst, sym}
use Rattle.std.proofs.Common.{nat_le}
use Rattle.std.proofs.lemmas.List.{length-map, length_push}
use Rattle.std.proofs.lemmas.List.FromFn.{length-map-range_with_len}
use Rattle.std.specs.List.{flat_map, range_with_len}
use Rattle.oxc_sourcemap_parts.specs.Record.{MapRecord}
use Rattle.oxc_sourcemap_lookup.specs.LineSpans.{count_before_line}
use Rattle.oxc_sourcemap_compiled.specs.Compiled.{bytes_of, table, line_starts, AreBlocksOf}
use Rattle.oxc_sourcemap_compiled.specs.Compiled.{rows_of, all_group_bytes, groups_of, stored_count}
use Rattle.oxc_sourcemap_compiled.specs.Compiled.{stored_text, text_offset, ignored_of}
use Rattle.oxc_sourcemap_compiled.specs.Compiled.{header_bytes, listed_table, header_of_map}
use Rattle.oxc_sourcemap_compiled.specs.Compiled.{compiled_length, map_bytes}
use Rattle.oxc_sourcemap_compiled.specs.Layout.{rows_base, ignored_base, offsets_base}
use Rattle.oxc_sourcemap_compiled.specs.Layout.{line_numbers_base, groups_base, texts_base}
use Rattle.oxc_sourcemap_compiled.specs.Layout.{block_groups}
use Rattle.oxc_sourcemap_compiled.specs.Layout.{blocks_for}
use Rattle.oxc_sourcemap_compiled.specs.declared.layout.Header.{Header}
use Rattle.oxc_sourcemap_compiled.specs.declared.writing.blocks.Block.{Block}
use Rattle.oxc_sourcemap_compiled.proofs.Bytes.{bytes-length}
use Rattle.oxc_sourcemap_compiled.proofs.Parts.{LiesAt, lies-whole, lies-front, lies-next}
use Rattle.oxc_sourcemap_compiled.proofs.ReadNumbers.{table-length}
use Rattle.oxc_sourcemap_compiled.proofs.Rows.{rows-length}
use Rattle.oxc_sourcemap_compiled.proofs.Groups.{groups-length}
use Rattle.oxc_sourcemap_compiled.proofs.Sizes.{groups-fit}
use Rattle.oxc_sourcemap_compiled.proofs.ReadTexts.{texts-length}
use Rattle.oxc_sourcemap_compiled.proofs.WrittenHeader.{header-length}

listed-length : (listed : Bool) (lines : List ℕ) → length (listed_table listed lines) ≡ 4 * (if listed then length lines else 0)
listed-length true lines = table-length lines
listed-length false lines = refl

parts-sum : (a b c d e f g z : List ℕ) → length (a ++ (b ++ (c ++ (d ++ (e ++ (f ++ (g ++ z)))))))
    ≡ length a + (length b + (length c + (length d + (length e + (length f + (length g + length z))))))
parts-sum a b c d e f g z =
    omega (
      arith,
      length-append a (b ++ (c ++ (d ++ (e ++ (f ++ (g ++ z)))))),
      length-append b (c ++ (d ++ (e ++ (f ++ (g ++ z))))),
      length-append c (d ++ (e ++ (f ++ (g ++ z)))),
      length-append d (e ++ (f ++ (g ++ z))),
      length-append e (f ++ (g ++ z)),
      length-append f (g ++ z),
      length-append g z,
    )

-- Where the parts lie.
pub record PartsLie (r : MapRecord) (lines : List ℕ) (listed : Bool) (blocks : List Block) (text_length : ℕ) (stamp bytes : List ℕ) : Type 0 where
  pub header : LiesAt 0 (header_bytes (header_of_map r lines listed blocks) (compiled_length r lines listed blocks) text_length stamp) bytes
  pub starts : LiesAt 88 (table (line_starts r.tokens lines)) bytes
  pub rows : LiesAt (rows_base (header_of_map r lines listed blocks)) (rows_of 0 (block_groups (length r.tokens)) ((length r.tokens + 7) / 8) blocks) bytes
  pub ignored : LiesAt (ignored_base (header_of_map r lines listed blocks)) (table (ignored_of r)) bytes
  pub offsets : LiesAt (offsets_base (header_of_map r lines listed blocks)) (table (map (text_offset r) (range_with_len 0 (stored_count r + 1)))) bytes
  pub numbers : LiesAt (line_numbers_base (header_of_map r lines listed blocks)) (listed_table listed lines) bytes
  pub groups : LiesAt (groups_base (header_of_map r lines listed blocks)) (groups_of blocks r.tokens) bytes
  pub texts : LiesAt (texts_base (header_of_map r lines listed blocks)) (flat_map (stored_text r) (range_with_len 0 (stored_count r))) bytes
  pub group_bytes : length (groups_of blocks r.tokens) ≡ all_group_bytes r.tokens blocks
  pub whole : length bytes ≡ compiled_length r lines listed blocks

module _ (r : MapRecord) (lines : List ℕ) (listed : Bool) (blocks : List Block) (text_length : ℕ) (stamp : List ℕ) (are : AreBlocksOf r.tokens blocks) (long : length stamp ≡ 32) where
  abbrev h : Header
  h = header_of_map r lines listed blocks

  abbrev header : List ℕ
  header = header_bytes h (compiled_length r lines listed blocks) text_length stamp

  abbrev p1 : List ℕ
  p1 = table (line_starts r.tokens lines)

  abbrev p2 : List ℕ
  p2 = rows_of 0 (block_groups (length r.tokens)) ((length r.tokens + 7) / 8) blocks

  abbrev p3 : List ℕ
  p3 = table (ignored_of r)

  abbrev p4 : List ℕ
  p4 = table (map (text_offset r) (range_with_len 0 (stored_count r + 1)))

  abbrev p5 : List ℕ
  p5 = listed_table listed lines

  abbrev p6 : List ℕ
  p6 = groups_of blocks r.tokens

  abbrev p7 : List ℕ
  p7 = flat_map (stored_text r) (range_with_len 0 (stored_count r))

  abbrev p8 : List ℕ
  p8 = bytes_of 16 0

  abbrev bytes : List ℕ
  bytes = map_bytes r lines listed blocks text_length stamp

  length-0 : length header ≡ 88
  length-0 = header-length h (compiled_length r lines listed blocks) text_length stamp long

  length-1 : length p1 ≡ 4 * (length lines + 1)
  length-1 =
      let starts = map (λ n. count_before_line n r.tokens) lines in
      table-length (line_starts r.tokens lines) ∙ ap (λ n. 4 * n) (length_push starts (length r.tokens) ∙ ap (λ n. n + 1) (length-map lines (λ n. count_before_line n r.tokens)))

  length-2 : length p2 ≡ 29 * blocks_for (length r.tokens)
  length-2 = rows-length 0 (block_groups (length r.tokens)) ((length r.tokens + 7) / 8) blocks ∙ ap (λ n. 29 * n) are.count

  length-3 : length p3 ≡ 4 * length (ignored_of r)
  length-3 = table-length (ignored_of r)

  length-4 : length p4 ≡ 4 * (stored_count r + 1)
  length-4 = table-length (map (text_offset r) (range_with_len 0 (stored_count r + 1))) ∙ ap (λ n. 4 * n) (length-map-range_with_len (text_offset r) 0 (stored_count r + 1))

  length-5 : length p5 ≡ 4 * (if listed then length lines else 0)
  length-5 = listed-length listed lines

  few : (length r.tokens + 7) / 8 ≤ block_groups (length r.tokens) * length blocks
  few = subst (λ n. (length r.tokens + 7) / 8 ≤ block_groups (length r.tokens) * n) (sym are.count) (groups-fit (nat_le (length r.tokens) 16384) (length r.tokens))

  length-6 : length p6 ≡ all_group_bytes r.tokens blocks
  length-6 = groups-length (nat_le (length r.tokens) 16384) ((length r.tokens + 7) / 8) blocks r.tokens few

  length-7 : length p7 ≡ text_offset r (stored_count r)
  length-7 = texts-length r (stored_count r)

  length-all : length bytes ≡ compiled_length r lines listed blocks
  length-all =
      sums (length header) (length p1) (length p2) (length p3) (length p4) (length p5) (length p6) (length p7) (length p8) (length bytes)
      (4 * (length lines + 1)) (29 * blocks_for (length r.tokens)) (4 * length (ignored_of r)) (4 * (stored_count r + 1)) (4 * (if listed then length lines else 0))
      (all_group_bytes r.tokens blocks) (text_offset r (stored_count r))
      (length-append header (p1 ++ (p2 ++ (p3 ++ (p4 ++ (p5 ++ (p6 ++ (p7 ++ p8))))))) ∙ ap (λ n. length header + n) (parts-sum p1 p2 p3 p4 p5 p6 p7 p8))
      length-0 length-1 length-2 length-3 length-4 length-5 length-6 length-7 (bytes-length 16 0) where
        sums : (n0 n1 n2 n3 n4 n5 n6 n7 n8 all m1 m2 m3 m4 m5 m6 m7 : ℕ) → all ≡ n0 + (n1 + (n2 + (n3 + (n4 + (n5 + (n6 + (n7 + n8)))))))
            → n0 ≡ 88 → n1 ≡ m1 → n2 ≡ m2 → n3 ≡ m3 → n4 ≡ m4 → n5 ≡ m5 → n6 ≡ m6 → n7 ≡ m7 → n8 ≡ 16 → all ≡ 88 + m1 + m2 + m3 + m4 + m5 + m6 + m7 + 16
        sums n0 n1 n2 n3 n4 n5 n6 n7 n8 all m1 m2 m3 m4 m5 m6 m7 e e0 e1 e2 e3 e4 e5 e6 e7 e8 = omega (arith, e, e0, e1, e2, e3, e4, e5, e6, e7, e8)

  pub parts-lie : PartsLie r lines listed blocks text_length stamp bytes
  parts-lie =
      let r7 = p7 ++ p8 in
      let r6 = p6 ++ r7 in
      let r5 = p5 ++ r6 in
      let r4 = p4 ++ r5 in
      let r3 = p3 ++ r4 in
      let r2 = p2 ++ r3 in
      let r1 = p1 ++ r2 in
      let l0 : LiesAt 0 (header ++ r1) bytes = lies-whole bytes in
      let l1 : LiesAt 88 r1 bytes = lies-next 0 88 header r1 bytes l0 length-0 in
      let l2 : LiesAt (rows_base h) r2 bytes = lies-next 88 (4 * (length lines + 1)) p1 r2 bytes l1 length-1 in
      let l3 : LiesAt (ignored_base h) r3 bytes = lies-next (rows_base h) (29 * blocks_for (length r.tokens)) p2 r3 bytes l2 length-2 in
      let l4 : LiesAt (offsets_base h) r4 bytes = lies-next (ignored_base h) (4 * length (ignored_of r)) p3 r4 bytes l3 length-3 in
      let l5 : LiesAt (line_numbers_base h) r5 bytes = lies-next (offsets_base h) (4 * (stored_count r + 1)) p4 r5 bytes l4 length-4 in
      let l6 : LiesAt (groups_base h) r6 bytes = lies-next (line_numbers_base h) (4 * (if listed then length lines else 0)) p5 r6 bytes l5 length-5 in
      let l7 : LiesAt (texts_base h) r7 bytes = lies-next (groups_base h) (all_group_bytes r.tokens blocks) p6 r7 bytes l6 length-6 in
      record {
        header = lies-front 0 header r1 bytes l0;
        starts = lies-front 88 p1 r2 bytes l1;
        rows = lies-front (rows_base h) p2 r3 bytes l2;
        ignored = lies-front (ignored_base h) p3 r4 bytes l3;
        offsets = lies-front (offsets_base h) p4 r5 bytes l4;
        numbers = lies-front (line_numbers_base h) p5 r6 bytes l5;
        groups = lies-front (groups_base h) p6 r7 bytes l6;
        texts = lies-front (texts_base h) p7 p8 bytes l7;
        group_bytes = length-6;
        whole = length-all;
      }
