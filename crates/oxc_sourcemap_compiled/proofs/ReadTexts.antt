-- The texts of a map, read back.
use Rattle.std.proofs.Common.{◌≡◌, ℕ, zero, suc, ◌+◌, ◌-◌, ◌*◌, ◌<◌, ◌≤◌, true, false, List, []}
use Rattle.std.proofs.Common.{map, take, drop, length, get_or, slice_get, nat_lt, nat_le, ◌==◌}
use Rattle.std.proofs.Common.{Option, Some, None, refl, sym, ap, ◌∙◌, arith, length-append}
use Rattle.std.proofs.Common.{length-drop, drop-drop}
use Rattle.std.proofs.lemmas.List.FromFn.{length-map-range_with_len, get_or-map-range_with_len}
use Rattle.std.proofs.lemmas.List.FromFn.{fill_by_all}
use Rattle.std.proofs.lemmas.Option.{unwrap_or-slice_get}
use Rattle.std.specs.List.{flat_map, range_with_len}
use Rattle.std.specs.Option.{option_and_then, unwrap_or}
use Rattle.oxc_sourcemap_parts.specs.Record.{MapRecord, Text}
use Rattle.oxc_sourcemap_compiled.specs.Compiled.{table, marked, content_at, stored_count}
use Rattle.oxc_sourcemap_compiled.specs.Compiled.{stored_text, text_offset}
use Rattle.oxc_sourcemap_compiled.specs.Layout.{offsets_base, texts_base}
use Rattle.oxc_sourcemap_compiled.specs.CompiledMeaning.{offset_in, part_between, text_in, optional}
use Rattle.oxc_sourcemap_compiled.specs.CompiledMeaning.{optional_in, listed_in}
use Rattle.oxc_sourcemap_compiled.specs.declared.layout.Header.{Header}
use Rattle.oxc_sourcemap_compiled.proofs.Slices.{flat_map-more, offsets-grow, offset-next}
use Rattle.oxc_sourcemap_compiled.proofs.Parts.{LiesAt, lies-same, lies-within, lies-take}
use Rattle.oxc_sourcemap_compiled.proofs.Parts.{lies-among}
use Rattle.oxc_sourcemap_compiled.proofs.ReadNumbers.{entry-read}

pub texts-length : (r : MapRecord) (n : ℕ) → length (flat_map (stored_text r) (range_with_len 0 n)) ≡ text_offset r n
texts-length r zero = refl
texts-length r (suc n) =
    let next : suc n ≡ n + 1 = omega arith in
    let f = stored_text r in
    ap (λ m. length (flat_map f (range_with_len 0 m))) next ∙ ap length (flat_map-more f n) ∙ length-append (flat_map f (range_with_len 0 n)) (f n) ∙ ap (λ m. m + length (f n)) (texts-length r n)

-- a text that lies there is the part from where it begins to where it ends
part-is : (base s : ℕ) (text bytes : List ℕ) → LiesAt (base + s) text bytes → part_between (drop base bytes) s (s + length text) ≡ Some text
unfolding part_between
part-is base s text bytes h =
    let within = lies-within (base + s) text bytes h in
    let order : nat_le s (s + length text) ≡ true = grind arith in
    let room : nat_le (s + length text) (length (drop base bytes)) ≡ true = grind (arith, within, length-drop base bytes) in
    let size : s + length text - s ≡ length text = omega arith in
    let is : take (s + length text - s) (drop s (drop base bytes)) ≡ text =
    ap (λ n. take n (drop s (drop base bytes))) size ∙ ap (take (length text)) (drop-drop s base bytes) ∙ lies-take (base + s) (length text) text bytes h refl in
    rw (order, room) (ap Some is)

-- ---- texts by their number
module _ (r : MapRecord) where
  source-stored : (t : ℕ) → t < length r.sources → stored_text r t ≡ get_or r.sources t []
  unfolding stored_text
  source-stored t lt =
      let here : nat_lt t (length r.sources) ≡ true = grind (arith, lt) in
      rw here (unwrap_or-slice_get r.sources t [])

  content-stored : (i : ℕ) → i < length r.sources → stored_text r (length r.sources + i) ≡ marked (content_at r.source_contents i)
  unfolding stored_text
  content-stored i lt =
      let other : nat_lt (length r.sources + i) (length r.sources) ≡ false = grind arith in
      let here : nat_lt (length r.sources + i) (2 * length r.sources) ≡ true = grind (arith, lt) in
      let back : length r.sources + i - length r.sources ≡ i = omega arith in
      rw (other, here) (ap (λ n. marked (content_at r.source_contents n)) back)

  name-stored : (i : ℕ) → i < length r.names → stored_text r (2 * length r.sources + i) ≡ get_or r.names i []
  unfolding stored_text
  name-stored i lt =
      let t = 2 * length r.sources + i in
      let first : nat_lt t (length r.sources) ≡ false = grind arith in
      let second : nat_lt t (2 * length r.sources) ≡ false = grind arith in
      let here : nat_lt t (2 * length r.sources + length r.names) ≡ true = grind (arith, lt) in
      let back : t - 2 * length r.sources ≡ i = omega arith in
      rw (first, second, here) (ap (λ n. unwrap_or (slice_get r.names n) []) back ∙ unwrap_or-slice_get r.names i [])

  -- the three texts that are in no list
  module _ (t : ℕ) (past : 2 * length r.sources + length r.names ≤ t) where
    first : nat_lt t (length r.sources) ≡ false
    first = grind (arith, past)

    second : nat_lt t (2 * length r.sources) ≡ false
    second = grind (arith, past)

    third : nat_lt t (2 * length r.sources + length r.names) ≡ false
    third = grind (arith, past)

  file-stored : stored_text r (2 * length r.sources + length r.names) ≡ marked r.file
  unfolding stored_text
  file-stored =
      let t = 2 * length r.sources + length r.names in
      let here : (t == t) ≡ true = grind arith in
      rw (first t (omega arith), second t (omega arith), third t (omega arith), here) refl

  root-stored : stored_text r (2 * length r.sources + length r.names + 1) ≡ marked r.source_root
  unfolding stored_text
  root-stored =
      let n = 2 * length r.sources + length r.names in
      let t = n + 1 in
      let other : (t == n) ≡ false = grind arith in
      let here : (t == t) ≡ true = grind arith in
      rw (first t (omega arith), second t (omega arith), third t (omega arith), other, here) refl

  debug_id-stored : stored_text r (2 * length r.sources + length r.names + 2) ≡ marked r.debug_id
  unfolding stored_text
  debug_id-stored =
      let n = 2 * length r.sources + length r.names in
      let t = n + 2 in
      let other : (t == n) ≡ false = grind arith in
      let another : (t == n + 1) ≡ false = grind arith in
      rw (first t (omega arith), second t (omega arith), third t (omega arith), other, another) refl

optional-marked : (o : Option Text) → optional (marked o) ≡ o
optional-marked None = refl
optional-marked (Some text) = refl

-- ---- texts in bytes
module _ (r : MapRecord) (bytes : List ℕ) (h : Header) (sources : h.sources ≡ length r.sources) (names : h.names ≡ length r.names) (few : text_offset r (stored_count r) ≤ 4294967295)
    (offsets : LiesAt (offsets_base h) (table (map (text_offset r) (range_with_len 0 (stored_count r + 1)))) bytes)
    (texts : LiesAt (texts_base h) (flat_map (stored_text r) (range_with_len 0 (stored_count r))) bytes) where
  pub offset-read : (t : ℕ) → t ≤ stored_count r → offset_in bytes h t ≡ text_offset r t
  offset-read t le =
      let all = map (text_offset r) (range_with_len 0 (stored_count r + 1)) in
      let size = length-map-range_with_len (text_offset r) 0 (stored_count r + 1) in
      let is = get_or-map-range_with_len (text_offset r) 0 (stored_count r + 1) t t 0 (omega (arith, le)) (omega arith) in
      let small = offsets-grow r t (stored_count r) le in
      entry-read t (offsets_base h) all bytes offsets (omega (arith, size, le)) (omega (arith, is, small, few)) ∙ is

  text-read : (t : ℕ) → t < stored_count r → text_in bytes h t ≡ Some (stored_text r t)
  text-read t lt =
      let all = drop (texts_base h) bytes in
      let s = text_offset r t in
      let begin = offset-read t (omega (arith, lt)) in
      let end = offset-read (t + 1) (omega (arith, lt)) ∙ offset-next r t in
      let among = lies-among (stored_text r) 0 (stored_count r) t t (texts_base h) bytes texts lt (omega arith) in
      let place : texts_base h + length (flat_map (stored_text r) (range_with_len 0 t)) ≡ texts_base h + s = ap (λ n. texts_base h + n) (texts-length r t) in
      let lies = lies-same (texts_base h + length (flat_map (stored_text r) (range_with_len 0 t))) (texts_base h + s) (stored_text r t) bytes place among in
      ap (λ b. part_between all b (offset_in bytes h (t + 1))) begin ∙ ap (part_between all s) end ∙ part-is (texts_base h) s (stored_text r t) bytes lies

  listed-read : (t : ℕ) → t < stored_count r → listed_in bytes h t ≡ stored_text r t
  listed-read t lt = ap (λ o. unwrap_or o []) (text-read t lt)

  optional-read : (t : ℕ) (o : Option Text) → t < stored_count r → stored_text r t ≡ marked o → optional_in bytes h t ≡ o
  optional-read t o lt is = ap (option_and_then optional) (text-read t lt ∙ ap Some is) ∙ optional-marked o

  pub sources-read : map (listed_in bytes h) (range_with_len 0 h.sources) ≡ r.sources
  sources-read =
      ap (λ n. map (listed_in bytes h) (range_with_len 0 n)) sources
      ∙ sym (fill_by_all (listed_in bytes h) r.sources (length r.sources) [] refl (λ k lt. sym (listed-read k (omega (arith, lt)) ∙ source-stored r k lt)))

  pub names-read : map (λ i. listed_in bytes h (2 * h.sources + i)) (range_with_len 0 h.names) ≡ r.names
  names-read =
      ap (λ n. map (λ i. listed_in bytes h (2 * n + i)) (range_with_len 0 h.names)) sources ∙ ap (λ n. map (λ i. listed_in bytes h (2 * length r.sources + i)) (range_with_len 0 n)) names
      ∙ sym (fill_by_all (λ i. listed_in bytes h (2 * length r.sources + i)) r.names (length r.names) [] refl
      (λ k lt. sym (listed-read (2 * length r.sources + k) (omega (arith, lt)) ∙ name-stored r k lt)))

  pub contents-read : map (λ i. optional_in bytes h (h.sources + i)) (range_with_len 0 h.sources) ≡ map (content_at r.source_contents) (range_with_len 0 (length r.sources))
  contents-read =
      let n = length r.sources in
      let f = content_at r.source_contents in
      ap (λ n. map (λ i. optional_in bytes h (n + i)) (range_with_len 0 n)) sources
      ∙ sym (fill_by_all (λ i. optional_in bytes h (n + i)) (map f (range_with_len 0 n)) n None (length-map-range_with_len f 0 n)
      (λ k lt. get_or-map-range_with_len f 0 n k k None lt (omega arith) ∙ sym (optional-read (n + k) (f k) (omega (arith, lt)) (content-stored r k lt))))

  abbrev listed : ℕ
  listed = 2 * length r.sources + length r.names

  past-lists : 2 * h.sources + h.names ≡ listed
  past-lists = omega (arith, sources, names)

  pub file-read : optional_in bytes h (2 * h.sources + h.names) ≡ r.file
  file-read = ap (optional_in bytes h) past-lists ∙ optional-read listed r.file (omega arith) (file-stored r)

  pub root-read : optional_in bytes h (2 * h.sources + h.names + 1) ≡ r.source_root
  root-read = ap (λ n. optional_in bytes h (n + 1)) past-lists ∙ optional-read (listed + 1) r.source_root (omega arith) (root-stored r)

  pub debug_id-read : optional_in bytes h (2 * h.sources + h.names + 2) ≡ r.debug_id
  debug_id-read = ap (λ n. optional_in bytes h (n + 2)) past-lists ∙ optional-read (listed + 2) r.debug_id (omega arith) (debug_id-stored r)
