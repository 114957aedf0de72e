-- The tokens of a map, read back: bytes whose numbers are those of sorted tokens have these tokens, and are in order.
use Rattle.std.proofs.Common.{◌≡◌, ℕ, ◌+◌, ◌-◌, ◌<◌, ◌≤◌, true, List, map, take, drop, length}
use Rattle.std.proofs.Common.{get_or, nat_lt, Option, Some, None, refl, sym, ap, ◌∙◌, arith}
use Rattle.std.proofs.Common.{length-take, length-drop}
use Rattle.std.proofs.lemmas.List.{same_lists, get_or-take, get_or-drop}
use Rattle.std.proofs.lemmas.List.FromFn.{length-map-range_with_len, get_or-map-range_with_len}
use Rattle.std.proofs.lemmas.Option.{get_or_from_slice_get}
use Rattle.std.specs.List.{range_with_len}
use Rattle.oxc_sourcemap_tokens.specs.Token.{TokenRecord}
use Rattle.oxc_sourcemap_parts.specs.Sorted.{are_tokens_sorted, token_line, token_column}
use Rattle.oxc_sourcemap_lookup.specs.Lookup.{on_line, no_column_goes_back}
use Rattle.oxc_sourcemap_lookup.proofs.OwnTables.{line_goes_on}
use Rattle.oxc_sourcemap_compiled.specs.Compiled.{AreLinesOf, line_starts, id_number, field_number}
use Rattle.oxc_sourcemap_compiled.specs.Fields.{value_of}
use Rattle.oxc_sourcemap_compiled.specs.CompiledMeaning.{stored_id, token_in, start_in, line_in}
use Rattle.oxc_sourcemap_compiled.specs.CompiledMeaning.{entry_begin, entry_end, entry_tokens}
use Rattle.oxc_sourcemap_compiled.specs.CompiledMeaning.{tokens_in}
use Rattle.oxc_sourcemap_compiled.specs.Order.{AreRowsExact, AreInOrder}
use Rattle.oxc_sourcemap_compiled.specs.declared.layout.Header.{Header}
use Rattle.oxc_sourcemap_compiled.proofs.Entries.{tokens-length, token-is, entry-of}
use Rattle.oxc_sourcemap_compiled.proofs.LineStarts.{start-last, start-within, on-entry}
use Rattle.oxc_sourcemap_compiled.proofs.LineStarts.{starts-grow, first-start, entry-is}

-- an id that was stored is read
id-read : (id : Option ℕ) → stored_id (id_number id) ≡ id
id-read None = refl
id-read (Some n) =
    let some : nat_lt 0 (n + 1) ≡ true = grind arith in
    let back : n + 1 - 1 ≡ n = omega arith in
    rw some (ap Some back)

-- tokens with the same fields
pub same-token : {l l' c c' m m' n n' : ℕ} {s s' t t' : Option ℕ} → l ≡ l' → c ≡ c' → m ≡ m' → n ≡ n' → s ≡ s' → t ≡ t'
    → ◌≡◌ {A = TokenRecord} (record { dst_line = l; dst_col = c; src_line = m; src_col = n; source_id = s; name_id = t })
    (record { dst_line = l'; dst_col = c'; src_line = m'; src_col = n'; source_id = s'; name_id = t' })
same-token {l} {l'} {c} {c'} {m} {m'} {n} {n'} {s} {s'} {t} {t'} el ec em en es et =
    ap (λ x. record { dst_line = x; dst_col = c; src_line = m; src_col = n; source_id = s; name_id = t }) el
    ∙ ap (λ x. record { dst_line = l'; dst_col = x; src_line = m; src_col = n; source_id = s; name_id = t }) ec
    ∙ ap (λ x. record { dst_line = l'; dst_col = c'; src_line = x; src_col = n; source_id = s; name_id = t }) em
    ∙ ap (λ x. record { dst_line = l'; dst_col = c'; src_line = m'; src_col = x; source_id = s; name_id = t }) en
    ∙ ap (λ x. record { dst_line = l'; dst_col = c'; src_line = m'; src_col = n'; source_id = x; name_id = t }) es
    ∙ ap (λ x. record { dst_line = l'; dst_col = c'; src_line = m'; src_col = n'; source_id = s'; name_id = x }) et

-- The numbers that are read of bytes are those of these tokens.
pub record AreReadAs (tokens : List TokenRecord) (lines bytes : List ℕ) (h : Header) : Type 0 where
  pub counted : h.tokens ≡ length tokens
  pub lined : h.lines ≡ length lines
  pub starts : (k : ℕ) → k ≤ length lines → start_in bytes k ≡ get_or (line_starts tokens lines) k 0
  pub numbers : (k : ℕ) → k < length lines → line_in bytes h k ≡ get_or lines k 0
  pub values : (k i : ℕ) (d : TokenRecord) → k < 5 → i < length tokens → value_of bytes h k i ≡ field_number k (get_or tokens i d)
  pub rows : AreRowsExact bytes h

module _ (tokens : List TokenRecord) (lines bytes : List ℕ) (h : Header) (are : AreLinesOf tokens lines) (sorted : are_tokens_sorted tokens ≡ true) (read : AreReadAs tokens lines bytes h) where
  abbrev start : ℕ → ℕ
  start k = get_or (line_starts tokens lines) k 0

  end-read : (k : ℕ) → k < length lines → entry_end bytes h k ≡ start (k + 1)
  end-read k there =
      let is = read.starts (k + 1) (omega (arith, there)) in
      let within = start-within tokens lines are sorted (k + 1) (omega (arith, there)) in
      omega (arith, is, within, read.counted)

  begin-read : (k : ℕ) → k < length lines → entry_begin bytes h k ≡ start k
  begin-read k there =
      let is = read.starts k (omega (arith, there)) in
      omega (arith, is, end-read k there, starts-grow tokens lines are sorted k there)

  token-read : (k i : ℕ) (d : TokenRecord) → k < length lines → start k ≤ i → i < start (k + 1) → token_in bytes h (line_in bytes h k) i ≡ get_or tokens i d
  unfolding token_in
  token-read k i d there le lt =
      let t = get_or tokens i d in
      let within : i < length tokens = omega (arith, lt, start-within tokens lines are sorted (k + 1) (omega (arith, there))) in
      let line = read.numbers k there ∙ sym (on-entry tokens lines are sorted k i d there le lt) in
      same-token line (read.values 0 i d (omega arith) within) (read.values 2 i d (omega arith) within) (read.values 3 i d (omega arith) within)
      (ap stored_id (read.values 1 i d (omega arith) within) ∙ id-read t.source_id) (ap stored_id (read.values 4 i d (omega arith) within) ∙ id-read t.name_id)

  entry-read : (k : ℕ) → k < length lines → entry_tokens bytes h k ≡ on_line token_line (get_or lines k 0) tokens
  entry-read k there =
      let f = token_in bytes h (line_in bytes h k) in
      let n = start (k + 1) - start k in
      let part = take n (drop (start k) tokens) in
      let end = end-read k there in
      let begin = begin-read k there in
      let grow = starts-grow tokens lines are sorted k there in
      let within = start-within tokens lines are sorted (k + 1) (omega (arith, there)) in
      let place : entry_tokens bytes h k ≡ map f (range_with_len (start k) n) =
      ap (λ b. map f (range_with_len b (entry_end bytes h k - b))) begin ∙ ap (λ e. map f (range_with_len (start k) (e - start k))) end in
      let size = length-map-range_with_len f (start k) n in
      let all : length part ≡ n = omega (arith, length-take n (drop (start k) tokens), length-drop (start k) tokens, within, grow) in
      let same : map f (range_with_len (start k) n) ≡ part =
      same_lists (map f (range_with_len (start k) n)) part (size ∙ sym all) (λ i d lt.
      let less : i < n = omega (arith, lt, size) in
      get_or-map-range_with_len f (start k) n i (start k + i) d less refl ∙ token-read k (start k + i) d there (omega arith) (omega (arith, less))
      ∙ sym (get_or-take n (drop (start k) tokens) i d less ∙ get_or-drop (start k) tokens i d)) in
      place ∙ same ∙ entry-is tokens lines are sorted k there

  pub in-order : AreInOrder bytes h
  in-order = record {
    first = read.starts 0 (omega arith) ∙ first-start tokens lines are sorted;
    last = ap (start_in bytes) read.lined ∙ read.starts (length lines) (omega arith) ∙ start-last tokens lines are sorted ∙ sym read.counted;
    starts = λ k lt.
        let there : k < length lines = omega (arith, lt, read.lined) in
        omega (arith, read.starts k (omega (arith, there)), read.starts (k + 1) (omega (arith, there)), starts-grow tokens lines are sorted k there);
    lines = λ k lt.
        let there : k + 1 < length lines = omega (arith, lt, read.lined) in
        omega (arith, read.numbers k (omega (arith, there)), read.numbers (k + 1) there, are.rise k there);
    columns = λ k lt.
        let there : k < length lines = omega (arith, lt, read.lined) in
        ap (no_column_goes_back token_column) (entry-read k there) ∙ line_goes_on (get_or lines k 0) tokens sorted;
    rows = read.rows;
  }

  pub tokens-read : tokens_in bytes h ≡ tokens
  tokens-read =
      let size = tokens-length bytes h in-order in
      same_lists (tokens_in bytes h) tokens (size ∙ read.counted) (λ i d lt.
      let less : i < h.tokens = omega (arith, lt, size) in
      let entry = entry-of bytes h in-order i less in
      let j = entry.0 in
      let there : j < length lines = omega (arith, entry.1, read.lined) in
      let t = token_in bytes h (line_in bytes h j) i in
      let at = token-is bytes h in-order j i entry.1 entry.3 entry.4 in
      let le : start j ≤ i = omega (arith, entry.3, read.starts j (omega (arith, there))) in
      let before : i < start (j + 1) = omega (arith, entry.4, read.starts (j + 1) (omega (arith, there))) in
      get_or_from_slice_get (tokens_in bytes h) i t d at ∙ token-read j i d there le before)
