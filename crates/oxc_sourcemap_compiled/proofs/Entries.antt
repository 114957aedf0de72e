-- The tokens of a compiled map in order: those of its entries, one entry after the other.
use Rattle.std.proofs.Common.{◌≡◌, ◌≢◌, ℕ, zero, suc, ◌+◌, ◌-◌, ◌<◌, ◌≤◌, Bool, true, false, List}
use Rattle.std.proofs.Common.{[], ◌∷◌, ◌++◌, map}
use Rattle.std.proofs.Common.{length, nat_lt, ◌==◌, refl, sym, ap, ◌∙◌, arith, if◌then◌else◌}
use Rattle.std.proofs.Common.{Option, None, option_map, length-append, append-nil, get_or}
use Rattle.std.proofs.Common.{slice_get, Some}
use Rattle.std.proofs.lemmas.List.{get_or_append_left, get_or-append_right}
use Rattle.std.proofs.lemmas.Option.{slice_get-get_or}
use Rattle.std.specs.List.{range_with_len}
use Rattle.std.proofs.lemmas.List.FromFn.{length-map-range_with_len, get_or-map-range_with_len}
use Rattle.oxc_sourcemap_tokens.specs.Token.{TokenRecord}
use Rattle.oxc_sourcemap_tokens.specs.LineOrder.{IsInLineOrder}
use Rattle.oxc_sourcemap_parts.specs.Sorted.{token_line}
use Rattle.oxc_sourcemap_lookup.specs.Biased.{index_by}
use Rattle.oxc_sourcemap_lookup.specs.declared.bias.Bias.{Bias}
use Rattle.oxc_sourcemap_lookup.specs.declared.bias.Bias.TheVariants.{Before, Clamped, After}
use Rattle.oxc_sourcemap_lookup.specs.Lookup.{on_line, index_at, clamped_index_at}
use Rattle.oxc_sourcemap_lookup.specs.Lookup.{index_at_or_after, index_for, clamped_index_for}
use Rattle.oxc_sourcemap_lookup.specs.Lookup.{index_after}
use Rattle.oxc_sourcemap_lookup.specs.LineSpans.{count_before_line}
use Rattle.oxc_sourcemap_lookup.proofs.Tables.{IsFrom, IsFrom-le, from-in_order}
use Rattle.oxc_sourcemap_lookup.proofs.LineStarts.{counts-one, none-before}
use Rattle.oxc_sourcemap_lookup.proofs.LineIndices.{from_line, index_for-own, clamped_index_for-own}
use Rattle.oxc_sourcemap_lookup.proofs.LineIndices.{index_after-own}
use Rattle.oxc_sourcemap_compiled.specs.CompiledMeaning.{joined, token_in, start_in, line_in}
use Rattle.oxc_sourcemap_compiled.specs.CompiledMeaning.{entry_begin}
use Rattle.oxc_sourcemap_compiled.specs.CompiledMeaning.{entry_end, entry_tokens, tokens_in}
use Rattle.oxc_sourcemap_compiled.specs.Order.{AreInOrder, IsOnLine}
use Rattle.oxc_sourcemap_compiled.specs.declared.layout.Header.{Header}
use Rattle.oxc_sourcemap_compiled.proofs.Searches.{rises, has-cut}
use Rattle.oxc_sourcemap_compiled.specs.Cuts.{IsCut}
use Rattle.oxc_sourcemap_compiled.proofs.Lines.{none-found, none-found-clamped, none-found-after}

-- ---- tokens that are all on one line, in front of others
-- tokens made on this line
abbrev pub AreMadeOn : ℕ → (ℕ → TokenRecord) → Type 0
AreMadeOn line f = (i : ℕ) → token_line (f i) ≡ line

on_line-made : (b : Bool) (n line : ℕ) (f : ℕ → TokenRecord) (xs : List ℕ) (rest : List TokenRecord) → (line == n) ≡ b → AreMadeOn line f
    → on_line token_line n (map f xs ++ rest) ≡ (if b then map f xs else []) ++ on_line token_line n rest
on_line-made true n line f [] rest e made = refl
on_line-made false n line f [] rest e made = refl
on_line-made true n line f (x ∷ xs) rest e made =
    let here : (token_line (f x) == n) ≡ true = ap (λ m. m == n) (made x) ∙ e in
    rw here (ap (λ ts. f x ∷ ts) (on_line-made true n line f xs rest e made))
on_line-made false n line f (x ∷ xs) rest e made =
    let here : (token_line (f x) == n) ≡ false = ap (λ m. m == n) (made x) ∙ e in
    rw here (on_line-made false n line f xs rest e made)

counts-made : (n line : ℕ) (f : ℕ → TokenRecord) (xs : List ℕ) (rest : List TokenRecord) → line < n → AreMadeOn line f
    → count_before_line n (map f xs ++ rest) ≡ length (map f xs) + count_before_line n rest
counts-made n line f [] rest lt made = omega arith
counts-made n line f (x ∷ xs) rest lt made =
    let here : (f x).dst_line < n = omega (arith, made x, lt) in
    let step : count_before_line n (map f (x ∷ xs) ++ rest) ≡ suc (count_before_line n (map f xs ++ rest)) = counts-one n (f x) (map f xs ++ rest) here in
    let size : length (map f (x ∷ xs)) ≡ suc (length (map f xs)) = refl in
    omega (arith, step, size, counts-made n line f xs rest lt made)

from-made : (from line : ℕ) (f : ℕ → TokenRecord) (xs : List ℕ) (rest : List TokenRecord) → from ≤ line → AreMadeOn line f → IsFrom line rest → IsFrom from (map f xs ++ rest)
from-made from line f [] rest le made is = IsFrom-le from line rest le is
from-made from line f (x ∷ xs) rest le made is =
    let here : from ≤ (f x).dst_line = omega (arith, made x, le) in
    let same : (f x).dst_line ≤ line = omega (arith, made x) in
    (here, from-made (f x).dst_line line f xs rest same made is)

-- tokens of bytes are made on the line that they are given
made-on : (bytes : List ℕ) (h : Header) (line : ℕ) → AreMadeOn line (token_in bytes h line)
unfolding token_in
made-on bytes h line i = refl

-- ---- entries in order
module _ (bytes : List ℕ) (h : Header) (order : AreInOrder bytes h) where
  -- the tokens of so many entries from one on
  abbrev pub from_entry : ℕ → ℕ → List TokenRecord
  from_entry k m = joined (map (entry_tokens bytes h) (range_with_len k m))

  starts-below : (d k : ℕ) → k + d ≡ h.lines → start_in bytes k ≤ h.tokens
  starts-below zero k e =
      let same : k ≡ h.lines = omega (arith, e) in
      omega (arith, ap (start_in bytes) same, order.last)
  starts-below (suc d) k e =
      let next : k + 1 + d ≡ h.lines = omega (arith, e) in
      omega (arith, order.starts k (omega (arith, e)), starts-below d (k + 1) next)

  -- an entry ends where the next begins
  pub end-is : (k : ℕ) → k < h.lines → entry_end bytes h k ≡ start_in bytes (k + 1)
  end-is k lt =
      let rest : k + 1 + (h.lines - (k + 1)) ≡ h.lines = omega (arith, lt) in
      omega (arith, starts-below (h.lines - (k + 1)) (k + 1) rest)

  pub begin-is : (k : ℕ) → k < h.lines → entry_begin bytes h k ≡ start_in bytes k
  begin-is k lt = omega (arith, end-is k lt, order.starts k lt)

  pub entry-length : (k : ℕ) → k < h.lines → start_in bytes k + length (entry_tokens bytes h k) ≡ start_in bytes (k + 1)
  entry-length k lt =
      let size = length-map-range_with_len (token_in bytes h (line_in bytes h k)) (entry_begin bytes h k) (entry_end bytes h k - entry_begin bytes h k) in
      omega (arith, size, end-is k lt, begin-is k lt, order.starts k lt)

  lines-differ : (k j : ℕ) → k < j → j < h.lines → line_in bytes h k < line_in bytes h j
  lines-differ k j lt there =
      let gap : k + suc (j - k - 1) ≡ j = omega (arith, lt) in
      omega (arith, rises (line_in bytes h) h.lines k (j - k - 1) order.lines (omega (arith, gap, there)), ap (line_in bytes h) gap)

  -- no line goes back
  pub entries-from : (from k m : ℕ) → k + m ≤ h.lines → (0 < m → from ≤ line_in bytes h k) → IsFrom from (from_entry k m)
  entries-from from k zero within le = tt
  entries-from from k (suc m) within le =
      let line = line_in bytes h k in
      let more = entries-from line (k + 1) m (omega (arith, within)) (λ some. omega (arith, lines-differ k (k + 1) (omega arith) (omega (arith, within, some)))) in
      from-made from line (token_in bytes h line) _ (from_entry (k + 1) m) (le (omega arith)) (made-on bytes h line) more

  -- a line that no entry has
  pub entries-none : (n k m : ℕ) → ((j : ℕ) → k ≤ j → j < k + m → line_in bytes h j ≢ n) → on_line token_line n (from_entry k m) ≡ []
  entries-none n k zero other = refl
  entries-none n k (suc m) other =
      let line = line_in bytes h k in
      let differs : (line == n) ≡ false = grind (arith, other k (omega arith) (omega arith)) in
      on_line-made false n line (token_in bytes h line) _ (from_entry (k + 1) m) differs (made-on bytes h line)
      ∙ entries-none n (k + 1) m (λ j low high. other j (omega (arith, low)) (omega (arith, high)))

  entries-on-by : (b : Bool) (j k m : ℕ) → nat_lt k j ≡ b → k ≤ j → j < k + suc m → k + suc m ≤ h.lines
      → (k < j → on_line token_line (line_in bytes h j) (from_entry (k + 1) m) ≡ entry_tokens bytes h j)
      → on_line token_line (line_in bytes h j) (from_entry k (suc m)) ≡ entry_tokens bytes h j
  entries-on-by true j k m e low high within more =
      let n = line_in bytes h j in
      let line = line_in bytes h k in
      let lt : k < j = grind (arith, e) in
      let differs : (line == n) ≡ false = grind (arith, lines-differ k j lt (omega (arith, high, within))) in
      on_line-made false n line (token_in bytes h line) _ (from_entry (k + 1) m) differs (made-on bytes h line) ∙ more lt
  entries-on-by false j k m e low high within more =
      let n = line_in bytes h j in
      let line = line_in bytes h k in
      let same : k ≡ j = grind (arith, e, low) in
      let equal : (line == n) ≡ true = grind (arith, ap (line_in bytes h) same) in
      let none = entries-none n (k + 1) m (λ i reached lt is. omega (arith, is, lines-differ j i (omega (arith, reached, same)) (omega (arith, lt, within)))) in
      on_line-made true n line (token_in bytes h line) _ (from_entry (k + 1) m) equal (made-on bytes h line)
      ∙ ap (λ ts. entry_tokens bytes h k ++ ts) none ∙ append-nil (entry_tokens bytes h k) ∙ ap (entry_tokens bytes h) same

  -- the tokens on the line of an entry are those of the entry
  pub entries-on : (j k m : ℕ) → k ≤ j → j < k + m → k + m ≤ h.lines → on_line token_line (line_in bytes h j) (from_entry k m) ≡ entry_tokens bytes h j
  entries-on j k zero low high within = absurd (omega (arith, low, high))
  entries-on j k (suc m) low high within =
      entries-on-by (nat_lt k j) j k m refl low high within (λ lt. entries-on j (k + 1) m (omega (arith, lt)) (omega (arith, high)) (omega (arith, within)))

  entries-before-by : (b : Bool) (j k m : ℕ) → nat_lt k j ≡ b → k ≤ j → j < k + suc m → k + suc m ≤ h.lines
      → (k < j → start_in bytes (k + 1) + count_before_line (line_in bytes h j) (from_entry (k + 1) m) ≡ start_in bytes j)
      → start_in bytes k + count_before_line (line_in bytes h j) (from_entry k (suc m)) ≡ start_in bytes j
  entries-before-by true j k m e low high within more =
      let n = line_in bytes h j in
      let line = line_in bytes h k in
      let lt : k < j = grind (arith, e) in
      let numbers = range_with_len (entry_begin bytes h k) (entry_end bytes h k - entry_begin bytes h k) in
      let count : count_before_line n (from_entry k (suc m)) ≡ length (entry_tokens bytes h k) + count_before_line n (from_entry (k + 1) m) =
      counts-made n line (token_in bytes h line) numbers (from_entry (k + 1) m) (lines-differ k j lt (omega (arith, high, within))) (made-on bytes h line) in
      omega (arith, count, more lt, entry-length k (omega (arith, within)))
  entries-before-by false j k m e low high within more =
      let n = line_in bytes h j in
      let same : k ≡ j = grind (arith, e, low) in
      let le : n ≤ line_in bytes h k = omega (arith, ap (line_in bytes h) same) in
      let none = none-before n (from_entry k (suc m)) (entries-from n k (suc m) within (λ some. le)) in
      omega (arith, none, ap (start_in bytes) same)

  -- how many tokens lie on lines before that of an entry
  pub entries-before : (j k m : ℕ) → k ≤ j → j < k + m → k + m ≤ h.lines → start_in bytes k + count_before_line (line_in bytes h j) (from_entry k m) ≡ start_in bytes j
  entries-before j k zero low high within = absurd (omega (arith, low, high))
  entries-before j k (suc m) low high within =
      entries-before-by (nat_lt k j) j k m refl low high within (λ lt. entries-before j (k + 1) m (omega (arith, lt)) (omega (arith, high)) (omega (arith, within)))

  pub in-order : IsInLineOrder (tokens_in bytes h)
  in-order = from-in_order 0 (tokens_in bytes h) (entries-from 0 0 h.lines (omega arith) (λ some. omega arith))

  -- an index on the line of an entry, counted from the first of all tokens
  from-entry : (j : ℕ) → j < h.lines → (F : List TokenRecord → Option ℕ)
      → option_map (λ i. entry_begin bytes h j + i) (F (entry_tokens bytes h j)) ≡ from_line (line_in bytes h j) (tokens_in bytes h) (F (on_line token_line (line_in bytes h j) (tokens_in bytes h)))
  from-entry j there F =
      let on = entries-on j 0 h.lines (omega arith) (omega (arith, there)) (omega arith) in
      let count : entry_begin bytes h j ≡ count_before_line (line_in bytes h j) (tokens_in bytes h) =
      omega (arith, begin-is j there, entries-before j 0 h.lines (omega arith) (omega (arith, there)) (omega arith), order.first) in
      ap (λ s. option_map (λ i. s + i) (F (entry_tokens bytes h j))) count ∙ ap (λ ts. from_line (line_in bytes h j) (tokens_in bytes h) (F ts)) (sym on)

  pub found-in : (j col n : ℕ) → j < h.lines → line_in bytes h j ≡ n → option_map (λ i. entry_begin bytes h j + i) (index_at (entry_tokens bytes h j) col) ≡ index_for (tokens_in bytes h) n col
  found-in j col n there is = from-entry j there (λ ts. index_at ts col) ∙ index_for-own (line_in bytes h j) col (tokens_in bytes h) in-order ∙ ap (λ n. index_for (tokens_in bytes h) n col) is

  pub found-in-clamped : (j col n : ℕ) → j < h.lines → line_in bytes h j ≡ n → option_map (λ i. entry_begin bytes h j + i) (clamped_index_at (entry_tokens bytes h j) col) ≡ clamped_index_for (tokens_in bytes h) n col
  found-in-clamped j col n there is =
      from-entry j there (λ ts. clamped_index_at ts col) ∙ clamped_index_for-own (line_in bytes h j) col (tokens_in bytes h) in-order ∙ ap (λ n. clamped_index_for (tokens_in bytes h) n col) is

  pub found-in-after : (j col n : ℕ) → j < h.lines → line_in bytes h j ≡ n → option_map (λ i. entry_begin bytes h j + i) (index_at_or_after (entry_tokens bytes h j) col) ≡ index_after (tokens_in bytes h) n col
  found-in-after j col n there is =
      from-entry j there (λ ts. index_at_or_after ts col) ∙ index_after-own (line_in bytes h j) col (tokens_in bytes h) in-order ∙ ap (λ n. index_after (tokens_in bytes h) n col) is

  -- on a line without an entry nothing is found
  none-in : (n : ℕ) → ((k : ℕ) → k < h.lines → line_in bytes h k ≢ n) → length (on_line token_line n (tokens_in bytes h)) ≡ 0
  none-in n other = ap length (entries-none n 0 h.lines (λ j low high. other j (omega (arith, high))))

  not-found : (n col : ℕ) → ((k : ℕ) → k < h.lines → line_in bytes h k ≢ n) → None ≡ index_for (tokens_in bytes h) n col
  not-found n col other =
      sym (ap (from_line n (tokens_in bytes h)) (none-found (on_line token_line n (tokens_in bytes h)) col (none-in n other))) ∙ index_for-own n col (tokens_in bytes h) in-order

  not-found-clamped : (n col : ℕ) → ((k : ℕ) → k < h.lines → line_in bytes h k ≢ n) → None ≡ clamped_index_for (tokens_in bytes h) n col
  not-found-clamped n col other =
      sym (ap (from_line n (tokens_in bytes h)) (none-found-clamped (on_line token_line n (tokens_in bytes h)) col (none-in n other))) ∙ clamped_index_for-own n col (tokens_in bytes h) in-order

  not-found-after : (n col : ℕ) → ((k : ℕ) → k < h.lines → line_in bytes h k ≢ n) → None ≡ index_after (tokens_in bytes h) n col
  not-found-after n col other =
      sym (ap (from_line n (tokens_in bytes h)) (none-found-after (on_line token_line n (tokens_in bytes h)) col (none-in n other))) ∙ index_after-own n col (tokens_in bytes h) in-order

  pub not-found-by : (bias : Bias) (n col : ℕ) → ((k : ℕ) → k < h.lines → line_in bytes h k ≢ n) → None ≡ index_by bias (tokens_in bytes h) n col
  not-found-by Before n col other = not-found n col other
  not-found-by Clamped n col other = not-found-clamped n col other
  not-found-by After n col other = not-found-after n col other

  -- ---- tokens by their index
  pub entries-length : (k m : ℕ) → k + m ≤ h.lines → start_in bytes k + length (from_entry k m) ≡ start_in bytes (k + m)
  entries-length k zero within =
      let same : k ≡ k + 0 = omega arith in
      omega (arith, ap (start_in bytes) same)
  entries-length k (suc m) within =
      let size = length-append (entry_tokens bytes h k) (from_entry (k + 1) m) in
      let more = entries-length (k + 1) m (omega (arith, within)) in
      let same : k + 1 + m ≡ k + suc m = omega arith in
      omega (arith, size, more, entry-length k (omega (arith, within)), ap (start_in bytes) same)

  pub tokens-length : length (tokens_in bytes h) ≡ h.tokens
  tokens-length =
      let same : 0 + h.lines ≡ h.lines = omega arith in
      omega (arith, entries-length 0 h.lines (omega arith), order.first, order.last, ap (start_in bytes) same)

  entry-token-by : (b : Bool) (j k m i : ℕ) (d : TokenRecord) → nat_lt k j ≡ b → k ≤ j → j < k + suc m → k + suc m ≤ h.lines → start_in bytes j ≤ i → i < start_in bytes (j + 1)
      → (k < j → (start_in bytes (k + 1) ≤ i) × (get_or (from_entry (k + 1) m) (i - start_in bytes (k + 1)) d ≡ token_in bytes h (line_in bytes h j) i))
      → (start_in bytes k ≤ i) × (get_or (from_entry k (suc m)) (i - start_in bytes k) d ≡ token_in bytes h (line_in bytes h j) i)
  entry-token-by true j k m i d e low high within le lt more =
      let less : k < j = grind (arith, e) in
      let size = entry-length k (omega (arith, within)) in
      let start = more less in
      let up = order.starts k (omega (arith, within)) in
      let n = length (entry_tokens bytes h k) in
      let rest : i - start_in bytes k - n ≡ i - start_in bytes (k + 1) = omega (arith, size) in (
        omega (arith, start.0, up),
        get_or-append_right (entry_tokens bytes h k) (from_entry (k + 1) m) n (i - start_in bytes k) d refl (omega (arith, size, start.0))
            ∙ ap (λ n. get_or (from_entry (k + 1) m) n d) rest ∙ start.1,
      )
  entry-token-by false j k m i d e low high within le lt more =
      let same : k ≡ j = grind (arith, e, low) in
      let starts = ap (start_in bytes) same in
      let next = ap (λ n. start_in bytes (n + 1)) same in
      let there : k < h.lines = omega (arith, within) in
      let size = entry-length k there in
      let reached : start_in bytes k ≤ i = omega (arith, le, starts) in
      let here : i - start_in bytes k < length (entry_tokens bytes h k) = omega (arith, lt, next, size, reached) in
      let count = length-map-range_with_len (token_in bytes h (line_in bytes h k)) (entry_begin bytes h k) (entry_end bytes h k - entry_begin bytes h k) in
      let at : entry_begin bytes h k + (i - start_in bytes k) ≡ i = omega (arith, begin-is k there, reached) in (
        reached,
        get_or_append_left (entry_tokens bytes h k) (from_entry (k + 1) m) d (i - start_in bytes k) here
            ∙ get_or-map-range_with_len (token_in bytes h (line_in bytes h k)) (entry_begin bytes h k) (entry_end bytes h k - entry_begin bytes h k) (i - start_in bytes k) i d (omega (arith, here, count)) at
            ∙ ap (λ n. token_in bytes h (line_in bytes h n) i) same,
      )

  entry-token : (j k m i : ℕ) (d : TokenRecord) → k ≤ j → j < k + m → k + m ≤ h.lines → start_in bytes j ≤ i → i < start_in bytes (j + 1)
      → (start_in bytes k ≤ i) × (get_or (from_entry k m) (i - start_in bytes k) d ≡ token_in bytes h (line_in bytes h j) i)
  entry-token j k zero i d low high within le lt = absurd (omega (arith, low, high))
  entry-token j k (suc m) i d low high within le lt =
      entry-token-by (nat_lt k j) j k m i d refl low high within le lt (λ less. entry-token j (k + 1) m i d (omega (arith, less)) (omega (arith, high)) (omega (arith, within)) le lt)

  pub token-is : (j i : ℕ) → j < h.lines → start_in bytes j ≤ i → i < start_in bytes (j + 1) → slice_get (tokens_in bytes h) i ≡ Some (token_in bytes h (line_in bytes h j) i)
  token-is j i there le lt =
      let t = token_in bytes h (line_in bytes h j) i in
      let same : i ≡ i - start_in bytes 0 = omega (arith, order.first) in
      let read = ap (λ n. get_or (tokens_in bytes h) n t) same ∙ (entry-token j 0 h.lines i t (omega arith) (omega (arith, there)) (omega arith) le lt).1 in
      let rest : j + 1 + (h.lines - (j + 1)) ≡ h.lines = omega (arith, there) in
      let within : i < length (tokens_in bytes h) = omega (arith, tokens-length, starts-below (h.lines - (j + 1)) (j + 1) rest, lt) in
      slice_get-get_or (tokens_in bytes h) i t within ∙ ap Some read

  -- ---- the entry that has a token
  abbrev ends : ℕ → ℕ
  ends k = start_in bytes (k + 1)

  entry-reached : (i j m : ℕ) → IsCut ends (i + 1) 0 h.lines j → m ≤ j → start_in bytes m ≤ i
  entry-reached i j zero is le = omega (arith, order.first)
  entry-reached i j (suc m) is le =
      let next : m + 1 ≡ suc m = omega arith in
      omega (arith, is.before m (omega arith) (omega (arith, le)), ap (start_in bytes) next)

  entry-there : (b : Bool) (i j : ℕ) → nat_lt j h.lines ≡ b → i < h.tokens → IsCut ends (i + 1) 0 h.lines j → j < h.lines
  entry-there true i j e lt is = grind (arith, e)
  entry-there false i j e lt is =
      let full : h.lines ≤ j = grind (arith, e) in
      absurd (omega (arith, entry-reached i j h.lines is full, order.last, lt))

  -- it is where the entries that end up to the token stop
  pub entry-of : (i : ℕ) → i < h.tokens → (j : ℕ) × (j < h.lines) × IsCut (λ k. start_in bytes (k + 1)) (i + 1) 0 h.lines j × (start_in bytes j ≤ i) × (i < start_in bytes (j + 1))
  entry-of i lt =
      let found = has-cut ends (i + 1) h.lines (λ k less. order.starts (k + 1) less) in
      let j = found.0 in
      let is = found.1 in
      let there = entry-there (nat_lt j h.lines) i j refl lt is in
      (j, there, is, entry-reached i j j is (omega arith), omega (arith, is.after j (omega arith) there))

  -- a token on a line stands at its index
  pub stands-on : (line i : ℕ) → IsOnLine bytes h line i → slice_get (tokens_in bytes h) i ≡ Some (token_in bytes h line i)
  stands-on line i on =
      let k = on.0 in
      let is = on.1 in
      let low : start_in bytes k ≤ i = omega (arith, begin-is k is.there, is.reached) in
      let high : i < start_in bytes (k + 1) = omega (arith, end-is k is.there, is.within) in
      token-is k i is.there low high ∙ ap (λ n. Some (token_in bytes h n i)) is.line_is
