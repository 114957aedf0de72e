-- The lines of sorted tokens, and where the tokens of each begin: the tokens from one start to the next are those of the line.
use Rattle.std.proofs.Common.{◌≡◌, ℕ, zero, suc, ◌+◌, ◌-◌, ◌<◌, ◌≤◌, Bool, true, false, List, []}
use Rattle.std.proofs.Common.{◌∷◌, map, take, drop, length, get_or, nat_lt, None, refl, ap, ◌∙◌}
use Rattle.std.proofs.Common.{arith}
use Rattle.std.proofs.lemmas.List.{get_or_append_left, get_or-map, length-map}
use Rattle.std.proofs.lemmas.List.Sums.{count_by-le-length}
use Rattle.oxc_sourcemap_tokens.specs.Token.{TokenRecord}
use Rattle.oxc_sourcemap_parts.specs.Sorted.{are_tokens_sorted, token_line}
use Rattle.oxc_sourcemap_parts.proofs.Order.{sorted_in_order}
use Rattle.oxc_sourcemap_lookup.specs.Lookup.{on_line}
use Rattle.oxc_sourcemap_lookup.specs.LineSpans.{count_before_line}
use Rattle.oxc_sourcemap_lookup.proofs.Tables.{IsFrom, in_order-from_0, from-in_order}
use Rattle.oxc_sourcemap_lookup.proofs.LineStarts.{counts-one, none-before, on_line-between}
use Rattle.oxc_sourcemap_lookup.proofs.LineIndices.{lines-rise, start-counts}
use Rattle.oxc_sourcemap_compiled.specs.Compiled.{AreLinesOf, line_starts}
use Rattle.oxc_sourcemap_compiled.proofs.Slices.{pushed-last}
use Rattle.oxc_sourcemap_compiled.proofs.Searches.{rises}

-- a token, for reads past the end
abbrev pub any_token : TokenRecord
any_token = record { dst_line = 0; dst_col = 0; src_line = 0; src_col = 0; source_id = None; name_id = None }

-- ---- the tokens before a line are those that are counted
below-by : (b : Bool) (n i : ℕ) (d t : TokenRecord) (ts : List TokenRecord) → nat_lt t.dst_line n ≡ b → IsFrom t.dst_line ts → i < count_before_line n (t ∷ ts)
    → ((j : ℕ) → j < count_before_line n ts → (get_or ts j d).dst_line < n) → (get_or (t ∷ ts) i d).dst_line < n
below-by true n zero d t ts e p lt more = grind (arith, e)
below-by true n (suc i) d t ts e p lt more =
    let h : t.dst_line < n = grind (arith, e) in
    more i (omega (arith, lt, counts-one n t ts h))
below-by false n i d t ts e p lt more =
    let h : n ≤ t.dst_line = grind (arith, e) in
    absurd (omega (arith, lt, none-before n (t ∷ ts) (h, p)))

counted-below : (n from i : ℕ) (d : TokenRecord) (ts : List TokenRecord) → IsFrom from ts → i < count_before_line n ts → (get_or ts i d).dst_line < n
counted-below n from i d [] p lt = absurd (omega (arith, lt))
counted-below n from i d (t ∷ ts) p lt = below-by (nat_lt t.dst_line n) n i d t ts refl p.1 lt (λ j less. counted-below n t.dst_line j d ts p.1 less)

above-by : (b : Bool) (n from i : ℕ) (d t : TokenRecord) (ts : List TokenRecord) → nat_lt t.dst_line n ≡ b → IsFrom from (t ∷ ts) → count_before_line n (t ∷ ts) ≤ i → i < length (t ∷ ts)
    → ((j : ℕ) → count_before_line n ts ≤ j → j < length ts → n ≤ (get_or ts j d).dst_line) → n ≤ (get_or (t ∷ ts) i d).dst_line
above-by true n from zero d t ts e p le lt more =
    let h : t.dst_line < n = grind (arith, e) in
    absurd (omega (arith, le, counts-one n t ts h))
above-by true n from (suc i) d t ts e p le lt more =
    let h : t.dst_line < n = grind (arith, e) in
    more i (omega (arith, le, counts-one n t ts h)) (omega (arith, lt))
above-by false n from i d t ts e p le lt more =
    let h : n ≤ t.dst_line = grind (arith, e) in
    omega (arith, h, lines-rise (t ∷ ts) (from-in_order from (t ∷ ts) p) 0 i d (omega arith) lt)

counted-above : (n from i : ℕ) (d : TokenRecord) (ts : List TokenRecord) → IsFrom from ts → count_before_line n ts ≤ i → i < length ts → n ≤ (get_or ts i d).dst_line
counted-above n from i d [] p le lt = absurd (omega (arith, lt))
counted-above n from i d (t ∷ ts) p le lt = above-by (nat_lt t.dst_line n) n from i d t ts refl p le lt (λ j more less. counted-above n t.dst_line j d ts p.1 more less)

-- ---- the starts of lines
module _ (tokens : List TokenRecord) (lines : List ℕ) (are : AreLinesOf tokens lines) (sorted : are_tokens_sorted tokens ≡ true) where
  abbrev pub line : ℕ → ℕ
  line k = get_or lines k 0

  abbrev pub start : ℕ → ℕ
  start k = get_or (line_starts tokens lines) k 0

  from : IsFrom 0 tokens
  from = in_order-from_0 tokens (sorted_in_order tokens sorted)

  start-is : (k : ℕ) → k < length lines → start k ≡ count_before_line (line k) tokens
  start-is k lt =
      let f = λ (n : ℕ). count_before_line n tokens in
      get_or_append_left (map f lines) (length tokens ∷ []) 0 k (omega (arith, length-map lines f, lt)) ∙ get_or-map f lines k 0 0 lt

  pub start-last : start (length lines) ≡ length tokens
  start-last =
      let f = λ (n : ℕ). count_before_line n tokens in
      pushed-last (map f lines) (length tokens) (length lines) 0 (length-map lines f)

  -- lines rise
  line-less : (i j : ℕ) → i < j → j < length lines → line i < line j
  line-less i j lt there =
      let gap : i + suc (j - i - 1) ≡ j = omega (arith, lt) in
      omega (arith, rises line (length lines) i (j - i - 1) are.rise (omega (arith, gap, there)), ap line gap)

  line-le-by : (b : Bool) (i j : ℕ) → nat_lt i j ≡ b → i ≤ j → j < length lines → line i ≤ line j
  line-le-by true i j e le there =
      let lt : i < j = grind (arith, e) in
      omega (arith, line-less i j lt there)
  line-le-by false i j e le there =
      let past : j ≤ i = grind (arith, e) in
      let same : i ≡ j = omega (arith, le, past) in
      omega (arith, ap line same)

  line-le : (i j : ℕ) → i ≤ j → j < length lines → line i ≤ line j
  line-le i j le there = line-le-by (nat_lt i j) i j refl le there

  start-within-by : (b : Bool) (k : ℕ) → nat_lt k (length lines) ≡ b → k ≤ length lines → start k ≤ length tokens
  start-within-by true k e le =
      let lt : k < length lines = grind (arith, e) in
      let most = count_by-le-length (λ t. nat_lt (token_line t) (line k)) tokens in
      omega (arith, start-is k lt, most)
  start-within-by false k e le =
      let past : length lines ≤ k = grind (arith, e) in
      let same : k ≡ length lines = omega (arith, le, past) in
      omega (arith, ap start same, start-last)

  pub start-within : (k : ℕ) → k ≤ length lines → start k ≤ length tokens
  start-within k le = start-within-by (nat_lt k (length lines)) k refl le

  -- a line of the list that is before the next of a line is not past this
  own-upto : (b : Bool) (k j n : ℕ) → nat_lt k j ≡ b → k < length lines → j < length lines → line j ≡ n → (k + 1 < length lines → n < line (k + 1)) → n ≤ line k
  own-upto true k j n e there other is before =
      let lt : k < j = grind (arith, e) in
      absurd (omega (arith, before (omega (arith, lt, other)), line-le (k + 1) j (omega (arith, lt)) other, is))
  own-upto false k j n e there other is before =
      let le : j ≤ k = grind (arith, e) in
      omega (arith, line-le j k le there, is)

  -- tokens before the next start are not past the line, and those from the start on are not before it
  upto : (k i : ℕ) (d : TokenRecord) → k < length lines → i < start (k + 1) → i < length tokens → (get_or tokens i d).dst_line ≤ line k
  upto k i d there lt within =
      let own = are.each i d within in
      own-upto (nat_lt k own.0) k own.0 (get_or tokens i d).dst_line refl there own.1 own.2
      (λ more. counted-below (line (k + 1)) 0 i d tokens from (omega (arith, lt, start-is (k + 1) more)))

  reached : (k i : ℕ) (d : TokenRecord) → k < length lines → start k ≤ i → i < length tokens → line k ≤ (get_or tokens i d).dst_line
  reached k i d there le within = counted-above (line k) 0 i d tokens from (omega (arith, start-is k there, le)) within

  past-by : (b : Bool) (k i : ℕ) (d : TokenRecord) → nat_lt (k + 1) (length lines) ≡ b → k < length lines → start (k + 1) ≤ i → i < length tokens → line k < (get_or tokens i d).dst_line
  past-by true k i d e there le within =
      let more : k + 1 < length lines = grind (arith, e) in
      omega (arith, reached (k + 1) i d more le within, line-less k (k + 1) (omega arith) more)
  past-by false k i d e there le within =
      let last : length lines ≤ k + 1 = grind (arith, e) in
      let same : k + 1 ≡ length lines = omega (arith, last, there) in
      absurd (omega (arith, ap start same, start-last, le, within))

  past : (k i : ℕ) (d : TokenRecord) → k < length lines → start (k + 1) ≤ i → i < length tokens → line k < (get_or tokens i d).dst_line
  past k i d there le within = past-by (nat_lt (k + 1) (length lines)) k i d refl there le within

  -- a token between two starts lies on the line of the first
  pub on-entry : (k i : ℕ) (d : TokenRecord) → k < length lines → start k ≤ i → i < start (k + 1) → (get_or tokens i d).dst_line ≡ line k
  on-entry k i d there le lt =
      let within : i < length tokens = omega (arith, lt, start-within (k + 1) (omega (arith, there))) in
      omega (arith, reached k i d there le within, upto k i d there lt within)

  grow-by : (b : Bool) (k : ℕ) → nat_lt (start (k + 1)) (start k) ≡ b → k < length lines → start k ≤ start (k + 1)
  grow-by true k e there =
      let lt : start (k + 1) < start k = grind (arith, e) in
      let within : start (k + 1) < length tokens = omega (arith, lt, start-within k (omega (arith, there))) in
      let below = counted-below (line k) 0 (start (k + 1)) any_token tokens from (omega (arith, lt, start-is k there)) in
      absurd (omega (arith, below, past k (start (k + 1)) any_token there (omega arith) within))
  grow-by false k e there = grind (arith, e)

  pub starts-grow : (k : ℕ) → k < length lines → start k ≤ start (k + 1)
  starts-grow k there = grow-by (nat_lt (start (k + 1)) (start k)) k refl there

  first-by : (b : Bool) → nat_lt 0 (start 0) ≡ b → start 0 ≡ 0
  first-by true e =
      let some : 0 < start 0 = grind (arith, e) in
      let within : 0 < length tokens = omega (arith, some, start-within 0 (omega arith)) in
      let own = are.each 0 any_token within in
      let there : 0 < length lines = omega (arith, own.1) in
      let below = counted-below (line 0) 0 0 any_token tokens from (omega (arith, some, start-is 0 there)) in
      absurd (omega (arith, below, line-le 0 own.0 (omega arith) own.1, own.2))
  first-by false e =
      let none : start 0 ≤ 0 = grind (arith, e) in
      omega (arith, none)

  -- the first tokens are those of the first line
  pub first-start : start 0 ≡ 0
  first-start = first-by (nat_lt 0 (start 0)) refl

  next-counts : (k : ℕ) → k < length lines → start (k + 1) ≡ count_before_line (line k + 1) tokens
  next-counts k there =
      let within = start-within (k + 1) (omega (arith, there)) in
      start-counts (line k + 1) (start (k + 1)) tokens within (λ i d lt. omega (arith, upto k i d there lt (omega (arith, lt, within)))) (λ i d le lt. omega (arith, past k i d there le lt))

  -- the tokens from one start to the next are those on the line
  pub entry-is : (k : ℕ) → k < length lines → take (start (k + 1) - start k) (drop (start k) tokens) ≡ on_line token_line (line k) tokens
  entry-is k there =
      ap (λ m. take (m - start k) (drop (start k) tokens)) (next-counts k there) ∙ ap (λ s. take (count_before_line (line k + 1) tokens - s) (drop s tokens)) (start-is k there)
      ∙ on_line-between (line k) tokens (sorted_in_order tokens sorted)
