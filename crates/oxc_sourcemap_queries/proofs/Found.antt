-- Which token the lookup of a place finds in sorted tokens, by how many of them lie before the place.
use Rattle.std.proofs.Common.{◌≡◌, ◌≢◌, refl, sym, ap, subst, ◌∙◌, ℕ, zero, suc, ◌+◌, ◌-◌, ◌<◌, ◌≤◌}
use Rattle.std.proofs.Common.{◌==◌, nat_lt, Bool, true, false, List, [], ◌∷◌, length, get_or, take}
use Rattle.std.proofs.Common.{drop, slice_get, Option, Some, None, option_map, if◌then◌else◌, inl}
use Rattle.std.proofs.Common.{inr, arith}
use Rattle.std.proofs.lemmas.Bool.{cases_lt}
use Rattle.std.proofs.lemmas.Bool.Decides.{nat_tests}
use Rattle.std.proofs.lemmas.List.{length-take, length-drop, get_or-take, get_or-drop}
use Rattle.std.proofs.lemmas.List.Sums.{prefix_len_is, count_by-le-length}
use Rattle.std.specs.Option.{option_map_or}
use Rattle.oxc_sourcemap_tokens.specs.Token.{TokenRecord, AreInBounds}
use Rattle.oxc_sourcemap_parts.specs.Sorted.{are_tokens_sorted, token_line, token_column}
use Rattle.oxc_sourcemap_parts.proofs.Order.{sorted_in_order}
use Rattle.oxc_sourcemap_lookup.specs.Lookup.{on_line, index_at, index_before, no_column_goes_back}
use Rattle.oxc_sourcemap_lookup.specs.LineSpans.{count_before_line}
use Rattle.oxc_sourcemap_lookup.proofs.Cuts.{cut}
use Rattle.oxc_sourcemap_lookup.proofs.Indices.{index-at, index_here_or}
use Rattle.oxc_sourcemap_lookup.proofs.LineIndices.{index_for-own, from_line}
use Rattle.oxc_sourcemap_lookup.proofs.LineStarts.{on_line-between}
use Rattle.oxc_sourcemap_lookup.proofs.OwnTables.{line_goes_on}
use Rattle.oxc_sourcemap_lookup.proofs.Tables.{IsFrom, in_order-from_0}
use Rattle.oxc_sourcemap_queries.specs.RangePieces.{line_of, column_of, index_at_position}
use Rattle.oxc_sourcemap_queries.specs.Cuts.{token_position, holder, holder_before, IsStart}
use Rattle.oxc_sourcemap_queries.specs.Cuts.{no_token}
use Rattle.oxc_sourcemap_queries.proofs.Order.{below, above}

-- what is said of the token at an index
pub there : {B : Type 0} (f : TokenRecord → B) (z : B) (ts : List TokenRecord) (i : ℕ) (d : TokenRecord) → i < length ts → option_map_or f (slice_get ts i) z ≡ f (get_or ts i d)
there f z [] i d h = absurd (omega (arith, h))
there f z (t ∷ ts) zero d h = refl
there f z (t ∷ ts) (suc i) d h = there f z ts i d (omega (arith, h))

pub not_there : {B : Type 0} (f : TokenRecord → B) (z : B) (ts : List TokenRecord) (i : ℕ) → length ts ≤ i → option_map_or f (slice_get ts i) z ≡ z
not_there f z [] i h = refl
not_there f z (t ∷ ts) zero h = absurd (omega (arith, h))
not_there f z (t ∷ ts) (suc i) h = not_there f z ts i (omega (arith, h))

here-is : (col n : ℕ) (o : Option TokenRecord) (other : Option ℕ) → index_here_or col n o other ≡ (if option_map_or (λ t. t.dst_col == col) o false then Some n else other)
here-is col n None other = refl
here-is col n (Some t) other = refl

shift-either : (c : Bool) (s k : ℕ) (other : Option ℕ) → option_map (λ i. s + i) (if c then Some k else other) ≡ (if c then Some (s + k) else option_map (λ i. s + i) other)
shift-either true s k other = refl
shift-either false s k other = refl

before-some : (s k i : ℕ) → 0 < k → s + k ≡ suc i → option_map (λ i. s + i) (index_before k) ≡ Some i
before-some s k i h e =
    let lt : nat_lt 0 k ≡ true = grind (arith, nat_tests, h) in
    let same : s + (k - 1) ≡ i = omega (arith, h, e) in
    ap (λ b. option_map (λ i. s + i) (if b then Some (k - 1) else None)) lt ∙ ap Some same

before-none : (s k : ℕ) → k ≡ 0 → option_map (λ i. s + i) (index_before k) ≡ None
before-none s k e =
    let lt : nat_lt 0 k ≡ false = grind (arith, nat_tests, e) in
    ap (λ b. option_map (λ i. s + i) (if b then Some (k - 1) else None)) lt

is_same_number : (m n : ℕ) → m ≡ n → (m == n) ≡ true
is_same_number m n e = grind (arith, nat_tests, e)

pub is_other_number : (m n : ℕ) → m ≢ n → (m == n) ≡ false
is_other_number m n h = grind (arith, nat_tests, h)

module _ (ts : List TokenRecord) (sorted : are_tokens_sorted ts ≡ true) (bounds : AreInBounds ts) (q b : ℕ) (start : IsStart ts q b) where
  abbrev d : TokenRecord
  d = no_token

  abbrev line : ℕ
  line = line_of q

  abbrev col : ℕ
  col = column_of q

  -- where the tokens of the line begin and end
  abbrev from : ℕ
  from = count_before_line line ts

  abbrev to : ℕ
  to = count_before_line (line + 1) ts

  abbrev at : ℕ → TokenRecord
  at i = get_or ts i d

  fits : (i : ℕ) → i < length ts → (at i).dst_col < 4294967296
  fits i h = (bounds i d h).dst_col

  ordered : IsFrom 0 ts
  ordered = in_order-from_0 ts (sorted_in_order ts sorted)

  from-within : from ≤ length ts
  from-within = count_by-le-length (λ t. nat_lt (token_line t) line) ts

  to-within : to ≤ length ts
  to-within = count_by-le-length (λ t. nat_lt (token_line t) (line + 1)) ts

  begins : from ≤ b
  begins = elim (cases_lt b from) [
    | inl lt ↦ absurd (omega (arith, lt, from-within, below line 0 b ts d ordered lt, start.others b (omega arith) (omega (arith, lt, from-within)), fits b (omega (arith, lt, from-within))))
    | inr ge ↦ ge
  ]

  ends : b ≤ to
  ends = elim (cases_lt to b) [
    | inl lt ↦ absurd (omega (arith, lt, start.within, above (line + 1) 0 to ts d ordered (omega arith) (omega (arith, lt, start.within)), start.before to lt))
    | inr ge ↦ ge
  ]

  on : (i : ℕ) → from ≤ i → i < to → (at i).dst_line ≡ line
  on i low high = omega (arith, above line 0 i ts d ordered low (omega (arith, high, to-within)), below (line + 1) 0 i ts d ordered high)

  -- the tokens of the line, and how many of them lie before the place
  abbrev row : List TokenRecord
  row = take (to - from) (drop from ts)

  abbrev k : ℕ
  k = b - from

  row-is : row ≡ on_line token_line line ts
  row-is = on_line-between line ts (sorted_in_order ts sorted)

  row-long : length row ≡ to - from
  row-long = omega (arith, length-take (to - from) (drop from ts), length-drop from ts, to-within)

  row-read : (j i : ℕ) → j < to - from → from + j ≡ i → get_or row j d ≡ at i
  row-read j i h e = get_or-take (to - from) (drop from ts) j d h ∙ get_or-drop from ts j d ∙ ap at e

  row-cut : k ≡ cut token_column col row
  row-cut = sym (prefix_len_is (λ t. nat_lt (token_column t) col) row k d (omega (arith, row-long, ends))
      (λ j h.
      let i = from + j in
      let read = row-read j i (omega (arith, h, ends)) refl in
      let same = on i (omega arith) (omega (arith, h, ends)) in
      let less : (at i).dst_col < col = omega (arith, same, start.before i (omega (arith, h, begins))) in
      let is : nat_lt (at i).dst_col col ≡ true = grind (arith, nat_tests, less) in
      ap (λ t. nat_lt (token_column t) col) read ∙ is)
      (λ h.
      let read = row-read k b (omega (arith, h, row-long)) (omega (arith, begins)) in
      let lt : b < to = omega (arith, h, row-long, begins) in
      let same = on b begins lt in
      let more : col ≤ (at b).dst_col = omega (arith, same, start.others b (omega arith) (omega (arith, lt, to-within))) in
      let is : nat_lt (at b).dst_col col ≡ false = grind (arith, nat_tests, more) in
      ap (λ t. nat_lt (token_column t) col) read ∙ is))

  -- whether there is a token at the place, among all, and in the row
  abbrev is_hit : Bool
  is_hit = option_map_or (λ t. token_position t == q) (slice_get ts b) false

  hit-inside : b < to → option_map_or (λ t. t.dst_col == col) (slice_get row k) false ≡ is_hit
  hit-inside lt =
      let lt_row : k < length row = omega (arith, lt, row-long, begins) in
      let lt_all : b < length ts = omega (arith, lt, to-within) in
      let same = on b begins lt in
      let equal : ((at b).dst_col == col) ≡ (token_position (at b) == q) =
      elim ((at b).dst_col == col) as (λ c. ((at b).dst_col == col) ≡ c → c ≡ (token_position (at b) == q)) [
        | true ↦ (λ e. let is : (at b).dst_col ≡ col = grind (arith, nat_tests, e) in sym (is_same_number _ q (omega (arith, same, is))))
        | false ↦ (λ e. let is : (at b).dst_col ≢ col = grind (arith, nat_tests, e) in sym (is_other_number _ q (λ p. is (omega (arith, same, p)))))
      ] refl in
      there (λ t. t.dst_col == col) false row k d lt_row ∙ ap (λ t. t.dst_col == col) (row-read k b (omega (arith, lt, begins)) (omega (arith, begins)))
      ∙ equal ∙ sym (there (λ t. token_position t == q) false ts b d lt_all)

  hit-past : to ≤ b → option_map_or (λ t. t.dst_col == col) (slice_get row k) false ≡ is_hit
  hit-past le =
      let none : is_hit ≡ false = elim (cases_lt b (length ts)) [
        | inl lt ↦ there (λ t. token_position t == q) false ts b d lt ∙ is_other_number _ q (λ p. omega (arith, p, above (line + 1) 0 b ts d ordered le lt))
        | inr ge ↦ not_there (λ t. token_position t == q) false ts b ge
      ] in
      not_there (λ t. t.dst_col == col) false row k (omega (arith, row-long, le)) ∙ sym none

  hit : option_map_or (λ t. t.dst_col == col) (slice_get row k) false ≡ is_hit
  hit = elim (cases_lt b to) [ inl lt ↦ hit-inside lt | inr ge ↦ hit-past ge ]

  nothing-before : (n : ℕ) → n ≡ b → option_map (λ i. from + i) (index_before k) ≡ holder_before ts n q
  nothing-before zero e = before-none from k (omega (arith, e))
  nothing-before (suc i) e =
      let lt : i < length ts = omega (arith, e, start.within) in
      let less = start.before i (omega (arith, e)) in
      let read = there (λ t. t.dst_line == line) false ts i d lt in
      elim ((at i).dst_line == line) as (λ c. ((at i).dst_line == line) ≡ c → option_map (λ i. from + i) (index_before k) ≡ holder_before ts (suc i) q) [
        | true ↦ (λ c.
            let same : (at i).dst_line ≡ line = grind (arith, nat_tests, c) in
            let after : from ≤ i = elim (cases_lt i from) [ inl before ↦ absurd (omega (arith, same, below line 0 i ts d ordered before)) | inr ge ↦ ge ] in
            before-some from k i (omega (arith, after, e)) (omega (arith, e, begins)) ∙ sym (ap (λ c. if c then Some i else None) (read ∙ c)))
        | false ↦ (λ c.
            let other : (at i).dst_line ≢ line = grind (arith, nat_tests, c) in
            let before : i < from = elim (cases_lt i from) [ inl lt ↦ lt | inr ge ↦ absurd (other (omega (arith, less, above line 0 i ts d ordered ge lt))) ] in
            before-none from k (omega (arith, before, e)) ∙ sym (ap (λ c. if c then Some i else None) (read ∙ c)))
      ] refl

  -- the lookup finds the first token at the place, else the last before it on its line
  pub found-is : index_at_position ts q ≡ holder ts b q
  found-is =
      let order = sorted_in_order ts sorted in
      let goes = line_goes_on line ts sorted in
      let row_goes = subst (λ xs. no_column_goes_back token_column xs ≡ true) (sym row-is) goes in
      let whole : from + k ≡ b = omega (arith, begins) in
      sym (index_for-own line col ts order)
      ∙ ap (λ xs. from_line line ts (index_at xs col)) (sym row-is)
      ∙ ap (from_line line ts) (index-at col k row row_goes row-cut (omega (arith, row-long, ends)))
      ∙ ap (from_line line ts) (here-is col k (slice_get row k) (index_before k))
      ∙ ap (λ c. from_line line ts (if c then Some k else index_before k)) hit
      ∙ shift-either is_hit from k (index_before k)
      ∙ ap (λ i. if is_hit then Some i else option_map (λ i. from + i) (index_before k)) whole
      ∙ ap (λ o. if is_hit then Some b else o) (nothing-before b refl)
