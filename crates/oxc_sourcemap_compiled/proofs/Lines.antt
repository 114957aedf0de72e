-- The tokens of a line, and the cuts of their columns.
use Rattle.std.proofs.Common.{◌≡◌, ℕ, zero, suc, ◌+◌, ◌-◌, ◌<◌, ◌≤◌, Bool, true, false, List, []}
use Rattle.std.proofs.Common.{◌∷◌, map, take, drop}
use Rattle.std.proofs.Common.{length, get_or, nat_lt, refl, sym, ap, ◌∙◌, arith, length-take}
use Rattle.std.proofs.Common.{length-drop}
use Rattle.std.proofs.Common.{None, Some, option_map, ◌==◌, if◌then◌else◌}
use Rattle.std.specs.Option.{option_or}
use Rattle.oxc_sourcemap_tokens.specs.Token.{last}
use Rattle.std.proofs.lemmas.List.{get_or-map, length-map, get_or-drop, get_or-take}
use Rattle.std.proofs.lemmas.List.FromFn.{get_or-map-range_with_len, length-map-range_with_len}
use Rattle.std.specs.List.{range_with_len}
use Rattle.oxc_sourcemap_tokens.specs.Token.{TokenRecord}
use Rattle.oxc_sourcemap_parts.specs.Sorted.{token_column}
use Rattle.oxc_sourcemap_lookup.specs.Lookup.{no_column_goes_back, first, index_at}
use Rattle.oxc_sourcemap_lookup.specs.Lookup.{clamped_index_at, index_at_or_after, index_before}
use Rattle.oxc_sourcemap_lookup.proofs.Halving.{before, before-later, before-earlier, before-all}
use Rattle.oxc_sourcemap_lookup.proofs.Lookups.{goes_on, not_before, not_before-at}
use Rattle.oxc_sourcemap_compiled.specs.Cuts.{IsCut, DoNotFall}
use Rattle.oxc_sourcemap_compiled.specs.Order.{columns_in, column_of, AreColumnsOf, AreInOrder}
use Rattle.oxc_sourcemap_compiled.specs.declared.lookup.Span.{Span}
use Rattle.oxc_sourcemap_compiled.specs.CompiledMeaning.{token_in, line_in, entry_begin, entry_end}
use Rattle.oxc_sourcemap_compiled.specs.CompiledMeaning.{entry_tokens}
use Rattle.oxc_sourcemap_compiled.specs.declared.layout.Header.{Header}

-- a function gives the columns of a line's tokens, from this number on
abbrev pub AreColumnsFrom : (ℕ → ℕ) → ℕ → List TokenRecord → Type 0
AreColumnsFrom f start line = (j : ℕ) (d : TokenRecord) → j < length line → f (start + j) ≡ (get_or line j d).dst_col

-- a list of columns has as many as the line
pub columns-length : (f : ℕ → ℕ) (start n : ℕ) (line : List TokenRecord) → map f (range_with_len start n) ≡ map token_column line → length line ≡ n
columns-length f start n line e = sym (length-map line token_column) ∙ ap length (sym e) ∙ length-map-range_with_len f start n

pub columns-from : (f : ℕ → ℕ) (start n : ℕ) (line : List TokenRecord) → map f (range_with_len start n) ≡ map token_column line → AreColumnsFrom f start line
columns-from f start n line e j d h =
    let size = columns-length f start n line e in
    let read = get_or-map-range_with_len f start n j (start + j) 0 (omega (arith, h, size)) refl in
    sym read ∙ ap (λ cs. get_or cs j 0) e ∙ get_or-map token_column line j d 0 h

pub columns-take : (f : ℕ → ℕ) (start m : ℕ) (line : List TokenRecord) → AreColumnsFrom f start line → AreColumnsFrom f start (take m line)
columns-take f start m line are j d h =
    let short = length-take m line in
    are j d (omega (arith, h, short)) ∙ ap (λ t. t.dst_col) (sym (get_or-take m line j d (omega (arith, h, short))))

pub columns-drop : (f : ℕ → ℕ) (start : ℕ) (line : List TokenRecord) → AreColumnsFrom f start line → AreColumnsFrom f (start + 1) (drop 1 line)
columns-drop f start line are j d h =
    let next : start + 1 + j ≡ start + (1 + j) = omega arith in
    ap f next ∙ are (1 + j) d (omega (arith, h, length-drop 1 line)) ∙ ap (λ t. t.dst_col) (sym (get_or-drop 1 line j d))

-- columns that go back nowhere do not fall
goes-up : (i j : ℕ) (d : TokenRecord) (line : List TokenRecord) → no_column_goes_back token_column line ≡ true → i ≤ j → j < length line → (get_or line i d).dst_col ≤ (get_or line j d).dst_col
goes-up i j d [] g le h = absurd (omega (arith, h))
goes-up zero zero d (t ∷ ts) g le h = omega arith
goes-up zero (suc j) d (t ∷ ts) g le h = not_before-at token_column t ts j d (not_before token_column t ts g) (omega (arith, h))
goes-up (suc i) zero d (t ∷ ts) g le h = absurd (omega (arith, le))
goes-up (suc i) (suc j) d (t ∷ ts) g le h = goes-up i j d ts (goes_on token_column t ts g) (omega (arith, le)) (omega (arith, h))

-- a token, for reads past the end
some-token : TokenRecord
some-token = record { dst_line = 0; dst_col = 0; src_line = 0; src_col = 0; source_id = None; name_id = None }

pub do-not-fall : (f : ℕ → ℕ) (start end : ℕ) (line : List TokenRecord) → end ≡ start + length line → no_column_goes_back token_column line ≡ true → AreColumnsFrom f start line → DoNotFall f start end
do-not-fall f start end line e g are i j low le high =
    let d = some-token in
    let first : start + (i - start) ≡ i = omega (arith, low) in
    let second : start + (j - start) ≡ j = omega (arith, low, le) in
    let within : j - start < length line = omega (arith, high, e, low, le) in
    let up = goes-up (i - start) (j - start) d line g (omega (arith, low, le)) within in
    let one = ap f (sym first) ∙ are (i - start) d (omega (arith, within, low, le)) in
    let two = ap f (sym second) ∙ are (j - start) d within in
    omega (arith, up, one, two)

-- the cut of the columns of a line is behind those before the limit
pub line-cut : (f : ℕ → ℕ) (limit start end : ℕ) (line : List TokenRecord) → end ≡ start + length line → no_column_goes_back token_column line ≡ true → AreColumnsFrom f start line
    → IsCut f limit start end (start + before limit line)
line-cut f limit start end line e g are = record {
  reached = omega arith;
  within = omega (arith, e, before-all limit line);
  before = λ i low lt. below (i - start) i (omega (arith, low)) (omega (arith, low, lt));
  after = λ i le lt. above (i - start) i (omega (arith, le)) (omega (arith, le, lt, e)) (omega (arith, le));
} where
  below-by : (b : Bool) (j : ℕ) → nat_lt (get_or line j some-token).dst_col limit ≡ b → j < length line → j < before limit line → (get_or line j some-token).dst_col < limit
  below-by true j is h lt = grind (arith, is)
  below-by false j is h lt =
      let le : limit ≤ (get_or line j some-token).dst_col = grind (arith, is) in
      absurd (omega (arith, before-earlier limit line j some-token h le, lt))

  below : (j i : ℕ) → start + j ≡ i → j < before limit line → f i < limit
  below j i at lt =
      let h : j < length line = omega (arith, lt, before-all limit line) in
      omega (arith, below-by (nat_lt (get_or line j some-token).dst_col limit) j refl h lt, ap f (sym at) ∙ are j some-token h)

  above-by : (b : Bool) (j : ℕ) → nat_lt (get_or line j some-token).dst_col limit ≡ b → j < length line → before limit line ≤ j → limit ≤ (get_or line j some-token).dst_col
  above-by true j is h le =
      let lt : (get_or line j some-token).dst_col < limit = grind (arith, is) in
      absurd (omega (arith, before-later limit line j some-token g h lt, le))
  above-by false j is h le = grind (arith, is)

  above : (j i : ℕ) → start + j ≡ i → j < length line → before limit line ≤ j → limit ≤ f i
  above j i at h le = omega (arith, above-by (nat_lt (get_or line j some-token).dst_col limit) j refl h le, ap f (sym at) ∙ are j some-token h)

-- the columns of tokens on a line are those of the bytes
pub token-columns : (bytes : List ℕ) (h : Header) (line start n : ℕ) → columns_in bytes h start n ≡ map token_column (map (token_in bytes h line) (range_with_len start n))
unfolding token_in
token-columns bytes h line start zero = refl
token-columns bytes h line start (suc n) = ap (λ cs. column_of bytes h start ∷ cs) (token-columns bytes h line (start + 1) n)

-- the tokens of an entry have the columns of its span
pub entry-columns : (bytes : List ℕ) (h : Header) (k : ℕ) (span : Span) → span.start ≡ entry_begin bytes h k → span.end ≡ entry_end bytes h k → AreInOrder bytes h → k < h.lines
    → AreColumnsOf bytes h span (entry_tokens bytes h k)
entry-columns bytes h k span begin end order there =
    let first = entry_begin bytes h k in
    let line = line_in bytes h k in
    record {
      are = ap (λ s. columns_in bytes h s (span.end - s)) begin ∙ ap (λ e. columns_in bytes h first (e - first)) end ∙ token-columns bytes h line first (entry_end bytes h k - first);
      up = order.columns k there;
      rows = order.rows;
    }

-- ---- nothing is found on a line without tokens
none-by : (b : Bool) → (if b then first {A = ℕ × TokenRecord} [] else last []) ≡ None
none-by true = refl
none-by false = refl

none-after-by : (b : Bool) → (if b then last {A = ℕ × TokenRecord} [] else first []) ≡ None
none-after-by true = refl
none-after-by false = refl

pub none-found : (line : List TokenRecord) (col : ℕ) → length line ≡ 0 → index_at line col ≡ None
none-found [] col e = ap (option_map (λ (p : ℕ × TokenRecord). p.0)) (none-by (0 == col))
none-found (t ∷ ts) col e = absurd (omega (arith, e))

pub none-found-clamped : (line : List TokenRecord) (col : ℕ) → length line ≡ 0 → clamped_index_at line col ≡ None
none-found-clamped [] col e = ap (λ o. option_map (λ (p : ℕ × TokenRecord). p.0) (option_or o None)) (none-by (0 == col))
none-found-clamped (t ∷ ts) col e = absurd (omega (arith, e))

pub none-found-after : (line : List TokenRecord) (col : ℕ) → length line ≡ 0 → index_at_or_after line col ≡ None
none-found-after [] col e = ap (option_map (λ (p : ℕ × TokenRecord). p.0)) (none-after-by (0 == col))
none-found-after (t ∷ ts) col e = absurd (omega (arith, e))

-- ---- an index on a line, and among all tokens
within-by : (b : Bool) (start i n end : ℕ) → nat_lt i n ≡ b → end ≡ start + n → (if nat_lt (start + i) end then Some (start + i - start) else None) ≡ (if nat_lt i n then Some i else None)
within-by true start i n end is e =
    let lt : i < n = grind (arith, is) in
    let less : nat_lt (start + i) end ≡ true = grind (arith, lt, e) in
    let back : start + i - start ≡ i = omega arith in
    rw (less, is) (ap Some back)
within-by false start i n end is e =
    let le : n ≤ i = grind (arith, is) in
    let more : nat_lt (start + i) end ≡ false = grind (arith, le, e) in
    rw (more, is) refl

pub shifted-within : (start i n end : ℕ) → end ≡ start + n → (if nat_lt (start + i) end then Some (start + i - start) else None) ≡ (if nat_lt i n then Some i else None)
shifted-within start i n end e = within-by (nat_lt i n) start i n end refl e

pub last-of-some : (begin start end : ℕ) → start ≡ begin → start < end → Some (end - 1) ≡ option_map (λ i. begin + i) (index_before (end - start))
last-of-some begin start end e lt =
    let some : nat_lt 0 (end - start) ≡ true = grind (arith, lt) in
    let same : end - 1 ≡ begin + (end - start - 1) = omega (arith, e, lt) in
    rw some (ap Some same)

pub last-of-none : (begin start end : ℕ) → end ≤ start → None ≡ option_map (λ i. begin + i) (index_before (end - start))
last-of-none begin start end le =
    let none : end - start ≡ 0 = omega (arith, le) in
    rw none refl
