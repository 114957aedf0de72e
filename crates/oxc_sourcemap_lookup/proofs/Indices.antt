-- Indices of what the lookups on a line find.
use Rattle.std.proofs.Common.{◌≡◌, refl, sym, ap, ◌∙◌, ℕ, zero, suc, ◌+◌, ◌-◌, ◌<◌, ◌≤◌, Bool, true}
use Rattle.std.proofs.Common.{false, List, [], ◌∷◌, length, slice_get, Option, Some, None}
use Rattle.std.proofs.Common.{option_map, nat_lt, ◌==◌, ◌≢◌, arith, if◌then◌else◌, get_or, take}
use Rattle.std.proofs.Common.{drop}
use Rattle.std.proofs.lemmas.Option.{slice_get_read, slice_get_past}
use Rattle.std.specs.Option.{option_or}
use Rattle.oxc_sourcemap_tokens.specs.Token.{TokenRecord}
use Rattle.oxc_sourcemap_parts.specs.Sorted.{token_column}
use Rattle.oxc_sourcemap_lookup.specs.Lookup.{first, at, no_column_goes_back, numbered_from}
use Rattle.oxc_sourcemap_lookup.specs.Lookup.{numbered, numbered_column, index_at}
use Rattle.oxc_sourcemap_lookup.specs.Lookup.{index_at_or_after, clamped_index_at, index_before}
use Rattle.oxc_sourcemap_lookup.proofs.Halving.{before, before-earlier, before-later, before-all}
use Rattle.oxc_sourcemap_lookup.proofs.Halving.{before-front, not_before-get}
use Rattle.oxc_sourcemap_lookup.proofs.Cuts.{cut, here_or, get_before, at-cut, after-cut}

pub numbered-goes_on : (i : ℕ) (ts : List TokenRecord) → no_column_goes_back numbered_column (numbered_from i ts) ≡ no_column_goes_back token_column ts
numbered-goes_on i [] = refl
numbered-goes_on i (t ∷ []) = refl
numbered-goes_on i (t ∷ u ∷ ts) =
    let more = numbered-goes_on (i + 1) (u ∷ ts) in
    rw more

numbered-cut-by : (b : Bool) (i col : ℕ) (t : TokenRecord) (ts : List TokenRecord) → nat_lt t.dst_col col ≡ b → cut numbered_column col (numbered_from (i + 1) ts) ≡ cut token_column col ts
    → cut numbered_column col (numbered_from i (t ∷ ts)) ≡ cut token_column col (t ∷ ts)
numbered-cut-by true i col t ts e more = rw e (ap (λ n. 1 + n) more)
numbered-cut-by false i col t ts e more = rw e refl

pub numbered-cut : (i col : ℕ) (ts : List TokenRecord) → cut numbered_column col (numbered_from i ts) ≡ cut token_column col ts
numbered-cut i col [] = refl
numbered-cut i col (t ∷ ts) = numbered-cut-by (nat_lt t.dst_col col) i col t ts refl (numbered-cut (i + 1) col ts)

pub numbered-get : (i k : ℕ) (ts : List TokenRecord) → slice_get (numbered_from i ts) k ≡ option_map (λ t. (i + k, t)) (slice_get ts k)
numbered-get i k [] = refl
numbered-get i zero (t ∷ ts) = (let same : i ≡ i + 0 = omega arith in ap (λ n. Some (n, t)) same)
numbered-get i (suc k) (t ∷ ts) =
    let same : i + 1 + k ≡ i + suc k = omega arith in
    numbered-get (i + 1) k ts ∙ ap (λ n. option_map (λ t. (n, t)) (slice_get ts k)) same

-- this index if the token is at the column, else the other one
abbrev pub index_here_or : ℕ → ℕ → Option TokenRecord → Option ℕ → Option ℕ
index_here_or col n None other = other
index_here_or col n (Some t) other = if t.dst_col == col then Some n else other

-- an index, if it is in range
abbrev pub index_within : List TokenRecord → ℕ → Option ℕ
index_within ts n = if nat_lt n (length ts) then Some n else None

here-some : (b : Bool) (col n : ℕ) (t : TokenRecord) (p : Option (ℕ × TokenRecord)) → (t.dst_col == col) ≡ b
    → option_map (λ p. p.0) (here_or numbered_column col (Some (n, t)) p) ≡ index_here_or col n (Some t) (option_map (λ p. p.0) p)
here-some true col n t p e = rw e refl
here-some false col n t p e = rw e refl

here-index : (col n : ℕ) (o : Option TokenRecord) (p : Option (ℕ × TokenRecord))
    → option_map (λ p. p.0) (here_or numbered_column col (option_map (λ t. (n, t)) o) p) ≡ index_here_or col n o (option_map (λ p. p.0) p)
here-index col n None p = refl
here-index col n (Some t) p = here-some (t.dst_col == col) col n t p refl

index-get : (i n : ℕ) (ts : List TokenRecord) → n < length ts → option_map (λ p. p.0) (slice_get (numbered_from i ts) n) ≡ Some (i + n)
index-get i n [] h = absurd (omega (arith, h))
index-get i zero (t ∷ ts) h = (let same : i ≡ i + 0 = omega arith in ap Some same)
index-get i (suc n) (t ∷ ts) h = (let same : i + 1 + n ≡ i + suc n = omega arith in index-get (i + 1) n ts (omega (arith, h)) ∙ ap Some same)

index-past : (i n : ℕ) (ts : List TokenRecord) → length ts ≤ n → option_map (λ p. p.0) (slice_get (numbered_from i ts) n) ≡ None
index-past i n [] h = refl
index-past i zero (t ∷ ts) h = absurd (omega (arith, h))
index-past i (suc n) (t ∷ ts) h = index-past (i + 1) n ts (omega (arith, h))

get-within-by : (b : Bool) (n : ℕ) (ts : List TokenRecord) → nat_lt n (length ts) ≡ b → option_map (λ p. p.0) (slice_get (numbered ts) n) ≡ index_within ts n
get-within-by true n ts e =
    let same : 0 + n ≡ n = omega arith in
    index-get 0 n ts (grind (arith, e)) ∙ ap Some same ∙ rw e refl
get-within-by false n ts e = index-past 0 n ts (grind (arith, e)) ∙ rw e refl

get-before-is : (n : ℕ) (ts : List TokenRecord) → n ≤ length ts → option_map (λ p. p.0) (get_before numbered_column (numbered ts) n) ≡ index_before n
get-before-is zero ts h = refl
get-before-is (suc n) ts h = index-get 0 n ts (omega (arith, h)) ∙ grind (arith)

-- the lookup of a column, by index
pub index-at : (col n : ℕ) (ts : List TokenRecord) → no_column_goes_back token_column ts ≡ true → n ≡ cut token_column col ts → n ≤ length ts
    → index_at ts col ≡ index_here_or col n (slice_get ts n) (index_before n)
index-at col n ts g e h =
    let xs = numbered ts in
    let same = numbered-cut 0 col ts ∙ sym e in
    let start : 0 + n ≡ n = omega arith in
    ap (option_map (λ p. p.0)) (at-cut numbered_column col xs (numbered-goes_on 0 ts ∙ g)
    ∙ ap (λ k. here_or numbered_column col (slice_get xs k) (get_before numbered_column xs k)) same
    ∙ ap (λ o. here_or numbered_column col o (get_before numbered_column xs n)) (numbered-get 0 n ts))
    ∙ here-index col (0 + n) (slice_get ts n) (get_before numbered_column xs n)
    ∙ ap (λ k. index_here_or col k (slice_get ts n) (option_map (λ p. p.0) (get_before numbered_column xs n))) start
    ∙ ap (index_here_or col n (slice_get ts n)) (get-before-is n ts h)

here-before : (col n : ℕ) (ts : List TokenRecord) (p : Option (ℕ × TokenRecord))
    → option_map (λ p. p.0) (here_or numbered_column col (get_before numbered_column (numbered ts) n) p) ≡ index_here_or col (n - 1) (get_before token_column ts n) (option_map (λ p. p.0) p)
here-before col zero ts p = refl
here-before col (suc n) ts p =
    let start : 0 + n ≡ suc n - 1 = omega arith in
    ap (λ o. option_map (λ p. p.0) (here_or numbered_column col o p)) (numbered-get 0 n ts)
    ∙ here-index col (0 + n) (slice_get ts n) p
    ∙ ap (λ k. index_here_or col k (slice_get ts n) (option_map (λ p. p.0) p)) start

-- the lookup from a column on, by index
pub index-after : (col n : ℕ) (ts : List TokenRecord) → no_column_goes_back token_column ts ≡ true → n ≡ cut token_column (col + 1) ts
    → index_at_or_after ts col ≡ index_here_or col (n - 1) (get_before token_column ts n) (index_within ts n)
index-after col n ts g e =
    let xs = numbered ts in
    let same = numbered-cut 0 (col + 1) ts ∙ sym e in
    ap (option_map (λ p. p.0)) (after-cut numbered_column col xs (numbered-goes_on 0 ts ∙ g)
    ∙ ap (λ k. here_or numbered_column col (get_before numbered_column xs k) (slice_get xs k)) same)
    ∙ here-before col n ts (slice_get xs n)
    ∙ ap (index_here_or col (n - 1) (get_before token_column ts n)) (get-within-by (nat_lt n (length ts)) n ts refl)

pub before-get : (n : ℕ) (ts : List TokenRecord) → 0 < n → get_before token_column ts n ≡ slice_get ts (n - 1)
before-get zero ts h = absurd (omega (arith, h))
before-get (suc n) ts h = (let same : n ≡ suc n - 1 = omega arith in ap (slice_get ts) same)

-- the index that is looked up, by whether there is a token in the column
pub index-here : (col n : ℕ) (o : Option TokenRecord) (other : Option ℕ) → option_map token_column o ≡ Some col → index_here_or col n o other ≡ Some n
index-here col n None other h = absurd (cc (h))
index-here col n (Some t) other h = (let same : (t.dst_col == col) ≡ true = grind (arith, h) in rw same refl)

pub index-elsewhere : (col n : ℕ) (o : Option TokenRecord) (other : Option ℕ) → (option_map token_column o ≡ Some col → ⊥) → index_here_or col n o other ≡ other
index-elsewhere col n None other h = refl
index-elsewhere col n (Some t) other h = (let same : (t.dst_col == col) ≡ false = grind (arith, h) in rw same refl)

or-index : (o p : Option (ℕ × TokenRecord)) → option_map (λ p. p.0) (option_or o p) ≡ option_or (option_map (λ p. p.0) o) (option_map (λ p. p.0) p)
or-index None p = refl
or-index (Some x) p = refl

first-index : (ts : List TokenRecord) → option_map (λ p. p.0) (first (numbered ts)) ≡ index_within ts 0
first-index [] = refl
first-index (t ∷ ts) = grind (arith)

-- the clamped lookup of a column, by index
pub index-clamped : (col : ℕ) (ts : List TokenRecord) → clamped_index_at ts col ≡ option_or (index_at ts col) (index_within ts 0)
index-clamped col ts =
    let xs = numbered ts in
    or-index (at numbered_column xs col) (first xs) ∙ ap (option_or (index_at ts col)) (first-index ts)

at-most-by : (b : Bool) (ts : List TokenRecord) (n col : ℕ) (t : TokenRecord) → nat_lt t.dst_col (col + 1) ≡ b → 0 < n → n ≤ length ts → t ≡ get_or ts (n - 1) t
    → n ≡ cut token_column (col + 1) ts → t.dst_col ≤ col
at-most-by true ts n col t e some within read count = grind (arith, e)
at-most-by false ts n col t e some within read count =
    let past : col + 1 ≤ t.dst_col = grind (arith, e) in
    let most = before-earlier (col + 1) ts (n - 1) t (omega (arith, some, within)) (omega (arith, past, ap token_column read)) in
    absurd (omega (arith, most, count, some))

-- what is found on a line that has tokens, by how many of them are before the column, and whether the one after these is at it
few-at : (b : Bool) (col n : ℕ) (t : TokenRecord) (ts : List TokenRecord) → (t.dst_col == col) ≡ b → n < length ts
    → option_or (index_here_or col n (Some t) (index_before n)) (index_within ts 0) ≡ Some (n + (if b then 1 else 0) - 1)
few-at true col n t ts e h = let same : n ≡ n + 1 - 1 = omega arith in rw e (ap Some same)
few-at false col zero t ts e h = let some : nat_lt 0 (length ts) ≡ true = grind (arith, h) in rw (e, some) refl
few-at false col (suc n) t ts e h =
    let same : suc n - 1 ≡ suc n + 0 - 1 = omega arith in
    let back : nat_lt 0 (suc n) ≡ true = grind arith in
    rw (e, back) (ap Some same)

pub found-here : (col n : ℕ) (t : TokenRecord) (ts : List TokenRecord) → no_column_goes_back token_column ts ≡ true → n ≡ cut token_column col ts → n < length ts → t ≡ get_or ts n t
    → clamped_index_at ts col ≡ Some (n + (if t.dst_col == col then 1 else 0) - 1)
found-here col n t ts g count h is =
    let there : slice_get ts n ≡ Some t = slice_get_read ts (length ts) n t refl h is in
    index-clamped col ts ∙ ap (λ o. option_or o (index_within ts 0)) (index-at col n ts g count (omega (arith, h)) ∙ ap (λ o. index_here_or col n o (index_before n)) there)
    ∙ few-at (t.dst_col == col) col n t ts refl h

pub found-last : (col n : ℕ) (ts : List TokenRecord) → no_column_goes_back token_column ts ≡ true → n ≡ cut token_column col ts → n ≡ length ts → 0 < n
    → clamped_index_at ts col ≡ Some (n - 1)
found-last col n ts g count all h =
    let past : slice_get ts n ≡ None = slice_get_past ts n (omega (arith, all)) in
    let some : nat_lt 0 n ≡ true = grind (arith, h) in
    index-clamped col ts ∙ ap (λ o. option_or o (index_within ts 0)) (index-at col n ts g count (omega (arith, all)) ∙ ap (λ o. index_here_or col n o (index_before n)) past)
    ∙ rw some refl

-- the lookup of a column, by index, where a token is the first that is not before it
index-nearer : (b : Bool) (col n : ℕ) (t : TokenRecord) (ts : List TokenRecord) → nat_lt t.dst_col (col + 1) ≡ b → no_column_goes_back token_column ts ≡ true
    → n ≡ cut token_column col ts → n < length ts → slice_get ts n ≡ Some t → col ≤ t.dst_col → index_before (n + (if b then 1 else 0)) ≡ index_at ts col
index-nearer true col n t ts lt g count h here le =
    let same : t.dst_col ≡ col = grind (arith, lt, le) in
    let there : option_map token_column (slice_get ts n) ≡ Some col = ap (option_map token_column) here ∙ ap Some same in
    let some : index_before (n + 1) ≡ Some n = grind (arith) in
    some ∙ sym (index-at col n ts g count (omega (arith, h)) ∙ index-here col n _ _ there)
index-nearer false col n t ts lt g count h here le =
    let other : t.dst_col ≢ col = grind (arith, lt) in
    let same : n + 0 ≡ n = omega arith in
    let elsewhere : option_map token_column (slice_get ts n) ≡ Some col → ⊥ = λ e. other (let is : Some t.dst_col ≡ Some col = sym (ap (option_map token_column) here) ∙ e in grind (arith, is)) in
    ap index_before same ∙ sym (index-at col n ts g count (omega (arith, h)) ∙ index-elsewhere col n _ _ elsewhere)

index-end : (col n : ℕ) (t : TokenRecord) (ts : List TokenRecord) → no_column_goes_back token_column ts ≡ true → n + 1 ≡ length ts → before col ts ≡ length ts → t.dst_col < col
    → index_before (n + (if nat_lt t.dst_col (col + 1) then 1 else 0)) ≡ index_at ts col
index-end col n t ts g end all lt =
    let m = length ts in
    let lies : nat_lt t.dst_col (col + 1) ≡ true = grind (arith, lt) in
    let past : slice_get ts m ≡ None = slice_get_past ts m (omega arith) in
    let is = index-at col m ts g (sym all) (omega arith) ∙ ap (λ o. index_here_or col m o (index_before m)) past in
    rw lies (ap index_before end ∙ sym is)

index-last-by : (a b : Bool) (col n : ℕ) (t : TokenRecord) (ts : List TokenRecord) → nat_lt (before col ts) (length ts - 1) ≡ a → nat_lt t.dst_col col ≡ b
    → no_column_goes_back token_column ts ≡ true → n < length ts → get_or ts n t ≡ t → slice_get ts n ≡ Some t → n ≡ (if nat_lt (before col ts) (length ts - 1) then before col ts else length ts - 1)
    → index_before (n + (if nat_lt t.dst_col (col + 1) then 1 else 0)) ≡ index_at ts col
index-last-by true b col n t ts front lies g within read here e =
    let count = e ∙ ap (λ x. if x then before col ts else length ts - 1) front in
    index-nearer (nat_lt t.dst_col (col + 1)) col n t ts refl g count within here (not_before-get col ts n t count here)
index-last-by false false col n t ts front lies g within read here e =
    let last_one : n ≡ length ts - 1 = e ∙ ap (λ x. if x then before col ts else length ts - 1) front in
    let all : length ts - 1 ≤ before col ts = grind (arith, front) in
    let le : col ≤ t.dst_col = grind (arith, lies) in
    let most = before-earlier col ts n t within (omega (arith, le, ap token_column read)) in
    index-nearer (nat_lt t.dst_col (col + 1)) col n t ts refl g (omega (arith, last_one, all, most)) within here le
index-last-by false true col n t ts front lies g within read here e =
    let last_one : n ≡ length ts - 1 = e ∙ ap (λ x. if x then before col ts else length ts - 1) front in
    let lt : t.dst_col < col = grind (arith, lies) in
    let more = before-later col ts n t g within (omega (arith, lt, ap token_column read)) in
    index-end col n t ts g (omega (arith, last_one, within)) (omega (arith, last_one, more, before-all col ts, within)) lt

-- The index found is that before the tokens before the column, the line's last one not counted, or before one more if the
-- next is not past the column.
pub index-last : (col n : ℕ) (t : TokenRecord) (ts : List TokenRecord) → no_column_goes_back token_column ts ≡ true → n < length ts → get_or ts n t ≡ t → slice_get ts n ≡ Some t
    → n ≡ before col (take (length ts - 1) ts) → index_before (n + (if nat_lt t.dst_col (col + 1) then 1 else 0)) ≡ index_at ts col
index-last col n t ts g within read here e =
    index-last-by (nat_lt (before col ts) (length ts - 1)) (nat_lt t.dst_col col) col n t ts refl refl g within read here (e ∙ before-front col (length ts - 1) ts)

-- the clamped lookup, from how many tokens there are up to the one that is found
pub clamped-through : (ts : List TokenRecord) (n : ℕ) → n ≤ length ts → index_within ts (n - 1) ≡ option_or (index_before n) (index_within ts 0)
clamped-through ts zero h = refl
clamped-through ts (suc n) h =
    let same : suc n - 1 ≡ n = omega arith in
    let some : index_before (suc n) ≡ Some n = grind (arith) in
    let within : nat_lt n (length ts) ≡ true = grind (arith, h) in
    ap (index_within ts) same ∙ rw within (sym (ap (λ o. option_or o (index_within ts 0)) some))

-- the lookup from a column on, where this token is the last that is not past it
after-last : (b : Bool) (col n : ℕ) (t : TokenRecord) (ts : List TokenRecord) → (t.dst_col == col) ≡ b → t.dst_col ≤ col → n < length ts
    → index_within ts (n + (if nat_lt t.dst_col col then 1 else 0)) ≡ index_here_or col n (Some t) (index_within ts (suc n))
after-last true col n t ts e le h =
    let lt : nat_lt t.dst_col col ≡ false = grind (arith, e) in
    let same : n + 0 ≡ n = omega arith in
    let within : nat_lt n (length ts) ≡ true = grind (arith, h) in
    rw (lt, e) (ap (index_within ts) same ∙ rw within refl)
after-last false col n t ts e le h =
    let lt : nat_lt t.dst_col col ≡ true = grind (arith, e, le) in
    let same : n + 1 ≡ suc n = omega arith in
    rw (lt, e) (ap (index_within ts) same)

none-before-past : (col : ℕ) (x : TokenRecord) (xs : List TokenRecord) → nat_lt x.dst_col col ≡ false → no_column_goes_back token_column (x ∷ xs) ≡ true → before col xs ≡ 0
none-before-past col x [] e g = refl
none-before-past col x (u ∷ us) e g =
    let past : nat_lt u.dst_col col ≡ false = grind (arith, e, g) in
    rw past refl

after-by : (b : Bool) (col n : ℕ) (t x : TokenRecord) (xs : List TokenRecord) → nat_lt x.dst_col (col + 1) ≡ b → no_column_goes_back token_column (x ∷ xs) ≡ true
    → n < length (x ∷ xs) → t ≡ get_or (x ∷ xs) n t → n ≡ before (col + 1) xs
    → index_within (x ∷ xs) (n + (if nat_lt t.dst_col col then 1 else 0)) ≡ index_at_or_after (x ∷ xs) col
after-by true col n t x xs e g h is count =
    let ts = x ∷ xs in
    let one : cut token_column (col + 1) ts ≡ 1 + before (col + 1) xs = rw e refl in
    let through : suc n ≡ cut token_column (col + 1) ts = omega (arith, one, count) in
    let same : suc n - 1 ≡ n = omega arith in
    let read : t ≡ get_or ts (suc n - 1) t = is ∙ ap (λ k. get_or ts k t) (sym same) in
    let le = at-most-by (nat_lt t.dst_col (col + 1)) ts (suc n) col t refl (omega arith) (omega (arith, h)) read through in
    let here : slice_get ts n ≡ Some t = slice_get_read ts (length ts) n t refl h is in
    after-last (t.dst_col == col) col n t ts refl le h
    ∙ sym (index-after col (suc n) ts g through ∙ ap (λ k. index_here_or col k (get_before token_column ts (suc n)) (index_within ts (suc n))) same
    ∙ ap (λ o. index_here_or col n o (index_within ts (suc n))) (before-get (suc n) ts (omega arith) ∙ ap (slice_get ts) same ∙ here))
after-by false col n t x xs e g h is count =
    let ts = x ∷ xs in
    let none : n ≡ 0 = count ∙ none-before-past (col + 1) x xs e g in
    let first : t ≡ x = is ∙ ap (λ k. get_or ts k t) none in
    let past : nat_lt t.dst_col col ≡ false = grind (arith, e, ap token_column first) in
    let through : 0 ≡ cut token_column (col + 1) ts = rw e refl in
    let same : n + 0 ≡ 0 = omega (arith, none) in
    rw past (ap (index_within ts) same ∙ sym (index-after col 0 ts g through))

-- The lookup from a column on, where the tokens that are not past it are counted without the first of the line.
pub after-found : (col n : ℕ) (t : TokenRecord) (ts : List TokenRecord) → no_column_goes_back token_column ts ≡ true → n < length ts → t ≡ get_or ts n t
    → n ≡ before (col + 1) (drop 1 ts) → index_within ts (n + (if nat_lt t.dst_col col then 1 else 0)) ≡ index_at_or_after ts col
after-found col n t [] g h is count = absurd (omega (arith, h))
after-found col n t (x ∷ xs) g h is count = after-by (nat_lt x.dst_col (col + 1)) col n t x xs refl g h is count
