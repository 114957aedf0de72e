-- What is read with some numbers of names and sources is read with greater ones, as the same tokens, and with smaller ones that are
-- greater than its ids.
use Rattle.std.proofs.Common.{◌≡◌, ℕ, ◌+◌, ◌≤◌, Bool, true, false, cond, nat_lt, List, [], ◌∷◌}
use Rattle.std.proofs.Common.{◌++◌, length, pos, negsuc, ℤ, arith, refl, ap, inl, inr, Option, Some}
use Rattle.std.proofs.Common.{None, Result, Ok, Err, sym, subst, ◌<◌, min, not}
use Rattle.std.specs.List.{AllByRecursion}
use Rattle.std.proofs.lemmas.Bool.{cases_lt}
use Rattle.std.proofs.lemmas.Bool.Decides.{nat_tests}
use Rattle.oxc_sourcemap_tokens.specs.declared.errors.error.Error.{Error}
use Rattle.oxc_sourcemap_tokens.specs.Errors.{unless}
use Rattle.oxc_sourcemap_tokens.specs.Token.{TokenRecord}
use Rattle.oxc_sourcemap_json.specs.JsonRecord.{JsonRecord}
use Rattle.oxc_sourcemap_parts.specs.Record.{MapRecord}
use Rattle.oxc_sourcemap_json.specs.Decoded.{decoded_record, with_tokens, json_fault, decoded}
use Rattle.oxc_sourcemap_found.specs.MendedMaps.{decoded_with_any_ids}
use Rattle.oxc_sourcemap_mappings.specs.Parts.{Segment, has_source, has_name, lines}
use Rattle.oxc_sourcemap_mappings.specs.Places.{Place, Before, nothing_before, place, past_segment}
use Rattle.oxc_sourcemap_mappings.specs.Places.{past_line}
use Rattle.oxc_sourcemap_mappings.specs.Faults.{Counts, counts_of, ◌orelse◌, is_id_below}
use Rattle.oxc_sourcemap_mappings.specs.Faults.{source_fault, name_fault, place_fault}
use Rattle.oxc_sourcemap_mappings.specs.Faults.{segment_fault, digit_fault, nat_of}
use Rattle.oxc_sourcemap_found.specs.InRange.{is_past}
use Rattle.oxc_sourcemap_mappings.specs.Reading.{token_at, segment_result, line_results}
use Rattle.oxc_sourcemap_mappings.specs.Reading.{text_results, onto, gathered, reading}

lt-true : (n m : ℕ) → n < m → nat_lt n m ≡ true
lt-true n m h = grind (arith, nat_tests)

below-if : (n count : ℕ) (b : Bool) → nat_lt n count ≡ b → not b ≡ false → n < count
below-if n count true t e = grind (arith, nat_tests)
below-if n count false t e = cc

-- one count of names and of sources is at most another one
record IsAtMost (c d : Counts) : Type 0 where
  names : c.names ≤ d.names
  sources : c.sources ≤ d.sources

orelse-wider : (a b x y : Option Error) → (a ≡ None → x ≡ None) → (b ≡ None → y ≡ None) → (a orelse b) ≡ None → (x orelse y) ≡ None
orelse-wider None b x y f g e = let h = f refl in rw h (g e)
orelse-wider (Some k) b x y f g e = cc

if-wider : (t : Bool) (a x : Option Error) → (a ≡ None → x ≡ None) → cond t a None ≡ None → cond t x None ≡ None
if-wider true a x f e = f e
if-wider false a x f e = refl

id-wider : (z : ℤ) (c d : ℕ) (fault : Error) → c ≤ d → cond (is_id_below z c) None (Some fault) ≡ None → cond (is_id_below z d) None (Some fault) ≡ None
id-wider (pos n) c d fault l e =
    elim (cases_lt n c) [
      | inl h ↦ (let t : nat_lt n d ≡ true = grind (arith, nat_tests) in rw t refl)
      | inr g ↦ (let t : nat_lt n c ≡ false = grind (arith, nat_tests) in let k = rw t at e in cc)
    ]
id-wider (negsuc n) c d fault l e = cc

source-wider : (c d : Counts) (reached here : Place) → IsAtMost c d → source_fault c reached here ≡ None → source_fault d reached here ≡ None
source-wider c d reached here l e =
    orelse-wider _ _ _ _
    (orelse-wider _ _ _ _ (id-wider here.source_id c.sources d.sources _ l.sources) (λ h. h))
    (λ h. h) e

place-wider : (c d : Counts) (reached : Place) (size : ℕ) (here : Place) → IsAtMost c d → place_fault c reached size here ≡ None → place_fault d reached size here ≡ None
unfolding place_fault
place-wider c d reached size here l e =
    orelse-wider _ _ _ _
    (orelse-wider _ _ _ _ (λ h. h) (if-wider (has_source size) (source_fault c reached here) (source_fault d reached here) (source-wider c d reached here l)))
    (if-wider (has_name size) (name_fault c here) (name_fault d here) (id-wider here.name_id c.names d.names _ l.names)) e

fault-wider : (c d : Counts) (reached : Place) (s : Segment) (here : Place) → IsAtMost c d → segment_fault c reached s here ≡ None → segment_fault d reached s here ≡ None
fault-wider c d reached s here l e = orelse-wider (digit_fault s) _ (digit_fault s) _ (λ h. h) (place-wider c d reached (length s) here l) e

-- what is a token of these in one reading is that token in another one
abbrev IsKept : (TokenRecord → Type 0) → Result TokenRecord Error → Result TokenRecord Error → Type 0
IsKept P x y = (t : TokenRecord) → P t → x ≡ Ok t → y ≡ Ok t

abbrev AreKept : (TokenRecord → Type 0) → List (Result TokenRecord Error) → List (Result TokenRecord Error) → Type 0
AreKept P [] [] = Unit {0}
AreKept P [] (y ∷ ys) = ⊥
AreKept P (x ∷ xs) [] = ⊥
AreKept P (x ∷ xs) (y ∷ ys) = IsKept P x y × AreKept P xs ys

unless-kept : (P : TokenRecord → Type 0) (a b : Option Error) (t : TokenRecord) → (P t → a ≡ None → b ≡ None) → IsKept P (unless a (Ok t)) (unless b (Ok t))
unless-kept P None b t f = λ u p e. let same : t ≡ u = cc in let h = f (subst P (sym same) p) refl in rw h e
unless-kept P (Some fault) b t f = λ u p e. cc

-- each segment that is such a token with these counts is without a fault with those
abbrev NarrowsTo : (TokenRecord → Type 0) → Counts → Counts → Type 0
NarrowsTo P c d = (line : ℕ) (reached : Place) (s : Segment) (here : Place) → P (token_at line (length s) here)
    → segment_fault c reached s here ≡ None → segment_fault d reached s here ≡ None

line-kept : (P : TokenRecord → Type 0) (c d : Counts) (line : ℕ) (before : Before) (ss : List Segment) → NarrowsTo P c d
    → AreKept P (line_results c line before ss) (line_results d line before ss)
unfolding line_results
line-kept P c d line before [] l = tt
line-kept P c d line before (s ∷ ss) l = (
  unless-kept P _ _ (token_at line (length s) (place (past_segment before s))) (l line (place before) s (place (past_segment before s))),
  line-kept P c d line (past_segment before s) ss l,
)

both-kept : (P : TokenRecord → Type 0) (xs ys us vs : List (Result TokenRecord Error)) → AreKept P xs ys → AreKept P us vs → AreKept P (xs ++ us) (ys ++ vs)
both-kept P [] [] us vs h k = k
both-kept P [] (y ∷ ys) us vs h k = absurd h
both-kept P (x ∷ xs) [] us vs h k = absurd h
both-kept P (x ∷ xs) (y ∷ ys) us vs h k = (h.0, both-kept P xs ys us vs h.1 k)

if-kept : (P : TokenRecord → Type 0) (b : Bool) (xs ys us : List (Result TokenRecord Error)) → AreKept P xs ys → AreKept P us us → AreKept P (cond b xs us) (cond b ys us)
if-kept P true xs ys us h k = h
if-kept P false xs ys us h k = k

text-kept : (P : TokenRecord → Type 0) (c d : Counts) (line : ℕ) (before : Before) (ls : List (List Segment)) → NarrowsTo P c d
    → AreKept P (text_results c line before ls) (text_results d line before ls)
unfolding text_results
text-kept P c d line before [] l = tt
text-kept P c d line before (s ∷ ss) l =
    if-kept P (nat_lt line 4294967296) _ _ _
    (both-kept P (line_results c line before s) (line_results d line before s) _ _ (line-kept P c d line before s l) (text-kept P c d (line + 1) (past_line before s) ss l))
    (λ t p e. e, tt)

-- the tokens of a reading are its first one and the others
record FirstRead (t : TokenRecord) (x : Result (List TokenRecord) Error) (ts : List TokenRecord) : Type 0 where
  rest : List TokenRecord
  read : x ≡ Ok rest
  is : t ∷ rest ≡ ts

first-read : (t : TokenRecord) (x : Result (List TokenRecord) Error) (ts : List TokenRecord) → onto t x ≡ Ok ts → FirstRead t x ts
first-read t (Ok us) ts e = record { rest = us; read = refl; is = cc }
first-read t (Err fault) ts e = cc

gathered-kept : (P : TokenRecord → Type 0) (xs ys : List (Result TokenRecord Error)) (ts : List TokenRecord) → AreKept P xs ys → AllByRecursion P ts
    → gathered xs ≡ Ok ts → gathered ys ≡ Ok ts
gathered-kept P [] [] ts h all e = e
gathered-kept P [] (y ∷ ys) ts h all e = absurd h
gathered-kept P (x ∷ xs) [] ts h all e = absurd h
gathered-kept P (Ok t ∷ xs) (y ∷ ys) ts h all e =
    let f = first-read t (gathered xs) ts e in
    let these : AllByRecursion P (t ∷ f.rest) = subst (AllByRecursion P) (sym f.is) all in
    let k : y ≡ Ok t = h.0 t these.0 refl in
    let more : gathered ys ≡ Ok f.rest = gathered-kept P xs ys f.rest h.1 these.1 f.read in
    rw (k, more) (ap (λ us. Ok us) f.is)
gathered-kept P (Err fault ∷ xs) (y ∷ ys) ts h all e = cc

abbrev AnyToken : TokenRecord → Type 0
AnyToken t = Unit {0}

all-any : (ts : List TokenRecord) → AllByRecursion AnyToken ts
all-any [] = tt
all-any (t ∷ ts) = (tt, all-any ts)

-- A text that is read is read as the same tokens with any ids.
pub reading-any_ids : (text : List ℕ) (names sources : ℕ) (ts : List TokenRecord) → reading text names sources ≡ Ok ts → reading text 4294967295 4294967295 ≡ Ok ts
unfolding reading
reading-any_ids text names sources ts e =
    let c = counts_of names sources in
    let d = counts_of 4294967295 4294967295 in
    let most : IsAtMost c d = record { names = omega arith; sources = omega arith } in
    gathered-kept AnyToken _ _ ts (text-kept AnyToken c d 0 nothing_before (lines text) (λ line reached s here p. fault-wider c d reached s here most)) (all-any ts) e

-- ---- and with fewer names and sources, where its ids are below these

id-narrower : (z : ℤ) (count : ℕ) (fault : Error) → is_past count (Some (nat_of z)) ≡ false → cond (is_id_below z (min 4294967295 4294967295)) None (Some fault) ≡ None
    → cond (is_id_below z (min count 4294967295)) None (Some fault) ≡ None
id-narrower (pos n) count fault own e =
    elim (cases_lt n 4294967295) [
      | inl h ↦ (let below : n < count = below-if n count (nat_lt n count) refl own in
          let t : nat_lt n (min count 4294967295) ≡ true = lt-true n (min count 4294967295) (omega arith) in rw t refl)
      | inr g ↦ (let t : nat_lt n 4294967295 ≡ false = grind (arith, nat_tests) in let k = rw t at e in cc)
    ]
id-narrower (negsuc n) count fault own e = cc

given-narrower : (t : Bool) (z : ℤ) (count : ℕ) (a x : Option Error) → is_past count (cond t (Some (nat_of z)) None) ≡ false
    → (is_past count (Some (nat_of z)) ≡ false → a ≡ None → x ≡ None) → cond t a None ≡ None → cond t x None ≡ None
given-narrower true z count a x own f e = f own e
given-narrower false z count a x own f e = refl

-- the ids of a token are below these counts
pub record IsWithin (names sources : ℕ) (t : TokenRecord) : Type 0 where
  pub source : is_past sources t.source_id ≡ false
  pub name : is_past names t.name_id ≡ false

place-narrower : (names sources line : ℕ) (reached : Place) (size : ℕ) (here : Place) → IsWithin names sources (token_at line size here)
    → place_fault (counts_of 4294967295 4294967295) reached size here ≡ None → place_fault (counts_of names sources) reached size here ≡ None
unfolding place_fault
place-narrower names sources line reached size here own e =
    let c = counts_of 4294967295 4294967295 in
    let d = counts_of names sources in
    orelse-wider _ _ _ _
    (orelse-wider _ _ _ _ (λ h. h)
    (given-narrower (has_source size) here.source_id sources (source_fault c reached here) (source_fault d reached here) own.source
    (λ below. orelse-wider _ _ _ _ (orelse-wider _ _ _ _ (id-narrower here.source_id sources _ below) (λ h. h)) (λ h. h))))
    (given-narrower (has_name size) here.name_id names (name_fault c here) (name_fault d here) own.name
    (λ below. id-narrower here.name_id names _ below)) e

-- A text that is read with any ids is read as the same tokens with these counts, if all ids are below them.
pub reading-within : (text : List ℕ) (names sources : ℕ) (ts : List TokenRecord) → AllByRecursion (IsWithin names sources) ts
    → reading text 4294967295 4294967295 ≡ Ok ts → reading text names sources ≡ Ok ts
unfolding reading
reading-within text names sources ts all e =
    let c = counts_of 4294967295 4294967295 in
    let d = counts_of names sources in
    gathered-kept (IsWithin names sources) _ _ ts
    (text-kept (IsWithin names sources) c d 0 nothing_before (lines text)
    (λ line reached s here own. orelse-wider (digit_fault s) _ (digit_fault s) _ (λ h. h) (place-narrower names sources line reached (length s) here own))) all e

-- no mappings have no tokens
pub reading-empty : (names sources : ℕ) → reading [] names sources ≡ Ok []
unfolding reading text_results line_results
reading-empty names sources = refl

-- ---- the map of any ids, made from that without mappings

abbrev pub bare : JsonRecord → JsonRecord
bare j = record j { mappings = [] }

-- a value, as the result of a call that cannot fail
abbrev fine : {A : Type 0} → A → Result A Error
fine x = Ok x

ok-is : {A : Type 0} (x y : A) → fine x ≡ fine y → x ≡ y
ok-is x y e = cc

unless-ok : (o : Option Error) (j : JsonRecord) (x y : Result (List TokenRecord) Error) (r : MapRecord) (ts : List TokenRecord) → unless o (with_tokens (bare j) x) ≡ Ok r → x ≡ Ok [] → y ≡ Ok ts
    → unless o (with_tokens j y) ≡ Ok (record r { tokens = ts })
unless-ok None j x y r ts e empty is =
    let same : decoded_record (bare j) [] ≡ r = ok-is _ _ (rw empty at e) in
    rw is (ap (λ (q : MapRecord). Ok (record q { tokens = ts })) same)
unless-ok (Some fault) j x y r ts e empty is = cc

unless-fault : (o : Option Error) (j : JsonRecord) (x y : Result (List TokenRecord) Error) (fault : Error) → unless o (with_tokens (bare j) x) ≡ Err fault → x ≡ Ok []
    → unless o (with_tokens j y) ≡ Err fault
unless-fault None j x y fault e empty = let h = rw empty at e in cc
unless-fault (Some first) j x y fault e empty = e

unless-text : (o : Option Error) (j : JsonRecord) (x y : Result (List TokenRecord) Error) (r : MapRecord) (fault : Error) → unless o (with_tokens (bare j) x) ≡ Ok r → y ≡ Err fault
    → unless o (with_tokens j y) ≡ Err fault
unless-text None j x y r fault e is = rw is refl
unless-text (Some first) j x y r fault e is = cc

pub any_ok : (j : JsonRecord) (r : MapRecord) (ts : List TokenRecord) → decoded (bare j) ≡ Ok r → reading j.mappings 4294967295 4294967295 ≡ Ok ts
    → decoded_with_any_ids j ≡ Ok (record r { tokens = ts })
any_ok j r ts e is = unless-ok (json_fault j) j _ _ r ts e (reading-empty (length j.names) (length j.sources)) is

pub any_fault : (j : JsonRecord) (fault : Error) → decoded (bare j) ≡ Err fault → decoded_with_any_ids j ≡ Err fault
any_fault j fault e = unless-fault (json_fault j) j _ _ fault e (reading-empty (length j.names) (length j.sources))

pub any_text_fault : (j : JsonRecord) (r : MapRecord) (fault : Error) → decoded (bare j) ≡ Ok r → reading j.mappings 4294967295 4294967295 ≡ Err fault → decoded_with_any_ids j ≡ Err fault
any_text_fault j r fault e is = unless-text (json_fault j) j _ _ r fault e is
