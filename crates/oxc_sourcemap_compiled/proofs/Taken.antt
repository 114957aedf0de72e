-- Parts of a map that are taken out of bytes one by one.
use Rattle.std.proofs.Common.{◌≡◌, ℕ, ◌+◌, ◌<◌, Bool, true, false, List, [], ◌∷◌, ◌++◌, map, Option}
use Rattle.std.proofs.Common.{Some, None, refl, sym, ap, ◌∙◌, arith, append_assoc, append-nil}
use Rattle.std.proofs.Common.{if◌then◌else◌, ◌&&◌}
use Rattle.std.proofs.lemmas.List.Folds.{list_all-append, list_all_at}
use Rattle.std.proofs.lemmas.List.FromFn.{map-range_with_len_more, get_or-map-range_with_len}
use Rattle.std.proofs.lemmas.List.FromFn.{length-map-range_with_len}
use Rattle.std.proofs.lemmas.Option.{same_Some, none-some}
use Rattle.std.specs.List.{range_with_len, list_all}
use Rattle.oxc_sourcemap_tokens.specs.Token.{TokenRecord}
use Rattle.oxc_sourcemap_parts.specs.Record.{MapRecord, Text}
use Rattle.oxc_sourcemap_compiled.specs.CompiledMeaning.{joined}

-- ---- what was checked
pub checked-some : {A : Type 0} (b : Bool) (x y : A) → Some y ≡ (if b then Some x else None) → (b ≡ true) × (y ≡ x)
checked-some true x y e = (refl, same_Some y x e)
checked-some false x y e = absurd (none-some y (sym e))

pub checked-none : {A : Type 0} (b : Bool) (x : A) → None ≡ (if b then Some x else None) → b ≡ false
checked-none true x e = absurd (none-some x e)
checked-none false x e = refl

-- ---- a list that is made item by item
-- one item more that passes
pub all-more : {A : Type 0} (p : A → Bool) (f : ℕ → A) (n : ℕ) → list_all p (map f (range_with_len 0 n)) ≡ true → p (f n) ≡ true → list_all p (map f (range_with_len 0 (n + 1))) ≡ true
all-more p f n all here =
    let zero_plus : 0 + n ≡ n = omega arith in
    ap (list_all p) (map-range_with_len_more f 0 n n zero_plus) ∙ list_all-append p (map f (range_with_len 0 n)) (f n ∷ []) ∙ rw (all, here) refl

-- one that does not pass
pub not-all : {A : Type 0} (p : A → Bool) (f : ℕ → A) (n i : ℕ) → i < n → p (f i) ≡ false → list_all p (map f (range_with_len 0 n)) ≡ false
not-all p f n i lt bad =
    let xs = map f (range_with_len 0 n) in
    let zero_plus : 0 + i ≡ i = omega arith in
    let at = get_or-map-range_with_len f 0 n i i (f i) lt zero_plus in
    list_all_at p xs i (f i) (omega (arith, length-map-range_with_len f 0 n, lt)) (ap p at ∙ bad)

pub made-more : {A : Type 0} (f : ℕ → A) (items more : List A) (x : A) (n : ℕ) → more ≡ items ++ x ∷ [] → items ≡ map f (range_with_len 0 n) → x ≡ f n → more ≡ map f (range_with_len 0 (n + 1))
made-more f items more x n pushed same is =
    let zero_plus : 0 + n ≡ n = omega arith in
    pushed ∙ ap (λ xs. xs ++ x ∷ []) same ∙ ap (λ y. map f (range_with_len 0 n) ++ y ∷ []) is ∙ sym (map-range_with_len_more f 0 n n zero_plus)

-- ---- lists that are joined
joined-push : {A : Type 0} (xss : List (List A)) (ys : List A) → joined (xss ++ ys ∷ []) ≡ joined xss ++ ys
joined-push [] ys = append-nil ys
joined-push (xs ∷ xss) ys = ap (λ zs. xs ++ zs) (joined-push xss ys) ∙ sym (append_assoc xs (joined xss) ys)

pub joined-more : {A : Type 0} (f : ℕ → List A) (n : ℕ) → joined (map f (range_with_len 0 (n + 1))) ≡ joined (map f (range_with_len 0 n)) ++ f n
joined-more f n =
    let zero_plus : 0 + n ≡ n = omega arith in
    ap joined (map-range_with_len_more f 0 n n zero_plus) ∙ joined-push (map f (range_with_len 0 n)) (f n)

-- ---- maps
-- maps with the same fields, and without chunks
pub same-map : {f f' g g' e e' : Option Text} {n n' s s' : List Text} {c c' : List (Option Text)} {t t' : List TokenRecord} {i i' : Option (List ℕ)}
    → f ≡ f' → n ≡ n' → g ≡ g' → s ≡ s' → c ≡ c' → t ≡ t' → i ≡ i' → e ≡ e'
    → ◌≡◌ {A = MapRecord} (record { file = f; names = n; source_root = g; sources = s; source_contents = c; tokens = t; token_chunks = None; ignore_list = i; debug_id = e })
    (record { file = f'; names = n'; source_root = g'; sources = s'; source_contents = c'; tokens = t'; token_chunks = None; ignore_list = i'; debug_id = e' })
same-map {f} {f'} {g} {g'} {e} {e'} {n} {n'} {s} {s'} {c} {c'} {t} {t'} {i} {i'} ef en eg es ec et ei ee =
    ap (λ x. record { file = x; names = n; source_root = g; sources = s; source_contents = c; tokens = t; token_chunks = None; ignore_list = i; debug_id = e }) ef
    ∙ ap (λ x. record { file = f'; names = x; source_root = g; sources = s; source_contents = c; tokens = t; token_chunks = None; ignore_list = i; debug_id = e }) en
    ∙ ap (λ x. record { file = f'; names = n'; source_root = x; sources = s; source_contents = c; tokens = t; token_chunks = None; ignore_list = i; debug_id = e }) eg
    ∙ ap (λ x. record { file = f'; names = n'; source_root = g'; sources = x; source_contents = c; tokens = t; token_chunks = None; ignore_list = i; debug_id = e }) es
    ∙ ap (λ x. record { file = f'; names = n'; source_root = g'; sources = s'; source_contents = x; tokens = t; token_chunks = None; ignore_list = i; debug_id = e }) ec
    ∙ ap (λ x. record { file = f'; names = n'; source_root = g'; sources = s'; source_contents = c'; tokens = x; token_chunks = None; ignore_list = i; debug_id = e }) et
    ∙ ap (λ x. record { file = f'; names = n'; source_root = g'; sources = s'; source_contents = c'; tokens = t'; token_chunks = None; ignore_list = x; debug_id = e }) ei
    ∙ ap (λ x. record { file = f'; names = n'; source_root = g'; sources = s'; source_contents = c'; tokens = t'; token_chunks = None; ignore_list = i'; debug_id = x }) ee

pub all-checked : (a b c d e f : Bool) → a ≡ true → b ≡ true → c ≡ true → d ≡ true → e ≡ true → f ≡ true → (a && (b && (c && (d && (e && f))))) ≡ true
all-checked a b c d e f ha hb hc hd he hf = rw (ha, hb, hc, hd, he, hf) refl
