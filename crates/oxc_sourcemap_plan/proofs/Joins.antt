-- Joins as a monoid, and their decoded maps.
use Rattle.std.proofs.Common.{◌≡◌, ℕ, ◌+◌, ◌==◌, true, false, cond, List, [], ◌∷◌, ◌++◌, map}
use Rattle.std.proofs.Common.{length, refl, sym, ap, ◌∙◌, append_assoc, arith, Option, Some, None}
use Rattle.std.specs.Option.{option_map}
use Rattle.std.proofs.lemmas.Bool.Decides.{nat_tests}
use Rattle.std.proofs.lemmas.List.{append-nil, length-append, map-append}
use Rattle.oxc_sourcemap_tokens.specs.declared.token.TokenChunk.{TokenChunk}
use Rattle.oxc_sourcemap_tokens.specs.Token.{TokenRecord}
use Rattle.oxc_sourcemap_parts.specs.Record.{Text, MapRecord}
use Rattle.oxc_sourcemap_tokens.specs.declared.position.Position.{Position}
use Rattle.oxc_sourcemap_join.specs.Joined.{at_line, at_lines, shifted_column, fitted, shifted}
use Rattle.oxc_sourcemap_join.specs.Joined.{is_same_id, is_same_token, seamed, raised_ignore_list}
use Rattle.oxc_sourcemap_join.specs.Joined.{appended_ignore_lists, added_tokens, added_ignore_list}
use Rattle.oxc_sourcemap_join.specs.Joined.{added, nothing_joined, added_all, joined}
use Rattle.oxc_sourcemap_join.proofs.SameToken.{decides_token}
use Rattle.oxc_sourcemap_join.proofs.Fitted.{length-fitted, fitted-exact, fitted-more}
use Rattle.oxc_sourcemap_plan.specs.JoinLaws.{Group, groups_joined, maps_of, without_chunks}
use Rattle.oxc_sourcemap_plan.proofs.Seams.{seamed_assoc, seamed_nil, seamed-map}

pub record_by : (a : MapRecord) (x0 : Option Text) (x1 : List Text) (x2 : Option Text) (x3 : List Text) (x4 : List (Option Text)) (x5 : List TokenRecord) (x6 : Option (List TokenChunk)) (x7 : Option (List ℕ)) (x8 : Option Text)
    → a.file ≡ x0 → a.names ≡ x1 → a.source_root ≡ x2 → a.sources ≡ x3 → a.source_contents ≡ x4 → a.tokens ≡ x5 → a.token_chunks ≡ x6 → a.ignore_list ≡ x7 → a.debug_id ≡ x8
    → a ≡ record { file = x0; names = x1; source_root = x2; sources = x3; source_contents = x4; tokens = x5; token_chunks = x6; ignore_list = x7; debug_id = x8 }
record_by a x0 x1 x2 x3 x4 x5 x6 x7 x8 e0 e1 e2 e3 e4 e5 e6 e7 e8 = rw (← e0, ← e1, ← e2, ← e3, ← e4, ← e5, ← e6, ← e7, ← e8)

-- a token at an offset
abbrev pub raised : Position → TokenRecord → TokenRecord
raised offset m = record m { dst_line = m.dst_line + offset.line; dst_col = shifted_column offset m.dst_line m.dst_col }

-- a token after so many names and sources
abbrev pub after : ℕ → ℕ → TokenRecord → TokenRecord
after names sources m = record m { source_id = option_map (λ i. i + sources) m.source_id; name_id = option_map (λ i. i + names) m.name_id }

shifted-is : (names sources : ℕ) (offset : Position) (m : TokenRecord) → shifted names sources offset m ≡ after names sources (raised offset m)
shifted-is names sources offset m = refl

abbrev pub parts : Option (List ℕ) → List Text → List Text → List (Option Text) → List TokenRecord → MapRecord
parts ignore_list names sources source_contents tokens = record { file = None; source_root = None; debug_id = None; ignore_list = ignore_list; names = names; sources = sources; source_contents = source_contents; tokens = tokens; token_chunks = None }

-- one record after another
abbrev pub together : MapRecord → MapRecord → MapRecord
together a b = parts (added_ignore_list a b) (a.names ++ b.names) (a.sources ++ b.sources) (a.source_contents ++ b.source_contents) (seamed is_same_token a.tokens (map (after (length a.names) (length a.sources)) b.tokens))

-- a map by itself, at an offset
abbrev pub alone : MapRecord → Position → MapRecord
alone m offset = parts m.ignore_list m.names m.sources (fitted (length m.sources) m.source_contents) (map (raised offset) m.tokens)

abbrev pub empty : MapRecord
empty = parts None [] [] [] []

abbrev pub all_together : List (MapRecord × Position) → MapRecord
all_together [] = empty
all_together (m ∷ ms) = together (alone m.0 m.1) (all_together ms)

-- ---- tokens
number-moved : (a b n : ℕ) → (a + n == b + n) ≡ (a == b)
number-moved a b n = grind (arith, nat_tests)

option-moved : (a b : Option ℕ) (n : ℕ) → is_same_id (option_map (λ i. i + n) a) (option_map (λ i. i + n) b) ≡ is_same_id a b
option-moved None None n = refl
option-moved None (Some y) n = refl
option-moved (Some x) None n = refl
option-moved (Some x) (Some y) n = number-moved x y n

same-after : (names sources : ℕ) (a b : TokenRecord) → is_same_token (after names sources a) (after names sources b) ≡ is_same_token a b
same-after names sources a b = rw (option-moved a.source_id b.source_id sources, option-moved a.name_id b.name_id names)

-- at the beginning of a line no column is moved
column-kept : (n line column : ℕ) → shifted_column (at_line n) line column ≡ column
column-kept n line column = elim (line == 0) as (λ b. cond b (column + 0) column ≡ column) [ true ↦ omega arith | false ↦ refl ]

same-raised : (n : ℕ) (a b : TokenRecord) → is_same_token (raised (at_line n) a) (raised (at_line n) b) ≡ is_same_token a b
same-raised n a b = rw (number-moved a.dst_line b.dst_line n, column-kept n a.dst_line a.dst_col, column-kept n b.dst_line b.dst_col)

option-twice : (a : Option ℕ) (m n k : ℕ) → m + n ≡ k → option_map (λ i. i + n) (option_map (λ i. i + m) a) ≡ option_map (λ i. i + k) a
option-twice None m n k e = refl
option-twice (Some i) m n k e = ap (λ j. Some j) (omega arith)

option-zero : (a : Option ℕ) → option_map (λ i. i + 0) a ≡ a
option-zero None = refl
option-zero (Some i) = ap (λ j. Some j) (omega arith)

after-zero : (m : TokenRecord) → after 0 0 m ≡ m
after-zero m = ap (λ o. record m { source_id = o; name_id = option_map (λ i. i + 0) m.name_id }) (option-zero m.source_id) ∙ ap (λ o. record m { name_id = o }) (option-zero m.name_id)

after-twice : (n s n' s' n'' s'' : ℕ) → n + n' ≡ n'' → s + s' ≡ s'' → (m : TokenRecord) → after n' s' (after n s m) ≡ after n'' s'' m
after-twice n s n' s' n'' s'' e f m =
    ap (λ o. record m { source_id = o; name_id = option_map (λ i. i + n') (option_map (λ i. i + n) m.name_id) }) (option-twice m.source_id s s' s'' f)
    ∙ ap (λ o. record m { source_id = option_map (λ i. i + s'') m.source_id; name_id = o }) (option-twice m.name_id n n' n'' e)

raised-twice : (a b : ℕ) (m : TokenRecord) → raised (at_line b) (raised (at_line a) m) ≡ raised (at_line (a + b)) m
raised-twice a b m =
    let e : m.dst_line + a + b ≡ m.dst_line + (a + b) = omega arith in
    let first = shifted_column (at_line a) m.dst_line m.dst_col in
    ap (λ l. record m { dst_line = l; dst_col = shifted_column (at_line b) (m.dst_line + a) first }) e
    ∙ ap (λ c. record m { dst_line = m.dst_line + (a + b); dst_col = c }) (column-kept b (m.dst_line + a) first ∙ column-kept a m.dst_line m.dst_col ∙ sym (column-kept (a + b) m.dst_line m.dst_col))

pub map_same : {A B : Type 0} (f g : A → B) → ((x : A) → f x ≡ g x) → (xs : List A) → map f xs ≡ map g xs
map_same f g h [] = refl
map_same f g h (x ∷ xs) = ap (λ y. y ∷ map f xs) (h x) ∙ ap (λ ys. g x ∷ ys) (map_same f g h xs)

pub map_twice : {A B C : Type 0} (f : A → B) (g : B → C) (h : A → C) → ((x : A) → g (f x) ≡ h x) → (xs : List A) → map g (map f xs) ≡ map h xs
map_twice f g h e [] = refl
map_twice f g h e (x ∷ xs) = ap (λ y. y ∷ map g (map f xs)) (e x) ∙ ap (λ ys. h x ∷ ys) (map_twice f g h e xs)

map_self : {A : Type 0} (f : A → A) → ((x : A) → f x ≡ x) → (xs : List A) → map f xs ≡ xs
map_self f e [] = refl
map_self f e (x ∷ xs) = ap (λ y. y ∷ map f xs) (e x) ∙ ap (λ ys. x ∷ ys) (map_self f e xs)

-- ---- ignore lists
appended-assoc : (a b c : Option (List ℕ)) → appended_ignore_lists (appended_ignore_lists a b) c ≡ appended_ignore_lists a (appended_ignore_lists b c)
appended-assoc a b None = refl
appended-assoc a None (Some zs) = refl
appended-assoc None (Some ys) (Some zs) = refl
appended-assoc (Some xs) (Some ys) (Some zs) = ap (λ us. Some us) (append_assoc xs ys zs)

appended-nothing : (a : Option (List ℕ)) → appended_ignore_lists None a ≡ a
appended-nothing None = refl
appended-nothing (Some xs) = refl

raised-appended : (n : ℕ) (a b : Option (List ℕ)) → raised_ignore_list n (appended_ignore_lists a b) ≡ appended_ignore_lists (raised_ignore_list n a) (raised_ignore_list n b)
raised-appended n a None = refl
raised-appended n None (Some ys) = refl
raised-appended n (Some xs) (Some ys) = ap (λ us. Some us) (map-append (λ i. i + n) xs ys)

list-twice : (a : Option (List ℕ)) (m n k : ℕ) → m + n ≡ k → raised_ignore_list n (raised_ignore_list m a) ≡ raised_ignore_list k a
list-twice None m n k e = refl
list-twice (Some xs) m n k e = ap (λ us. Some us) (map_twice (λ i. i + m) (λ i. i + n) (λ i. i + k) (λ i. omega arith) xs)

list-zero : (a : Option (List ℕ)) → raised_ignore_list 0 a ≡ a
list-zero None = refl
list-zero (Some xs) = ap (λ us. Some us) (map_self (λ i. i + 0) (λ i. omega arith) xs)

-- three ignore lists, with `n` sources in the first map, `m` in the second, and `k` in both
lists-assoc : (a b c : Option (List ℕ)) (n m k : ℕ) → m + n ≡ k
    → appended_ignore_lists (appended_ignore_lists a (raised_ignore_list n b)) (raised_ignore_list k c) ≡ appended_ignore_lists a (raised_ignore_list n (appended_ignore_lists b (raised_ignore_list m c)))
lists-assoc a b c n m k e =
    appended-assoc a (raised_ignore_list n b) (raised_ignore_list k c)
    ∙ ap (λ l. appended_ignore_lists a (appended_ignore_lists (raised_ignore_list n b) l)) (sym (list-twice c m n k e))
    ∙ ap (appended_ignore_lists a) (sym (raised-appended n b (raised_ignore_list m c)))

-- ---- the monoid
pub together_assoc : (a b c : MapRecord) → together (together a b) c ≡ together a (together b c)
together_assoc a b c =
    let n = length a.names in let s = length a.sources in
    let en : length b.names + n ≡ length (a.names ++ b.names) = simp length-append (omega arith) in
    let es : length b.sources + s ≡ length (a.sources ++ b.sources) = simp length-append (omega arith) in
    let bs = map (after n s) b.tokens in
    let cs = map (after (length b.names) (length b.sources)) c.tokens in
    let e5 : seamed is_same_token (seamed is_same_token a.tokens bs) (map (after (length (a.names ++ b.names)) (length (a.sources ++ b.sources))) c.tokens) ≡ seamed is_same_token a.tokens (map (after n s) (seamed is_same_token b.tokens cs)) =
    seamed_assoc is_same_token decides_token a.tokens bs _
    ∙ ap (λ zs. seamed is_same_token a.tokens (seamed is_same_token bs zs)) (sym (map_twice _ _ _ (after-twice (length b.names) (length b.sources) n s _ _ en es) c.tokens))
    ∙ ap (seamed is_same_token a.tokens) (sym (seamed-map is_same_token is_same_token (after n s) (same-after n s) b.tokens cs)) in
    record_by _ _ _ _ _ _ _ _ _ _ refl (append_assoc a.names b.names c.names) refl (append_assoc a.sources b.sources c.sources) (append_assoc a.source_contents b.source_contents c.source_contents) e5 refl (lists-assoc a.ignore_list b.ignore_list c.ignore_list s (length b.sources) _ es) refl

pub nothing_together : (a : MapRecord) → together empty a ≡ parts a.ignore_list a.names a.sources a.source_contents a.tokens
nothing_together a =
    ap (parts (added_ignore_list empty a) a.names a.sources a.source_contents) (map_self _ after-zero a.tokens)
    ∙ ap (λ l. parts l a.names a.sources a.source_contents a.tokens) (appended-nothing (raised_ignore_list 0 a.ignore_list) ∙ list-zero a.ignore_list)

pub all_plain : (ms : List (MapRecord × Position)) → together empty (all_together ms) ≡ all_together ms
all_plain [] = refl
all_plain (m ∷ ms) = nothing_together (all_together (m ∷ ms))

pub all_append : (ms ns : List (MapRecord × Position)) → all_together (ms ++ ns) ≡ together (all_together ms) (all_together ns)
all_append [] ns = sym (all_plain ns)
all_append (m ∷ ms) ns = ap (together (alone m.0 m.1)) (all_append ms ns) ∙ sym (together_assoc (alone m.0 m.1) (all_together ms) (all_together ns))

-- ---- contents
-- a record without metadata, but for an ignore list, with one content for each source
pub record IsExact (r : MapRecord) : Type 0 where
  pub source_contents : length r.source_contents ≡ length r.sources
  pub file : r.file ≡ None
  pub source_root : r.source_root ≡ None
  pub debug_id : r.debug_id ≡ None

pub exact_added : (r m : MapRecord) (offset : Position) → IsExact (added r m offset)
exact_added r m offset = record { source_contents = length-fitted (length (r.sources ++ m.sources)) (r.source_contents ++ m.source_contents); file = refl; source_root = refl; debug_id = refl }

pub exact_added_all : (r : MapRecord) (ms : List (MapRecord × Position)) → IsExact r → IsExact (added_all r ms)
exact_added_all r [] x = x
exact_added_all r (m ∷ ms) x = exact_added_all (added r m.0 m.1) ms (exact_added r m.0 m.1)

pub exact_joined : (ms : List (MapRecord × Position)) → IsExact (joined ms)
exact_joined ms = exact_added_all nothing_joined ms (record { source_contents = refl; file = refl; source_root = refl; debug_id = refl })

added-is : (r m : MapRecord) (offset : Position) → IsExact r → without_chunks (added r m offset) ≡ together r (alone m offset)
added-is r m offset x =
    let e4 : fitted (length (r.sources ++ m.sources)) (r.source_contents ++ m.source_contents) ≡ r.source_contents ++ fitted (length m.sources) m.source_contents = ap (λ n. fitted n (r.source_contents ++ m.source_contents)) (length-append r.sources m.sources) ∙ fitted-more r.sources m.sources r.source_contents m.source_contents (sym x.source_contents) in
    let e5 : added_tokens r m offset ≡ seamed is_same_token r.tokens (map (after (length r.names) (length r.sources)) (map (raised offset) m.tokens)) = ap (seamed is_same_token r.tokens) (sym (map_twice _ _ _ (λ x. refl) m.tokens)) in
    record_by _ _ _ _ _ _ _ _ _ _ refl refl refl refl e4 e5 refl refl refl

pub added_all-is : (r : MapRecord) (ms : List (MapRecord × Position)) → IsExact r → without_chunks (added_all r ms) ≡ together r (all_together ms)
added_all-is r [] x = record_by _ _ _ _ _ _ _ _ _ _ x.file (sym (append-nil r.names)) x.source_root (sym (append-nil r.sources)) (sym (append-nil r.source_contents)) (sym (seamed_nil is_same_token decides_token r.tokens)) refl refl x.debug_id
added_all-is r (m ∷ ms) x =
    added_all-is (added r m.0 m.1) ms (exact_added r m.0 m.1)
    ∙ ap (λ q. together q (all_together ms)) (added-is r m.0 m.1 x)
    ∙ together_assoc r (alone m.0 m.1) (all_together ms)

-- a join, but for its chunks
pub joined-is : (ms : List (MapRecord × Position)) → without_chunks (joined ms) ≡ all_together ms
joined-is ms = added_all-is nothing_joined ms (record { source_contents = refl; file = refl; source_root = refl; debug_id = refl }) ∙ all_plain ms

-- ---- groups
abbrev pub raise_all : Position → MapRecord → MapRecord
raise_all offset r = record r { tokens = map (raised offset) r.tokens }

raise_together : (number : ℕ) (a b : MapRecord) → together (raise_all (at_line number) a) (raise_all (at_line number) b) ≡ raise_all (at_line number) (together a b)
raise_together number a b =
    let offset = at_line number in
    let n = length a.names in let s = length a.sources in
    ap (parts (added_ignore_list a b) (a.names ++ b.names) (a.sources ++ b.sources) (a.source_contents ++ b.source_contents))
    (ap (seamed is_same_token (map (raised offset) a.tokens)) (map_twice (raised offset) (after n s) (λ x. raised offset (after n s x)) (λ x. refl) b.tokens ∙ sym (map_twice (after n s) (raised offset) (λ x. raised offset (after n s x)) (λ x. refl) b.tokens))
    ∙ sym (seamed-map is_same_token is_same_token (raised offset) (same-raised number) a.tokens (map (after n s) b.tokens)))

alone_raised : (offset : ℕ) (m : MapRecord) (o : ℕ) → alone m (at_line (o + offset)) ≡ raise_all (at_line offset) (alone m (at_line o))
alone_raised offset m o = ap (parts m.ignore_list m.names m.sources (fitted (length m.sources) m.source_contents)) (sym (map_twice (raised (at_line o)) (raised (at_line offset)) (raised (at_line (o + offset))) (raised-twice o offset) m.tokens))

pub raised_group : (offset : ℕ) (ms : List (MapRecord × ℕ)) → all_together (map (λ m. (m.0, at_line (m.1 + offset))) ms) ≡ raise_all (at_line offset) (all_together (at_lines ms))
raised_group offset [] = refl
raised_group offset (m ∷ ms) =
    ap (λ r. together r (all_together (map (λ m. (m.0, at_line (m.1 + offset))) ms))) (alone_raised offset m.0 m.1)
    ∙ ap (together (raise_all (at_line offset) (alone m.0 (at_line m.1)))) (raised_group offset ms)
    ∙ raise_together offset (alone m.0 (at_line m.1)) (all_together (at_lines ms))

alone_joined : (ms : List (MapRecord × Position)) (offset : Position) → alone (joined ms) offset ≡ raise_all offset (without_chunks (joined ms))
alone_joined ms offset =
    let r = joined ms in
    let x = exact_joined ms in
    record_by _ _ _ _ _ _ _ _ _ _ (sym x.file) refl (sym x.source_root) refl (ap (λ n. fitted n r.source_contents) (sym x.source_contents) ∙ fitted-exact r.source_contents) refl refl refl (sym x.debug_id)

pub groups : (gs : List Group) → all_together (groups_joined gs) ≡ all_together (maps_of gs)
groups [] = refl
groups (g ∷ gs) =
    let here : alone (joined (at_lines g.0)) (at_line g.1) ≡ all_together (map (λ m. (m.0, at_line (m.1 + g.1))) g.0) = alone_joined (at_lines g.0) (at_line g.1) ∙ ap (raise_all (at_line g.1)) (joined-is (at_lines g.0)) ∙ sym (raised_group g.1 g.0) in
    ap (λ r. together r (all_together (groups_joined gs))) here
    ∙ ap (together (all_together (map (λ m. (m.0, at_line (m.1 + g.1))) g.0))) (groups gs)
    ∙ sym (all_append (map (λ m. (m.0, at_line (m.1 + g.1))) g.0) (maps_of gs))

pub joins_associative : (gs : List Group) → without_chunks (joined (groups_joined gs)) ≡ without_chunks (joined (maps_of gs))
joins_associative gs = joined-is (groups_joined gs) ∙ groups gs ∙ sym (joined-is (maps_of gs))

-- one map more
added-last : (r : MapRecord) (ms : List (MapRecord × Position)) (m : MapRecord) (offset : Position) → added_all r (ms ++ (m, offset) ∷ []) ≡ added (added_all r ms) m offset
added-last r [] m offset = refl
added-last r (x ∷ ms) m offset = added-last (added r x.0 x.1) ms m offset

pub one_more : (ms : List (MapRecord × Position)) (m : MapRecord) (offset : Position) → joined (ms ++ (m, offset) ∷ []) ≡ added (joined ms) m offset
one_more ms m offset = added-last nothing_joined ms m offset
