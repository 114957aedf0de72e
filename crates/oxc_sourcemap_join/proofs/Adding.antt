-- What is worked out for an add is right.
use Rattle.std.proofs.Common.{◌≡◌, ℕ, ◌+◌, ◌-◌, ◌≤◌, List, [], ◌∷◌, ◌++◌, map, length, take, drop}
use Rattle.std.proofs.Common.{refl, sym, ap, ◌∙◌, subst, arith, Option, Some, None, ◌⊎◌, inl, inr}
use Rattle.std.proofs.Common.{◌↔◌, Result, Ok, Err}
use Rattle.std.specs.Result.{IsErrOf, IsErrAnd, OnOk}
use Rattle.oxc_sourcemap_tokens.specs.declared.errors.error.Error.{Error}
use Rattle.oxc_sourcemap_tokens.specs.declared.errors.error.Error.TheVariants.{OutOfMemory}
use Rattle.oxc_sourcemap_tokens.specs.declared.errors.error.Error.TheVariants.{TooLarge}
use Rattle.std.specs.List.{AllByRecursion, All}
use Rattle.std.specs.Option.{unwrap_or}
use Rattle.std.proofs.lemmas.List.{length-append, length-drop, take_all, map-append}
use Rattle.std.proofs.lemmas.List.Elements.{All-append, All-from_recursion, recursion_from_All}
use Rattle.oxc_sourcemap_tokens.specs.declared.token.TokenChunk.{TokenChunk}
use Rattle.oxc_sourcemap_tokens.specs.Token.{TokenRecord, IsInBounds, AreInBounds, last}
use Rattle.oxc_sourcemap_tokens.specs.State.{state_at}
use Rattle.oxc_sourcemap_tokens.specs.Chunks.{chunk_from, ChunksFit}
use Rattle.oxc_sourcemap_parts.specs.Record.{Text, MapRecord}
use Rattle.oxc_sourcemap_parts.specs.Views.{record_of_parts}
use Rattle.oxc_sourcemap_parts.specs.declared.parts.SourceMapParts.{SourceMapParts}
use Rattle.oxc_sourcemap_tokens.specs.declared.position.Position.{Position}
use Rattle.oxc_sourcemap_join.specs.Joined.{fitted, shifted, is_same_token, without_repeat}
use Rattle.oxc_sourcemap_join.specs.Joined.{raised_ignore_list, appended_ignore_lists, added}
use Rattle.oxc_sourcemap_join.specs.Joined.{added_tokens, added_chunk, added_ignore_list}
use Rattle.oxc_sourcemap_join.specs.Joined.{nothing_joined, added_all, AreEntriesInBounds}
use Rattle.oxc_sourcemap_join.specs.Joined.{IsWithinLimits, owned_records, IsAdded}
use Rattle.oxc_sourcemap_join.specs.Joining.{IsJoin, all_shifted, IsAddition}
use Rattle.oxc_sourcemap_join.specs.declared.shift.Shift.{Shift}
use Rattle.oxc_sourcemap_join.specs.declared.joined_parts.Addition.{Addition}
use Rattle.oxc_sourcemap_join.proofs.Fitted.{length-fitted, fitted-more}
use Rattle.oxc_sourcemap_join.proofs.Joining.{fit-added, added_all-continues, length-front}
use Rattle.oxc_sourcemap_join.proofs.Joining.{all-front}
use Rattle.oxc_sourcemap_join.proofs.Moving.{repeat-in-bounds, length-mapped}
use Rattle.oxc_sourcemap_join.proofs.IgnoreLists.{appended-in-bounds, front-in-bounds}

-- moved tokens, by the lengths of the join and the offset
shifted-by : (r : MapRecord) (offset : Position) (s : Shift) → s.names ≡ length r.names → s.sources ≡ length r.sources → s.position ≡ offset → (ts : List TokenRecord)
    → all_shifted s ts ≡ map (shifted (length r.names) (length r.sources) offset) ts
shifted-by r offset s n o l ts =
    ap (λ k. map (shifted k s.sources s.position) ts) n ∙ ap (λ k. map (shifted (length r.names) k s.position) ts) o
    ∙ ap (λ k. map (shifted (length r.names) (length r.sources) k) ts) l

-- if a join with one more map is within limits, all moved tokens of that map are in bounds
pub moved-in-bounds : (r m : MapRecord) (offset : Position) (s : Shift) → s.names ≡ length r.names → s.sources ≡ length r.sources → s.position ≡ offset
    → AreInBounds r.tokens → IsWithinLimits (added r m offset) → AreInBounds (all_shifted s m.tokens)
moved-in-bounds r m offset s n o l h w =
    repeat-in-bounds r.tokens (all_shifted s m.tokens)
    (subst (λ us. AreInBounds (r.tokens ++ without_repeat is_same_token (last r.tokens) us)) (sym (shifted-by r offset s n o l m.tokens)) w.in_bounds) h

after-each : {A : Type 0} (P : A → Type 0) (xs ys : List A) → AllByRecursion P (xs ++ ys) → AllByRecursion P ys
after-each P [] ys h = h
after-each P (x ∷ xs) ys h = after-each P xs ys h.1

module _ (r m : MapRecord) (offset : Position) (s : Shift) (passed : ℕ) (n : s.names ≡ length r.names) (o : s.sources ≡ length r.sources) (l : s.position ≡ offset)
    (k : all_shifted s (drop passed m.tokens) ≡ without_repeat is_same_token (last r.tokens) (all_shifted s m.tokens)) where
  -- the tokens of the join, by those that are kept
  pub added-tokens : added_tokens r m offset ≡ r.tokens ++ all_shifted s (drop passed m.tokens)
  added-tokens = ap (λ us. r.tokens ++ without_repeat is_same_token (last r.tokens) us) (sym (shifted-by r offset s n o l m.tokens)) ∙ ap (λ us. r.tokens ++ us) (sym k)

  pub added-count : passed ≤ length m.tokens → length (added_tokens r m offset) ≡ length r.tokens + (length m.tokens - passed)
  added-count p =
      ap length added-tokens ∙ length-append r.tokens (all_shifted s (drop passed m.tokens))
      ∙ ap (λ i. length r.tokens + i) (length-mapped (shifted s.names s.sources s.position) (drop passed m.tokens) ∙ length-drop passed m.tokens)

  pub addition-is : (chunk : TokenChunk) → AreInBounds r.tokens → AreEntriesInBounds r.ignore_list → AreEntriesInBounds (raised_ignore_list s.sources m.ignore_list)
      → length r.names + length m.names ≤ 4294967295 → length r.sources + length m.sources ≤ 4294967295
      → passed ≤ length m.tokens → length r.tokens + (length m.tokens - passed) ≤ 4294967295
      → chunk ≡ chunk_from (state_at r.tokens (length r.tokens)) (length r.tokens) (length r.tokens + (length m.tokens - passed))
      → IsAddition r m offset (record { shift = s; passed = passed; chunk = chunk })
  addition-is chunk b e f nn ss p tt c = record {
    names = n;
    sources = o;
    position = l;
    passed = p;
    kept = k;
    chunk = c ∙ ap (chunk_from (state_at r.tokens (length r.tokens)) (length r.tokens)) (sym (added-count p));
    entries = f;
    within = λ h. record {
      names = omega (arith, length-append r.names m.names);
      sources = omega (arith, length-append r.sources m.sources);
      tokens = omega (arith, added-count p);
      in_bounds = subst AreInBounds (sym added-tokens) (All-append IsInBounds r.tokens (all_shifted s (drop passed m.tokens)) b h);
      ignore_list = appended-in-bounds r.ignore_list _ e (subst (λ i. AreEntriesInBounds (raised_ignore_list i m.ignore_list)) o f);
    };
  }

after : {A : Type 0} (P : A → Type 0) (xs ys : List A) → All P (xs ++ ys) → All P ys
after P xs ys h = All-from_recursion P ys (after-each P xs ys (recursion_from_All P (xs ++ ys) h))

-- if a join with one more map is within limits, the tokens that are kept are in bounds once they are moved
pub kept-in-bounds : (r m : MapRecord) (offset : Position) (a : Addition) → IsAddition r m offset a → IsWithinLimits (added r m offset) → AreInBounds (all_shifted a.shift (drop a.passed m.tokens))
kept-in-bounds r m offset a h w =
    subst AreInBounds (sym h.kept) (after IsInBounds r.tokens (without_repeat is_same_token (last r.tokens) (all_shifted a.shift m.tokens))
    (subst (λ us. AreInBounds (r.tokens ++ without_repeat is_same_token (last r.tokens) us)) (sym (shifted-by r offset a.shift h.names h.sources h.position m.tokens)) w.in_bounds))

-- a join with one more map is not within limits exactly if a token that is kept is not in bounds
pub too-large : (r m : MapRecord) (offset : Position) (a : Addition) → IsAddition r m offset a → (kept : List TokenRecord) → kept ≡ drop a.passed m.tokens
    → (P : Type 0) → P ↔ ¬ (AreInBounds (all_shifted a.shift kept)) → P ↔ ¬ (IsWithinLimits (added r m offset))
too-large r m offset a h kept e P q = (
  λ p w. q.0 p (subst (λ ts. AreInBounds (all_shifted a.shift ts)) (sym e) (kept-in-bounds r m offset a h w)),
  λ n. q.1 (λ b. n (h.within (subst (λ ts. AreInBounds (all_shifted a.shift ts)) e b))),
)

-- an error as the result of a call
pub as-result : (e : Error) (Q : Type 0) → (e ≡ TooLarge) ↔ Q → IsErrOf {T = Unit {0}} (Err e) TooLarge ↔ Q
as-result e Q h = (λ p. let same : e ≡ TooLarge = cc in h.0 same, λ q. ap (λ x. Err x) (h.1 q))

pub as-carried : (result : Result (Unit {0}) Error) (e : Error) (Q : Type 0) → IsErrAnd result (λ x. x ≡ e) → IsErrOf {T = Unit {0}} (Err e) TooLarge ↔ Q → IsErrOf result TooLarge ↔ Q
as-carried (Ok x) e Q same h = absurd same
as-carried (Err x) e Q same h = subst (λ y. IsErrOf {T = Unit {0}} (Err y) TooLarge ↔ Q) (sym same) h

module _ (r m : MapRecord) (offset : Position) (a : Addition) (h : IsAddition r m offset a) (chunks : List TokenChunk) (has : r.token_chunks ≡ Some chunks)
    (each : length r.sources ≡ length r.source_contents)
    (ns ss : List Text) (cs : List (Option Text)) (ts : List TokenRecord) (ks : List TokenChunk) (is : Option (List ℕ))
    (en : ns ≡ r.names ++ m.names) (es : ss ≡ r.sources ++ m.sources) (ec : cs ≡ r.source_contents ++ fitted (length m.sources) m.source_contents)
    (et : ts ≡ r.tokens ++ all_shifted a.shift (drop a.passed m.tokens)) (ek : ks ≡ chunks ++ a.chunk ∷ [])
    (ei : is ≡ appended_ignore_lists r.ignore_list (raised_ignore_list a.shift.sources m.ignore_list)) where
  contents-is : cs ≡ fitted (length (r.sources ++ m.sources)) (r.source_contents ++ m.source_contents)
  contents-is = ec ∙ sym (ap (λ n. fitted n (r.source_contents ++ m.source_contents)) (length-append r.sources m.sources) ∙ fitted-more r.sources m.sources r.source_contents m.source_contents each)

  tokens-is : ts ≡ added_tokens r m offset
  tokens-is = et ∙ sym (added-tokens r m offset a.shift a.passed h.names h.sources h.position h.kept)

  chunks-is : ks ≡ unwrap_or r.token_chunks [] ++ added_chunk r m offset ∷ []
  chunks-is = ek ∙ ap (λ k. chunks ++ k ∷ []) h.chunk ∙ ap (λ o. unwrap_or o [] ++ added_chunk r m offset ∷ []) (sym has)

  entries-is : is ≡ added_ignore_list r m
  entries-is = ei ∙ ap (λ n. appended_ignore_lists r.ignore_list (raised_ignore_list n m.ignore_list)) h.sources

  -- the new lists make the join with one more map
  pub added-is : record { file = None; names = ns; source_root = None; sources = ss; source_contents = cs; tokens = ts; token_chunks = Some ks; ignore_list = is; debug_id = None } ≡ added r m offset
  added-is = rw (en, es, contents-is, tokens-is, chunks-is, entries-is) refl

  -- the new lists are those of a join in the making
  pub join-is : IsWithinLimits (added r m offset) → ChunksFit r.tokens chunks → IsJoin ns ss cs ts ks is
  join-is w f = rw (en, es, contents-is, tokens-is, chunks-is, entries-is) (record {
    names = w.names;
    sources = w.sources;
    contents = sym (length-fitted (length (r.sources ++ m.sources)) (r.source_contents ++ m.source_contents));
    tokens = w.tokens;
    in_bounds = w.in_bounds;
    fit = fit-added r m offset (subst (λ o. ChunksFit r.tokens (unwrap_or o [])) (sym has) f);
    entries = w.ignore_list;
  })

-- the record of a join, by lists that equal its own
pub by-lists : (r : MapRecord) {ns ms ss us : List Text} {cs ds : List (Option Text)} {ts vs : List TokenRecord} {ks ls : List TokenChunk} {is js : Option (List ℕ)}
    → ns ≡ ms → ss ≡ us → cs ≡ ds → ts ≡ vs → ks ≡ ls → is ≡ js
    → record { file = None; names = ms; source_root = None; sources = us; source_contents = ds; tokens = vs; token_chunks = Some ls; ignore_list = js; debug_id = None } ≡ r
    → record { file = None; names = ns; source_root = None; sources = ss; source_contents = cs; tokens = ts; token_chunks = Some ks; ignore_list = is; debug_id = None } ≡ r
by-lists r en es ec et ek ei h = rw (en, es, ec, et, ek, ei) h

-- what an add gives, where the join with the map after it is that of another map
pub as-added : {result : Result (Unit {0}) Error} {old new : MapRecord} (m n : MapRecord) {offset : Position} → added old m offset ≡ added old n offset
    → IsAdded result old new m offset → IsAdded result old new n offset
as-added {result = result} {old = old} {new = new} m n e h = record {
  joined = subst (λ r. OnOk result (new ≡ r)) e h.joined;
  limits = subst (λ r. OnOk result (IsWithinLimits r)) e h.limits;
  too_large = subst (λ r. IsErrOf result TooLarge ↔ ¬ (IsWithinLimits r)) e h.too_large;
  error = h.error;
  unchanged = h.unchanged;
}

-- as many items as there are after some are all of them
all-after-some : {A : Type 0} (p : ℕ) (xs : List A) → take (length xs - p) (drop p xs) ≡ drop p xs
all-after-some p xs = take_all (length xs - p) (drop p xs) (omega (arith, length-drop p xs))

-- the items of a slice after some, by those of the list that it is of
pub kept : {A : Type 0} (p : ℕ) {xs ys : List A} → xs ≡ ys → take (length xs - p) (drop p xs) ≡ drop p ys
kept p {xs = xs} e = all-after-some p xs ∙ ap (drop p) e

-- lists that are equal, end to end
pub glued : {A : Type 0} {xs ys us vs : List A} → xs ≡ ys → us ≡ vs → xs ++ us ≡ ys ++ vs
glued {xs = xs} {ys = ys} {us = us} {vs = vs} p q = ap (λ zs. zs ++ us) p ∙ ap (λ zs. ys ++ zs) q

-- ---- many maps
-- a join is within limits if it is so after further adds
pub front-within : (r : MapRecord) (ms : List (MapRecord × Position)) → IsWithinLimits (added_all r ms) → IsWithinLimits r
front-within r ms w =
    let f = added_all-continues r ms in
    record {
      names = omega (arith, w.names, length-front r.names (added_all r ms).names f.names);
      sources = omega (arith, w.sources, length-front r.sources (added_all r ms).sources f.sources);
      tokens = omega (arith, w.tokens, length-front r.tokens (added_all r ms).tokens f.tokens);
      in_bounds = All-from_recursion IsInBounds r.tokens (all-front IsInBounds r.tokens (added_all r ms).tokens f.tokens (recursion_from_All IsInBounds (added_all r ms).tokens w.in_bounds));
      ignore_list = front-in-bounds r ms w.ignore_list;
    }

pub nothing-within : IsWithinLimits nothing_joined
nothing-within = record { names = omega arith; sources = omega arith; tokens = omega arith; in_bounds = All-from_recursion IsInBounds [] tt; ignore_list = tt }

-- the error of an add, as the error of all adds
pub error-of-all : (r m : MapRecord) (offset : Position) (ms rest : List (MapRecord × Position)) (all : MapRecord) → added_all r ms ≡ all → ms ≡ (m, offset) ∷ rest → (e : Error)
    → (e ≡ OutOfMemory) ⊎ (e ≡ TooLarge) → (e ≡ TooLarge → ¬ (IsWithinLimits (added r m offset))) → (e ≡ OutOfMemory) ⊎ ((e ≡ TooLarge) × ¬ (IsWithinLimits all))
error-of-all r m offset ms rest all p q e (inl o) h = inl o
error-of-all r m offset ms rest all p q e (inr l) h =
    inr (l, λ w. h l (front-within (added r m offset) rest (subst IsWithinLimits (sym p ∙ ap (added_all r) q) w)))

-- the records of owned maps, with one map more
pub records_pushed : (ms : List (SourceMapParts × Position)) (m : SourceMapParts × Position) (ns : List (SourceMapParts × Position)) → ns ≡ ms ++ m ∷ [] → owned_records ns ≡ owned_records ms ++ (record_of_parts m.0, m.1) ∷ []
records_pushed ms m ns e = ap owned_records e ∙ map-append (λ (m : SourceMapParts × Position). (record_of_parts m.0, m.1)) ms (m ∷ [])
