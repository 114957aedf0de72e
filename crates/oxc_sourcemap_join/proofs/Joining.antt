-- The chunks of a join fit its tokens, and more maps leave what it has.
use Rattle.std.proofs.Common.{◌≡◌, ℕ, ◌≤◌, List, [], ◌∷◌, ◌++◌, map, length, reverse, refl, sym, ap}
use Rattle.std.proofs.Common.{◌∙◌, subst, append_assoc, ◌+◌, arith, Option, Some}
use Rattle.std.specs.List.{AllByRecursion}
use Rattle.std.specs.Option.{IfSome, unwrap_or}
use Rattle.std.proofs.lemmas.List.{append-nil, length-append, take-append-le}
use Rattle.oxc_sourcemap_tokens.specs.declared.token.TokenChunk.{TokenChunk}
use Rattle.oxc_sourcemap_tokens.specs.Token.{TokenRecord, last}
use Rattle.oxc_sourcemap_tokens.specs.State.{state_at, state_after, initial}
use Rattle.oxc_sourcemap_tokens.specs.Chunks.{ChunksFitFrom, ChunksFit, chunk_from}
use Rattle.oxc_sourcemap_parts.specs.Record.{MapRecord}
use Rattle.oxc_sourcemap_tokens.specs.declared.position.Position.{Position}
use Rattle.oxc_sourcemap_join.specs.Joined.{shifted, is_same_token, without_repeat, added_chunk}
use Rattle.oxc_sourcemap_join.specs.Joined.{added, nothing_joined, added_all, joined}

-- the state at an index does not depend on the tokens from there on
state-front : (xs zs : List TokenRecord) (i : ℕ) → i ≤ length xs → state_at xs i ≡ state_at (xs ++ zs) i
state-front xs zs i h = ap (λ ys. state_after initial (reverse ys)) (sym (take-append-le i xs zs h))

fit-more : (xs zs : List TokenRecord) (index : ℕ) (cs : List TokenChunk) → ChunksFitFrom xs index cs → ChunksFitFrom (xs ++ zs) index (cs ++ chunk_from (state_at xs (length xs)) (length xs) (length (xs ++ zs)) ∷ [])
fit-more xs zs index [] h =
    let e = length-append xs zs in
    (record { starts = sym h; ordered = omega arith; within = omega arith; true_header = state-front xs zs (length xs) (omega arith) }, refl)
fit-more xs zs index (c ∷ cs) h =
    let e = length-append xs zs in
    let f = h.0 in
    let o = f.ordered in
    let w = f.within in
    (record { starts = f.starts; ordered = o; within = omega arith; true_header = f.true_header ∙ state-front xs zs c.start (omega arith) }, fit-more xs zs c.end cs h.1)

-- if the chunks of a join fit, they do so after one more map
pub fit-added : (r m : MapRecord) (offset : Position) → ChunksFit r.tokens (unwrap_or r.token_chunks []) → ChunksFit (added r m offset).tokens (unwrap_or (added r m offset).token_chunks [])
fit-added r m offset h = fit-more r.tokens (without_repeat is_same_token (last r.tokens) (map (shifted (length r.names) (length r.sources) offset) m.tokens)) 0 (unwrap_or r.token_chunks []) h

-- a map with so many chunks, which fit
pub record HasFitting (r : MapRecord) (number : ℕ) : Type 0 where
  pub chunks : List TokenChunk
  pub has : r.token_chunks ≡ Some chunks
  pub count : length chunks ≡ number
  pub fit : ChunksFit r.tokens chunks

fitting-added : (r m : MapRecord) (offset : Position) (number : ℕ) → HasFitting r number → HasFitting (added r m offset) (number + 1)
fitting-added r m offset number f =
    let old : unwrap_or r.token_chunks [] ≡ f.chunks = ap (λ o. unwrap_or o []) f.has in
    record {
      chunks = unwrap_or r.token_chunks [] ++ added_chunk r m offset ∷ [];
      has = refl;
      count = length-append (unwrap_or r.token_chunks []) (added_chunk r m offset ∷ []) ∙ ap (λ cs. length cs + 1) old ∙ ap (λ n. n + 1) f.count;
      fit = fit-added r m offset (subst (ChunksFit r.tokens) (sym old) f.fit);
    }

fitting-added_all : (r : MapRecord) (ms : List (MapRecord × Position)) (number : ℕ) → HasFitting r number → HasFitting (added_all r ms) (number + length ms)
fitting-added_all r [] number f = subst (HasFitting r) (omega arith) f
fitting-added_all r (m ∷ ms) number f =
    let e : number + 1 + length ms ≡ number + length (m ∷ ms) = omega arith in
    subst (HasFitting (added_all (added r m.0 m.1) ms)) e (fitting-added_all (added r m.0 m.1) ms (number + 1) (fitting-added r m.0 m.1 number f))

-- a join has a chunk for each map, and its chunks fit
pub fitting_chunks : (ms : List (MapRecord × Position)) → HasFitting (joined ms) (length ms)
fitting_chunks ms =
    let e : 0 + length ms ≡ length ms = omega arith in
    subst (HasFitting (joined ms)) e (fitting-added_all nothing_joined ms 0 (record { chunks = []; has = refl; count = refl; fit = refl }))

if-some : (tokens : List TokenRecord) (o : Option (List TokenChunk)) (cs : List TokenChunk) → o ≡ Some cs → ChunksFit tokens cs → IfSome o (ChunksFit tokens)
if-some tokens o cs e h = rw e h

pub chunks_joined : (ms : List (MapRecord × Position)) → IfSome (joined ms).token_chunks (ChunksFit (joined ms).tokens)
chunks_joined ms = let f = fitting_chunks ms in if-some (joined ms).tokens (joined ms).token_chunks f.chunks f.has f.fit

-- ---- fronts
-- a list is the front of another
abbrev pub IsFront : {A : Type 0} → List A → List A → Type 0
IsFront {A = A} xs ys = (zs : List A) × (ys ≡ xs ++ zs)

front-self : {A : Type 0} (xs : List A) → IsFront xs xs
front-self xs = ([], sym (append-nil xs))

front-more : {A : Type 0} (xs ys zs : List A) → IsFront xs ys → IsFront ys zs → IsFront xs zs
front-more xs ys zs f g = (f.0 ++ g.0, g.1 ∙ ap (λ us. us ++ g.0) f.1 ∙ append_assoc xs f.0 g.0)

pub length-front : {A : Type 0} (xs ys : List A) → IsFront xs ys → length xs ≤ length ys
length-front xs ys f = let e = ap length f.1 ∙ length-append xs f.0 in omega arith

all-left : {A : Type 0} (P : A → Type 0) (xs ys : List A) → AllByRecursion P (xs ++ ys) → AllByRecursion P xs
all-left P [] ys h = tt
all-left P (x ∷ xs) ys h = (h.0, all-left P xs ys h.1)

pub all-front : {A : Type 0} (P : A → Type 0) (xs ys : List A) → IsFront xs ys → AllByRecursion P ys → AllByRecursion P xs
all-front P xs ys f h = all-left P xs f.0 (subst (AllByRecursion P) f.1 h)

-- all lists of a join are fronts of those after further adds
pub record Continues (r s : MapRecord) : Type 0 where
  pub names : IsFront r.names s.names
  pub sources : IsFront r.sources s.sources
  pub tokens : IsFront r.tokens s.tokens

pub added-continues : (r m : MapRecord) (offset : Position) → Continues r (added r m offset)
added-continues r m offset = record {
  names = (m.names, refl);
  sources = (m.sources, refl);
  tokens = (without_repeat is_same_token (last r.tokens) (map (shifted (length r.names) (length r.sources) offset) m.tokens), refl);
}

pub added_all-continues : (r : MapRecord) (ms : List (MapRecord × Position)) → Continues r (added_all r ms)
added_all-continues r [] = record { names = front-self r.names; sources = front-self r.sources; tokens = front-self r.tokens }
added_all-continues r (m ∷ ms) =
    let s = added r m.0 m.1 in
    let f = added-continues r m.0 m.1 in
    let g = added_all-continues s ms in
    record { names = front-more _ _ _ f.names g.names; sources = front-more _ _ _ f.sources g.sources; tokens = front-more _ _ _ f.tokens g.tokens }

pub added_all-append : (r : MapRecord) (ms ns : List (MapRecord × Position)) → added_all r (ms ++ ns) ≡ added_all (added_all r ms) ns
added_all-append r [] ns = refl
added_all-append r (m ∷ ms) ns = added_all-append (added r m.0 m.1) ms ns

pub joined-continues : (ms ns : List (MapRecord × Position)) → Continues (joined ms) (joined (ms ++ ns))
joined-continues ms ns = subst (Continues (joined ms)) (sym (added_all-append nothing_joined ms ns)) (added_all-continues (joined ms) ns)
