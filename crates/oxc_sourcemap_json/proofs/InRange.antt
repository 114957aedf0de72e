-- The ids of a join are in range if those of its maps are.
use Rattle.std.proofs.Common.{ℕ, ◌+◌, ◌<◌, ◌≤◌, Bool, true, false, cond, List, [], ◌∷◌, ◌++◌, map}
use Rattle.std.proofs.Common.{length, arith, Option, Some, None}
use Rattle.std.specs.List.{AllByRecursion}
use Rattle.std.specs.Option.{IfSome}
use Rattle.std.proofs.lemmas.List.{length-append}
use Rattle.oxc_sourcemap_tokens.specs.Token.{TokenRecord, last}
use Rattle.oxc_sourcemap_parts.specs.Record.{MapRecord}
use Rattle.oxc_sourcemap_parts.specs.Sound.{IsInRange, AreIdsInRange}
use Rattle.oxc_sourcemap_tokens.specs.declared.position.Position.{Position}
use Rattle.oxc_sourcemap_join.specs.Joined.{raised_id, shifted, is_same_token, without_repeat}
use Rattle.oxc_sourcemap_join.specs.Joined.{raised_ignore_list, appended_ignore_lists, added}

both : {A : Type 0} (P : A → Type 0) (xs ys : List A) → AllByRecursion P xs → AllByRecursion P ys → AllByRecursion P (xs ++ ys)
both P [] ys h k = k
both P (x ∷ xs) ys h k = (h.0, both P xs ys h.1 k)

id-wider : (o : Option ℕ) (a b : ℕ) → a ≤ b → IfSome o (λ id. id < a) → IfSome o (λ id. id < b)
id-wider None a b l h = tt
id-wider (Some i) a b l h = omega (arith, l, h)

id-raised : (o : Option ℕ) (k a b : ℕ) → k + a ≤ b → IfSome o (λ id. id < a) → IfSome (raised_id k o) (λ id. id < b)
id-raised None k a b l h = tt
id-raised (Some i) k a b l h = omega (arith, l, h)

tokens-wider : (ns ss ms rs : ℕ) → ns ≤ ms → ss ≤ rs → (ts : List TokenRecord) → AllByRecursion (IsInRange ns ss) ts → AllByRecursion (IsInRange ms rs) ts
tokens-wider ns ss ms rs n s [] h = tt
tokens-wider ns ss ms rs n s (t ∷ ts) h =
    (record { source_id = id-wider t.source_id ss rs s h.0.source_id; name_id = id-wider t.name_id ns ms n h.0.name_id }, tokens-wider ns ss ms rs n s ts h.1)

tokens-shifted : (names sources : ℕ) (offset : Position) (ns ss ms rs : ℕ) → names + ns ≤ ms → sources + ss ≤ rs → (ts : List TokenRecord)
    → AllByRecursion (IsInRange ns ss) ts → AllByRecursion (IsInRange ms rs) (map (shifted names sources offset) ts)
tokens-shifted names sources offset ns ss ms rs n s [] h = tt
tokens-shifted names sources offset ns ss ms rs n s (t ∷ ts) h = (
  record { source_id = id-raised t.source_id sources ss rs s h.0.source_id; name_id = id-raised t.name_id names ns ms n h.0.name_id },
  tokens-shifted names sources offset ns ss ms rs n s ts h.1,
)

without : {A : Type 0} (P : A → Type 0) (same : A → A → Bool) (o : Option A) (us : List A) → AllByRecursion P us → AllByRecursion P (without_repeat same o us)
without P same None us h = h
without P same (Some x) [] h = h
without P same (Some x) (u ∷ us) h = elim (same x u) as (λ b. AllByRecursion P (cond b us (u ∷ us))) [ true ↦ h.1 | false ↦ h ]

list-wider : (a b : ℕ) → a ≤ b → (ids : List ℕ) → AllByRecursion (λ id. id < a) ids → AllByRecursion (λ id. id < b) ids
list-wider a b l [] h = tt
list-wider a b l (id ∷ ids) h = (omega (arith, l, h.0), list-wider a b l ids h.1)

list-raised : (k a b : ℕ) → k + a ≤ b → (ids : List ℕ) → AllByRecursion (λ id. id < a) ids → AllByRecursion (λ id. id < b) (map (λ id. id + k) ids)
list-raised k a b l [] h = tt
list-raised k a b l (id ∷ ids) h = (omega (arith, l, h.0), list-raised k a b l ids h.1)

lists-appended : (p q : Option (List ℕ)) (k a c b : ℕ) → a ≤ b → k + c ≤ b → IfSome p (AllByRecursion (λ id. id < a)) → IfSome q (AllByRecursion (λ id. id < c))
    → IfSome (appended_ignore_lists p (raised_ignore_list k q)) (AllByRecursion (λ id. id < b))
lists-appended None None k a c b l m h g = tt
lists-appended (Some xs) None k a c b l m h g = list-wider a b l xs h
lists-appended None (Some ys) k a c b l m h g = list-raised k c b m ys g
lists-appended (Some xs) (Some ys) k a c b l m h g = both (λ id. id < b) xs _ (list-wider a b l xs h) (list-raised k c b m ys g)

pub added-in-range : (r m : MapRecord) (offset : Position) → AreIdsInRange r → AreIdsInRange m → AreIdsInRange (added r m offset)
added-in-range r m offset h k =
    let names = length-append r.names m.names in
    let sources = length-append r.sources m.sources in
    let front = tokens-wider (length r.names) (length r.sources) (length (r.names ++ m.names)) (length (r.sources ++ m.sources)) (omega (arith, names)) (omega (arith, sources)) r.tokens h.tokens in
    let moved = tokens-shifted (length r.names) (length r.sources) offset (length m.names) (length m.sources) (length (r.names ++ m.names)) (length (r.sources ++ m.sources))
    (omega (arith, names)) (omega (arith, sources)) m.tokens k.tokens in
    record {
      tokens = both (IsInRange (length (r.names ++ m.names)) (length (r.sources ++ m.sources))) r.tokens _ front (without _ is_same_token (last r.tokens) _ moved);
      ignore_list = lists-appended r.ignore_list m.ignore_list (length r.sources) (length r.sources) (length m.sources) (length (r.sources ++ m.sources))
          (omega (arith, sources)) (omega (arith, sources)) h.ignore_list k.ignore_list;
    }
