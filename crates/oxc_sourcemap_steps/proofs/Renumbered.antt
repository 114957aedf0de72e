-- A token with its new ids, as they are found.
use Rattle.std.proofs.Common.{◌≡◌, ◌≢◌, refl, sym, ap, ◌∙◌, ℕ, ◌<◌, true, List, map, slice_get}
use Rattle.std.proofs.Common.{Option, Some, None, option_map, nat_lt, cond, arith}
use Rattle.std.proofs.lemmas.Bool.Decides.{nat_tests}
use Rattle.std.specs.Option.{option_and_then}
use Rattle.oxc_sourcemap_tokens.specs.Token.{TokenRecord, id_of, kept_id}
use Rattle.oxc_sourcemap_steps.specs.SimplifySteps.{index_in, own_index, listed_once, IsNewId}
use Rattle.oxc_sourcemap_steps.specs.SimplifySteps.{target_at, token_to}
use Rattle.oxc_sourcemap_steps.specs.declared.simplify.sources.Source.{Source}
use Rattle.oxc_sourcemap_steps.proofs.SimplifyTables.{get-map}

is-id : (n : ℕ) → n < 4294967295 → id_of n ≡ Some n
is-id n h = ap (λ b. cond b (Some n) None) (let e : nat_lt n 4294967295 ≡ true = grind (arith, nat_tests, h) in e)

-- the id that a token keeps is the number of the place
new-id : (ks : List ℕ) (o : Option Source) (id : ℕ) → IsNewId ks o id → id_of id ≡ option_and_then (λ s. option_and_then (λ k. index_in k ks) (own_index s)) o
new-id ks None id h = ap id_of h
new-id ks (Some s) id h = is-id id h.1 ∙ sym h.0.own

name-place : (ns : List ℕ) (o : Option ℕ) → option_and_then (λ s. option_and_then (λ k. index_in k ns) (own_index s)) (option_map listed_once o) ≡ option_and_then (λ k. index_in k ns) o
name-place ns None = refl
name-place ns (Some k) = refl

pub listed-name : (names : List ℕ) (id : Option ℕ) → option_and_then (slice_get (map listed_once names)) id ≡ option_map listed_once (option_and_then (slice_get names) id)
listed-name names None = refl
listed-name names (Some i) = get-map listed_once names i

pub renumbered-token : (names ks ns : List ℕ) (t : TokenRecord) (o p : Option Source) (id name : ℕ) → IsNewId ks o id → id ≢ 4294967295 → IsNewId ns p name → p ≡ option_map listed_once (option_and_then (slice_get names) t.name_id)
    → record t { source_id = kept_id (Some id); name_id = kept_id (Some name) } ≡ token_to ks ns t (option_map (target_at names t) o)
renumbered-token names ks ns t None p id name h none g e = absurd (none h)
renumbered-token names ks ns t (Some s) p id name h none g e =
    let source = new-id ks (Some s) id h in
    let named = new-id ns p name g ∙ ap (option_and_then (λ s. option_and_then (λ k. index_in k ns) (own_index s))) e ∙ name-place ns (option_and_then (slice_get names) t.name_id) in
    ap (λ i. record t { source_id = i; name_id = id_of name }) source
    ∙ ap (λ i. record t { source_id = option_and_then (λ k. index_in k ks) (own_index s); name_id = i }) named

pub fields-by : (a b c d line col src_line src_col : ℕ) (e f : Option ℕ) → a ≡ line → b ≡ col → c ≡ src_line → d ≡ src_col
    → ◌≡◌ {A = TokenRecord} (record { dst_line = a; dst_col = b; src_line = c; src_col = d; source_id = e; name_id = f }) (record { dst_line = line; dst_col = col; src_line = src_line; src_col = src_col; source_id = e; name_id = f })
fields-by a b c d line col src_line src_col e f p q r s = rw (p, q, r, s)
