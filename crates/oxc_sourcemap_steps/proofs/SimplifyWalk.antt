-- The one pass over the tokens of a map: what it leaves to do, with each token that it passes.
use Rattle.std.proofs.Common.{◌≡◌, refl, sym, ap, ◌∙◌, ℕ, ◌+◌, ◌*◌, ◌<◌, ◌≤◌, Bool, true, false}
use Rattle.std.proofs.Common.{cond, ◌&&◌, ◌||◌, ◌==◌, nat_le, nat_lt, List, [], ◌∷◌, ◌++◌, map}
use Rattle.std.proofs.Common.{length, Bor, option_map, get_or, slice_get, Option, Some, None}
use Rattle.std.proofs.Common.{is_some, arith, ◌⊎◌, inl, inr, append-nil}
use Rattle.std.proofs.lemmas.Bool.{and_parts}
use Rattle.std.proofs.lemmas.Bool.Decides.{nat_tests}
use Rattle.std.specs.List.{list_all}
use Rattle.std.specs.Option.{unwrap_or}
use Rattle.oxc_sourcemap_tokens.specs.Results.{lent_item}
use Rattle.oxc_sourcemap_tokens.specs.Token.{TokenRecord}
use Rattle.oxc_sourcemap_parts.specs.Sorted.{may_precede, token_line, token_column}
use Rattle.oxc_sourcemap_parts.specs.Sorted.{are_tokens_sorted}
use Rattle.oxc_sourcemap_steps.specs.Simple.{found_items}
use Rattle.oxc_sourcemap_steps.specs.SimplifySteps.{is_behind, is_before, repeats_by, kept_from}
use Rattle.oxc_sourcemap_steps.specs.SimplifySteps.{with_all, with_name, with_source, token_to}
use Rattle.oxc_sourcemap_steps.specs.SimplifySteps.{target_by, shifted_token, position_of}
use Rattle.oxc_sourcemap_steps.specs.SimplifySteps.{AreTooMany, index_in}
use Rattle.oxc_sourcemap_steps.specs.declared.simplify.tokens.Tables.{Tables}
use Rattle.oxc_sourcemap_steps.proofs.SimplifyFound.{found_from, next-of, found-is}
use Rattle.oxc_sourcemap_steps.proofs.SimplifyKept.{kept-then, kept-else, few-then, few-else}
use Rattle.oxc_sourcemap_steps.proofs.SimplifyKept.{past-limit}
use Rattle.oxc_sourcemap_steps.proofs.SimplifyKept.{is-in-range}
use Rattle.oxc_sourcemap_steps.proofs.Needed as needed
use Rattle.oxc_sourcemap_steps.proofs.NewIds.{settled, sources-grow, names-grow, at-get, get-none}

-- ---- positions
-- tokens behind this one, if any, are sorted, and it may precede them
abbrev pub sorted_from : Option TokenRecord → List TokenRecord → Bool
sorted_from None ts = are_tokens_sorted ts
sorted_from (Some p) ts = are_tokens_sorted (p ∷ ts)

-- columns are below the number that lines are multiplied by
abbrev pub IsLow : Option TokenRecord → Type 0
IsLow None = Unit {0}
IsLow (Some p) = p.dst_col < 4294967296

onward : (p t : TokenRecord) → t.dst_col < 4294967296 → p.dst_col < 4294967296 → position_of (Some p) ≤ position_of (Some t) → may_precede token_line token_column p t ≡ true
onward p t h g e =
    elim (nat_lt p.dst_line t.dst_line) as (λ b. nat_lt p.dst_line t.dst_line ≡ b → (b || (p.dst_line == t.dst_line && nat_le p.dst_col t.dst_col)) ≡ true) [
      | true ↦ (λ q. refl)
      | false ↦ (λ q.
          let l : t.dst_line ≤ p.dst_line = grind (arith, nat_tests, q) in
          let same : p.dst_line ≡ t.dst_line = omega (arith, l, e, h, g) in
          let low : p.dst_col ≤ t.dst_col = omega (arith, same, e) in
          let a : (p.dst_line == t.dst_line) ≡ true = grind (arith, nat_tests, same) in
          let b : nat_le p.dst_col t.dst_col ≡ true = grind (arith, nat_tests, low) in
          rw (a, b) refl)
    ] refl

back : (p t : TokenRecord) → t.dst_col < 4294967296 → p.dst_col < 4294967296 → position_of (Some t) < position_of (Some p) → may_precede token_line token_column p t ≡ false
back p t h g e =
    let l : t.dst_line ≤ p.dst_line = omega (arith, e, h, g) in
    let a : nat_lt p.dst_line t.dst_line ≡ false = grind (arith, nat_tests, l) in
    elim (p.dst_line == t.dst_line) as (λ b. (p.dst_line == t.dst_line) ≡ b → (nat_lt p.dst_line t.dst_line || (b && nat_le p.dst_col t.dst_col)) ≡ false) [
      | true ↦ (λ q.
          let same : p.dst_line ≡ t.dst_line = grind (arith, nat_tests, q) in
          let high : t.dst_col < p.dst_col = omega (arith, same, e) in
          let b : nat_le p.dst_col t.dst_col ≡ false = grind (arith, nat_tests, high) in
          rw (a, b) refl)
      | false ↦ (λ q. rw a refl)
    ] refl

together : (p t : TokenRecord) → is_behind (Some p) t ≡ true → (p.dst_line ≡ t.dst_line) × (p.dst_col ≡ t.dst_col)
together p t e =
    let parts = and_parts (p.dst_line == t.dst_line) (p.dst_col == t.dst_col) e in
    (grind (arith, nat_tests, parts.0), grind (arith, nat_tests, parts.1))

and-true : (b : Bool) → (b && true) ≡ b
and-true true = refl
and-true false = refl

and-false : (b : Bool) → (b && false) ≡ false
and-false true = refl
and-false false = refl

-- a token is at the position of the one before it exactly if both have one number
pub behind-is : (p : Option TokenRecord) (t : TokenRecord) → t.dst_col < 4294967296 → IsLow p → (position_of (Some t) == position_of p && is_some p) ≡ is_behind p t
behind-is None t h g = and-false (position_of (Some t) == 0)
behind-is (Some p) t h g =
    and-true (position_of (Some t) == position_of (Some p))
    ∙ elim (p.dst_line == t.dst_line) as (λ b. (p.dst_line == t.dst_line) ≡ b → (position_of (Some t) == position_of (Some p)) ≡ (b && p.dst_col == t.dst_col)) [
      | true ↦ (λ q.
          let same : p.dst_line ≡ t.dst_line = grind (arith, nat_tests, q) in
          elim (p.dst_col == t.dst_col) as (λ b. (p.dst_col == t.dst_col) ≡ b → (position_of (Some t) == position_of (Some p)) ≡ b) [
            | true ↦ (λ r. let col : p.dst_col ≡ t.dst_col = grind (arith, nat_tests, r) in
                let e : t.dst_line * 4294967296 + t.dst_col ≡ p.dst_line * 4294967296 + p.dst_col = omega (arith, same, col) in grind (arith, nat_tests, e))
            | false ↦ (λ r. elim (position_of (Some t) == position_of (Some p)) as (λ b. (position_of (Some t) == position_of (Some p)) ≡ b → b ≡ false) [
              | true ↦ (λ s.
                  let e : t.dst_line * 4294967296 + t.dst_col ≡ p.dst_line * 4294967296 + p.dst_col = grind (arith, nat_tests, s) in
                  let col : p.dst_col ≡ t.dst_col = omega (arith, e, same) in
                  let on : (p.dst_col == t.dst_col) ≡ true = grind (arith, nat_tests, col) in cc (on, r))
              | false ↦ (λ s. refl)
            ] refl)
          ] refl)
      | false ↦ (λ q. elim (position_of (Some t) == position_of (Some p)) as (λ b. (position_of (Some t) == position_of (Some p)) ≡ b → b ≡ false) [
        | true ↦ (λ s.
            let e : t.dst_line * 4294967296 + t.dst_col ≡ p.dst_line * 4294967296 + p.dst_col = grind (arith, nat_tests, s) in
            let same : p.dst_line ≡ t.dst_line = omega (arith, e, h, g) in
            let on : (p.dst_line == t.dst_line) ≡ true = grind (arith, nat_tests, same) in cc (on, q))
        | false ↦ (λ s. refl)
      ] refl)
    ] refl

sorted-next : (p : Option TokenRecord) (t : TokenRecord) (ts : List TokenRecord) → t.dst_col < 4294967296 → IsLow p → position_of p ≤ position_of (Some t) → sorted_from p (t ∷ ts) ≡ sorted_from (Some t) ts
sorted-next None t ts h g e = refl
sorted-next (Some p) t ts h g e = ap (λ b. b && are_tokens_sorted (t ∷ ts)) (onward p t h g e)

sorted-moved : (p t : TokenRecord) (ts : List TokenRecord) → p.dst_line ≡ t.dst_line → p.dst_col ≡ t.dst_col → sorted_from (Some t) ts ≡ sorted_from (Some p) ts
sorted-moved p t [] e f = refl
sorted-moved p t (u ∷ us) e f =
    ap (λ n. (nat_lt n u.dst_line || (n == u.dst_line && nat_le t.dst_col u.dst_col)) && are_tokens_sorted (u ∷ us)) (sym e)
    ∙ ap (λ n. (nat_lt p.dst_line u.dst_line || (p.dst_line == u.dst_line && nat_le n u.dst_col)) && are_tokens_sorted (u ∷ us)) (sym f)

-- a token before the one in front of it
pub goes-back : (p : Option TokenRecord) (t : TokenRecord) (ts us : List TokenRecord) → us ≡ t ∷ ts → t.dst_col < 4294967296 → IsLow p → position_of (Some t) < position_of p → sorted_from p us ≡ false
goes-back None t ts us split h g e = absurd (omega (arith, e))
goes-back (Some p) t ts us split h g e = ap (sorted_from (Some p)) split ∙ ap (λ b. b && are_tokens_sorted (t ∷ ts)) (back p t h g e)

-- ---- tokens that are found
found-moved : (p t : TokenRecord) (ts : List TokenRecord) → p.dst_line ≡ t.dst_line → p.dst_col ≡ t.dst_col → found_from (Some t) ts ≡ found_from (Some p) ts
found-moved p t [] e f = refl
found-moved p t (u ∷ us) e f =
    let more = found_from (Some u) us in
    ap (λ n. cond ((n == u.dst_line && t.dst_col == u.dst_col) && is_before u (next-of us)) more (u ∷ more)) (sym e)
    ∙ ap (λ n. cond ((p.dst_line == u.dst_line && n == u.dst_col) && is_before u (next-of us)) more (u ∷ more)) (sym f)

-- one that no lookup finds
hidden-found : (p : Option TokenRecord) (t : TokenRecord) (ts : List TokenRecord) → is_behind p t ≡ true → is_before t (next-of ts) ≡ true → found_from p (t ∷ ts) ≡ found_from p ts
hidden-found None t ts e f = absurd (cc (e))
hidden-found (Some p) t ts e f =
    let more = found_from (Some t) ts in
    let same = together p t e in
    ap (λ b. cond (b && is_before t (next-of ts)) more (t ∷ more)) e ∙ ap (λ b. cond b more (t ∷ more)) f ∙ found-moved p t ts same.0 same.1

hidden-sorted : (p : Option TokenRecord) (t : TokenRecord) (ts : List TokenRecord) → t.dst_col < 4294967296 → IsLow p → is_behind p t ≡ true → sorted_from p (t ∷ ts) ≡ sorted_from p ts
hidden-sorted None t ts h g e = absurd (cc (e))
hidden-sorted (Some p) t ts h g e =
    let same = together p t e in
    sorted-next (Some p) t ts h g (omega (arith, same.0, same.1)) ∙ sorted-moved p t ts same.0 same.1

-- ---- the pass
-- What is left to do, with the token before it, whether that repeats another, what was needed and what was kept so far.
pub record Walk (tables : Tables) (tokens : List TokenRecord) (all-sources all-names : List ℕ) (p : Option TokenRecord) (repeats : Bool) (rest : List TokenRecord) (ks ls : List ℕ) (done : List TokenRecord) : Type 0 where
  pub low : IsLow p
  pub sources : with_all (with_source tables) ks (found_from p rest) ≡ all-sources
  pub names : with_all (with_name tables) ls (found_from p rest) ≡ all-names
  pub kept : done ++ map (λ t. token_to all-sources all-names t (target_by tables t)) (kept_from tables p repeats (found_from p rest))
      ≡ map (λ t. token_to all-sources all-names t (target_by tables t)) (kept_from tables None false (found_from None tokens))
  pub few : list_all is-in-range (kept_from tables p repeats (found_from p rest)) ≡ list_all is-in-range (kept_from tables None false (found_from None tokens))
  pub sorted : sorted_from p rest ≡ are_tokens_sorted tokens

target-stays : (tables : Tables) (m : Bool) (t : TokenRecord) → target_by tables (shifted_token m t) ≡ target_by tables t
target-stays tables true t = refl
target-stays tables false t = refl

module _ (tables : Tables) (tokens : List TokenRecord) (ss ns : List ℕ) (p : Option TokenRecord) (r : Bool) (rest : List TokenRecord) (sources names : List ℕ) (kept : List TokenRecord) (w : Walk tables tokens ss ns p r rest sources names kept)
    (t : TokenRecord) (ts : List TokenRecord) (split : rest ≡ t ∷ ts) where
  pub walk-hidden : t.dst_col < 4294967296 → (is_behind p t && is_before t (next-of ts)) ≡ true → Walk tables tokens ss ns p r ts sources names kept
  walk-hidden h e =
      let parts = and_parts (is_behind p t) (is_before t (next-of ts)) e in
      let same : found_from p ts ≡ found_from p rest = sym (ap (found_from p) split ∙ hidden-found p t ts parts.0 parts.1) in record {
        low = w.low;
        sources = ap (with_all (with_source tables) sources) same ∙ w.sources;
        names = ap (with_all (with_name tables) names) same ∙ w.names;
        kept = ap (λ us. kept ++ map (λ t. token_to ss ns t (target_by tables t)) (kept_from tables p r us)) same ∙ w.kept;
        few = ap (λ us. list_all is-in-range (kept_from tables p r us)) same ∙ w.few;
        sorted = sym (ap (sorted_from p) split ∙ hidden-sorted p t ts h w.low parts.0) ∙ w.sorted;
      }

  module _ (shown : (is_behind p t && is_before t (next-of ts)) ≡ false) (m b : Bool) (moves : m ≡ (is_behind p t && r)) (is : b ≡ repeats_by tables p t) where
    found : found_from p rest ≡ t ∷ found_from (Some t) ts
    found = ap (found_from p) split ∙ ap (λ b. cond b (found_from (Some t) ts) (t ∷ found_from (Some t) ts)) shown

    more-sources : with_all (with_source tables) (with_source tables sources t) (found_from (Some t) ts) ≡ ss
    more-sources = sym (ap (with_all (with_source tables) sources) found) ∙ w.sources

    more-names : with_all (with_name tables) (with_name tables names t) (found_from (Some t) ts) ≡ ns
    more-names = sym (ap (with_all (with_name tables) names) found) ∙ w.names

    -- the token, with its ids as they are in the end
    in-the-end : token_to (with_source tables sources t) (with_name tables names t) (shifted_token m t) (target_by tables t) ≡ token_to ss ns (shifted_token m t) (target_by tables (shifted_token m t))
    in-the-end =
        settled sources names ss ns (shifted_token m t) (target_by tables t)
        (λ k i e. ap (λ os. index_in k os) (sym more-sources) ∙ sources-grow tables (with_source tables sources t) (found_from (Some t) ts) k i e)
        (λ k i e. ap (λ os. index_in k os) (sym more-names) ∙ names-grow tables (with_name tables names t) (found_from (Some t) ts) k i e)
        ∙ ap (token_to ss ns (shifted_token m t)) (sym (target-stays tables m t))

    kept-by : (c : Bool) (new : List TokenRecord) → b ≡ c → new ≡ kept ++ cond b [] (token_to (with_source tables sources t) (with_name tables names t) (shifted_token m t) (target_by tables t) ∷ [])
        → new ++ map (λ t. token_to ss ns t (target_by tables t)) (kept_from tables (Some t) b (found_from (Some t) ts)) ≡ map (λ t. token_to ss ns t (target_by tables t)) (kept_from tables None false (found_from None tokens))
    kept-by true new e f =
        kept-else tables (λ t. token_to ss ns t (target_by tables t)) p r b t (found_from (Some t) ts) (found_from p rest) kept new _ found is e
        (f ∙ ap (λ c. kept ++ cond c [] (token_to (with_source tables sources t) (with_name tables names t) (shifted_token m t) (target_by tables t) ∷ [])) e ∙ append-nil kept) w.kept
    kept-by false new e f =
        kept-then tables (λ t. token_to ss ns t (target_by tables t)) p r m b t (found_from (Some t) ts) (found_from p rest) kept new _ found is e moves
        (f ∙ ap (λ c. kept ++ cond c [] (token_to (with_source tables sources t) (with_name tables names t) (shifted_token m t) (target_by tables t) ∷ [])) e ∙ ap (λ u. kept ++ u ∷ []) in-the-end) w.kept

    few-by : (c : Bool) → b ≡ c → (b ≡ false → (shifted_token m t).dst_col ≤ 4294967295) → list_all is-in-range (kept_from tables (Some t) b (found_from (Some t) ts)) ≡ list_all is-in-range (kept_from tables None false (found_from None tokens))
    few-by true e f = few-else tables p r b t (found_from (Some t) ts) (found_from p rest) _ found is e w.few
    few-by false e f = few-then tables p r m b t (found_from (Some t) ts) (found_from p rest) _ found is e moves (f e) w.few

    pub walk-next : (more-ss more-ns : List ℕ) (new : List TokenRecord) → t.dst_col < 4294967296 → position_of p ≤ position_of (Some t) → more-ss ≡ with_source tables sources t → more-ns ≡ with_name tables names t
        → new ≡ kept ++ cond b [] (token_to more-ss more-ns (shifted_token m t) (target_by tables t) ∷ []) → (b ≡ false → (shifted_token m t).dst_col ≤ 4294967295) → Walk tables tokens ss ns (Some t) b ts more-ss more-ns new
    walk-next more-ss more-ns new h e q n k f = record {
      low = h;
      sources = ap (λ os. with_all (with_source tables) os (found_from (Some t) ts)) q ∙ more-sources;
      names = ap (λ os. with_all (with_name tables) os (found_from (Some t) ts)) n ∙ more-names;
      kept = kept-by b new refl (k ∙ ap (λ os. kept ++ cond b [] (token_to os more-ns (shifted_token m t) (target_by tables t) ∷ [])) q ∙ ap (λ os. kept ++ cond b [] (token_to (with_source tables sources t) os (shifted_token m t) (target_by tables t) ∷ [])) n);
      few = few-by b refl f;
      sorted = sym (ap (sorted_from p) split ∙ sorted-next p t ts h w.low e) ∙ w.sorted;
    }

    -- too many of what is needed so far are too many in the end
    many : AreTooMany (with_source tables sources t) (with_name tables names t) → AreTooMany ss ns
    many (inl h) = let g = needed.sources-grow tables (with_source tables sources t) (found_from (Some t) ts) in let e = ap length more-sources in inl (omega (arith, h, g, e))
    many (inr h) = let g = needed.names-grow tables (with_name tables names t) (found_from (Some t) ts) in let e = ap length more-names in inr (omega (arith, h, g, e))

    pub walk-error : AreTooMany (with_source tables sources t) (with_name tables names t) ⊎ ((repeats_by tables p t ≡ false) × (4294967295 < (shifted_token m t).dst_col))
        → AreTooMany ss ns ⊎ (list_all is-in-range (kept_from tables None false (found_items token_line token_column tokens)) ≡ false)
    walk-error (inl h) = inl (many h)
    walk-error (inr h) = inr (ap (λ us. list_all is-in-range (kept_from tables None false us)) (sym (found-is tokens)) ∙ past-limit tables p r m b t (found_from (Some t) ts) (found_from p rest) _ found is (is ∙ h.0) moves h.1 w.few)

-- at first all is left to do
pub walk-start : (tables : Tables) (tokens : List TokenRecord) (ks ls : List ℕ) (done : List TokenRecord) → ks ≡ [] → ls ≡ [] → done ≡ []
    → Walk tables tokens (with_all (with_source tables) [] (found_items token_line token_column tokens)) (with_all (with_name tables) [] (found_items token_line token_column tokens)) None false tokens ks ls done
walk-start tables tokens ks ls done e f g =
    let ss = with_all (with_source tables) [] (found_items token_line token_column tokens) in
    let ns = with_all (with_name tables) [] (found_items token_line token_column tokens) in record {
      low = tt;
      sources = ap (λ os. with_all (with_source tables) os (found_from None tokens)) e ∙ ap (with_all (with_source tables) []) (found-is tokens);
      names = ap (λ os. with_all (with_name tables) os (found_from None tokens)) f ∙ ap (with_all (with_name tables) []) (found-is tokens);
      kept = ap (λ us. us ++ map (λ t. token_to ss ns t (target_by tables t)) (kept_from tables None false (found_from None tokens))) g;
      few = refl;
      sorted = refl;
    }

last-sorted : (p : Option TokenRecord) → sorted_from p [] ≡ true
last-sorted None = refl
last-sorted (Some p) = refl

-- in the end nothing is left
pub walk-end : (tables : Tables) (tokens : List TokenRecord) (ss ns : List ℕ) (p : Option TokenRecord) (r : Bool) (ks ls : List ℕ) (done : List TokenRecord) → Walk tables tokens ss ns p r [] ks ls done
    → (ks ≡ ss) × ((ls ≡ ns) × ((done ≡ map (λ t. token_to ss ns t (target_by tables t)) (kept_from tables None false (found_items token_line token_column tokens)))
    × ((list_all is-in-range (kept_from tables None false (found_items token_line token_column tokens)) ≡ true) × (are_tokens_sorted tokens ≡ true))))
walk-end tables tokens ss ns p r ks ls done w =
    let tokens-are = sym (append-nil done) ∙ w.kept ∙ ap (λ us. map (λ t. token_to ss ns t (target_by tables t)) (kept_from tables None false us)) (found-is tokens) in
    let few = ap (λ us. list_all is-in-range (kept_from tables None false us)) (sym (found-is tokens)) ∙ sym w.few in
    (w.sources, (w.names, (tokens-are, (few, sym w.sorted ∙ last-sorted p))))

-- ---- references
pub lent-some : (o : Option (Bor TokenRecord)) → is_some o ≡ is_some (lent_item o)
lent-some None = refl
lent-some (Some x) = refl

pub lent-at : (o : Option (Bor TokenRecord)) (xs : List TokenRecord) (j : ℕ) → is_some o ≡ nat_lt j (length xs) → ((d : TokenRecord) → unwrap_or (option_map (λ x. x.now) o) d ≡ get_or xs j d) → lent_item o ≡ slice_get xs j
lent-at None xs j e f = let h : length xs ≤ j = grind (arith, nat_tests, e) in sym (get-none xs j h)
lent-at (Some x) xs j e f =
    let h : j < length xs = grind (arith, nat_tests, e) in
    ap (λ (t : TokenRecord). Some t) (f x.now) ∙ sym (at-get xs j x.now h)
