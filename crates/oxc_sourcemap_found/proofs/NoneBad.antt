-- Tokens none of whose ids is out of range are read as they are.
use Rattle.std.proofs.Common.{◌≡◌, ℕ, Bool, true, false, List, [], ◌∷◌, map, refl, ap, ◌∙◌}
use Rattle.std.specs.List.{count_by, filter, AllByRecursion}
use Rattle.std.proofs.lemmas.List.Sums.{length-filter}
use Rattle.oxc_sourcemap_tokens.specs.Token.{TokenRecord}
use Rattle.oxc_sourcemap_json.proofs.SectionSteps.{none-left}
use Rattle.oxc_sourcemap_found.specs.InRange.{is_past, has_bad_source, has_bad_name, token_in_range}
use Rattle.oxc_sourcemap_found.proofs.AnyIds.{IsWithin}

-- the first of such tokens, and the others
record FirstStays (names sources : ℕ) (t : TokenRecord) (ts : List TokenRecord) : Type 0 where
  same : token_in_range names sources t ≡ t
  within : IsWithin names sources t
  sources_none : filter (has_bad_source sources) ts ≡ []
  names_none : filter (has_bad_name names sources) ts ≡ []

first-stays : (names sources : ℕ) (t : TokenRecord) (ts : List TokenRecord) (b c : Bool) → has_bad_source sources t ≡ b → is_past names t.name_id ≡ c
    → filter (has_bad_source sources) (t ∷ ts) ≡ [] → filter (has_bad_name names sources) (t ∷ ts) ≡ [] → FirstStays names sources t ts
first-stays names sources t ts true c p q e f = let h = rw p at e in cc
first-stays names sources t ts false true p q e f = let h = rw (p, q) at f in cc
first-stays names sources t ts false false p q e f =
    let g = rw p at e in
    let h = rw (p, q) at f in
    record { same = rw (p, q) refl; within = record { source = p; name = q }; sources_none = g; names_none = h }

all-stay : (names sources : ℕ) (ts : List TokenRecord) → filter (has_bad_source sources) ts ≡ [] → filter (has_bad_name names sources) ts ≡ []
    → map (token_in_range names sources) ts ≡ ts
all-stay names sources [] e f = refl
all-stay names sources (t ∷ ts) e f =
    let s = first-stays names sources t ts (has_bad_source sources t) (is_past names t.name_id) refl refl e f in
    ap (λ u. u ∷ map (token_in_range names sources) ts) s.same ∙ ap (λ us. t ∷ us) (all-stay names sources ts s.sources_none s.names_none)

all-within : (names sources : ℕ) (ts : List TokenRecord) → filter (has_bad_source sources) ts ≡ [] → filter (has_bad_name names sources) ts ≡ []
    → AllByRecursion (IsWithin names sources) ts
all-within names sources [] e f = tt
all-within names sources (t ∷ ts) e f =
    let s = first-stays names sources t ts (has_bad_source sources t) (is_past names t.name_id) refl refl e f in
    (s.within, all-within names sources ts s.sources_none s.names_none)

none-passes : (p : TokenRecord → Bool) (ts : List TokenRecord) → count_by p ts ≡ 0 → filter p ts ≡ []
none-passes p ts e = none-left (filter p ts) (length-filter p ts ∙ e)

pub none-bad : (names sources : ℕ) (ts : List TokenRecord) → count_by (has_bad_source sources) ts ≡ 0 → count_by (has_bad_name names sources) ts ≡ 0
    → map (token_in_range names sources) ts ≡ ts
none-bad names sources ts e f = all-stay names sources ts (none-passes (has_bad_source sources) ts e) (none-passes (has_bad_name names sources) ts f)

pub none-past : (names sources : ℕ) (ts : List TokenRecord) → count_by (has_bad_source sources) ts ≡ 0 → count_by (has_bad_name names sources) ts ≡ 0
    → AllByRecursion (IsWithin names sources) ts
none-past names sources ts e f = all-within names sources ts (none-passes (has_bad_source sources) ts e) (none-passes (has_bad_name names sources) ts f)
