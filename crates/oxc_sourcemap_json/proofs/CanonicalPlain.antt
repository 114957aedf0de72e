-- No byte of a canonical text needs an escape.
use Rattle.std.proofs.Common.{◌≡◌, ℕ, zero, suc, Bool, true, false, cond, List, [], ◌∷◌, ◌++◌, map}
use Rattle.std.proofs.Common.{replicate, flat_map, Option, Some, None, refl, ap, ap₂, ◌∙◌, arith}
use Rattle.std.proofs.Common.{◌==◌}
use Rattle.std.specs.Option.{option_map_or}
use Rattle.std.proofs.lemmas.Bool.Decides.{nat_tests}
use Rattle.std.proofs.lemmas.Grind.{flat_map-append}
use Rattle.oxc_sourcemap_tokens.specs.Token.{TokenRecord, mapped_name}
use Rattle.oxc_sourcemap_tokens.specs.State.{State, initial, state_after}
use Rattle.oxc_sourcemap_mappings.specs.Canonical.{letter, vlq_text, delta_text, separator}
use Rattle.oxc_sourcemap_mappings.specs.Canonical.{column_text, source_text, token_text}
use Rattle.oxc_sourcemap_mappings.specs.Canonical.{has_none_before, text_after, canonical}
use Rattle.oxc_sourcemap_json.specs.JsonString.{escaped}

-- a text that a JSON string has as it is
abbrev Stays : List ℕ → Type 0
Stays bs = flat_map escaped bs ≡ bs

stays-append : (xs ys : List ℕ) → Stays xs → Stays ys → Stays (xs ++ ys)
stays-append xs ys p q = flat_map-append escaped xs ys ∙ ap₂ (λ (ps qs : List ℕ). ps ++ qs) p q

escaped-letter : (d : ℕ) → escaped (letter d) ≡ letter d ∷ []
unfolding escaped letter
escaped-letter d = grind (arith, nat_tests)

stays-letters : (ds : List ℕ) → Stays (map letter ds)
stays-letters [] = refl
stays-letters (d ∷ ds) = ap₂ (λ (ps qs : List ℕ). ps ++ qs) (escaped-letter d) (stays-letters ds)

stays-delta : (a b : ℕ) → Stays (delta_text a b)
unfolding vlq_text
stays-delta a b = stays-letters _

stays-lines : (n : ℕ) → Stays (replicate n 59)
unfolding escaped
stays-lines zero = refl
stays-lines (suc n) = ap (λ bs. 59 ∷ bs) (stays-lines n)

stays-between : (same is_first : Bool) (n : ℕ) → Stays (cond same (cond is_first [] (44 ∷ [])) (replicate n 59))
unfolding escaped
stays-between true true n = refl
stays-between true false n = refl
stays-between false is_first n = stays-lines n

stays-separator : (is_first : Bool) (s : State) (t : TokenRecord) → Stays (separator is_first s t)
unfolding separator
stays-separator is_first s t = stays-between (t.dst_line == s.dst_line) is_first _

stays-optional : (f : ℕ → List ℕ) → ((id : ℕ) → Stays (f id)) → (o : Option ℕ) → Stays (option_map_or f o [])
stays-optional f p None = refl
stays-optional f p (Some id) = p id

stays-source : (s : State) (t : TokenRecord) (id : ℕ) → Stays (delta_text id s.source_id ++ delta_text t.src_line s.src_line ++ delta_text t.src_col s.src_col)
stays-source s t id =
    stays-append (delta_text id s.source_id ++ delta_text t.src_line s.src_line) _
    (stays-append (delta_text id s.source_id) _ (stays-delta id s.source_id) (stays-delta t.src_line s.src_line))
    (stays-delta t.src_col s.src_col)

stays-token : (is_first : Bool) (s : State) (t : TokenRecord) → Stays (token_text is_first s t)
unfolding token_text
stays-token is_first s t =
    stays-append (separator is_first s t ++ column_text s t ++ source_text s t) _
    (stays-append (separator is_first s t ++ column_text s t) _
    (stays-append (separator is_first s t) _ (stays-separator is_first s t) (stays-delta _ _))
    (stays-optional _ (stays-source s t) t.source_id))
    (stays-optional _ (λ id. stays-delta id s.name_id) (mapped_name t))

stays-after : (before ts : List TokenRecord) → Stays (text_after before ts)
unfolding text_after
stays-after before [] = refl
stays-after before (t ∷ ts) =
    stays-append (token_text (has_none_before before) (state_after initial before) t) _ (stays-token _ _ t) (stays-after (t ∷ before) ts)

pub canonical_plain : (ts : List TokenRecord) → flat_map escaped (canonical ts) ≡ canonical ts
unfolding canonical
canonical_plain ts = stays-after [] ts
