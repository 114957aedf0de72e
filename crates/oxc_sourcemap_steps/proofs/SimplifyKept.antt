-- The tokens that are kept, one by one.
use Rattle.std.proofs.Common.{◌≡◌, refl, sym, ap, ◌∙◌, ◌<◌, ◌≤◌, Bool, true, false, ◌&&◌, nat_le}
use Rattle.std.proofs.Common.{List, [], ◌∷◌, ◌++◌, map, Option, Some, append_assoc, arith}
use Rattle.std.proofs.lemmas.Bool.Decides.{nat_tests}
use Rattle.std.specs.List.{list_all}
use Rattle.oxc_sourcemap_tokens.specs.Token.{TokenRecord}
use Rattle.oxc_sourcemap_steps.specs.SimplifySteps.{is_behind, repeats_by, kept_from}
use Rattle.oxc_sourcemap_steps.specs.SimplifySteps.{shifted_token}
use Rattle.oxc_sourcemap_steps.specs.declared.simplify.tokens.Tables.{Tables}

abbrev pub is-in-range : TokenRecord → Bool
is-in-range t = nat_le t.dst_col 4294967295

module _ (tables : Tables) where
  pub kept-then : (F : TokenRecord → TokenRecord) (p : Option TokenRecord) (r m b : Bool) (t : TokenRecord) (ts us : List TokenRecord) (done new all : List TokenRecord) → us ≡ t ∷ ts → b ≡ repeats_by tables p t → b ≡ false
      → m ≡ (is_behind p t && r) → new ≡ done ++ F (shifted_token m t) ∷ [] → done ++ map F (kept_from tables p r us) ≡ all → new ++ map F (kept_from tables (Some t) b ts) ≡ all
  kept-then F p r m b t ts us done new all split e none moves more inv =
      let no : repeats_by tables p t ≡ false = sym e ∙ none in
      let rest = map F (kept_from tables (Some t) false ts) in
      let step : done ++ F (shifted_token m t) ∷ rest ≡ done ++ map F (kept_from tables p r (t ∷ ts)) = rw (no, ← moves) refl in
      ap (λ c. new ++ map F (kept_from tables (Some t) c ts)) none ∙ ap (λ zs. zs ++ rest) more ∙ append_assoc done (F (shifted_token m t) ∷ []) rest ∙ step
      ∙ ap (λ vs. done ++ map F (kept_from tables p r vs)) (sym split) ∙ inv

  pub kept-else : (F : TokenRecord → TokenRecord) (p : Option TokenRecord) (r b : Bool) (t : TokenRecord) (ts us : List TokenRecord) (done new all : List TokenRecord) → us ≡ t ∷ ts → b ≡ repeats_by tables p t → b ≡ true
      → new ≡ done → done ++ map F (kept_from tables p r us) ≡ all → new ++ map F (kept_from tables (Some t) b ts) ≡ all
  kept-else F p r b t ts us done new all split e on same inv =
      let is : repeats_by tables p t ≡ true = sym e ∙ on in
      let step : done ++ map F (kept_from tables (Some t) true ts) ≡ done ++ map F (kept_from tables p r (t ∷ ts)) = rw is refl in
      ap (λ c. new ++ map F (kept_from tables (Some t) c ts)) on ∙ ap (λ zs. zs ++ map F (kept_from tables (Some t) true ts)) same ∙ step
      ∙ ap (λ vs. done ++ map F (kept_from tables p r vs)) (sym split) ∙ inv

  pub few-then : (p : Option TokenRecord) (r m b : Bool) (t : TokenRecord) (ts us : List TokenRecord) (all : Bool) → us ≡ t ∷ ts → b ≡ repeats_by tables p t → b ≡ false → m ≡ (is_behind p t && r) → (shifted_token m t).dst_col ≤ 4294967295
      → list_all is-in-range (kept_from tables p r us) ≡ all → list_all is-in-range (kept_from tables (Some t) b ts) ≡ all
  few-then p r m b t ts us all split e none moves low inv =
      let no : repeats_by tables p t ≡ false = sym e ∙ none in
      let ok : is-in-range (shifted_token m t) ≡ true = grind (arith, nat_tests, low) in
      let rest = list_all is-in-range (kept_from tables (Some t) false ts) in
      let step : (is-in-range (shifted_token m t) && rest) ≡ list_all is-in-range (kept_from tables p r (t ∷ ts)) = rw (no, ← moves) refl in
      ap (λ c. list_all is-in-range (kept_from tables (Some t) c ts)) none ∙ sym (ap (λ c. c && rest) ok) ∙ step
      ∙ ap (λ vs. list_all is-in-range (kept_from tables p r vs)) (sym split) ∙ inv

  pub few-else : (p : Option TokenRecord) (r b : Bool) (t : TokenRecord) (ts us : List TokenRecord) (all : Bool) → us ≡ t ∷ ts → b ≡ repeats_by tables p t → b ≡ true
      → list_all is-in-range (kept_from tables p r us) ≡ all → list_all is-in-range (kept_from tables (Some t) b ts) ≡ all
  few-else p r b t ts us all split e on inv =
      let is : repeats_by tables p t ≡ true = sym e ∙ on in
      let step : list_all is-in-range (kept_from tables (Some t) true ts) ≡ list_all is-in-range (kept_from tables p r (t ∷ ts)) = rw is refl in
      ap (λ c. list_all is-in-range (kept_from tables (Some t) c ts)) on ∙ step ∙ ap (λ vs. list_all is-in-range (kept_from tables p r vs)) (sym split) ∙ inv

  -- a token past the limit
  pub past-limit : (p : Option TokenRecord) (r m b : Bool) (t : TokenRecord) (ts us : List TokenRecord) (all : Bool) → us ≡ t ∷ ts → b ≡ repeats_by tables p t → b ≡ false → m ≡ (is_behind p t && r) → 4294967295 < (shifted_token m t).dst_col
      → list_all is-in-range (kept_from tables p r us) ≡ all → all ≡ false
  past-limit p r m b t ts us all split e none moves high inv =
      let no : repeats_by tables p t ≡ false = sym e ∙ none in
      let past : is-in-range (shifted_token m t) ≡ false = grind (arith, nat_tests, high) in
      let rest = list_all is-in-range (kept_from tables (Some t) false ts) in
      let step : (is-in-range (shifted_token m t) && rest) ≡ list_all is-in-range (kept_from tables p r (t ∷ ts)) = rw (no, ← moves) refl in
      sym inv ∙ ap (λ vs. list_all is-in-range (kept_from tables p r vs)) split ∙ sym step ∙ ap (λ c. c && rest) past
