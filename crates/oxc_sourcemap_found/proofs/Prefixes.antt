-- What is behind a prefix.
use Rattle.std.proofs.Common.{◌≡◌, ℕ, true, false, List, drop, nat_eq, ap, sym, subst, refl, ◌∙◌}
use Rattle.std.proofs.Common.{Option, Some, None}
use Rattle.std.specs.Borrow.{Bor}
use Rattle.std.specs.List.{starts_with}
use Rattle.std.specs.Option.{MatchOption}
use Rattle.std.specs.Str.{IsCharBoundary}
use Rattle.std.specs.Str.Pattern.{FindsTextPrefix, StripsPrefix}
use Rattle.std.proofs.lemmas.Str.Pattern.{starts_text}
use Rattle.oxc_sourcemap_tokens.specs.Results.{lent_item}
use Rattle.oxc_sourcemap_found.specs.Opening.{behind}

-- what `strip_prefix` returns
pub stripped : (p s : List ℕ) (r : Option (Bor (List ℕ))) → MatchOption r (FindsTextPrefix p s None) (λ x. StripsPrefix (FindsTextPrefix p) s x.now) → lent_item r ≡ behind p s
stripped p s None h =
    let no : false ≡ starts_with nat_eq s p = starts_text false p s h in
    rw (← no) refl
stripped p s (Some x) h =
    let yes : true ≡ starts_with nat_eq s p = starts_text true p s (h.0, h.1, subst (λ n. IsCharBoundary s n) (sym h.1.0) h.1.2) in
    rw (← yes) (ap (λ t. Some t) (h.2 ∙ ap (λ n. drop n s) h.1.0))
