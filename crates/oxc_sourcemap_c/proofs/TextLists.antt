-- Lists of texts, one step on.
use Rattle.std.proofs.Common.{◌≡◌, ℕ, ◌+◌, ◌<◌, zero, suc, List, [], ◌∷◌, ◌++◌, length, drop}
use Rattle.std.proofs.Common.{get_or, map, inr, Option, None, refl, sym, ap, subst, ◌∙◌, add-one}
use Rattle.std.proofs.Common.{Bor}
use Rattle.std.specs.Prelude.{IsUtf8}
use Rattle.std.proofs.lemmas.List.{append_assoc, drop_more, map-append, map-id}
use Rattle.std.proofs.lemmas.List.Elements.{All-cons}
use Rattle.std.proofs.lemmas.Iterator.Adapters.{YieldsList-from_vec}
use Rattle.std.proofs.lemmas.Iterator.Consumers.{YieldsList-end}
use Rattle.std.specs.Iterator.{Drains}
use Rattle.std.specs.declared.vec.IntoIter.{IntoIter}
use Rattle.std.specs.Vec.Iter.{into_iter_items, into_iter_len, into_iter_steps}
use Rattle.oxc_sourcemap_tokens.specs.Results.{lent_items}
use Rattle.oxc_sourcemap_parts.specs.Record.{Text}
use Rattle.oxc_sourcemap_c.specs.declared.numbers.call_error.CallError.{CallError}
use Rattle.oxc_sourcemap_c.specs.Lists.{AreTexts, IsNotTexts, known_text, known_texts}
use Rattle.oxc_sourcemap_c.specs.Lists.{IsContent, AreContents, IsNotContents}

-- what is done, and what is left
pub one_more : {A B : Type 0} (f : A → B) (done new : List A) (x : A) (y : B) (from left whole : List B) → from ≡ y ∷ left → f x ≡ y → new ≡ done ++ x ∷ [] → map f done ++ from ≡ whole → map f new ++ left ≡ whole
one_more f done new x y from left whole e is grown so_far =
    ap (λ xs. map f xs ++ left) grown ∙ ap (λ xs. xs ++ left) (map-append f done (x ∷ [])) ∙ append_assoc (map f done) (f x ∷ []) left ∙ ap (λ z. map f done ++ z ∷ left) is ∙ ap (λ xs. map f done ++ xs) (sym e) ∙ so_far

-- the texts from an index on
pub texts_from : (list : List (Bor Text)) (i : ℕ) (d : Bor Text) → i < length list → lent_items (drop i list) ≡ (get_or list i d).now ∷ lent_items (drop (i + 1) list)
texts_from list i d h = ap lent_items (drop_more list i d h)

pub are_texts : (from left : List Text) (t : Text) → from ≡ t ∷ left → IsUtf8 t → AreTexts left → AreTexts from
are_texts from left t e is all = subst AreTexts (sym e) (All-cons IsUtf8 t left is all)

pub not_texts : (from left : List Text) (t : Text) (r : CallError) → from ≡ t ∷ left → IsUtf8 t → IsNotTexts left r → IsNotTexts from r
not_texts from left t r e is not = subst (λ xs. IsNotTexts xs r) (sym e) (inr (is, not))

flagged : (t : Text) (ts : List Text) (flags : List ℕ) (i : ℕ) → known_texts (t ∷ ts) (drop i flags) ≡ known_text t (get_or flags i 0) ∷ known_texts ts (drop (suc i) flags)
flagged t ts [] zero = refl
flagged t ts [] (suc i) = refl
flagged t ts (f ∷ fs) zero = refl
flagged t ts (f ∷ fs) (suc i) = flagged t ts fs i

-- the contents from an index on
pub contents_from : (list : List (Bor Text)) (flags : List ℕ) (i flag : ℕ) (d : Bor Text) → i < length list → flag ≡ get_or flags i 0
    → known_texts (lent_items (drop i list)) (drop i flags) ≡ known_text (get_or list i d).now flag ∷ known_texts (lent_items (drop (i + 1) list)) (drop (i + 1) flags)
contents_from list flags i flag d h is =
    let t = (get_or list i d).now in
    let ts = lent_items (drop (i + 1) list) in
    ap (λ xs. known_texts xs (drop i flags)) (texts_from list i d h)
    ∙ flagged t ts flags i
    ∙ ap (λ f. known_text t f ∷ known_texts ts (drop (suc i) flags)) (sym is)
    ∙ ap (λ n. known_text t flag ∷ known_texts ts (drop n flags)) (sym (add-one i))

pub are_contents : (from left : List (Option Text)) (c : Option Text) → from ≡ c ∷ left → IsContent c → AreContents left → AreContents from
are_contents from left c e is all = subst AreContents (sym e) (All-cons IsContent c left is all)

pub not_contents : (from left : List (Option Text)) (c : Option Text) (r : CallError) → from ≡ c ∷ left → IsContent c → IsNotContents left r → IsNotContents from r
not_contents from left c r e is not = subst (λ xs. IsNotContents xs r) (sym e) (inr (is, not))

-- what a run of `next` over a `Vec` gives
pub drained : {A Z : Type 0} (s : IntoIter A Z) (xs all : List A) → into_iter_items s ≡ all → into_iter_len s ≡ length all → Drains (into_iter_steps {X = A} {Z = Z}) s xs → xs ≡ all
drained s xs all e l (u, (t, y, last)) = sym (map-id xs) ∙ (YieldsList-end (YieldsList-from_vec {s = s} all e l) xs t y None u refl last).0
