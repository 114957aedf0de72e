-- What is held for keys is what an object has for them.
use Rattle.std.proofs.Common.{◌≡◌, ℕ, List, [], ◌∷◌, Option, Some, None, Bool, true, false}
use Rattle.std.proofs.Common.{bytes_eq, refl, sym, ap, ◌∙◌, subst, true≢false}
use Rattle.std.specs.Prelude.{if◌then◌else◌}
use Rattle.std.proofs.lemmas.Slice.Eq.{bytes_eq-Decides}
use Rattle.serde_json.specs.Data.{Data, Members, put}
use Rattle.serde_json.specs.Find.{get_member}
use Rattle.serde_json.proofs.Views.{get_member-put, get_member-put_other}
use Rattle.oxc_sourcemap_json.specs.Usual.{Held, held, with_held}

same_key : (k l : List ℕ) → bytes_eq k l ≡ true → k ≡ l
same_key k l e = (bytes_eq-Decides k l).0 e

same_as_itself : (k : List ℕ) → bytes_eq k k ≡ true
same_as_itself k = (bytes_eq-Decides k k).1 refl

-- the value that a key was given
given_at : (b : Bool) (key : List ℕ) (d : Data) (e : List ℕ × Option Data) (es : Held) → bytes_eq key e.0 ≡ b → held key (with_held key d es) ≡ Some d
    → held key (if b then (key, Some d) ∷ es else (e ∷ with_held key d es)) ≡ Some d
given_at true key d e es is later = ap (λ b. if b then Some d else held key es) (same_as_itself key)
given_at false key d e es is later = ap (λ b. if b then e.1 else held key (with_held key d es)) is ∙ later

given : (key : List ℕ) (d : Data) (es : Held) → held key (with_held key d es) ≡ Some d
given key d [] = ap (λ b. if b then Some d else None) (same_as_itself key)
given key d (e ∷ es) = given_at _ key d e es refl (given key d es)

-- the value of another key
kept_at : (b : Bool) (k key : List ℕ) (d : Data) (e : List ℕ × Option Data) (es : Held) → bytes_eq key e.0 ≡ b → bytes_eq k key ≡ false
    → held k (with_held key d es) ≡ held k es
    → held k (if b then (key, Some d) ∷ es else (e ∷ with_held key d es)) ≡ held k (e ∷ es)
kept_at true k key d e es is apart later =
    let apart_too = ap (bytes_eq k) (sym (same_key key e.0 is)) ∙ apart in
    ap (λ b. if b then Some d else held k es) apart ∙ sym (ap (λ b. if b then e.1 else held k es) apart_too)
kept_at false k key d e es is apart later = ap (λ r. if bytes_eq k e.0 then e.1 else r) later

kept : (k key : List ℕ) (d : Data) (es : Held) → bytes_eq k key ≡ false → held k (with_held key d es) ≡ held k es
kept k key d [] apart = ap (λ b. if b then Some d else None) apart
kept k key d (e ∷ es) apart = kept_at _ k key d e es refl apart (kept k key d es apart)

put_at : (b : Bool) (k key : List ℕ) (d : Data) (es : Held) (ms : Members) → bytes_eq k key ≡ b → get_member k ms ≡ held k es
    → get_member k (put key d ms) ≡ held k (with_held key d es)
put_at true k key d es ms is h =
    subst (λ l. get_member l (put key d ms) ≡ held l (with_held key d es)) (sym (same_key k key is)) (get_member-put key d ms ∙ sym (given key d es))
put_at false k key d es ms is h =
    get_member-put_other k key d ms (λ e. true≢false (sym ((bytes_eq-Decides k key).1 e) ∙ is)) ∙ h ∙ sym (kept k key d es is)

-- an object that is given a member has what is held with it
pub still_held : (key : List ℕ) (d : Data) (es : Held) (ms : Members) → ((k : List ℕ) → get_member k ms ≡ held k es)
    → (k : List ℕ) → get_member k (put key d ms) ≡ held k (with_held key d es)
still_held key d es ms h k = put_at _ k key d es ms refl (h k)
