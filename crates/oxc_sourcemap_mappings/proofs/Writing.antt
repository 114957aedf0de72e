-- The text of a list with the state carried along, and what is cut off again.
use Rattle.std.proofs.Common.{◌≡◌, ℕ, ◌<◌, ◌≤◌, true, List, [], ◌∷◌, ◌++◌, length, take, get_or}
use Rattle.std.proofs.Common.{slice_index, arith, refl, sym, ap, ◌∙◌, lit<, append_assoc, Bool}
use Rattle.std.proofs.Common.{Result, Ok, Err}
use Rattle.std.specs.List.{AllByRecursion}
use Rattle.std.proofs.lemmas.List.{append-nil, take_at, length-append, get_or_at, get_or_past}
use Rattle.oxc_sourcemap_tokens.specs.Token.{TokenRecord}
use Rattle.oxc_sourcemap_tokens.specs.State.{initial, state_after}
use Rattle.oxc_sourcemap_mappings.specs.Canonical.{token_text, text_after, canonical}
use Rattle.oxc_sourcemap_mappings.specs.Canonical.{has_none_before}
use Rattle.oxc_sourcemap_mappings.specs.Encoding.{text_from, IfWritten, Extends}

text_after-is : (seen ts : List TokenRecord) → text_after seen ts ≡ text_from (has_none_before seen) (state_after initial seen) ts
unfolding text_after
text_after-is seen [] = refl
text_after-is seen (t ∷ ts) = ap (λ xs. token_text (has_none_before seen) (state_after initial seen) t ++ xs) (text_after-is (t ∷ seen) ts)

pub canonical-is : (ts : List TokenRecord) → canonical ts ≡ text_from true initial ts
unfolding canonical
canonical-is ts = text_after-is [] ts

all-append : (xs ys : List ℕ) → AllByRecursion (λ b. b < 128) xs → AllByRecursion (λ b. b < 128) ys → AllByRecursion (λ b. b < 128) (xs ++ ys)
all-append [] ys p q = q
all-append (x ∷ xs) ys p q = (p.0, all-append xs ys p.1 q)

pub extends-none : (old : List ℕ) → Extends old old
extends-none old = ([], sym (append-nil old), tt)

pub extends-more : (base old new : List ℕ) → Extends base old → Extends old new → Extends base new
extends-more base old new e f = (e.0 ++ f.0, f.1 ∙ ap (λ xs. xs ++ f.0) e.1 ∙ append_assoc base e.0 f.0, all-append e.0 f.0 e.2 f.2)

pub cut-back : (old new : List ℕ) (n : ℕ) → Extends old new → n ≡ length old → take n new ≡ old
cut-back old new n g e = ap (take n) g.1 ∙ take_at old g.0 n (sym e)

plain-at : (old more : List ℕ) (n : ℕ) → AllByRecursion (λ b. b < 128) more → n ≡ length old → get_or (old ++ more) n 0 < 128
plain-at old [] n h e = rw (get_or_past (old ++ []) n 0 (omega (arith, length-append {A = ℕ} old []))) (lit< tt)
plain-at old (b ∷ bs) n h e = rw (get_or_at old b bs 0 n (sym e)) h.0

pub cut-place : (old new : List ℕ) (n : ℕ) → Extends old new → n ≡ length old → (n ≤ length new) × (0 < n → n < length new → 128 ≤ slice_index new n → 192 ≤ slice_index new n)
cut-place old new n g e = (omega (arith, ap length g.1, length-append old g.0), λ p q r. absurd (omega (arith, ap (λ xs. get_or xs n 0) g.1, plain-at old g.0 n g.2 e)))

-- what follows where all was written
pub written-weaker : {E P Q : Type 0} (r : Result Bool E) → (P → Q) → IfWritten r P → IfWritten r Q
written-weaker (Ok b) f h = λ e. f (h e)
written-weaker (Err x) f h = tt
