-- Texts that are cut at the last one of some byte.
use Rattle.std.proofs.Common.{◌≡◌, ◌≢◌, ℕ, zero, suc, List, [], ◌∷◌, ◌++◌, length, get_or, Option}
use Rattle.std.proofs.Common.{Some, None}
use Rattle.std.proofs.Common.{MatchOption, refl, sym, ap, ap₂, ◌∙◌, ◌<◌, ◌≤◌, ◌+◌, arith, Bor, take}
use Rattle.std.proofs.Common.{drop}
use Rattle.std.proofs.Common.{append_assoc, take-append-drop}
use Rattle.std.specs.Str.Pattern.{RFindsChar}
use Rattle.std.specs.Str.Parse.{AllDigits}
use Rattle.std.proofs.lemmas.Str.Pattern.{NoCharPasses-char, drop_at_char}
use Rattle.oxc_sourcemap_tokens.specs.declared.position.Position.{Position}
use Rattle.sourcemap_texts.specs.Positions.{IsNumber, IsSourcePosition}

-- no byte is c
abbrev pub Lacks : ℕ → List ℕ → Type 0
Lacks c text = (i : ℕ) → i < length text → get_or text i 0 ≢ c

-- the clause of `rsplit_once` at a character
abbrev pub IsLastSplit : ℕ → List ℕ → Option (Bor (List ℕ) × Bor (List ℕ)) → Type 0
IsLastSplit c text r =
    MatchOption r (RFindsChar c text None) (λ x. (i : ℕ) × (j : ℕ) × RFindsChar c text (Some (i, j)) × (x.0.now ≡ take i text) × (x.1.now ≡ drop j text)
    × (i ≤ j) × (length x.0.now ≡ i) × (length x.1.now + j ≡ length text))

pub last_parts : (c : ℕ) (text : List ℕ) (r : Option (Bor (List ℕ) × Bor (List ℕ))) → IsLastSplit c text r → c < 128
    → MatchOption r (Lacks c text) (λ x. (text ≡ x.0.now ++ c ∷ x.1.now) × Lacks c x.1.now)
last_parts c text None h low = λ i l. NoCharPasses-char c text i h low l
last_parts c text (Some x) h low =
    let i = h.0 in
    let j = h.1 in
    let cut = drop_at_char c text i j h.2.1 low in
    let whole = sym (take-append-drop i text) ∙ ap (λ l. take i text ++ l) cut in (
      rw (h.3, h.4) whole,
      rw h.4 (λ k l. NoCharPasses-char c (drop j text) k h.2.0 low l),
    )

abbrev head : List ℕ → ℕ
head [] = 0
head (x ∷ xs) = x

abbrev tail : List ℕ → List ℕ
tail [] = []
tail (x ∷ xs) = xs

-- the byte at which a text is cut is there
at_cut : (c : ℕ) (a b : List ℕ) → get_or (a ++ c ∷ b) (length a) 0 ≡ c
at_cut c [] b = refl
at_cut c (x ∷ a) b = at_cut c a b

pub lacks_no_cut : (c : ℕ) (text a b : List ℕ) → text ≡ a ++ c ∷ b → ¬ (Lacks c text)
lacks_no_cut c text a b e lacks = lacks (length a) (rw e (inside a)) (rw e (at_cut c a b))
  where
    inside : (l : List ℕ) → length l < length (l ++ c ∷ b)
    inside [] = omega arith
    inside (x ∷ l) = omega (arith, inside l)

-- a text is cut at a last byte in one way
pub last_cut : (c : ℕ) (a b a' b' : List ℕ) → a ++ c ∷ b ≡ a' ++ c ∷ b' → Lacks c b → Lacks c b' → (a ≡ a') × (b ≡ b')
last_cut c [] b [] b' e h h' = (refl, ap tail e)
last_cut c [] b (x ∷ a') b' e h h' = absurd (lacks_no_cut c b a' b' (ap tail e) h)
last_cut c (x ∷ a) b [] b' e h h' = absurd (lacks_no_cut c b' a b (sym (ap tail e)) h')
last_cut c (x ∷ a) b (y ∷ a') b' e h h' =
    let rest = last_cut c a b a' b' (ap tail e) h h' in
    (ap₂ (λ z zs. z ∷ zs) (ap head e) rest.0, rest.1)

no_colon : (ds : List ℕ) → AllDigits 10 ds → Lacks 58 ds
no_colon [] h i l e = absurd (omega arith)
no_colon (d ∷ ds) h zero l e = let digit = rw e at h.0 in absurd (omega (arith, digit))
no_colon (d ∷ ds) h (suc i) l e = no_colon ds h.1 i (omega arith) e

numeral_lacks : (base n : ℕ) (word : List ℕ) → IsNumber base word n → Lacks 58 word
numeral_lacks base n word h = no_colon word h.numeral.1

module _ (base : ℕ) (word : List ℕ) where
  pub no_colon_at_all : Lacks 58 word → (source : List ℕ) (p : Position) → ¬ (IsSourcePosition base word source p)
  no_colon_at_all lacks source p h = lacks_no_cut 58 word source _ h.parts lacks

  module _ (rest column : List ℕ) (cut : word ≡ rest ++ 58 ∷ column) (last : Lacks 58 column) where
    two : (source : List ℕ) (p : Position) (h : IsSourcePosition base word source p) → (rest ≡ source ++ 58 ∷ h.line) × (column ≡ h.column)
    two source p h =
        last_cut 58 rest column (source ++ 58 ∷ h.line) h.column (sym cut ∙ h.parts ∙ sym (append_assoc source (58 ∷ h.line) (58 ∷ h.column))) last
        (numeral_lacks base p.column h.column h.is_column)

    pub no_second_colon : Lacks 58 rest → (source : List ℕ) (p : Position) → ¬ (IsSourcePosition base word source p)
    no_second_colon lacks source p h = lacks_no_cut 58 rest source h.line (two source p h).0 lacks

    pub no_column_number : ((n : ℕ) → ¬ (IsNumber base column n)) → (source : List ℕ) (p : Position) → ¬ (IsSourcePosition base word source p)
    no_column_number none source p h = none p.column (rw (two source p h).1 h.is_column)

    module _ (source line : List ℕ) (cut_rest : rest ≡ source ++ 58 ∷ line) (last_rest : Lacks 58 line) where
      pub no_line_number : ((n : ℕ) → ¬ (IsNumber base line n)) → (other : List ℕ) (p : Position) → ¬ (IsSourcePosition base word other p)
      no_line_number none other p h =
          let e = (last_cut 58 source line other h.line (sym cut_rest ∙ (two other p h).0) last_rest (numeral_lacks base p.line h.line h.is_line)).1 in
          none p.line (rw e h.is_line)

      pub whole : word ≡ source ++ (58 ∷ (line ++ 58 ∷ column))
      whole = cut ∙ ap (λ t. t ++ 58 ∷ column) cut_rest ∙ append_assoc source (58 ∷ line) (58 ∷ column)
