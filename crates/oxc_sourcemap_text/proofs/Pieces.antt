-- The pieces of a line, one step at a time.
use Rattle.std.proofs.Common.{◌≡◌, ℕ, Bool, true, false, List, [], ◌∷◌, ◌++◌, ◌==◌, ◌&&◌, refl, sym}
use Rattle.std.proofs.Common.{ap, ◌∙◌, append_assoc, Option, Some, None, if◌then◌else◌, fold}
use Rattle.std.specs.Option.{option_map}
use Rattle.std.specs.Char.{is_whitespace}
use Rattle.std.proofs.lemmas.List.{append-nil}
use Rattle.oxc_sourcemap_text.specs.MappingUrls.{Piece, pieces, around_block_end, begins_with}
use Rattle.oxc_sourcemap_text.specs.MappingUrls.{known_after}

pub pieces-nil : (s : Bool) → pieces s None [] ≡ []
unfolding pieces
pieces-nil s = refl

pub pieces-space : (s : Bool) (a : ℕ) (cs : List ℕ) → is_whitespace a ≡ true → pieces s None (a ∷ cs) ≡ pieces s None cs
unfolding pieces
pieces-space s a [] h = rw h refl
pieces-space s a (b ∷ cs) h = rw h refl

pub pieces-line : (cs : List ℕ) → pieces true None (47 ∷ 47 ∷ cs) ≡ Some cs ∷ []
unfolding pieces
pieces-line cs = refl

-- no comment begins here
pub pieces-code : (s : Bool) (a : ℕ) (cs : List ℕ) → is_whitespace a ≡ false → (a == 47 && (s && begins_with 47 cs)) ≡ false
    → (a == 47 && begins_with 42 cs) ≡ false → pieces s None (a ∷ cs) ≡ None ∷ pieces s None cs
unfolding pieces
pieces-code s a [] h line block = rw h refl
pieces-code s a (b ∷ cs) h line block = rw (h, line, block) refl

-- what is left of a line inside of a comment, by where that ends
abbrev inside : Bool → List ℕ → Option (List ℕ × List ℕ) → List Piece
inside s text None = None ∷ []
inside s text (Some parts) = Some (text ++ parts.0) ∷ pieces s None parts.1

inside-next : (s : Bool) (text : List ℕ) (a : ℕ) (end : Option (List ℕ × List ℕ))
    → inside s (text ++ a ∷ []) end ≡ inside s text (option_map (λ parts. (a ∷ parts.0, parts.1)) end)
inside-next s text a None = refl
inside-next s text a (Some parts) = ap (λ t. Some t ∷ pieces s None parts.1) (append_assoc text (a ∷ []) parts.0)

pieces-inside : (s : Bool) (text cs : List ℕ) → pieces s (Some text) cs ≡ inside s text (around_block_end cs)
unfolding pieces
pieces-inside s text [] = refl
pieces-inside s text (a ∷ []) =
    elim (a == 42) as (λ v. None ∷ [] ≡ inside s text (if v && false then Some ([], []) else None)) [ true ↦ refl | false ↦ refl ]
pieces-inside s text (a ∷ b ∷ cs) =
    elim (a == 42 && b == 47) as (λ v. (if v then Some text ∷ pieces s None cs else pieces s (Some (text ++ a ∷ [])) (b ∷ cs))
    ≡ inside s text (if v then Some ([], cs) else option_map (λ parts. (a ∷ parts.0, parts.1)) (around_block_end (b ∷ cs)))) [
      | true ↦ ap (λ t. Some t ∷ pieces s None cs) (sym (append-nil text))
      | false ↦ pieces-inside s (text ++ a ∷ []) (b ∷ cs) ∙ inside-next s text a (around_block_end (b ∷ cs))
    ]

pieces-begun : (s : Bool) (cs : List ℕ) → pieces s None (47 ∷ 42 ∷ cs) ≡ pieces s (Some []) cs
unfolding pieces
pieces-begun true cs = refl
pieces-begun false cs = refl

pub pieces-block : (s : Bool) (cs text rest : List ℕ) → around_block_end cs ≡ Some (text, rest)
    → pieces s None (47 ∷ 42 ∷ cs) ≡ Some text ∷ pieces s None rest
pieces-block s cs text rest e = pieces-begun s cs ∙ pieces-inside s [] cs ∙ ap (inside s []) e

pieces-open : (s : Bool) (cs : List ℕ) → around_block_end cs ≡ None → pieces s None (47 ∷ 42 ∷ cs) ≡ None ∷ []
pieces-open s cs e = pieces-begun s cs ∙ pieces-inside s [] cs ∙ ap (inside s []) e

-- ---- what is known after the rest of a line, past its first piece

module _ (s : Bool) (known end : Option (List ℕ)) (a : ℕ) (cs rest : List ℕ) (spelt : rest ≡ a ∷ cs)
    (whole : fold known_after known (pieces s None rest) ≡ end) where
  past : fold known_after known (pieces s None (a ∷ cs)) ≡ end
  past = ap (λ l. fold known_after known (pieces s None l)) (sym spelt) ∙ whole

  pub past-space : is_whitespace a ≡ true → fold known_after known (pieces s None cs) ≡ end
  past-space h = ap (fold known_after known) (sym (pieces-space s a cs h)) ∙ past

  pub past-code : is_whitespace a ≡ false → (a == 47 && (s && begins_with 47 cs)) ≡ false → (a == 47 && begins_with 42 cs) ≡ false
      → fold known_after None (pieces s None cs) ≡ end
  past-code h line block = ap (fold known_after known) (sym (pieces-code s a cs h line block)) ∙ past

  pub past-line : (comment : List ℕ) → a ≡ 47 → cs ≡ 47 ∷ comment → s ≡ true → known_after known (Some comment) ≡ end
  past-line comment e f g =
      ap (fold known_after known) (sym (pieces-line comment)) ∙ ap (λ t. fold known_after known (pieces t None (47 ∷ 47 ∷ comment))) (sym g)
      ∙ ap (λ l. fold known_after known (pieces s None (47 ∷ l))) (sym f) ∙ ap (λ b. fold known_after known (pieces s None (b ∷ cs))) (sym e) ∙ past

  begun : (inner : List ℕ) → a ≡ 47 → cs ≡ 42 ∷ inner → fold known_after known (pieces s None (47 ∷ 42 ∷ inner)) ≡ end
  begun inner e f =
      ap (λ l. fold known_after known (pieces s None (47 ∷ l))) (sym f) ∙ ap (λ b. fold known_after known (pieces s None (b ∷ cs))) (sym e) ∙ past

  pub past-block : (inner text code : List ℕ) → a ≡ 47 → cs ≡ 42 ∷ inner → around_block_end inner ≡ Some (text, code)
      → fold known_after (known_after known (Some text)) (pieces s None code) ≡ end
  past-block inner text code e f g = ap (fold known_after known) (sym (pieces-block s inner text code g)) ∙ begun inner e f

  pub past-open : (inner : List ℕ) → a ≡ 47 → cs ≡ 42 ∷ inner → around_block_end inner ≡ None → None ≡ end
  past-open inner e f g = ap (fold known_after known) (sym (pieces-open s inner g)) ∙ begun inner e f
