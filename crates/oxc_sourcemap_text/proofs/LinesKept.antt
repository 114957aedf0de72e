-- A comment has no line end: a space in its place leaves as many lines.
use Rattle.std.proofs.Common.{◌≡◌, ◌⊎◌, ℕ, suc, Bool, true, false, List, [], ◌∷◌, ◌++◌, ◌==◌, ◌&&◌}
use Rattle.std.proofs.Common.{refl, sym, ap, ◌∙◌, subst, length, if◌then◌else◌, inl, inr}
use Rattle.std.specs.Char.{is_whitespace}
use Rattle.std.specs.Str.{drop_trailing_whitespace}
use Rattle.std.proofs.lemmas.List.{append_assoc}
use Rattle.oxc_sourcemap_text.specs.TextLines.{ends_line, onto_first, lines_of}
use Rattle.oxc_sourcemap_text.specs.Comments.{IsLineOf, IsOnOneLine}
use Rattle.oxc_sourcemap_text.proofs.Cuts.{lines-end, lines-no_end}
use Rattle.oxc_sourcemap_text.proofs.Last.{lines-some, onto-parts, suffix}
use Rattle.oxc_sourcemap_text.proofs.Appended.{no-end}

onto-count : (c : ℕ) (ls : List (List ℕ)) → (ls ≡ [] → ⊥) → length (onto_first c ls) ≡ length ls
onto-count c [] some = absurd (some refl)
onto-count c (l ∷ ls) some = refl

count-on : (c : ℕ) (after : List ℕ) → ends_line c after ≡ false → length (lines_of (c ∷ after)) ≡ length (lines_of after)
count-on c after e = ap length (lines-no_end c after e) ∙ onto-count c (lines_of after) (lines-some after)

-- ---- a comment on its line

-- The text ends with a character that is no white space.
pub record IsEnded (text : List ℕ) : Type 0 where
  pub front : List ℕ
  pub last : ℕ
  pub is : text ≡ front ++ last ∷ []
  pub no_space : is_whitespace last ≡ false

-- the first line has more than this character
goes-on : (c : ℕ) (text line : List ℕ) (others : List (List ℕ)) → (line ≡ [] → ⊥) → lines_of (c ∷ text) ≡ (c ∷ line) ∷ others
    → (ends_line c text ≡ false) × (lines_of text ≡ line ∷ others)
goes-on c text line others some e =
    elim (ends_line c text) as (λ v. ends_line c text ≡ v → (ends_line c text ≡ false) × (lines_of text ≡ line ∷ others)) [
      | true ↦ (λ h.
          let cut : (c ∷ []) ∷ lines_of text ≡ (c ∷ line) ∷ others = sym (lines-end c text h) ∙ e in
          let same : line ≡ [] = cc in
          absurd (some same))
      | false ↦ (λ h. (h, onto-parts c (lines_of text) line others (lines-some text) (sym (lines-no_end c text h) ∙ e)))
    ] refl

ended-some : (front rest : List ℕ) (x : ℕ) → (front ++ x ∷ []) ++ rest ≡ [] → ⊥
ended-some [] rest x e = cc
ended-some (c ∷ front) rest x e = cc

past-count : (front rest back : List ℕ) (x : ℕ) (others : List (List ℕ)) → is_whitespace x ≡ false
    → lines_of ((front ++ x ∷ []) ++ back) ≡ ((front ++ x ∷ []) ++ rest) ∷ others → length (lines_of ((front ++ x ∷ []) ++ back)) ≡ length (lines_of back)
past-count [] rest back x others no_space e = count-on x back (no-end x back no_space)
past-count (c ∷ front) rest back x others no_space e =
    let next = goes-on c ((front ++ x ∷ []) ++ back) ((front ++ x ∷ []) ++ rest) others (ended-some front rest x) e in
    count-on c ((front ++ x ∷ []) ++ back) next.0 ∙ past-count front rest back x others no_space next.1

pub own-line : (s : Bool) (line front own rest after : List ℕ) → IsLineOf s line after → line ≡ (front ++ own) ++ rest → IsEnded own
    → IsOnOneLine own (rest ++ after)
own-line s line front own rest after is whole ended =
    let parts : line ≡ front ++ (own ++ rest) = whole ∙ append_assoc front own rest in
    let some : own ++ rest ≡ [] → ⊥ = λ h. ended-some ended.front rest ended.last (ap (λ l. l ++ rest) (sym ended.is) ∙ h) in
    let cut = suffix front (own ++ rest) after is.others some (subst (λ l. lines_of (l ++ after) ≡ l ∷ is.others) parts is.cut) in
    let first : lines_of (own ++ (rest ++ after)) ≡ (own ++ rest) ∷ is.others = ap lines_of (sym (append_assoc own rest after)) ∙ cut in
    subst (λ l. IsOnOneLine l (rest ++ after)) (sym ended.is)
    (past-count ended.front rest (rest ++ after) ended.last is.others ended.no_space
    (subst (λ l. lines_of (l ++ (rest ++ after)) ≡ (l ++ rest) ∷ is.others) ended.is first))

and-true : (a : Bool) → (a && true) ≡ false → a ≡ false
and-true true h = h
and-true false h = refl

onto-ended : (c : ℕ) (end : List ℕ) → (is_whitespace c && length end == 0) ≡ false → (end ≡ []) ⊎ IsEnded end → IsEnded (c ∷ end)
onto-ended c end h is =
    elim is [
      | inl none ↦ record {
        front = [];
        last = c;
        is = ap (λ l. c ∷ l) none;
        no_space = and-true (is_whitespace c) (subst (λ (l : List ℕ). (is_whitespace c && length l == 0) ≡ false) none h);
      }
      | inr more ↦ record { front = c ∷ more.front; last = more.last; is = ap (λ l. c ∷ l) more.is; no_space = more.no_space }
    ]

trimmed-ended : (text : List ℕ) → (drop_trailing_whitespace text ≡ []) ⊎ IsEnded (drop_trailing_whitespace text)
trimmed-ended [] = inl refl
trimmed-ended (c ∷ cs) =
    let end = drop_trailing_whitespace cs in
    elim (is_whitespace c && length end == 0) as (λ v. (is_whitespace c && length end == 0) ≡ v
    → ((if v then [] else c ∷ end) ≡ []) ⊎ IsEnded (if v then [] else c ∷ end)) [
      | true ↦ (λ h. inl refl)
      | false ↦ (λ h. inr (onto-ended c end h (trimmed-ended cs)))
    ] refl

pub line-ended : (text : List ℕ) → IsEnded (47 ∷ 47 ∷ drop_trailing_whitespace text)
line-ended text =
    onto-ended 47 (47 ∷ drop_trailing_whitespace text) refl (inr (onto-ended 47 (drop_trailing_whitespace text) refl (trimmed-ended text)))

pub block-ended : (text : List ℕ) → IsEnded (47 ∷ 42 ∷ (text ++ 42 ∷ 47 ∷ []))
block-ended text = record {
  front = 47 ∷ 42 ∷ (text ++ 42 ∷ []);
  last = 47;
  is = ap (λ l. 47 ∷ 42 ∷ l) (sym (append_assoc text (42 ∷ []) (47 ∷ [])));
  no_space = refl;
}

-- ---- a space in its place

ends-alike : (c : ℕ) (front xs ys : List ℕ) → ends_line c (front ++ 47 ∷ xs) ≡ ends_line c (front ++ 32 ∷ ys)
ends-alike c [] xs ys = refl
ends-alike c (d ∷ front) xs ys = refl

same-count : (front xs ys : List ℕ) → length (lines_of (47 ∷ xs)) ≡ length (lines_of (32 ∷ ys))
    → length (lines_of (front ++ 47 ∷ xs)) ≡ length (lines_of (front ++ 32 ∷ ys))
same-count [] xs ys h = h
same-count (c ∷ front) xs ys h =
    let rest = same-count front xs ys h in
    let alike = ends-alike c front xs ys in
    elim (ends_line c (front ++ 32 ∷ ys)) as (λ v. ends_line c (front ++ 32 ∷ ys) ≡ v
    → length (lines_of (c ∷ front ++ 47 ∷ xs)) ≡ length (lines_of (c ∷ front ++ 32 ∷ ys))) [
      | true ↦ (λ e. ap length (lines-end c (front ++ 47 ∷ xs) (alike ∙ e)) ∙ ap suc rest ∙ sym (ap length (lines-end c (front ++ 32 ∷ ys) e)))
      | false ↦ (λ e. count-on c (front ++ 47 ∷ xs) (alike ∙ e) ∙ rest ∙ sym (count-on c (front ++ 32 ∷ ys) e))
    ] refl

pub lines-kept : (front own rest back : List ℕ) → own ≡ 47 ∷ rest → IsOnOneLine own back
    → length (lines_of (front ++ 32 ∷ back)) ≡ length (lines_of (front ++ (own ++ back)))
lines-kept front own rest back is one =
    let opened : IsOnOneLine (47 ∷ rest) back = subst (λ l. IsOnOneLine l back) is one in
    sym (ap (λ l. length (lines_of (front ++ (l ++ back)))) is ∙ same-count front (rest ++ back) back (opened ∙ sym (count-on 32 back refl)))
