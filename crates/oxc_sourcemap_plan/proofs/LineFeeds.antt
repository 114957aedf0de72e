-- A line feed at the end of a line changes nothing that is known.
use Rattle.std.proofs.Common.{◌≡◌, ℕ, zero, suc, Bool, true, false, List, [], ◌∷◌, ◌++◌, ◌==◌, ◌&&◌}
use Rattle.std.proofs.Common.{◌||◌, refl, sym, ap, ◌∙◌, Option, Some, None, if◌then◌else◌, fold}
use Rattle.std.proofs.Common.{codes, length, take, drop}
use Rattle.std.specs.Prelude.{is_some, nat_eq}
use Rattle.std.specs.Option.{option_map, option_or}
use Rattle.std.specs.Cmp.Lexicographic.{pointwise}
use Rattle.std.specs.List.{list_any, starts_with}
use Rattle.std.specs.Char.{is_whitespace}
use Rattle.std.specs.Str.{skip_leading_whitespace, drop_trailing_whitespace}
use Rattle.std.proofs.lemmas.List.Folds.{list_any-append}
use Rattle.oxc_sourcemap_text.specs.MappingUrls.{pieces, known_after, around_block_end, begins_with}
use Rattle.oxc_sourcemap_text.specs.MappingUrls.{may_end_another, named_url, url_behind, behind_key}
use Rattle.oxc_sourcemap_text.specs.MappingUrls.{is_mark, is_quote, without_white_space}

-- a text with a line feed behind it
abbrev fed : List ℕ → List ℕ
fed text = text ++ 10 ∷ []

or-false : (b : Bool) → (b || false) ≡ b
or-false false = refl
or-false true = refl

and-false : (a : Bool) → (a && false) ≡ false
and-false false = refl
and-false true = refl

no-slash : (a s : Bool) → (a && (s && false)) ≡ false
no-slash false s = refl
no-slash true s = and-false s

-- ---- the text of a comment

is_some-map : (c : ℕ) (parts : Option (List ℕ × List ℕ)) → is_some {T = List ℕ × List ℕ} (option_map (λ p. (c ∷ p.0, p.1)) parts) ≡ is_some parts
is_some-map c None = refl
is_some-map c (Some p) = refl

begins-fed : (cs : List ℕ) → begins_with 47 (fed cs) ≡ begins_with 47 cs
begins-fed [] = refl
begins-fed (c ∷ cs) = refl

end-fed : (cs : List ℕ) → is_some (around_block_end (fed cs)) ≡ is_some (around_block_end cs)
end-fed [] = refl
end-fed (c ∷ cs) =
    elim (c == 42 && begins_with 47 cs) as (λ v. (c == 42 && begins_with 47 cs) ≡ v → is_some (around_block_end (c ∷ fed cs)) ≡ is_some (around_block_end (c ∷ cs))) [
      | true ↦ (λ e. rw (begins-fed cs, e) refl)
      | false ↦ (λ e. rw (begins-fed cs, e) (is_some-map c (around_block_end (fed cs)) ∙ end-fed cs ∙ sym (is_some-map c (around_block_end cs))))
    ] refl

harm-fed : (text : List ℕ) → may_end_another (fed text) ≡ may_end_another text
harm-fed text =
    ap (λ b. b || is_some (around_block_end (fed text))) (list_any-append is_quote text (10 ∷ []) ∙ or-false (list_any is_quote text))
    ∙ ap (λ b. list_any is_quote text || b) (end-fed text)

trim-fed : (text : List ℕ) → drop_trailing_whitespace (fed text) ≡ drop_trailing_whitespace text
trim-fed [] = refl
trim-fed (c ∷ text) = ap (λ l. if is_whitespace c && length l == 0 then [] else c ∷ l) (trim-fed text)

drop-fed : (n : ℕ) (text : List ℕ) → drop_trailing_whitespace (drop n (fed text)) ≡ drop_trailing_whitespace (drop n text)
drop-fed zero text = trim-fed text
drop-fed (suc zero) [] = refl
drop-fed (suc (suc n)) [] = refl
drop-fed (suc n) (c ∷ text) = drop-fed n text

key-fed : (key text : List ℕ) → list_any (λ k. nat_eq k 10) key ≡ false
    → pointwise nat_eq key (take (length key) (fed text)) ≡ pointwise nat_eq key (take (length key) text)
key-fed [] text h = refl
key-fed (k ∷ key) [] h =
    elim (nat_eq k 10) as (λ v. (v || list_any (λ k. nat_eq k 10) key) ≡ false → (v && pointwise nat_eq key (take (length key) [])) ≡ false) [
      | true ↦ (λ e. cc)
      | false ↦ (λ e. refl)
    ] h
key-fed (k ∷ key) (c ∷ text) h =
    elim (nat_eq k 10) as (λ v. (v || list_any (λ k. nat_eq k 10) key) ≡ false
    → (nat_eq k c && pointwise nat_eq key (take (length key) (fed text))) ≡ (nat_eq k c && pointwise nat_eq key (take (length key) text))) [
      | true ↦ (λ e. cc)
      | false ↦ (λ e. ap (λ b. nat_eq k c && b) (key-fed key text e))
    ] h

behind-fed : (text : List ℕ) → behind_key (fed text) ≡ behind_key text
behind-fed text =
    ap (λ b. if b then without_white_space (drop_trailing_whitespace (drop 17 (fed text))) else None) (key-fed (codes "sourceMappingURL=") text refl)
    ∙ ap (λ l. if starts_with nat_eq text (codes "sourceMappingURL=") then without_white_space l else None) (drop-fed 17 text)

skip-fed : (text : List ℕ) → behind_key (skip_leading_whitespace (fed text)) ≡ behind_key (skip_leading_whitespace text)
skip-fed [] = refl
skip-fed (c ∷ text) =
    elim (is_whitespace c) as (λ v. behind_key (if v then skip_leading_whitespace (fed text) else c ∷ fed text) ≡ behind_key (if v then skip_leading_whitespace text else c ∷ text)) [
      | true ↦ skip-fed text
      | false ↦ behind-fed (c ∷ text)
    ]

named-fed : (text : List ℕ) → named_url (fed text) ≡ named_url text
named-fed [] = refl
named-fed (c ∷ text) =
    elim (is_mark c) as (λ v. url_behind (if v then Some (fed text) else None) ≡ url_behind (if v then Some text else None)) [
      | true ↦ skip-fed text
      | false ↦ refl
    ]

known-fed : (known : Option (List ℕ)) (text : List ℕ) → known_after known (Some (fed text)) ≡ known_after known (Some text)
known-fed known text =
    ap (λ b. if b then None else option_or (named_url (fed text)) known) (harm-fed text)
    ∙ ap (λ o. if may_end_another text then None else option_or o known) (named-fed text)

-- ---- the pieces of a line

pub pieces-fed : (s : Bool) (known : Option (List ℕ)) (state : Option (List ℕ)) (line : List ℕ)
    → fold known_after known (pieces s state (fed line)) ≡ fold known_after known (pieces s state line)
unfolding pieces
pieces-fed s known None [] = refl
pieces-fed s known None (a ∷ []) =
    elim (is_whitespace a) as (λ v. is_whitespace a ≡ v → fold known_after known (pieces s None (a ∷ 10 ∷ [])) ≡ fold known_after known (pieces s None (a ∷ []))) [
      | true ↦ (λ e. rw e refl)
      | false ↦ (λ e. rw (e, no-slash (a == 47) s, and-false (a == 47)) refl)
    ] refl
pieces-fed s known None (a ∷ b ∷ cs) =
    elim (is_whitespace a) as (λ v. fold known_after known (if v then pieces s None (b ∷ fed cs) else if a == 47 && (s && b == 47) then Some (fed cs) ∷ []
    else if a == 47 && b == 42 then pieces s (Some []) (fed cs) else None ∷ pieces s None (b ∷ fed cs))
    ≡ fold known_after known (if v then pieces s None (b ∷ cs) else if a == 47 && (s && b == 47) then Some cs ∷ []
    else if a == 47 && b == 42 then pieces s (Some []) cs else None ∷ pieces s None (b ∷ cs))) [
      | true ↦ pieces-fed s known None (b ∷ cs)
      | false ↦ elim (a == 47 && (s && b == 47)) as (λ v. fold known_after known (if v then Some (fed cs) ∷ []
          else if a == 47 && b == 42 then pieces s (Some []) (fed cs) else None ∷ pieces s None (b ∷ fed cs))
          ≡ fold known_after known (if v then Some cs ∷ []
          else if a == 47 && b == 42 then pieces s (Some []) cs else None ∷ pieces s None (b ∷ cs))) [
            | true ↦ known-fed known cs
            | false ↦ elim (a == 47 && b == 42) as (λ v. fold known_after known (if v then pieces s (Some []) (fed cs) else None ∷ pieces s None (b ∷ fed cs))
                ≡ fold known_after known (if v then pieces s (Some []) cs else None ∷ pieces s None (b ∷ cs))) [
                  | true ↦ pieces-fed s known (Some []) cs
                  | false ↦ pieces-fed s None None (b ∷ cs)
                ]
          ]
    ]
pieces-fed s known (Some text) [] = refl
pieces-fed s known (Some text) (a ∷ []) = rw (and-false (a == 42)) refl
pieces-fed s known (Some text) (a ∷ b ∷ cs) =
    elim (a == 42 && b == 47) as (λ v. fold known_after known (if v then Some text ∷ pieces s None (fed cs) else pieces s (Some (text ++ a ∷ [])) (b ∷ fed cs))
    ≡ fold known_after known (if v then Some text ∷ pieces s None cs else pieces s (Some (text ++ a ∷ [])) (b ∷ cs))) [
      | true ↦ pieces-fed s (known_after known (Some text)) None cs
      | false ↦ pieces-fed s known (Some (text ++ a ∷ [])) (b ∷ cs)
    ]
