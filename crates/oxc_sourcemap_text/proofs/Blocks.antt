-- The first `*/` of a text, by bytes and by characters.
use Rattle.std.proofs.Common.{◌≡◌, ◌≢◌, ℕ, ◌+◌, ◌<◌, ◌≤◌, true, false, List, [], ◌∷◌, ◌++◌, ◌==◌}
use Rattle.std.proofs.Common.{◌&&◌, length, take, drop, get_or, arith, refl, sym, ap, ◌∙◌, Option}
use Rattle.std.proofs.Common.{Some, None, if◌then◌else◌, codes, ⊎_elim, suc, IfSome, add-zero}
use lib.Utf8.{encodes}
use Rattle.std.specs.Option.{option_map}
use Rattle.std.specs.Str.{chars, IsUtf8}
use Rattle.std.specs.Str.Pattern.{LacksTextAt, HasTextAt}
use Rattle.std.proofs.lemmas.Bool.{cases_lt, and_parts, eqb-true}
use Rattle.std.proofs.lemmas.Bool.Decides.{nat_tests}
use Rattle.std.proofs.lemmas.List.{take-append-drop, take-append-le, take_at, drop_at}
use Rattle.std.proofs.lemmas.List.{length-append, length-take-le, length-drop, get_or-drop}
use Rattle.std.proofs.lemmas.Str.{chars-append, chars-IsAscii, encodes-append, encodes-chars}
use Rattle.std.proofs.lemmas.Str.{length-le-encodes, IsUtf8-take, IsUtf8-drop, encode_ascii}
use Rattle.std.proofs.lemmas.Str.{IsCharBoundary-before_ascii, IsUtf8-from_ascii}
use Rattle.oxc_sourcemap_text.specs.MappingUrls.{around_block_end, begins_with}

begins-cons : (c : ℕ) (cs : List ℕ) → begins_with c cs ≡ true → cs ≡ c ∷ drop 1 cs
begins-cons c [] h = cc
begins-cons c (d ∷ cs) h = ap (λ e. e ∷ cs) (eqb-true d c h)

-- ---- by characters

-- a character before the first of two parts
abbrev pub onto_front : ℕ → Option (List ℕ × List ℕ) → Option (List ℕ × List ℕ)
onto_front c parts = option_map (λ p. (c ∷ p.0, p.1)) parts

-- no `*/` of the text is before this one
abbrev IsFirstEnd : List ℕ → List ℕ → Type 0
IsFirstEnd xs ys = (zs ws : List ℕ) → xs ++ 42 ∷ 47 ∷ ys ≡ zs ++ 42 ∷ 47 ∷ ws → length xs ≤ length zs

around-first : (xs ys : List ℕ) → IsFirstEnd xs ys → around_block_end (xs ++ 42 ∷ 47 ∷ ys) ≡ Some (xs, ys)
around-first [] ys h = refl
around-first (x ∷ xs) ys h =
    let rest : List ℕ = xs ++ 42 ∷ 47 ∷ ys in
    elim (x == 42 && begins_with 47 rest) as (λ v. (x == 42 && begins_with 47 rest) ≡ v
    → (if v then Some ([], drop 1 rest) else onto_front x (around_block_end rest)) ≡ Some (x ∷ xs, ys)) [
      | true ↦ (λ e.
          let star : x ≡ 42 = eqb-true x 42 ((and_parts (x == 42) (begins_with 47 rest) e).0) in
          let slash : rest ≡ 47 ∷ drop 1 rest = begins-cons 47 rest ((and_parts (x == 42) (begins_with 47 rest) e).1) in
          let earlier : x ∷ rest ≡ [] ++ 42 ∷ 47 ∷ drop 1 rest = rw (star, ← slash) refl in
          let short = h [] (drop 1 rest) earlier in
          absurd (omega arith))
      | false ↦ (λ e. ap (onto_front x) (around-first xs ys (λ zs ws f. let n = h (x ∷ zs) ws (ap (λ l. x ∷ l) f) in omega arith)))
    ] refl

around-none : (cs : List ℕ) → ((zs ws : List ℕ) → cs ≢ zs ++ 42 ∷ 47 ∷ ws) → around_block_end cs ≡ None
around-none [] h = refl
around-none (c ∷ cs) h =
    elim (c == 42 && begins_with 47 cs) as (λ v. (c == 42 && begins_with 47 cs) ≡ v
    → (if v then Some ([], drop 1 cs) else onto_front c (around_block_end cs)) ≡ None) [
      | true ↦ (λ e.
          let star : c ≡ 42 = eqb-true c 42 ((and_parts (c == 42) (begins_with 47 cs) e).0) in
          let slash : cs ≡ 47 ∷ drop 1 cs = begins-cons 47 cs ((and_parts (c == 42) (begins_with 47 cs) e).1) in
          let here : c ∷ cs ≡ [] ++ 42 ∷ 47 ∷ drop 1 cs = rw (star, ← slash) refl in
          absurd (h [] (drop 1 cs) here))
      | false ↦ (λ e. ap (onto_front c) (around-none cs (λ zs ws f. h (c ∷ zs) ws (ap (λ l. c ∷ l) f))))
    ] refl

-- ---- by bytes

encodes-end : (zs ws : List ℕ) → encodes (zs ++ 42 ∷ 47 ∷ ws) ≡ encodes zs ++ 42 ∷ 47 ∷ encodes ws
encodes-end zs ws =
    encodes-append zs (42 ∷ 47 ∷ ws) ∙ ap (λ l. encodes zs ++ l) (rw (encode_ascii 42 (omega arith), encode_ascii 47 (omega arith)) refl)

-- the characters that stand before a `*/` have as many bytes as stand before it
bytes-before : (s zs ws : List ℕ) → IsUtf8 s → chars s ≡ zs ++ 42 ∷ 47 ∷ ws → s ≡ encodes zs ++ 42 ∷ 47 ∷ encodes ws
bytes-before s zs ws utf8 e = sym (encodes-chars s utf8) ∙ ap encodes e ∙ encodes-end zs ws

pub block-missing : (s : List ℕ) → IsUtf8 s → ((i : ℕ) → i ≤ length s → LacksTextAt (codes "*/") s i) → around_block_end (chars s) ≡ None
block-missing s utf8 lacks =
    around-none (chars s) (λ zs ws e.
    let split = bytes-before s zs ws utf8 e in
    let size : length s ≡ length (encodes zs) + length (42 ∷ 47 ∷ encodes ws) = ap length split ∙ length-append (encodes zs) (42 ∷ 47 ∷ encodes ws) in
    lacks (length (encodes zs)) (omega arith) (encodes ws)
    (ap (drop (length (encodes zs))) split ∙ drop_at (encodes zs) (42 ∷ 47 ∷ encodes ws) (length (encodes zs)) refl))

-- a shorter front of some characters has fewer bytes
fewer-bytes : (fs rest zs ws : List ℕ) → fs ++ rest ≡ zs ++ ws → length zs < length fs → length (encodes zs) < length (encodes fs)
fewer-bytes fs rest zs ws e short =
    let front : take (length zs) fs ≡ zs =
    sym (take-append-le (length zs) fs rest (omega arith)) ∙ ap (take (length zs)) e ∙ take_at zs ws (length zs) refl in
    let parts : fs ≡ zs ++ drop (length zs) fs = sym (take-append-drop (length zs) fs) ∙ ap (λ l. l ++ drop (length zs) fs) front in
    let whole : length fs ≡ length zs + length (drop (length zs) fs) = ap length parts ∙ length-append zs (drop (length zs) fs) in
    let bytes : length (encodes fs) ≡ length (encodes zs) + length (encodes (drop (length zs) fs)) =
    ap (λ l. length (encodes l)) parts ∙ ap length (encodes-append zs (drop (length zs) fs)) ∙ length-append (encodes zs) (encodes (drop (length zs) fs)) in
    omega (arith, length-le-encodes (drop (length zs) fs))

pub chars-end : (b : List ℕ) → IsUtf8 b → chars (42 ∷ 47 ∷ b) ≡ 42 ∷ 47 ∷ chars b
chars-end b utf8 =
    let marks : List ℕ = 42 ∷ 47 ∷ [] in
    let ascii : (i : ℕ) → get_or marks i 0 < 128 = λ i. grind (arith, nat_tests) in
    chars-append marks b (IsUtf8-from_ascii marks ascii) ∙ ap (λ l. l ++ chars b) (chars-IsAscii marks ascii)

pub front-utf8 : (s : List ℕ) (i j : ℕ) → IsUtf8 s → HasTextAt (codes "*/") s i j → IsUtf8 (take i s)
front-utf8 s i j utf8 has =
    let first : get_or s i 0 ≡ 42 = rw add-zero at (sym (get_or-drop i s 0 0) ∙ ap (λ l. get_or l 0 0) has.split) in
    let within : i < length s = omega (arith, ap length has.split, length-drop i s) in
    IsUtf8-take s i utf8 (IsCharBoundary-before_ascii s i within (omega arith))

pub back-utf8 : (s : List ℕ) (i j : ℕ) → IsUtf8 s → HasTextAt (codes "*/") s i j → IsUtf8 (drop j s)
back-utf8 s i j utf8 has = IsUtf8-drop s j utf8 (rw has.ends has.after)

pub block-whole : (s : List ℕ) (i j : ℕ) → HasTextAt (codes "*/") s i j → s ≡ take i s ++ 42 ∷ 47 ∷ drop j s
block-whole s i j has = sym (take-append-drop i s) ∙ ap (λ l. take i s ++ l) has.split

pub block-found : (s : List ℕ) (i j : ℕ) → IsUtf8 s → i ≤ length s
    → ((k : ℕ) → k < i → LacksTextAt (codes "*/") s k) → HasTextAt (codes "*/") s i j
    → around_block_end (chars s) ≡ Some (chars (take i s), chars (drop j s))
block-found s i j utf8 within lacks has =
    let front = front-utf8 s i j utf8 has in
    let back = back-utf8 s i j utf8 has in
    let f = take i s in
    let b = drop j s in
    let parts : s ≡ f ++ 42 ∷ 47 ∷ b = sym (take-append-drop i s) ∙ ap (λ l. f ++ l) has.split in
    let spelt : chars s ≡ chars f ++ 42 ∷ 47 ∷ chars b =
    ap chars parts ∙ chars-append f (42 ∷ 47 ∷ b) front ∙ ap (λ l. chars f ++ l) (chars-end b back) in
    let first : IsFirstEnd (chars f) (chars b) = λ zs ws e.
    ⊎_elim
    (λ short.
    let fewer = fewer-bytes (chars f) (42 ∷ 47 ∷ chars b) zs (42 ∷ 47 ∷ ws) e short in
    let size : length (encodes (chars f)) ≡ i = ap length (encodes-chars f front) ∙ length-take-le i s within in
    let split = bytes-before s zs ws utf8 (spelt ∙ e) in
    absurd (lacks (length (encodes zs)) (omega arith) (encodes ws)
    (ap (drop (length (encodes zs))) split ∙ drop_at (encodes zs) (42 ∷ 47 ∷ encodes ws) (length (encodes zs)) refl)))
    (λ long. long)
    (cases_lt (length zs) (length (chars f))) in
    rw spelt (around-first (chars f) (chars b) first)

onto_front-shorter : (c : ℕ) (n : ℕ) (parts : Option (List ℕ × List ℕ)) → IfSome parts (λ p. length p.1 < n) → IfSome (onto_front c parts) (λ p. length p.1 < suc n)
onto_front-shorter c n None h = h
onto_front-shorter c n (Some p) h = omega arith

-- what is behind a `*/` is shorter
pub around-shorter : (cs : List ℕ) → IfSome (around_block_end cs) (λ p. length p.1 < length cs)
around-shorter [] = tt
around-shorter (c ∷ cs) =
    elim (c == 42 && begins_with 47 cs) as (λ v. IfSome (if v then Some ([], drop 1 cs) else onto_front c (around_block_end cs)) (λ p. length p.1 < suc (length cs))) [
      | true ↦ omega (arith, length-drop 1 cs)
      | false ↦ onto_front-shorter c (length cs) (around_block_end cs) (around-shorter cs)
    ]
