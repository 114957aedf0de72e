-- The pieces of a line that is cut where a comment begins.
use Rattle.std.proofs.Common.{◌≡◌, ◌⊎◌, ℕ, Bool, true, false, List, [], ◌∷◌, ◌++◌, ◌==◌, ◌&&◌}
use Rattle.std.proofs.Common.{refl, sym, ap, ◌∙◌, Option, Some, None, if◌then◌else◌, inl, inr}
use Rattle.std.proofs.Common.{length, arith}
use Rattle.std.specs.Char.{is_whitespace}
use Rattle.std.proofs.lemmas.List.{length-append}
use Rattle.oxc_sourcemap_text.specs.MappingUrls.{Piece, pieces, begins_with}

and-false : (a b : Bool) → b ≡ false → (a && b) ≡ false
and-false false b h = refl
and-false true b h = h

and-fewer : (a s b : Bool) → (a && (s && true)) ≡ false → (a && (s && b)) ≡ false
and-fewer false s b h = refl
and-fewer true false b h = refl
and-fewer true true b h = cc

longer : (cs x : List ℕ) (c : ℕ) → cs ++ c ∷ x ≡ cs → ⊥
longer [] x c e = cc
longer (d ∷ cs) x c e =
    let rest : cs ++ c ∷ x ≡ cs = cc in
    longer cs x c rest

more : (p : Piece) (ps tail : List Piece) → tail ≡ (p ∷ ps) ++ tail → ⊥
more p ps tail e = absurd (omega (arith, ap length e, length-append ps tail))

pub pieces-none : (s : Bool) → pieces s None [] ≡ []
unfolding pieces
pieces-none s = refl

pub pieces-white : (s : Bool) (a : ℕ) (cs : List ℕ) → is_whitespace a ≡ true → pieces s None (a ∷ cs) ≡ pieces s None cs
unfolding pieces
pieces-white s a [] h = rw h refl
pieces-white s a (b ∷ cs) h = rw h refl

pieces-code : (s : Bool) (a : ℕ) (cs : List ℕ) → is_whitespace a ≡ false → (a == 47 && (s && begins_with 47 cs)) ≡ false
    → (a == 47 && begins_with 42 cs) ≡ false → pieces s None (a ∷ cs) ≡ None ∷ pieces s None cs
unfolding pieces
pieces-code s a [] h line block = rw h refl
pieces-code s a (b ∷ cs) h line block = rw (h, line, block) refl

pub pieces-star : (s : Bool) (cs : List ℕ) → pieces s None (42 ∷ cs) ≡ None ∷ pieces s None cs
pieces-star s cs = pieces-code s 42 cs refl refl refl

-- what is left of a line inside of a comment: the line does not end it, or it is the first piece
abbrev IsInside : List Piece → Type 0
IsInside ps = (ps ≡ None ∷ []) ⊎ ((text : List ℕ) × (others : List Piece) × (ps ≡ Some text ∷ others))

inside : (s : Bool) (text cs : List ℕ) → IsInside (pieces s (Some text) cs)
unfolding pieces
inside s text [] = inl refl
inside s text (a ∷ []) = inl refl
inside s text (a ∷ b ∷ cs) =
    elim (a == 42 && b == 47) as (λ v. IsInside (if v then Some text ∷ pieces s None cs else pieces s (Some (text ++ a ∷ [])) (b ∷ cs))) [
      | true ↦ inr (text, pieces s None cs, refl)
      | false ↦ inside s (text ++ a ∷ []) (b ∷ cs)
    ]

abbrev IsSome : List Piece → Type 0
IsSome ps = (first : Piece) × (others : List Piece) × (ps ≡ first ∷ others)

inside-some : (ps : List Piece) → IsInside ps → IsSome ps
inside-some ps is =
    elim is [
      | inl e ↦ (None, [], e)
      | inr e ↦ (Some e.0, e.1, e.2)
    ]

-- what begins with a slash has a piece
opened : (s : Bool) (cs : List ℕ) → IsSome (pieces s None (47 ∷ cs))
unfolding pieces
opened s [] = (None, [], refl)
opened true (b ∷ cs) =
    elim (b == 47) as (λ v. IsSome (if v then Some cs ∷ [] else if b == 42 then pieces true (Some []) cs else None ∷ pieces true None (b ∷ cs))) [
      | true ↦ (Some cs, [], refl)
      | false ↦ elim (b == 42) as (λ v. IsSome (if v then pieces true (Some []) cs else None ∷ pieces true None (b ∷ cs))) [
        | true ↦ inside-some (pieces true (Some []) cs) (inside true [] cs)
        | false ↦ (None, pieces true None (b ∷ cs), refl)
      ]
    ]
opened false (b ∷ cs) =
    elim (b == 42) as (λ v. IsSome (if v then pieces false (Some []) cs else None ∷ pieces false None (b ∷ cs))) [
      | true ↦ inside-some (pieces false (Some []) cs) (inside false [] cs)
      | false ↦ (None, pieces false None (b ∷ cs), refl)
    ]

-- The line may be followed by a slash outside of comments: then it may be followed by anything but a star.
module _ (s : Bool) (tail : List Piece) (x y : List ℕ) (no_star : begins_with 42 y ≡ false) where
  abbrev IsBefore : Option (List ℕ) → List ℕ → Type 0
  IsBefore state line = pieces s state (line ++ 47 ∷ x) ++ tail ≡ pieces s state line ++ (pieces s None (47 ∷ x) ++ tail)

  never : (text : List ℕ) → pieces s (Some text) (47 ∷ x) ++ tail ≡ None ∷ (pieces s None (47 ∷ x) ++ tail) → ⊥
  never text h =
      let some = opened s x in
      elim (inside s text (47 ∷ x)) [
        | inl e ↦ (let same : None ∷ tail ≡ None ∷ (pieces s None (47 ∷ x) ++ tail) = ap (λ ps. ps ++ tail) (sym e) ∙ h in
            let rest : tail ≡ pieces s None (47 ∷ x) ++ tail = cc in
            more some.0 some.1 tail (rest ∙ ap (λ ps. ps ++ tail) some.2))
        | inr e ↦ (let same : Some e.0 ∷ (e.1 ++ tail) ≡ None ∷ (pieces s None (47 ∷ x) ++ tail) = ap (λ ps. ps ++ tail) (sym e.2) ∙ h in cc)
      ]

  one-line : (a : ℕ) → is_whitespace a ≡ false → IsBefore None (a ∷ []) → (a == 47 && (s && begins_with 47 y)) ≡ false
  unfolding pieces
  one-line a white h =
      elim (a == 47 && (s && true)) as (λ v. (a == 47 && (s && true)) ≡ v → (a == 47 && (s && begins_with 47 y)) ≡ false) [
        | true ↦ (λ e. let bad = rw (white, e) at h in cc)
        | false ↦ (λ e. and-fewer (a == 47) s (begins_with 47 y) e)
      ] refl

  pub cut-at : (state : Option (List ℕ)) (line : List ℕ) → IsBefore state line → pieces s state (line ++ y) ≡ pieces s state line ++ pieces s None y
  unfolding pieces
  cut-at None [] h = refl
  cut-at None (a ∷ []) h =
      elim (is_whitespace a) as (λ v. is_whitespace a ≡ v → pieces s None (a ∷ y) ≡ (if v then [] else None ∷ []) ++ pieces s None y) [
        | true ↦ (λ e. pieces-white s a y e)
        | false ↦ (λ e. pieces-code s a y e (one-line a e h) (and-false (a == 47) (begins_with 42 y) no_star))
      ] refl
  cut-at None (a ∷ b ∷ cs) h =
      elim (is_whitespace a) as (λ v. is_whitespace a ≡ v → pieces s None (a ∷ b ∷ cs ++ y) ≡ pieces s None (a ∷ b ∷ cs) ++ pieces s None y) [
        | true ↦ (λ white. rw white (cut-at None (b ∷ cs) (rw white at h)))
        | false ↦ (λ white. elim (a == 47 && (s && b == 47)) as (λ v. (a == 47 && (s && b == 47)) ≡ v → pieces s None (a ∷ b ∷ cs ++ y) ≡ pieces s None (a ∷ b ∷ cs) ++ pieces s None y) [
          | true ↦ (λ e.
              let same = rw (white, e) at h in
              let text : cs ++ 47 ∷ x ≡ cs = cc in
              absurd (longer cs x 47 text))
          | false ↦ (λ line. elim (a == 47 && b == 42) as (λ v. (a == 47 && b == 42) ≡ v → pieces s None (a ∷ b ∷ cs ++ y) ≡ pieces s None (a ∷ b ∷ cs) ++ pieces s None y) [
            | true ↦ (λ block. rw (white, line, block) (cut-at (Some []) cs (rw (white, line, block) at h)))
            | false ↦ (λ block.
                let same = rw (white, line, block) at h in
                let rest : IsBefore None (b ∷ cs) = cc in
                rw (white, line, block) (ap (λ ps. None ∷ ps) (cut-at None (b ∷ cs) rest)))
          ] refl)
        ] refl)
      ] refl
  cut-at (Some text) [] h = absurd (never text h)
  cut-at (Some text) (a ∷ []) h =
      elim (a == 42) as (λ v. (a == 42) ≡ v → pieces s (Some text) (a ∷ y) ≡ None ∷ pieces s None y) [
        | true ↦ (λ e. let bad = rw e at h in cc)
        | false ↦ (λ e. absurd (never (text ++ a ∷ []) (rw e at h)))
      ] refl
  cut-at (Some text) (a ∷ b ∷ cs) h =
      elim (a == 42 && b == 47) as (λ v. (a == 42 && b == 47) ≡ v → pieces s (Some text) (a ∷ b ∷ cs ++ y) ≡ pieces s (Some text) (a ∷ b ∷ cs) ++ pieces s None y) [
        | true ↦ (λ e.
            let same = rw e at h in
            let rest : IsBefore None cs = cc in
            rw e (ap (λ ps. Some text ∷ ps) (cut-at None cs rest)))
        | false ↦ (λ e. rw e (cut-at (Some (text ++ a ∷ [])) (b ∷ cs) (rw e at h)))
      ] refl
