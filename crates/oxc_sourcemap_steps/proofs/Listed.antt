-- Sources with their marks: the lists of them, and the indices that stand for them.
use Rattle.std.proofs.Common.{◌≡◌, refl, sym, ap, subst, ◌∙◌, ℕ, Bool, true, false, cond, ◌&&◌}
use Rattle.std.proofs.Common.{◌||◌, List, [], ◌∷◌, ◌++◌, Option, Some, None, is_some, append_assoc}
use Rattle.std.proofs.Common.{append-nil}
use Rattle.std.specs.Bool.{Decides, beq}
use Rattle.std.specs.List.{list_any, flat_map}
use Rattle.oxc_sourcemap_parts.specs.DecodedMap.{DecodedSource}
use Rattle.oxc_sourcemap_join.proofs.SameToken.{decides_and, decides_as}
use Rattle.oxc_sourcemap_steps.specs.Same.{is_same_source}
use Rattle.oxc_sourcemap_steps.specs.Simplified.{is_same_marked, index_of_marked, listings}
use Rattle.oxc_sourcemap_steps.specs.Simplified.{with_source}
use Rattle.oxc_sourcemap_steps.specs.SimplifySteps.{with_any}
use Rattle.oxc_sourcemap_steps.proofs.Same.{decides_source}
use Rattle.oxc_sourcemap_steps.proofs.Codes.{any-is, with_one, AreCodes, codes-with}

decides_beq : (a b : Bool) → Decides (beq a b) (a ≡ b)
decides_beq true true = (λ h. refl, λ h. refl)
decides_beq true false = (λ h. cc, λ h. cc)
decides_beq false true = (λ h. cc, λ h. cc)
decides_beq false false = (λ h. refl, λ h. refl)

marked-by : (a b : DecodedSource × Bool) → a.0 ≡ b.0 → a.1 ≡ b.1 → a ≡ b
marked-by a b e f = ap (λ (s : DecodedSource). (s, a.1)) e ∙ ap (λ (m : Bool). (b.0, m)) f

pub decides_marked : (a b : DecodedSource × Bool) → Decides (is_same_marked a b) (a ≡ b)
decides_marked a b =
    decides_as (is_same_marked a b) ((a.0 ≡ b.0) × (a.1 ≡ b.1)) (a ≡ b)
    (λ h. marked-by a b h.0 h.1)
    (λ e. (ap (λ (m : DecodedSource × Bool). m.0) e, ap (λ (m : DecodedSource × Bool). m.1) e))
    (decides_and _ _ _ _ (decides_source a.0 b.0) (decides_beq a.1 b.1))

any-append : {A : Type 0} (t : A → Bool) (xs ys : List A) → list_any t (xs ++ ys) ≡ (list_any t xs || list_any t ys)
any-append t [] ys = refl
any-append t (x ∷ xs) ys = elim (t x) as (λ b. (b || list_any t (xs ++ ys)) ≡ ((b || list_any t xs) || list_any t ys)) [ true ↦ refl | false ↦ any-append t xs ys ]

abbrev pub AreMarkedCodes : List (DecodedSource × Bool) → List ℕ → List (DecodedSource × Bool) → Type 0
AreMarkedCodes marked ks ms = AreCodes is_same_marked decides_marked marked ks ms

module _ (marked : List (DecodedSource × Bool)) where
  -- whether a source is listed with this mark
  abbrev is-listed : DecodedSource → Bool → Bool
  is-listed s b = list_any (is_same_marked (s, b)) marked

  abbrev some-if : Bool → DecodedSource × Bool → List (DecodedSource × Bool)
  some-if c m = cond c (m ∷ []) []

  listings-by : (p q : Bool) (s : DecodedSource) → cond p ((s, false) ∷ cond q ((s, true) ∷ []) []) (cond q ((s, true) ∷ []) []) ≡ some-if p (s, false) ++ some-if q (s, true)
  listings-by true q s = refl
  listings-by false q s = refl

  listings-are : (s : DecodedSource) → listings marked s ≡ some-if (is-listed s false) (s, false) ++ some-if (is-listed s true) (s, true)
  listings-are s = listings-by (is-listed s false) (is-listed s true) s

  -- whether one of two is this marked source
  one-of : (e p q b : Bool) (s t : DecodedSource) → is_same_source s t ≡ e
      → list_any (is_same_marked (s, b)) (some-if p (t, false) ++ some-if q (t, true)) ≡ (e && cond b q p)
  one-of true true true true s t h = rw h refl
  one-of true true true false s t h = rw h refl
  one-of true true false true s t h = rw h refl
  one-of true true false false s t h = rw h refl
  one-of true false true true s t h = rw h refl
  one-of true false true false s t h = rw h refl
  one-of true false false true s t h = refl
  one-of true false false false s t h = refl
  one-of false true true true s t h = rw h refl
  one-of false true true false s t h = rw h refl
  one-of false true false true s t h = rw h refl
  one-of false true false false s t h = rw h refl
  one-of false false true true s t h = rw h refl
  one-of false false true false s t h = rw h refl
  one-of false false false true s t h = refl
  one-of false false false false s t h = refl

  listed-by : (b : Bool) (s : DecodedSource) → cond b (is-listed s true) (is-listed s false) ≡ is-listed s b
  listed-by true s = refl
  listed-by false s = refl

  head-any : (e b : Bool) (s t : DecodedSource) → is_same_source s t ≡ e → list_any (is_same_marked (s, b)) (listings marked t) ≡ (e && is-listed s b)
  head-any true b s t h =
      let same : s ≡ t = (decides_source s t).0 h in
      ap (list_any (is_same_marked (s, b))) (listings-are t) ∙ one-of true (is-listed t false) (is-listed t true) b s t h
      ∙ listed-by b t ∙ ap (λ z. is-listed z b) (sym same)
  head-any false b s t h =
      ap (list_any (is_same_marked (s, b))) (listings-are t) ∙ one-of false (is-listed t false) (is-listed t true) b s t h

  or-and : (e f l : Bool) → ((e && l) || (f && l)) ≡ ((e || f) && l)
  or-and true true true = refl
  or-and true true false = refl
  or-and true false true = refl
  or-and true false false = refl
  or-and false true true = refl
  or-and false true false = refl
  or-and false false true = refl
  or-and false false false = refl

  -- a marked source is among the listings of some sources exactly if its source is one of them, and it is listed
  any-in : (s : DecodedSource) (b : Bool) (ss : List DecodedSource) → list_any (is_same_marked (s, b)) (flat_map (listings marked) ss) ≡ (list_any (is_same_source s) ss && is-listed s b)
  any-in s b [] = refl
  any-in s b (t ∷ ts) =
      any-append (is_same_marked (s, b)) (listings marked t) (flat_map (listings marked) ts)
      ∙ ap (λ c. c || list_any (is_same_marked (s, b)) (flat_map (listings marked) ts)) (head-any (is_same_source s t) b s t refl)
      ∙ ap (λ c. (is_same_source s t && is-listed s b) || c) (any-in s b ts)
      ∙ or-and (is_same_source s t) (list_any (is_same_source s) ts) (is-listed s b)

  -- a list with this marked source, if it is listed
  abbrev with-listing : List (DecodedSource × Bool) → DecodedSource × Bool → List (DecodedSource × Bool)
  with-listing ms m = cond (list_any (is_same_marked m) marked) (with_one is_same_marked decides_marked ms m) ms

  abbrev with-both : List (DecodedSource × Bool) → DecodedSource → List (DecodedSource × Bool)
  with-both ms s = with-listing (with-listing ms (s, false)) (s, true)

  abbrev all-of : List DecodedSource → List (DecodedSource × Bool)
  all-of ss = flat_map (listings marked) ss

  flat-last : (ss : List DecodedSource) (s : DecodedSource) → all-of (ss ++ s ∷ []) ≡ all-of ss ++ listings marked s
  flat-last [] s = append-nil (listings marked s)
  flat-last (t ∷ ts) s = ap (λ zs. listings marked t ++ zs) (flat-last ts s) ∙ sym (append_assoc (listings marked t) (all-of ts) (listings marked s))

  -- a listing that is there, and one that is not
  stays : (p c : Bool) (ms : List (DecodedSource × Bool)) (m : DecodedSource × Bool) → list_any (is_same_marked m) ms ≡ c → (p ≡ true → c ≡ true) → cond p (with_one is_same_marked decides_marked ms m) ms ≡ ms
  stays true c ms m e h = rw (e ∙ h refl) refl
  stays false c ms m e h = refl

  comes : (p : Bool) (ms : List (DecodedSource × Bool)) (m : DecodedSource × Bool) → list_any (is_same_marked m) ms ≡ false → cond p (with_one is_same_marked decides_marked ms m) ms ≡ ms ++ some-if p m
  comes true ms m e = rw e refl
  comes false ms m e = sym (append-nil ms)

  and-true : (b : Bool) → b ≡ true → (true && b) ≡ true
  and-true b h = h

  other-mark : (p : Bool) (s : DecodedSource) → list_any (is_same_marked (s, true)) (some-if p (s, false)) ≡ false
  other-mark true s = rw ((decides_source s s).1 refl) refl
  other-mark false s = refl

  or-false : (a b : Bool) → a ≡ false → b ≡ false → (a || b) ≡ false
  or-false a b e f = rw e f

  both-by : (e : Bool) (ss : List DecodedSource) (s : DecodedSource) → list_any (is_same_source s) ss ≡ e → with-both (all-of ss) s ≡ all-of (cond e ss (ss ++ s ∷ []))
  both-by true ss s h =
      let one : with-listing (all-of ss) (s, false) ≡ all-of ss =
      stays (is-listed s false) (is-listed s false) (all-of ss) (s, false) (any-in s false ss ∙ ap (λ b. b && is-listed s false) h) (λ q. q) in
      ap (λ ms. with-listing ms (s, true)) one
      ∙ stays (is-listed s true) (is-listed s true) (all-of ss) (s, true) (any-in s true ss ∙ ap (λ b. b && is-listed s true) h) (λ q. q)
  both-by false ss s h =
      let front = all-of ss ++ some-if (is-listed s false) (s, false) in
      let one : with-listing (all-of ss) (s, false) ≡ front =
      comes (is-listed s false) (all-of ss) (s, false) (any-in s false ss ∙ ap (λ b. b && is-listed s false) h) in
      let none : list_any (is_same_marked (s, true)) front ≡ false =
      any-append (is_same_marked (s, true)) (all-of ss) (some-if (is-listed s false) (s, false))
      ∙ or-false _ _ (any-in s true ss ∙ ap (λ b. b && is-listed s true) h) (other-mark (is-listed s false) s) in
      ap (λ ms. with-listing ms (s, true)) one ∙ comes (is-listed s true) front (s, true) none
      ∙ append_assoc (all-of ss) (some-if (is-listed s false) (s, false)) (some-if (is-listed s true) (s, true))
      ∙ ap (λ zs. all-of ss ++ zs) (sym (listings-are s)) ∙ sym (flat-last ss s)

  -- with both listings of a source come those of the list with this source
  both-listings : (ss : List DecodedSource) (s : DecodedSource) → with-both (all-of ss) s ≡ all-of (with_source ss s)
  both-listings ss s = both-by (list_any (is_same_source s) ss) ss s refl

  -- codes of that
  codes-any : (o : Option ℕ) (ks : List ℕ) (ms : List (DecodedSource × Bool)) (m : DecodedSource × Bool) → index_of_marked m marked ≡ o → AreMarkedCodes marked ks ms
      → AreMarkedCodes marked (with_any ks o) (cond (is_some o) (with_one is_same_marked decides_marked ms m) ms)
  codes-any None ks ms m e h = h
  codes-any (Some k) ks ms m e h = codes-with is_same_marked decides_marked marked k m ks ms e h

  codes-listing : (ks : List ℕ) (ms : List (DecodedSource × Bool)) (m : DecodedSource × Bool) → AreMarkedCodes marked ks ms → AreMarkedCodes marked (with_any ks (index_of_marked m marked)) (with-listing ms m)
  codes-listing ks ms m h =
      subst (λ b. AreMarkedCodes marked (with_any ks (index_of_marked m marked)) (cond b (with_one is_same_marked decides_marked ms m) ms))
      (sym (any-is (is_same_marked m) 0 marked)) (codes-any (index_of_marked m marked) ks ms m refl h)

  pub codes-source : (ks : List ℕ) (ss : List DecodedSource) (s : DecodedSource) → AreMarkedCodes marked ks (all-of ss)
      → AreMarkedCodes marked (with_any (with_any ks (index_of_marked (s, false) marked)) (index_of_marked (s, true) marked)) (all-of (with_source ss s))
  codes-source ks ss s h =
      subst (AreMarkedCodes marked (with_any (with_any ks (index_of_marked (s, false) marked)) (index_of_marked (s, true) marked))) (both-listings ss s)
      (codes-listing (with_any ks (index_of_marked (s, false) marked)) (with-listing (all-of ss) (s, false)) (s, true) (codes-listing ks (all-of ss) (s, false) h))
