-- Where no two paths are equal, each source is the first one that is equal to it, whatever its content.
use Rattle.std.proofs.Common.{◌≡◌, refl, sym, ap, ◌∙◌, ℕ, zero, suc, ◌+◌, ◌<◌, ◌≤◌, Bool, true}
use Rattle.std.proofs.Common.{false, cond, ◌&&◌, List, [], ◌∷◌, map, length, slice_get, get_or}
use Rattle.std.proofs.Common.{Option, Some, arith}
use Rattle.std.specs.List.{position_from}
use Rattle.std.specs.Str.{bytes_eq}
use Rattle.oxc_sourcemap_parts.specs.DecodedMap.{DecodedSource, sources_of}
use Rattle.oxc_sourcemap_parts.specs.Record.{Text}
use Rattle.oxc_sourcemap_join.specs.Joined.{is_same_option}
use Rattle.oxc_sourcemap_steps.proofs.SourceBlocks.{paths-of}
use Rattle.oxc_sourcemap_steps.specs.Same.{is_same_source}
use Rattle.oxc_sourcemap_steps.specs.SimplifySteps.{AreFirsts}
use Rattle.oxc_sourcemap_steps.proofs.Codes.{position-same}
use Rattle.oxc_sourcemap_steps.proofs.Same.{decides_source}

above-from : {A : Type 0} (t : A → Bool) (k : ℕ) (xs : List A) (i : ℕ) → position_from t k xs ≡ Some i → k ≤ i
above-from t k [] i e = absurd (cc (e))
above-from t k (x ∷ xs) i e =
    elim (t x) as (λ b. cond b (Some k) (position_from t (k + 1) xs) ≡ Some i → k ≤ i) [
      | true ↦ (λ p. let q : k ≡ i = cc (p) in omega (arith, q))
      | false ↦ (λ p. let q = above-from t (k + 1) xs i p in omega (arith, q))
    ] e

-- a narrower test finds the same if it holds there
narrow : {A : Type 0} (t u : A → Bool) → ((x : A) → t x ≡ false → u x ≡ false) → (m : ℕ) (xs : List A) (i j : ℕ) (y : A) → position_from t m xs ≡ Some i → i ≡ m + j → slice_get xs j ≡ Some y → u y ≡ true
    → position_from u m xs ≡ Some i
narrow t u less m [] i j y e f at is = absurd (cc (e))
narrow t u less m (x ∷ xs) i zero y e f at is =
    let here : x ≡ y = cc (at) in
    let on : u x ≡ true = ap u here ∙ is in
    let same : m ≡ i = omega (arith, f) in
    ap (λ b. cond b (Some m) (position_from u (m + 1) xs)) on ∙ ap (λ n. Some n) same
narrow t u less m (x ∷ xs) i (suc j) y e f at is =
    elim (t x) as (λ b. t x ≡ b → cond b (Some m) (position_from t (m + 1) xs) ≡ Some i → cond (u x) (Some m) (position_from u (m + 1) xs) ≡ Some i) [
      | true ↦ (λ q p. let r : m ≡ i = cc (p) in absurd (omega (arith, f, r)))
      | false ↦ (λ q p. ap (λ b. cond b (Some m) (position_from u (m + 1) xs)) (less x q) ∙ narrow t u less (m + 1) xs i j y p (omega (arith, f)) at is)
    ] refl e

abbrev by-path : DecodedSource → DecodedSource → Bool
by-path s z = bytes_eq s.path z.path

other-path : (s z : DecodedSource) → by-path s z ≡ false → is_same_source s z ≡ false
other-path s z e = ap (λ b. b && is_same_option bytes_eq s.content z.content) e

own-from : (ss xs : List DecodedSource) (ks : List ℕ) (n : ℕ) → map (λ k. Some k) ks ≡ map (λ s. position_from (by-path s) 0 ss) xs → ((j : ℕ) → j < length ks → get_or ks j 0 ≡ n + j)
    → ((j : ℕ) (s : DecodedSource) → slice_get xs j ≡ Some s → slice_get ss (n + j) ≡ Some s) → map (λ k. Some k) ks ≡ map (λ s. position_from (is_same_source s) 0 ss) xs
own-from ss [] [] n e own at = refl
own-from ss [] (k ∷ ks) n e own at = absurd (cc (e))
own-from ss (x ∷ xs) [] n e own at = absurd (cc (e))
own-from ss (x ∷ xs) (k ∷ ks) n e own at =
    let h : Some k ≡ position_from (by-path x) 0 ss = cc (e) in
    let t : map (λ k. Some k) ks ≡ map (λ s. position_from (by-path s) 0 ss) xs = cc (e) in
    let is : k ≡ n + 0 = own 0 (omega arith) in
    let one = narrow (by-path x) (is_same_source x) (other-path x) 0 ss k (n + 0) x (sym h) (omega (arith, is)) (at 0 x refl) ((decides_source x x).1 refl) in
    let rest = own-from ss xs ks (n + 1) t (λ j l. own (suc j) (omega (arith, l)) ∙ omega arith) (λ j s q. ap (slice_get ss) (omega arith) ∙ at (suc j) s q) in
    ap (λ o. o ∷ map (λ k. Some k) ks) (sym one) ∙ ap (λ os. position_from (is_same_source x) 0 ss ∷ os) rest

map-same : {A B : Type 0} (f g : A → B) → ((x : A) → f x ≡ g x) → (xs : List A) → map f xs ≡ map g xs
map-same f g h [] = refl
map-same f g h (x ∷ xs) = ap (λ y. y ∷ map f xs) (h x) ∙ ap (λ ys. g x ∷ ys) (map-same f g h xs)

map-compose : {A B C : Type 0} (f : A → B) (g : B → C) (xs : List A) → map g (map f xs) ≡ map (λ x. g (f x)) xs
map-compose f g [] = refl
map-compose f g (x ∷ xs) = ap (λ zs. g (f x) ∷ zs) (map-compose f g xs)

pub own-firsts : (ps : List Text) (cs : List (Option Text)) (firsts : List ℕ) → AreFirsts bytes_eq ps firsts → ((k : ℕ) → k < length firsts → get_or firsts k 0 ≡ k) → AreFirsts is_same_source (sources_of ps cs) firsts
own-firsts ps cs firsts e own =
    let ss = sources_of ps cs in
    let path : DecodedSource → Text = λ s. s.path in
    let by : map (λ k. Some k) firsts ≡ map (λ s. position_from (by-path s) 0 ss) ss =
    e ∙ ap (λ qs. map (λ p. position_from (bytes_eq p) 0 qs) qs) (sym (paths-of ps cs))
    ∙ map-compose path (λ p. position_from (bytes_eq p) 0 (map path ss)) ss
    ∙ map-same (λ (s : DecodedSource). position_from (bytes_eq s.path) 0 (map path ss)) (λ s. position_from (by-path s) 0 ss) (λ s. position-same (bytes_eq s.path) (by-path s) path (λ z. refl) 0 ss) ss in
    own-from ss ss firsts 0 by (λ j l. own j l ∙ omega arith) (λ j s q. ap (slice_get ss) (omega arith) ∙ q)
