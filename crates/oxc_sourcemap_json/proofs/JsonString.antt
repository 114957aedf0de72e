-- The steps of writing a JSON string.
use Rattle.std.proofs.Common.{◌≡◌, ℕ, zero, suc, ◌+◌, ◌<◌, ◌≤◌, Bool, true, false, cond, not, List}
use Rattle.std.proofs.Common.{[], ◌∷◌, ◌++◌, length, take, drop, get_or, flat_map, arith, refl, sym}
use Rattle.std.proofs.Common.{ap, ap₂, ◌∙◌, subst, append_assoc, append-nil}
use Rattle.std.proofs.Math.Seq.{take-add, take-suc}
use Rattle.std.proofs.lemmas.Bool.Decides.{nat_tests}
use Rattle.std.proofs.lemmas.Grind.{flat_map-append}
use Rattle.std.proofs.lemmas.List.{take-append-drop}
use Rattle.std.proofs.lemmas.Str.{IsCharBoundary-past_char, len_utf8_bounds}
use Rattle.std.specs.Char.{len_utf8}
use Rattle.std.specs.Str.{IsUtf8, IsCharBoundary}
use Rattle.std.specs.List.{prefix_len}
use lib.Utf8.{encodes}
use Rattle.oxc_sourcemap_json.specs.JsonString.{escaped}
use Rattle.oxc_sourcemap_json.specs.UnescapedBytes.{needs_escape, is_plain}

-- ---- a byte
pub escaped-plain : (b : ℕ) → needs_escape b ≡ false → escaped b ≡ b ∷ []
unfolding escaped
escaped-plain b plain = grind (arith, nat_tests, plain)

pub byte_escaped : (text : List ℕ) (i : ℕ) → i < length text → flat_map escaped (take (i + 1) text) ≡ flat_map escaped (take i text) ++ escaped (get_or text i 0)
byte_escaped text i l =
    let next : i + 1 ≡ suc i = omega arith in
    ap (λ n. flat_map escaped (take n text)) next
    ∙ ap (flat_map escaped) (take-suc text i 0 l)
    ∙ flat_map-append escaped (take i text) (get_or text i 0 ∷ [])
    ∙ ap (λ bs. flat_map escaped (take i text) ++ bs) (append-nil (escaped (get_or text i 0)))

-- ---- a run
run_more : (b n p : ℕ) (bs : List ℕ) (escapes : Bool) → needs_escape b ≡ escapes → suc n ≤ cond (not escapes) (1 + p) 0 → (n ≤ p → flat_map escaped (take n bs) ≡ take n bs)
    → escaped b ++ flat_map escaped (take n bs) ≡ b ∷ take n bs
run_more b n p bs true e run later = absurd (omega (arith, run))
run_more b n p bs false e run later = ap₂ (λ (xs ys : List ℕ). xs ++ ys) (escaped-plain b e) (later (omega (arith, run)))

-- a run that needs no escape is its own text
run_plain : (n : ℕ) (bs : List ℕ) → n ≤ prefix_len is_plain bs → flat_map escaped (take n bs) ≡ take n bs
run_plain zero bs run = refl
run_plain (suc n) [] run = refl
run_plain (suc n) (b ∷ bs) run = run_more b n _ bs (needs_escape b) refl run (run_plain n bs)

pub run_escaped : (text : List ℕ) (i n : ℕ) → n ≤ prefix_len is_plain (drop i text) → flat_map escaped (take (i + n) text) ≡ flat_map escaped (take i text) ++ take n (drop i text)
run_escaped text i n run =
    ap (flat_map escaped) (take-add i n text)
    ∙ flat_map-append escaped (take i text) (take n (drop i text))
    ∙ ap (λ bs. flat_map escaped (take i text) ++ bs) (run_plain n (drop i text) run)

-- ---- what is placed
pub run_written : (front text before after rest : List ℕ) (i n : ℕ) → rest ≡ drop i text → before ≡ front ++ flat_map escaped (take i text) → after ≡ before ++ take n rest
    → n ≤ prefix_len is_plain rest → after ≡ front ++ flat_map escaped (take (i + n) text)
run_written front text before after rest i n r b a run =
    a ∙ ap₂ (λ (xs ys : List ℕ). xs ++ take n ys) b r
    ∙ append_assoc front (flat_map escaped (take i text)) (take n (drop i text))
    ∙ ap (λ bs. front ++ bs) (sym (run_escaped text i n (subst (λ bs. n ≤ prefix_len is_plain bs) r run)))

pub byte_written : (front text before after : List ℕ) (i : ℕ) → i < length text → before ≡ front ++ flat_map escaped (take i text) → after ≡ before ++ escaped (get_or text i 0)
    → after ≡ front ++ flat_map escaped (take (i + 1) text)
byte_written front text before after i l b a =
    a ∙ ap (λ bs. bs ++ escaped (get_or text i 0)) b
    ∙ append_assoc front (flat_map escaped (take i text)) (escaped (get_or text i 0))
    ∙ ap (λ bs. front ++ bs) (sym (byte_escaped text i l))

-- ---- a piece
-- the first character ends after at most four bytes, and a text may be cut there
first_char : (text cs : List ℕ) → encodes cs ≡ text → IsUtf8 text → 0 < length text → (n : ℕ) × (0 < n) × (n ≤ 4) × IsCharBoundary text n
first_char text [] e u l = absurd (omega (arith, ap length e))
first_char text (c ∷ cs) e u l =
    let bounds = len_utf8_bounds c in
    (0 + len_utf8 c, omega (arith, bounds), omega (arith, bounds), IsCharBoundary-past_char text (encodes cs) 0 c (omega arith) u (sym e))

pub cut_after_first : (text : List ℕ) → IsUtf8 text → 0 < length text → (n : ℕ) × (0 < n) × (n ≤ 4) × IsCharBoundary text n
cut_after_first text u l = first_char text u.0 u.1.1 u l

pub piece_added : (out rest piece after new : List ℕ) (n : ℕ) → piece ≡ take n rest → after ≡ drop n rest → new ≡ out ++ flat_map escaped piece
    → new ++ flat_map escaped after ≡ out ++ flat_map escaped rest
piece_added out rest piece after new n p a e =
    ap₂ (λ (xs ys : List ℕ). xs ++ flat_map escaped ys) (e ∙ ap (λ bs. out ++ flat_map escaped bs) p) a
    ∙ append_assoc out (flat_map escaped (take n rest)) (flat_map escaped (drop n rest))
    ∙ ap (λ t. out ++ t) (sym (flat_map-append escaped (take n rest) (drop n rest)) ∙ ap (flat_map escaped) (take-append-drop n rest))
