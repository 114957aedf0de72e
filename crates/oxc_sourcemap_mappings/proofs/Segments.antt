-- The segment of a token that is written, and what it reads as.
use Rattle.std.proofs.Common.{◌≡◌, ℕ, ◌<◌, Bool, true, false, cond, ◌==◌, nat_lt, nat_le, List, []}
use Rattle.std.proofs.Common.{◌∷◌, ◌++◌, length, map, pos, ◌+ℤ◌, arith, refl, sym, ap, ◌∙◌}
use Rattle.std.proofs.Common.{append_assoc, lit<, Option, Some, None, Ok, if◌then◌else◌}
use Rattle.std.specs.List.{AllByRecursion}
use Rattle.std.proofs.lemmas.Bool.Decides.{nat_tests}
use Rattle.std.proofs.lemmas.List.{append-nil, map-append}
use Rattle.std.specs.Option.{option_map_or, unwrap_or, IfSome}
use Rattle.oxc_sourcemap_tokens.specs.Token.{TokenRecord, IsInBounds, name_beside, beside_source}
use Rattle.oxc_sourcemap_mappings.specs.Number.{digit, number}
use Rattle.oxc_sourcemap_mappings.specs.Parts.{Segment, segment, runs}
use Rattle.oxc_sourcemap_mappings.specs.Places.{Place}
use Rattle.oxc_sourcemap_mappings.specs.Faults.{Counts, digit_fault, place_fault, range_fault}
use Rattle.oxc_sourcemap_mappings.specs.Reading.{token_at, segment_result}
use Rattle.oxc_sourcemap_tokens.specs.State.{State}
use Rattle.oxc_sourcemap_mappings.specs.Canonical.{digits, vlq_text, raw_delta, delta_text}
use Rattle.oxc_sourcemap_mappings.specs.Canonical.{column_text, separator, token_text}
use Rattle.oxc_sourcemap_mappings.specs.Canonical.{carried_token}
use Rattle.oxc_sourcemap_mappings.specs.Decoding.{moved_by}
use Rattle.oxc_sourcemap_mappings.proofs.Length.{IsBounded}
use Rattle.oxc_sourcemap_mappings.proofs.Digits.{digit-vlq_text, runs-digits, number-digits}
use Rattle.oxc_sourcemap_mappings.proofs.Digits.{digit_fault-digits, raw_delta-says}
use Rattle.oxc_sourcemap_mappings.proofs.Texts.{AreInside, inside-vlq_text, inside-append}

-- what the generated column of a token is relative to
abbrev pub base : State → TokenRecord → ℕ
base s t = if t.dst_line == s.dst_line then s.dst_col else 0

abbrev pub raws : Option ℕ → Option ℕ → State → TokenRecord → List ℕ
raws None b s t = raw_delta t.dst_col (base s t) ∷ []
raws (Some i) None s t = raw_delta t.dst_col (base s t) ∷ raw_delta i s.source_id ∷ raw_delta t.src_line s.src_line ∷ raw_delta t.src_col s.src_col ∷ []
raws (Some i) (Some n) s t = raw_delta t.dst_col (base s t) ∷ raw_delta i s.source_id ∷ raw_delta t.src_line s.src_line ∷ raw_delta t.src_col s.src_col ∷ raw_delta n s.name_id ∷ []

abbrev pub spell_all : List ℕ → List ℕ
spell_all [] = []
spell_all (n ∷ ns) = vlq_text n ++ spell_all ns

abbrev run_of : ℕ → List ℕ
run_of n = digits n n

abbrev pub read_all : List ℕ → Segment
read_all ns = map (λ n. digits n n) ns

pub segment-vlq_text : (ns : List ℕ) → segment (spell_all ns) ≡ read_all ns
segment-vlq_text [] = refl
segment-vlq_text (n ∷ ns) =
    ap runs (map-append digit (vlq_text n) (spell_all ns) ∙ ap (λ ds. ds ++ map digit (spell_all ns)) (digit-vlq_text n))
    ∙ runs-digits n n (map digit (spell_all ns)) (omega arith) ∙ ap (λ rs. digits n n ∷ rs) (segment-vlq_text ns)

pub inside-all : (ns : List ℕ) → AreInside (spell_all ns)
inside-all [] = tt
inside-all (n ∷ ns) = inside-append (vlq_text n) (spell_all ns) (inside-vlq_text n) (inside-all ns)

-- the text of a token with these ids after its separator
abbrev pub body : Option ℕ → Option ℕ → State → TokenRecord → List ℕ
body a b s t =
    column_text s t
    ++ option_map_or (λ id. delta_text id s.source_id ++ delta_text t.src_line s.src_line ++ delta_text t.src_col s.src_col) a []
    ++ option_map_or (λ id. delta_text id s.name_id) (name_beside a b) []

pub body-is : (a b : Option ℕ) (s : State) (t : TokenRecord) → body a b s t ≡ spell_all (raws a b s t)
body-is None b s t = simp (append_assoc, append-nil)
body-is (Some i) None s t = simp (append_assoc, append-nil)
body-is (Some i) (Some n) s t = simp (append_assoc, append-nil)

pub token_text-is : (first : Bool) (s : State) (t : TokenRecord) → token_text first s t ≡ separator first s t ++ body t.source_id t.name_id s t
unfolding token_text
token_text-is first s t = simp append_assoc

-- the place that a state stands for, at this column
abbrev pub standing : ℕ → State → Place
standing column s = record { dst_col = pos column; source_id = pos s.source_id; src_line = pos s.src_line; src_col = pos s.src_col; name_id = pos s.name_id }

abbrev pub onward : Option ℕ → Option ℕ → State → TokenRecord → State
onward a b s t = record {
  dst_line = t.dst_line;
  dst_col = t.dst_col;
  source_id = unwrap_or a s.source_id;
  src_line = unwrap_or (beside_source a t.src_line) s.src_line;
  src_col = unwrap_or (beside_source a t.src_col) s.src_col;
  name_id = unwrap_or (name_beside a b) s.name_id;
}

says : (a b : ℕ) → pos b +ℤ number (digits (raw_delta a b) (raw_delta a b)) ≡ pos a
says a b = ap (λ z. pos b +ℤ z) (number-digits (raw_delta a b)) ∙ raw_delta-says a b

pub moved_by-written : (a b : Option ℕ) (s : State) (t : TokenRecord) → moved_by (standing (base s t) s) (read_all (raws a b s t)) ≡ standing t.dst_col (onward a b s t)
moved_by-written None b s t = rw (says t.dst_col (base s t))
moved_by-written (Some i) None s t = rw (says t.dst_col (base s t), says i s.source_id, says t.src_line s.src_line, says t.src_col s.src_col)
moved_by-written (Some i) (Some n) s t = rw (says t.dst_col (base s t), says i s.source_id, says t.src_line s.src_line, says t.src_col s.src_col, says n s.name_id)

raw_delta-small : (a b : ℕ) → a < 4294967296 → b < 4294967296 → raw_delta a b < 34359738368
raw_delta-small a b h k = grind (arith, nat_tests)

faults-small : (ns : List ℕ) → AllByRecursion (λ n. n < 34359738368) ns → digit_fault (read_all ns) ≡ None
unfolding digit_fault
faults-small [] h = refl
faults-small (n ∷ ns) h = digit_fault-digits n (read_all ns) h.0 ∙ faults-small ns h.1

base-small : (s : State) (t : TokenRecord) → IsBounded s → base s t < 4294967296
base-small s t h = elim (t.dst_line == s.dst_line) as (λ b. cond b s.dst_col 0 < 4294967296) [ true ↦ h.dst_col | false ↦ lit< tt ]

abbrev pub IsId : Option ℕ → Type 0
IsId a = IfSome a (λ n. n < 4294967295)

raws-small : (a b : Option ℕ) (s : State) (t : TokenRecord) → IsBounded s → IsInBounds t → IsId a → IsId b → AllByRecursion (λ n. n < 34359738368) (raws a b s t)
raws-small None b s t h w x y = (raw_delta-small _ _ w.dst_col (base-small s t h), tt)
raws-small (Some i) None s t h w x y = (raw_delta-small _ _ w.dst_col (base-small s t h), (raw_delta-small i _ (omega arith) h.source_id, (raw_delta-small _ _ w.src_line h.src_line, (raw_delta-small _ _ w.src_col h.src_col, tt))))
raws-small (Some i) (Some n) s t h w x y = (raw_delta-small _ _ w.dst_col (base-small s t h), (raw_delta-small i _ (omega arith) h.source_id, (raw_delta-small _ _ w.src_line h.src_line, (raw_delta-small _ _ w.src_col h.src_col, (raw_delta-small n _ (omega arith) h.name_id, tt)))))

range-none : (n : ℕ) → n < 4294967296 → range_fault (pos n) ≡ None
range-none n h = let t : nat_le n 4294967295 ≡ true = grind (arith, nat_tests) in rw t

below-true : (n k : ℕ) → n < k → nat_lt n k ≡ true
below-true n k h = grind (arith, nat_tests)

place_fault-none : (a b : Option ℕ) (c : Counts) (before : Place) (s : State) (t : TokenRecord) → IsInBounds t → IfSome a (λ i. i < c.sources) → IfSome (name_beside a b) (λ n. n < c.names) → place_fault c before (length (read_all (raws a b s t))) (standing t.dst_col (onward a b s t)) ≡ None
unfolding place_fault
place_fault-none None b c before s t w hs hn = rw (range-none t.dst_col w.dst_col)
place_fault-none (Some i) None c before s t w hs hn =
    rw (range-none t.dst_col w.dst_col, below-true i c.sources hs, range-none t.src_line w.src_line, range-none t.src_col w.src_col)
place_fault-none (Some i) (Some n) c before s t w hs hn =
    rw (range-none t.dst_col w.dst_col, below-true i c.sources hs, range-none t.src_line w.src_line, range-none t.src_col w.src_col, below-true n c.names hn)

pub token-same : (a b : Option ℕ) (s : State) (t : TokenRecord) → t.source_id ≡ a → t.name_id ≡ b → token_at t.dst_line (length (read_all (raws a b s t))) (standing t.dst_col (onward a b s t)) ≡ carried_token s t
token-same None b s t e f = rw e
token-same (Some i) None s t e f =
    let r : Option ℕ → Option ℕ → TokenRecord = λ y z. record { dst_line = t.dst_line; dst_col = t.dst_col; src_line = t.src_line; src_col = t.src_col; source_id = y; name_id = z } in
    ap (λ y. r y None) (sym e) ∙ ap (r t.source_id) (sym f) ∙ rw e refl
token-same (Some i) (Some n) s t e f =
    let r : Option ℕ → Option ℕ → TokenRecord = λ y z. record { dst_line = t.dst_line; dst_col = t.dst_col; src_line = t.src_line; src_col = t.src_col; source_id = y; name_id = z } in
    ap (λ y. r y (Some n)) (sym e) ∙ ap (r t.source_id) (sym f) ∙ rw e refl

pub segment_result-written : (a b : Option ℕ) (c : Counts) (line : ℕ) (before : Place) (s : State) (t : TokenRecord) → IsBounded s → IsInBounds t → IsId a → IsId b → IfSome a (λ i. i < c.sources) → IfSome (name_beside a b) (λ n. n < c.names) → segment_result c line before (read_all (raws a b s t)) (moved_by (standing (base s t) s) (read_all (raws a b s t))) ≡ Ok (token_at line (length (read_all (raws a b s t))) (standing t.dst_col (onward a b s t)))
segment_result-written a b c line before s t h w x y hs hn =
    ap (segment_result c line before (read_all (raws a b s t))) (moved_by-written a b s t)
    ∙ rw (faults-small (raws a b s t) (raws-small a b s t h w x y), place_fault-none a b c before s t w hs hn)
