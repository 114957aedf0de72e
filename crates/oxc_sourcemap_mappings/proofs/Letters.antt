-- The table of letters is compared with the definition at each digit, by computing. And every byte that is written is ASCII.
use Rattle.std.proofs.Common.{◌≡◌, ℕ, zero, suc, ◌<◌, Bool, true, false, ◌&&◌, ◌==◌, List, [], ◌∷◌}
use Rattle.std.proofs.Common.{◌++◌, map, replicate, get_or, if◌then◌else◌, refl, arith, lit<}
use Rattle.std.proofs.Common.{Option, Some, None, inl, inr, Result, Ok, Err}
use Rattle.std.specs.List.{AllByRecursion}
use Rattle.std.specs.Str.{IsUtf8}
use Rattle.std.specs.Option.{option_map_or}
use Rattle.std.specs.Result.{IsOk, MatchResult}
use Rattle.std.proofs.lemmas.Bool.{cases_eq, eqb-true as eqb-eq}
use Rattle.std.proofs.lemmas.Bool.Decides.{nat_tests}
use Rattle.std.proofs.lemmas.List.Elements.{All-from_recursion}
use Rattle.std.proofs.lemmas.Str.{IsUtf8-from_ascii}
use Rattle.std.proofs.lemmas.Str.Ascii.{IsAscii-from_all}
use Rattle.oxc_sourcemap_tokens.specs.Token.{TokenRecord, mapped_name}
use Rattle.oxc_sourcemap_tokens.specs.State.{State}
use Rattle.oxc_sourcemap_mappings.specs.Canonical.{digits, letter, vlq_text, delta_text}
use Rattle.oxc_sourcemap_mappings.specs.Canonical.{source_text, name_text}
use Rattle.oxc_sourcemap_mappings.specs.Encoding.{line_marks, fields_text}

-- an entry for each number below n
unfoldable pub all_by : (ℕ → ℕ) → List ℕ → ℕ → Bool
all_by f table zero = true
all_by f table (suc n) = (get_or table n 0 == f n) && all_by f table n

both_of : (a b : Bool) → (a && b) ≡ true → (a ≡ true) × (b ≡ true)
both_of true true h = (refl, refl)
both_of true false h = cc
both_of false b h = cc

pub entry-by : (f : ℕ → ℕ) (table : List ℕ) (n : ℕ) → all_by f table n ≡ true → (d : ℕ) → d < n → get_or table d 0 ≡ f d
unfolding all_by
entry-by f table zero h d lt = absurd (omega arith)
entry-by f table (suc n) h d lt =
    let both = both_of (get_or table n 0 == f n) (all_by f table n) h in
    elim (cases_eq d n) [ inl same ↦ rw same (eqb-eq _ _ both.0) | inr other ↦ entry-by f table n both.1 d (omega arith) ]

-- all bytes are ASCII, in the words of the contracts of the encoder
abbrev pub ArePlain : List ℕ → Type 0
ArePlain bytes = AllByRecursion (λ b. b < 128) bytes

letter-plain : (d : ℕ) → letter d < 128
unfolding letter
letter-plain d = grind (arith, nat_tests)

letters-plain : (ds : List ℕ) → ArePlain (map letter ds)
letters-plain [] = tt
letters-plain (d ∷ ds) = (letter-plain d, letters-plain ds)

pub vlq_text-plain : (n : ℕ) → ArePlain (vlq_text n)
unfolding vlq_text
vlq_text-plain n = letters-plain (digits n n)

pub plain-append : (xs ys : List ℕ) → ArePlain xs → ArePlain ys → ArePlain (xs ++ ys)
plain-append [] ys h k = k
plain-append (x ∷ xs) ys h k = (h.0, plain-append xs ys h.1 k)

pub plain-replicate : (n : ℕ) → ArePlain (replicate n 59)
plain-replicate zero = tt
plain-replicate (suc n) = (lit< tt, plain-replicate n)

pub comma-plain : (first : Bool) → ArePlain (if first then [] else 44 ∷ [])
comma-plain true = tt
comma-plain false = (lit< tt, tt)

pub line_marks-plain : (first : Bool) (lines : ℕ) → ArePlain (line_marks first lines)
line_marks-plain first zero = comma-plain first
line_marks-plain first (suc n) = let p : (suc n == 0) ≡ false = grind (arith, nat_tests) in rw p (plain-replicate (suc n))

pub or-plain : (a : Option ℕ) (f : ℕ → List ℕ) → ((id : ℕ) → ArePlain (f id)) → ArePlain (option_map_or f a [])
or-plain None f h = tt
or-plain (Some id) f h = h id

pub source-plain : (s : State) (t : TokenRecord) (id : ℕ) → ArePlain (delta_text id s.source_id ++ delta_text t.src_line s.src_line ++ delta_text t.src_col s.src_col)
source-plain s t id =
    plain-append (delta_text id s.source_id ++ delta_text t.src_line s.src_line) (delta_text t.src_col s.src_col)
    (plain-append (delta_text id s.source_id) (delta_text t.src_line s.src_line) (vlq_text-plain _) (vlq_text-plain _))
    (vlq_text-plain _)

pub fields_text-plain : (column : ℕ) (s : State) (t : TokenRecord) → ArePlain (fields_text column s t)
fields_text-plain column s t =
    plain-append (delta_text t.dst_col column ++ source_text s t) (name_text s t)
    (plain-append (delta_text t.dst_col column) (source_text s t) (vlq_text-plain _)
    (or-plain t.source_id _ (source-plain s t)))
    (or-plain (mapped_name t) (λ id. delta_text id s.name_id) (λ id. vlq_text-plain _))

pub plain-utf8 : (bytes : List ℕ) → ArePlain bytes → IsUtf8 bytes
plain-utf8 bytes h = IsUtf8-from_ascii bytes (IsAscii-from_all bytes (All-from_recursion (λ b. b < 128) bytes h))

-- what is UTF-8 is read as a text
pub is_ok-text : {A E : Type 0} (r : Result A E) (P : A → Type 0) (U : Type 0) (Q : E → Type 0) → MatchResult r P (λ e. (U → ⊥) × Q e) → U → IsOk r
is_ok-text (Ok x) P U Q h u = refl
is_ok-text (Err e) P U Q h u = absurd (h.0 u)
