-- The tokens of a remapped map are in bounds.
use Rattle.std.proofs.Common.{◌≡◌, refl, sym, subst, ℕ, ◌+◌, ◌<◌, ◌≤◌, Bool, true, false, cond}
use Rattle.std.proofs.Common.{List, [], ◌∷◌, map, length, slice_get, nat_lt, nat_le, Option, Some}
use Rattle.std.proofs.Common.{None, Ok, Err, arith}
use Rattle.std.proofs.lemmas.Bool.{and_parts}
use Rattle.std.proofs.lemmas.Bool.Decides.{nat_tests}
use Rattle.std.proofs.lemmas.List.Elements.{recursion_from_All, All-from_recursion}
use Rattle.std.specs.List.{AllByRecursion}
use Rattle.std.specs.Option.{IfSome, option_and_then, option_or}
use Rattle.oxc_sourcemap_tokens.specs.declared.errors.error.Error.{Error}
use Rattle.oxc_sourcemap_tokens.specs.declared.errors.error.Error.TheVariants.{TooLarge}
use Rattle.oxc_sourcemap_tokens.specs.Errors.{unless}
use Rattle.oxc_sourcemap_tokens.specs.Token.{TokenRecord, IsInBounds, AreInBounds}
use Rattle.oxc_sourcemap_parts.specs.DecodedMap.{DecodedSource, name_of}
use Rattle.oxc_sourcemap_parts.specs.Record.{Text, MapRecord}
use Rattle.oxc_sourcemap_parts.specs.Sorted.{token_line, token_column}
use Rattle.oxc_sourcemap_parts.specs.Sound.{IsInRange}
use Rattle.oxc_sourcemap_lookup.specs.Lookup.{clamped_pick}
use Rattle.oxc_sourcemap_steps.proofs.Targets.{clamped_pick-all}
use Rattle.oxc_sourcemap_steps.specs.Inputs.{input_for, inputs_fault}
use Rattle.oxc_sourcemap_steps.specs.Remapped.{listed_sources, Original, input_original}
use Rattle.oxc_sourcemap_steps.specs.Remapped.{block_start, token_to, remapped, has_few, remapping}
use Rattle.oxc_sourcemap_steps.proofs.InputPlaces.{input_for-all}
use Rattle.oxc_sourcemap_plan.specs.RemapLaws.{AreInputsInBounds}
use Rattle.oxc_sourcemap_plan.proofs.RemappedRecords.{leads_in, leads_from, leads, tokens-remapped}
use Rattle.oxc_sourcemap_plan.proofs.RemappedStands.{range_remapped}

-- a line and a column that a token can hold
record IsPlaced (o : Original) : Type 0 where
  line : o.src_line < 4294967296
  col : o.src_col < 4294967296

module _ (a : MapRecord) (inputs : List (Text × MapRecord)) (others : AreInputsInBounds inputs) where
  id-placed : (sl sc source : ℕ) (name : Option Text) (c : Bool) → sl < 4294967296 → sc < 4294967296
      → IfSome (cond c (Some (record { source_id = source; src_line = sl; src_col = sc; name = name })) None) IsPlaced
  id-placed sl sc source name true h k = record { line = h; col = k }
  id-placed sl sc source name false h k = tt

  token-placed : (b : MapRecord) (start : ℕ) (name : Option Text) (fl fc sl sc : ℕ) (so sn : Option ℕ) → sl < 4294967296 → sc < 4294967296
      → IfSome (input_original b start name (record { dst_line = fl; dst_col = fc; src_line = sl; src_col = sc; source_id = so; name_id = sn })) IsPlaced
  token-placed b start name fl fc sl sc None sn h k = tt
  token-placed b start name fl fc sl sc (Some id) sn h k = id-placed sl sc (id + start) (option_or (option_and_then (slice_get b.names) sn) name) (nat_lt id (length b.sources)) h k

  found-placed : (b : MapRecord) (start : ℕ) (name : Option Text) (o : Option TokenRecord) → IfSome o IsInBounds → IfSome (option_and_then (input_original b start name) o) IsPlaced
  found-placed b start name None h = tt
  found-placed b start name (Some u) h = token-placed b start name u.dst_line u.dst_col u.src_line u.src_col u.source_id u.name_id h.src_line h.src_col

  input-placed : (t : TokenRecord) (path : Text) (start : ℕ) (q : Option MapRecord) → IsInBounds t → input_for inputs path ≡ q → IfSome (leads_in q start a.names t) IsPlaced
  input-placed t path start None h e = record { line = h.src_line; col = h.src_col }
  input-placed t path start (Some b) h e =
      let bounds = input_for-all (λ b. AreInBounds b.tokens) inputs path b others e in
      found-placed b start (name_of a.names t) (clamped_pick token_line token_column b.tokens t.src_line t.src_col)
      (clamped_pick-all IsInBounds token_line token_column b.tokens t.src_line t.src_col (recursion_from_All IsInBounds b.tokens bounds))

  source-placed : (t : TokenRecord) (i : ℕ) (o : Option DecodedSource) → IsInBounds t → IfSome (leads_from inputs a t i o) IsPlaced
  source-placed t i None h = tt
  source-placed t i (Some s) h = input-placed t s.path (block_start inputs a i) (input_for inputs s.path) h refl

  leads-placed : (t : TokenRecord) (id : Option ℕ) → IsInBounds t → IfSome (option_and_then (λ i. leads_from inputs a t i (slice_get (listed_sources a) i)) id) IsPlaced
  leads-placed t None h = tt
  leads-placed t (Some i) h = source-placed t i (slice_get (listed_sources a) i) h

  small : (o : Option ℕ) (n : ℕ) → n ≤ 4294967295 → IfSome o (λ id. id < n) → IfSome o (λ id. id < 4294967295)
  small None n l h = tt
  small (Some id) n l h = omega (arith, l, h)

  token-bounds : (names : List Text) (n : ℕ) (t : TokenRecord) (o : Option Original) → length names ≤ 4294967295 → n ≤ 4294967295 → IsInBounds t → IfSome o IsPlaced
      → IsInRange (length names) n (token_to names t o) → IsInBounds (token_to names t o)
  token-bounds names n t None l m h p r = record { dst_line = h.dst_line; dst_col = h.dst_col; src_line = omega arith; src_col = omega arith; source_id = tt; name_id = tt }
  token-bounds names n t (Some o) l m h p r = record {
    dst_line = h.dst_line;
    dst_col = h.dst_col;
    src_line = p.line;
    src_col = p.col;
    source_id = small (Some o.source_id) n m r.source_id;
    name_id = small (token_to names t (Some o)).name_id (length names) l r.name_id;
  }

  all-bounds : (names : List Text) (n : ℕ) (ts : List TokenRecord) → length names ≤ 4294967295 → n ≤ 4294967295 → AllByRecursion IsInBounds ts
      → AllByRecursion (IsInRange (length names) n) (map (λ t. token_to names t (leads inputs a t)) ts) → AllByRecursion IsInBounds (map (λ t. token_to names t (leads inputs a t)) ts)
  all-bounds names n [] l m h r = tt
  all-bounds names n (t ∷ ts) l m h r = (token-bounds names n t (leads inputs a t) l m h.0 (leads-placed t t.source_id h.0) r.0, all-bounds names n ts l m h.1 r.1)

given : (fault : Option Error) (few : Bool) (r m : MapRecord) → unless fault (cond few (Ok r) (Err TooLarge)) ≡ Ok m → (few ≡ true) × (r ≡ m)
given (Some f) few r m e = absurd (cc (e))
given None true r m e = (refl, cc (e))
given None false r m e = absurd (cc (e))

at-most : (n : ℕ) → nat_le n 4294967295 ≡ true → n ≤ 4294967295
at-most n e = grind (arith, nat_tests)

pub bounds_remapped : (a m : MapRecord) (inputs : List (Text × MapRecord)) → AreInBounds a.tokens → AreInputsInBounds inputs → remapping a inputs ≡ Ok m → AreInBounds m.tokens
bounds_remapped a m inputs h k e =
    let r = remapped a inputs in
    let g = given (inputs_fault inputs) (has_few r) r m e in
    let few = and_parts (nat_le (length r.sources) 4294967295) (nat_le (length r.names) 4294967295) g.0 in
    let all = all-bounds a inputs k r.names (length r.sources) a.tokens (at-most (length r.names) few.1) (at-most (length r.sources) few.0) (recursion_from_All IsInBounds a.tokens h) (subst (AllByRecursion (IsInRange (length r.names) (length r.sources))) (tokens-remapped inputs a) (range_remapped a inputs).tokens) in
    subst (λ (r : MapRecord). AreInBounds r.tokens) g.1 (All-from_recursion IsInBounds r.tokens (subst (AllByRecursion IsInBounds) (sym (tokens-remapped inputs a)) all))
