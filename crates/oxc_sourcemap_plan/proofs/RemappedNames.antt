-- How many names a remapped map has, whose they are, and when it is too large.
use Rattle.std.proofs.Common.{◌≡◌, refl, sym, ap, subst, ◌∙◌, ℕ, ◌+◌, ◌≤◌, ◌<◌, Bool, true, false}
use Rattle.std.proofs.Common.{cond, ◌&&◌, List, [], ◌∷◌, ◌++◌, map, length, slice_get, nat_lt}
use Rattle.std.proofs.Common.{nat_le, Option, Some, None, Ok, Err, ◌⊎◌, inl, inr, arith}
use Rattle.std.proofs.lemmas.Bool.Decides.{nat_tests}
use Rattle.std.proofs.lemmas.List.{length-append}
use Rattle.std.proofs.lemmas.List.Folds.{list_all-append}
use Rattle.std.proofs.lemmas.Option.{slice_get_within}
use Rattle.std.specs.List.{filter_map, position_from, list_all, AllByRecursion}
use Rattle.std.specs.Option.{option_map, option_and_then, option_or}
use Rattle.std.specs.Str.{bytes_eq}
use Rattle.oxc_sourcemap_tokens.specs.declared.errors.error.Error.TheVariants.{TooLarge}
use Rattle.oxc_sourcemap_tokens.specs.declared.errors.error.Error.TheVariants.{InputLineOrder}
use Rattle.oxc_sourcemap_tokens.specs.Errors.{unless}
use Rattle.oxc_sourcemap_tokens.specs.Token.{TokenRecord}
use Rattle.oxc_sourcemap_parts.specs.DecodedMap.{DecodedSource, name_of}
use Rattle.oxc_sourcemap_parts.specs.Record.{Text, MapRecord}
use Rattle.oxc_sourcemap_parts.specs.Sorted.{token_line, token_column}
use Rattle.oxc_sourcemap_parts.specs.Texts.{with_texts}
use Rattle.oxc_sourcemap_lookup.specs.Lookup.{clamped_pick}
use Rattle.oxc_sourcemap_lookup.proofs.OwnTables.{line_goes_on}
use Rattle.oxc_sourcemap_steps.specs.Inputs.{input_for, goes_back, inputs_fault}
use Rattle.oxc_sourcemap_steps.specs.Inputs.{NoInputColumnGoesBack}
use Rattle.oxc_sourcemap_steps.specs.Remapped.{listed_sources, input_original, block_start}
use Rattle.oxc_sourcemap_steps.specs.Remapped.{original, needed_name, needed_names, remapped}
use Rattle.oxc_sourcemap_steps.specs.Remapped.{has_few, remapping}
use Rattle.oxc_sourcemap_plan.specs.RemapLaws.{names_of_inputs, AreInputsSorted}
use Rattle.oxc_sourcemap_plan.proofs.ComposedNames.{IsOf, found-at, taken-are_of, missing-most}
use Rattle.oxc_sourcemap_plan.proofs.ComposedNames.{grown, tested, all-tested}
use Rattle.oxc_sourcemap_plan.proofs.JoinDecodedMaps.{slice_get-left, slice_get-right}
use Rattle.oxc_sourcemap_plan.proofs.Joins.{map_twice}
use Rattle.oxc_sourcemap_plan.proofs.JoinStands.{all_weaker}
use Rattle.oxc_sourcemap_plan.proofs.ReadsBack.{sorted-order}
use Rattle.oxc_sourcemap_plan.proofs.RemappedRecords.{leads_in, leads_from, leads, target, leads-is}

-- a text that is in a list, by its index
abbrev IsAt : List Text → Text → Type 0
IsAt names x = (i : ℕ) × (slice_get names i ≡ Some x)

at-left : (xs ys : List Text) (x : Text) → IsAt xs x → IsAt (xs ++ ys) x
at-left xs ys x p = (p.0, slice_get-left xs ys p.0 (slice_get_within xs p.0 x p.1) ∙ p.1)

at-right : (xs ys : List Text) (x : Text) → IsAt ys x → IsAt (xs ++ ys) x
at-right xs ys x p = (p.0 + length xs, slice_get-right xs ys p.0 ∙ p.1)

at-id : (names : List Text) (id : Option ℕ) (x : Text) → option_and_then (slice_get names) id ≡ Some x → IsAt names x
at-id names None x e = absurd (cc (e))
at-id names (Some i) x e = (i, e)

-- the names of an input are among those of all inputs
at-input : (inputs : List (Text × MapRecord)) (path : Text) (b : MapRecord) (x : Text) → input_for inputs path ≡ Some b → IsAt b.names x → IsAt (names_of_inputs inputs) x
at-input [] path b x e p = absurd (cc (e))
at-input (i ∷ inputs) path b x e p =
    elim (bytes_eq path i.0) as (λ t. cond t (Some i.1) (input_for inputs path) ≡ Some b → IsAt (names_of_inputs (i ∷ inputs)) x) [
      | true ↦ (λ q. let same : i.1 ≡ b = cc (q) in at-left i.1.names (names_of_inputs inputs) x (subst (λ (c : MapRecord). IsAt c.names x) (sym same) p))
      | false ↦ (λ q. at-right i.1.names (names_of_inputs inputs) x (at-input inputs path b x q p))
    ] e

module _ (a : MapRecord) (inputs : List (Text × MapRecord)) where
  abbrev pub all : List Text
  all = a.names ++ names_of_inputs inputs

  -- the name that is needed, if one is, is a name of one of the maps
  abbrev IsKnown : Option Text → Type 0
  IsKnown n = (x : Text) → n ≡ Some x → IsAt all x

  own-known : (t : TokenRecord) → IsKnown (name_of a.names t)
  own-known t x e = at-left a.names (names_of_inputs inputs) x (at-id a.names t.name_id x e)

  or-known : (p q : Option Text) → IsKnown p → IsKnown q → IsKnown (option_or p q)
  or-known None q h k = k
  or-known (Some y) q h k = h

  module _ (b : MapRecord) (path : Text) (e : input_for inputs path ≡ Some b) (start : ℕ) (name : Option Text) (k : IsKnown name) where
    id-known : (id sl sc : ℕ) (sn : Option ℕ) (c : Bool)
        → IsKnown (needed_name (cond c (Some (record { source_id = id + start; src_line = sl; src_col = sc; name = option_or (option_and_then (slice_get b.names) sn) name })) None))
    id-known id sl sc sn true = or-known (option_and_then (slice_get b.names) sn) name (λ x f. at-right a.names (names_of_inputs inputs) x (at-input inputs path b x e (at-id b.names sn x f))) k
    id-known id sl sc sn false = λ x f. absurd (cc (f))

    token-known : (fl fc sl sc : ℕ) (so sn : Option ℕ)
        → IsKnown (needed_name (input_original b start name (record { dst_line = fl; dst_col = fc; src_line = sl; src_col = sc; source_id = so; name_id = sn })))
    token-known fl fc sl sc None sn = λ x f. absurd (cc (f))
    token-known fl fc sl sc (Some id) sn = id-known id sl sc sn (nat_lt id (length b.sources))

    found-known : (o : Option TokenRecord) → IsKnown (needed_name (option_and_then (input_original b start name) o))
    found-known None = λ x f. absurd (cc (f))
    found-known (Some u) = token-known u.dst_line u.dst_col u.src_line u.src_col u.source_id u.name_id

  input-known : (t : TokenRecord) (path : Text) (start : ℕ) (q : Option MapRecord) → input_for inputs path ≡ q → IsKnown (needed_name (leads_in q start a.names t))
  input-known t path start None e = own-known t
  input-known t path start (Some b) e = found-known b path e start (name_of a.names t) (own-known t) (clamped_pick token_line token_column b.tokens t.src_line t.src_col)

  source-known : (t : TokenRecord) (i : ℕ) (o : Option DecodedSource) → IsKnown (needed_name (leads_from inputs a t i o))
  source-known t i None = λ x f. absurd (cc (f))
  source-known t i (Some s) = input-known t s.path (block_start inputs a i) (input_for inputs s.path) refl

  id-leads : (t : TokenRecord) (id : Option ℕ) → IsKnown (needed_name (option_and_then (λ i. leads_from inputs a t i (slice_get (listed_sources a) i)) id))
  id-leads t None = λ x f. absurd (cc (f))
  id-leads t (Some i) = source-known t i (slice_get (listed_sources a) i)

  index-known : (n : Option Text) → IsKnown n → (x : Text) → n ≡ Some x → IsOf all x
  index-known n h x e = let p = h x e in found-at x all 0 p.0 p.1

  all-known : (ts : List TokenRecord) → AllByRecursion (IsOf all) (filter_map needed_name (map (leads inputs a) ts))
  all-known [] = tt
  all-known (t ∷ ts) = taken-are_of all (needed_name (leads inputs a t)) _ (index-known (needed_name (leads inputs a t)) (id-leads t t.source_id)) (all-known ts)

  abbrev pub needed : List Text
  needed = filter_map needed_name (map (leads inputs a) a.tokens)

  names-are : (remapped a inputs).names ≡ with_texts [] needed
  names-are = ap needed_names (map_twice (target inputs a) (original inputs a) (leads inputs a) (leads-is inputs a) a.tokens)

  -- a remapped map has no more names than all maps together
  pub names-most : length (remapped a inputs).names ≤ length a.names + length (names_of_inputs inputs)
  names-most =
      let g = grown [] all needed (all-known a.tokens) in
      let m = missing-most [] all in
      let n = length-append a.names (names_of_inputs inputs) in
      let e = ap length names-are in
      omega (arith, g, m, n, e)

  -- and no name but theirs
  pub names-tested : (test : Text → Bool) → list_all test a.names ≡ true → list_all test (names_of_inputs inputs) ≡ true → list_all test (remapped a inputs).names ≡ true
  names-tested test h k =
      let both : list_all test all ≡ true = list_all-append test a.names (names_of_inputs inputs) ∙ rw (h, k) refl in
      ap (list_all test) names-are ∙ tested test [] needed refl (all-tested test all needed both (all-known a.tokens))

-- ---- results
few-by : (order : Option ℕ) (few : Bool) (r : MapRecord) → unless (option_map InputLineOrder order) (cond few (Ok r) (Err TooLarge)) ≡ Err TooLarge → few ≡ false
few-by (Some k) few r e = absurd (cc (e))
few-by None true r e = absurd (cc (e))
few-by None false r e = refl

many : (m n : ℕ) (c : Bool) → nat_le m 4294967295 ≡ c → (c && nat_le n 4294967295) ≡ false → (4294967295 < m) ⊎ (4294967295 < n)
many m n true e f = inr (grind (arith, nat_tests, f))
many m n false e f = inl (grind (arith, nat_tests, e))

pub room : (a : MapRecord) (inputs : List (Text × MapRecord)) → remapping a inputs ≡ Err TooLarge → (4294967295 < length (remapped a inputs).sources) ⊎ (4294967295 < length a.names + length (names_of_inputs inputs))
room a inputs e =
    let sources = length (remapped a inputs).sources in
    let names = length (remapped a inputs).names in
    elim (many sources names (nat_le sources 4294967295) refl (few-by (position_from goes_back 0 inputs) (has_few (remapped a inputs)) (remapped a inputs) e)) [
      | inl h ↦ inl h
      | inr h ↦ inr (let most = names-most a inputs in omega (arith, h, most))
    ]

answer-by : (few : Bool) (r : MapRecord) → (cond few (Ok r) (Err TooLarge) ≡ Ok r) ⊎ (cond few (Ok r) (Err TooLarge) ≡ Err TooLarge)
answer-by true r = inl refl
answer-by false r = inr refl

pub answered : (a : MapRecord) (inputs : List (Text × MapRecord)) → inputs_fault inputs ≡ None → (remapping a inputs ≡ Ok (remapped a inputs)) ⊎ (remapping a inputs ≡ Err TooLarge)
answered a inputs e = rw e (answer-by (has_few (remapped a inputs)) (remapped a inputs))

-- ---- sorted inputs
none-back : (inputs : List (Text × MapRecord)) (k : ℕ) → AreInputsSorted inputs → position_from goes_back k inputs ≡ None
none-back [] k h = refl
none-back (b ∷ inputs) k h = rw (sorted-order b.1.tokens h.0, none-back inputs (k + 1) h.1)

pub sorted_inputs : (inputs : List (Text × MapRecord)) → AreInputsSorted inputs → NoInputColumnGoesBack inputs × (inputs_fault inputs ≡ None)
sorted_inputs inputs h = (
  all_weaker _ _ (λ b s n. line_goes_on n b.1.tokens s) inputs h,
  ap (option_map InputLineOrder) (none-back inputs 0 h),
)
