-- Inputs, by their paths and their places in the list.
use Rattle.std.proofs.Common.{◌≡◌, refl, sym, ap, subst, ◌∙◌, ℕ, suc, ◌+◌, ◌<◌, true, false, cond}
use Rattle.std.proofs.Common.{List, [], ◌∷◌, map, length, slice_get, Some, None, arith}
use Rattle.std.proofs.lemmas.Option.{slice_get_within}
use Rattle.std.specs.List.{position_from, AllByRecursion}
use Rattle.std.specs.Option.{option_map, is_some}
use Rattle.std.specs.Str.{bytes_eq}
use Rattle.oxc_sourcemap_tokens.specs.declared.errors.error.Error.TheVariants.{InputLineOrder}
use Rattle.oxc_sourcemap_parts.specs.Record.{Text}
use Rattle.oxc_sourcemap_steps.specs.Inputs.{input_for, goes_back, inputs_fault}
use Rattle.oxc_sourcemap_steps.specs.RemapSteps.{record_of_input, ready_records, input_paths}
use Rattle.oxc_sourcemap_steps.specs.RemapSteps.{IsReady}
use Rattle.oxc_sourcemap_steps.specs.RemapSteps.{AreReady}
use Rattle.oxc_sourcemap_steps.specs.declared.remap.inputs.Input.{Input}

-- the input for a path, with its maps seen otherwise
pub input_for-map : {A B : Type 0} (f : A → B) (inputs : List (Text × A)) (path : Text) → input_for (map (λ i. (i.0, f i.1)) inputs) path ≡ option_map f (input_for inputs path)
input_for-map f [] path = refl
input_for-map f (i ∷ inputs) path =
    elim (bytes_eq path i.0) as (λ b. cond b (Some (f i.1)) (input_for (map (λ i. (i.0, f i.1)) inputs) path) ≡ option_map f (cond b (Some i.1) (input_for inputs path))) [
      | true ↦ refl
      | false ↦ input_for-map f inputs path
    ]

-- what holds of all inputs holds of one for a path
pub input_for-all : {A : Type 0} (P : A → Type 0) (inputs : List (Text × A)) (path : Text) (b : A) → AllByRecursion (λ i. P i.1) inputs → input_for inputs path ≡ Some b → P b
input_for-all P [] path b h e = absurd (cc (e))
input_for-all P (i ∷ inputs) path b h e =
    elim (bytes_eq path i.0) as (λ t. cond t (Some i.1) (input_for inputs path) ≡ Some b → P b) [
      | true ↦ (λ q. let same : i.1 ≡ b = cc (q) in subst P same h.0)
      | false ↦ (λ q. input_for-all P inputs path b h.1 q)
    ] e

-- the input at the place of a path
pub record InputAt (inputs : List Input) (path : Text) (k i : ℕ) : Type 0 where
  pub j : ℕ
  pub place : i ≡ k + j
  pub input : Input
  pub at : slice_get inputs j ≡ Some input
  pub for : input_for (ready_records inputs) path ≡ Some (record_of_input input)
  pub is : IsReady input

input-from : (inputs : List Input) (path : Text) (k i : ℕ) → AreReady inputs → position_from (bytes_eq path) k (input_paths inputs) ≡ Some i → InputAt inputs path k i
input-from [] path k i h e = absurd (cc (e))
input-from (x ∷ xs) path k i h e =
    elim (bytes_eq path x.path.now) as (λ t. bytes_eq path x.path.now ≡ t → cond t (Some k) (position_from (bytes_eq path) (k + 1) (input_paths xs)) ≡ Some i → InputAt (x ∷ xs) path k i) [
      | true ↦ (λ q p. let same : k ≡ i = cc (p) in record {
        j = 0;
        place = omega (arith, same);
        input = x;
        at = refl;
        for = ap (λ t. cond t (Some (record_of_input x)) (input_for (ready_records xs) path)) q;
        is = h.0;
      })
      | false ↦ (λ q p. let found = input-from xs path (k + 1) i h.1 p in record {
        j = suc found.j;
        place = omega (arith, found.place);
        input = found.input;
        at = found.at;
        for = ap (λ t. cond t (Some (record_of_input x)) (input_for (ready_records xs) path)) q ∙ found.for;
        is = found.is;
      })
    ] refl e

pub input-within : (inputs : List Input) (path : Text) (i : ℕ) → AreReady inputs → position_from (bytes_eq path) 0 (input_paths inputs) ≡ Some i → i < length inputs
input-within inputs path i h e =
    let found = input-from inputs path 0 i h e in
    let within = slice_get_within inputs found.j found.input found.at in
    omega (arith, within, found.place)

-- the input at the place of a path is for the path
pub for-path : (inputs : List Input) (path : Text) (i : ℕ) (input : Input) → AreReady inputs → position_from (bytes_eq path) 0 (input_paths inputs) ≡ Some i
    → slice_get inputs i ≡ Some input → (input_for (ready_records inputs) path ≡ Some (record_of_input input)) × IsReady input
for-path inputs path i input h e at =
    let found = input-from inputs path 0 i h e in
    let place : found.j ≡ i = omega (arith, found.place) in
    let same : found.input ≡ input = cc (at, ap (slice_get inputs) (sym place) ∙ found.at) in
    (found.for ∙ ap (λ input. Some (record_of_input input)) same, subst IsReady same found.is)

none-from : (inputs : List Input) (path : Text) (k : ℕ) → position_from (bytes_eq path) k (input_paths inputs) ≡ None → input_for (ready_records inputs) path ≡ None
none-from [] path k e = refl
none-from (x ∷ xs) path k e =
    elim (bytes_eq path x.path.now) as (λ t. cond t (Some k) (position_from (bytes_eq path) (k + 1) (input_paths xs)) ≡ None → cond t (Some (record_of_input x)) (input_for (ready_records xs) path) ≡ None) [
      | true ↦ (λ p. absurd (cc (p)))
      | false ↦ (λ p. none-from xs path (k + 1) p)
    ] e

pub none-for : (inputs : List Input) (path : Text) → position_from (bytes_eq path) 0 (input_paths inputs) ≡ None → input_for (ready_records inputs) path ≡ None
none-for inputs path e = none-from inputs path 0 e

-- ---- faults
-- where all are ready, no tokens go back in lines
none-back : (inputs : List Input) (k : ℕ) → AreReady inputs → position_from goes_back k (ready_records inputs) ≡ None
none-back [] k h = refl
none-back (x ∷ xs) k h = ap (λ o. cond (is_some o) (Some k) (position_from goes_back (k + 1) (ready_records xs))) h.0.order ∙ none-back xs (k + 1) h.1

pub no-fault : (inputs : List Input) → AreReady inputs → inputs_fault (ready_records inputs) ≡ None
no-fault inputs h = ap (option_map InputLineOrder) (none-back inputs 0 h)
