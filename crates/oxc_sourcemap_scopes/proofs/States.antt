-- What is said of scopes and ranges stays beside them as they are read.
use Rattle.std.proofs.Common.{◌≡◌, ℕ, ◌<◌, ◌≤◌, List, [], ◌∷◌, ◌++◌, length, get_or, set, slice_get}
use Rattle.std.proofs.Common.{Option, Some, None}
use Rattle.std.proofs.Common.{refl, subst, arith, zero, suc}
use Rattle.std.specs.Option.{IfSome}
use Rattle.std.proofs.lemmas.List.{length-set, length_push}
use Rattle.oxc_sourcemap_tokens.specs.declared.position.Position.{Position}
use Rattle.oxc_sourcemap_scopes.specs.declared.scopes.ScopeInfo.{ScopeInfo}
use Rattle.oxc_sourcemap_scopes.specs.declared.scopes.RangeInfo.{RangeInfo}
use Rattle.oxc_sourcemap_scopes.specs.declared.scopes.Value.{Value}
use Rattle.oxc_sourcemap_scopes.specs.Trees.{span_at, started, ended}
use Rattle.oxc_sourcemap_scopes.specs.Items.{State, IsState, IsDefined, no_range}

pub more-below : (o : Option ℕ) (n m : ℕ) → n ≤ m → IfSome o (λ i. i < n) → IfSome o (λ i. i < m)
more-below None n m h d = tt
more-below (Some i) n m h d = omega arith

-- what holds of each item of a list and of one more
pub each-more : {A : Type 0} (P : A → Type 0) (xs : List A) (x : A) → ((i : ℕ) (y : A) → slice_get xs i ≡ Some y → P y) → P x → (i : ℕ) (y : A) → slice_get (xs ++ x ∷ []) i ≡ Some y → P y
each-more P [] x all one zero y e = let q : x ≡ y = cc in subst P q one
each-more P [] x all one (suc i) y e = absurd (let q : None ≡ Some y = e in cc)
each-more P (z ∷ zs) x all one zero y e = all zero y e
each-more P (z ∷ zs) x all one (suc i) y e = each-more P zs x (λ k w f. all (suc k) w f) one i y e

-- what holds of each item of a list, one of which is another now
each-other : {A : Type 0} (P : A → Type 0) (xs : List A) (k : ℕ) (x : A) → ((i : ℕ) (y : A) → slice_get xs i ≡ Some y → P y) → P x → (i : ℕ) (y : A) → slice_get (set xs k x) i ≡ Some y → P y
each-other P [] k x all one i y e = all i y e
each-other P (z ∷ zs) zero x all one zero y e = let q : x ≡ y = cc in subst P q one
each-other P (z ∷ zs) zero x all one (suc i) y e = all (suc i) y e
each-other P (z ∷ zs) (suc k) x all one zero y e = all zero y e
each-other P (z ∷ zs) (suc k) x all one (suc i) y e = each-other P zs k x (λ j w f. all (suc j) w f) one i y e

item-at : {A : Type 0} (xs : List A) (i : ℕ) (d : A) → i < length xs → slice_get xs i ≡ Some (get_or xs i d)
item-at [] i d h = absurd (omega (arith, h))
item-at (x ∷ xs) zero d h = refl
item-at (x ∷ xs) (suc i) d h = item-at xs i d (omega (arith, h))

-- one scope more
pub scope-added : (s : State) (here : Position) (info : ScopeInfo) (name kind : ℕ) → IsState s
    → IsState (record s { scopes = started s.scopes here; scope_infos = s.scope_infos ++ info ∷ []; variables = s.variables ++ [] ∷ []; name = name; kind = kind })
scope-added s here info name kind h =
    let long = length_push s.scopes.spans (record { source = s.scopes.source; start = here; end = here; parent = s.scopes.current }) in
    record {
      scopes = omega (arith, long, length_push s.scope_infos info, h.scopes);
      variables = omega (arith, long, length_push s.variables [], h.variables);
      ranges = h.ranges;
      values = h.values;
      pieces = h.pieces;
      definitions = λ i x e. more-below x.definition (length s.scopes.spans) _ (omega (arith, long)) (h.definitions i x e);
    }

pub scope-ended : (s : State) (k : ℕ) (here : Position) → IsState s → IsState (record s { scopes = ended s.scopes k here })
scope-ended s k here h =
    let long = length-set s.scopes.spans k (record (span_at s.scopes.spans k) { end = here }) in
    record {
      scopes = omega (arith, long, h.scopes);
      variables = omega (arith, long, h.variables);
      ranges = h.ranges;
      values = h.values;
      pieces = h.pieces;
      definitions = λ i x e. more-below x.definition (length s.scopes.spans) _ (omega (arith, long)) (h.definitions i x e);
    }

-- one range more, whose definition leads to a scope
pub range-added : (s : State) (here : Position) (info : RangeInfo) (definition : ℕ) → IsState s → IsDefined (length s.scopes.spans) info
    → IsState (record s { ranges = started s.ranges here; range_infos = s.range_infos ++ info ∷ []; values = s.values ++ [] ∷ []; pieces = s.pieces ++ [] ∷ []; definition = definition })
range-added s here info definition h d =
    let long = length_push s.ranges.spans (record { source = s.ranges.source; start = here; end = here; parent = s.ranges.current }) in
    record {
      scopes = h.scopes;
      variables = h.variables;
      ranges = omega (arith, long, length_push s.range_infos info, h.ranges);
      values = omega (arith, long, length_push s.values [], h.values);
      pieces = omega (arith, long, length_push s.pieces [], h.pieces);
      definitions = each-more (IsDefined (length s.scopes.spans)) s.range_infos info h.definitions d;
    }

pub range-ended : (s : State) (k : ℕ) (here : Position) → IsState s → IsState (record s { ranges = ended s.ranges k here })
range-ended s k here h =
    let long = length-set s.ranges.spans k (record (span_at s.ranges.spans k) { end = here }) in
    record {
      scopes = h.scopes;
      variables = h.variables;
      ranges = omega (arith, long, h.ranges);
      values = omega (arith, long, h.values);
      pieces = omega (arith, long, h.pieces);
      definitions = h.definitions;
    }

-- a range with another call site
pub call-set : (s : State) (k : ℕ) (info : RangeInfo) → IsState s → k < length s.range_infos → info.definition ≡ (get_or s.range_infos k no_range).definition
    → IsState (record s { range_infos = set s.range_infos k info })
call-set s k info h l e =
    let old : IfSome (get_or s.range_infos k no_range).definition (λ i. i < length s.scopes.spans) = h.definitions k (get_or s.range_infos k no_range) (item-at s.range_infos k no_range l) in
    record {
      scopes = h.scopes;
      variables = h.variables;
      ranges = omega (arith, length-set s.range_infos k info, h.ranges);
      values = h.values;
      pieces = h.pieces;
      definitions = each-other (IsDefined (length s.scopes.spans)) s.range_infos k info h.definitions (rw e old);
    }

-- a scope with other variables
pub variables-set : (s : State) (k : ℕ) (list : List ℕ) (variable : ℕ) → IsState s → IsState (record s { variables = set s.variables k list; variable = variable })
variables-set s k list variable h = record {
  scopes = h.scopes;
  variables = omega (arith, length-set s.variables k list, h.variables);
  ranges = h.ranges;
  values = h.values;
  pieces = h.pieces;
  definitions = h.definitions;
}

-- a range with other values
pub values-set : (s : State) (k : ℕ) (list : List Value) → IsState s → IsState (record s { values = set s.values k list })
values-set s k list h = record {
  scopes = h.scopes;
  variables = h.variables;
  ranges = h.ranges;
  values = omega (arith, length-set s.values k list, h.values);
  pieces = h.pieces;
  definitions = h.definitions;
}
