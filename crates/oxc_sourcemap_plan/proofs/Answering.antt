-- A map that realizes the outcome of a plan is as the evaluation of the plan promises.
use Rattle.std.proofs.Common.{◌≡◌, ◌⊎◌, ◌≤◌, true, cond, nat_le, Ok, sym, ap, ◌∙◌, subst, arith}
use Rattle.std.proofs.lemmas.Bool.Decides.{nat_tests}
use Rattle.oxc_sourcemap_parts.specs.Record.{MapRecord}
use Rattle.oxc_sourcemap_parts.specs.DecodedMap.{decoded_map_of}
use Rattle.oxc_sourcemap_json.specs.Encoded.{encoded_record}
use Rattle.oxc_sourcemap_plan.specs.MapLaws.{rewritten, SoundIsWritten, SoundReadsBack}
use Rattle.oxc_sourcemap_plan.specs.JoinLaws.{TracesAgree}
use Rattle.oxc_sourcemap_plan.proofs.UpToRepeats.{matches}
use Rattle.oxc_sourcemap_tokens.specs.declared.errors.error.Error.TheVariants.{OutOfMemory}
use Rattle.oxc_sourcemap_tokens.specs.declared.errors.plan_error.PlanError.{PlanError}
use Rattle.oxc_sourcemap_tokens.specs.declared.errors.plan_error.PlanError.TheVariants.{Map}
use Rattle.oxc_sourcemap_plan.specs.declared.fault.PlanFault.{PlanFault}
use Rattle.oxc_sourcemap_plan.specs.declared.plan.Plan.{Plan}
use Rattle.oxc_sourcemap_plan.specs.Depth.{depth}
use Rattle.oxc_sourcemap_plan.specs.Meaning.{meaning}
use Rattle.oxc_sourcemap_plan.specs.Outcome.{Outcome, outcome_of, outcome, too_deep}
use Rattle.oxc_sourcemap_plan.specs.Outcome.{is_within_limits}
use Rattle.oxc_sourcemap_plan.specs.Evaluated.{IsReadBack, IsErrorOf, IsEvaluated, HasOutcome}
use Rattle.oxc_sourcemap_plan.specs.PlanPlaces.{IsTold}
use Rattle.oxc_sourcemap_plan.specs.Realizes.{Realizes, FailsAs}
use Rattle.oxc_sourcemap_plan.proofs.Meanings.{same_meaning}
use Rattle.oxc_sourcemap_plan.proofs.Decoding.{decoded-reading}

module _ (traces : TracesAgree) (written : SoundIsWritten) (back : SoundReadsBack) where
  read_back : (m : MapRecord) (o : Outcome) → Realizes m o → o.is_rewritten ≡ true → IsReadBack m
  read_back m o g e =
      let r = g.rewritten e in
      record {
        chunks = r.0;
        tokens = decoded-reading (encoded_record m) (rewritten m) (back m g.stands.sound g.in_bounds).is_read ∙ ap (λ ts. Ok ts) r.1;
      }

  is_evaluated : (m : MapRecord) (o : Outcome) → Realizes m o → IsEvaluated m o.meaning
  is_evaluated m o g = record {
    decoded_map = g.decoded_map;
    means = g.means;
    sound = g.stands.sound;
    up_to_repeats = g.stands.up_to_repeats;
    traces = traces (decoded_map_of m) g.decoded_map g.stands.up_to_repeats;
    metadata = (matches (decoded_map_of m) g.decoded_map g.stands.up_to_repeats).rest;
    tokens = g.tokens;
    written = written m g.stands.sound;
    comes_back = back m g.stands.sound g.in_bounds;
  }

  has_outcome : (m : MapRecord) (o : Outcome) → Realizes m o → HasOutcome m o
  has_outcome m o g = record {
    map_record = g.map_record;
    names = g.names;
    known = g.known;
    contents = g.contents;
    rewritten = read_back m o g;
    within_limits = λ r. (let few = g.within_limits r in let tokens = g.tokens in omega arith);
  }

  module _ (plan : Plan) (m n : MapRecord) (few : depth plan ≤ 64) (is : n ≡ m) (g : Realizes m (outcome_of plan)) where
    within : outcome plan ≡ outcome_of plan
    within =
        let t : nat_le (depth plan) 64 ≡ true = grind (arith, nat_tests) in
        ap (λ b. cond b (outcome_of plan) (too_deep (outcome_of plan).texts)) t

    pub evaluated : IsEvaluated n (meaning plan)
    evaluated = subst (λ w. IsEvaluated n w) (ap (λ (o : Outcome). o.meaning) (sym within) ∙ same_meaning plan) (subst (λ x. IsEvaluated x (outcome_of plan).meaning) (sym is) (is_evaluated m (outcome_of plan) g))

    pub with_outcome : HasOutcome n (outcome plan)
    with_outcome = subst (HasOutcome n) (sym within) (subst (λ x. HasOutcome x (outcome_of plan)) (sym is) (has_outcome m (outcome_of plan) g))

-- an error of the evaluation of a plan that is not too deep
pub failed : (plan : Plan) (e : PlanError) → depth plan ≤ 64 → FailsAs e (outcome_of plan) → (e ≡ Map OutOfMemory) ⊎ IsErrorOf (meaning plan) (is_within_limits plan) e
failed plan e few f =
    let t : nat_le (depth plan) 64 ≡ true = grind (arith, nat_tests) in
    let is = ap (λ b. cond b (outcome_of plan) (too_deep (outcome_of plan).texts)) t in
    subst (λ w. (e ≡ Map OutOfMemory) ⊎ IsErrorOf w (is_within_limits plan) e) (same_meaning plan) (subst (FailsAs e) (sym is) f)

-- its fault
pub told : (plan : Plan) (f : PlanFault) → depth plan ≤ 64 → IsTold (outcome_of plan) f → IsTold (outcome plan) f
told plan f few h =
    let t : nat_le (depth plan) 64 ≡ true = grind (arith, nat_tests) in
    let is = ap (λ b. cond b (outcome_of plan) (too_deep (outcome_of plan).texts)) t in
    subst (λ (o : Outcome). IsTold o f) (sym is) h
