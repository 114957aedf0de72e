-- From targets to the composed map.
use Rattle.std.proofs.Common.{◌≡◌, sym, ap, subst, ◌∙◌, Bool, true, false, cond, List, map, Option}
use Rattle.std.proofs.Common.{Some, None, Result, Ok, Err, ◌≢◌, IfOk, IfErr}
use Rattle.oxc_sourcemap_tokens.specs.declared.errors.error.Error.{Error}
use Rattle.oxc_sourcemap_tokens.specs.declared.errors.error.Error.TheVariants.{TooLarge}
use Rattle.oxc_sourcemap_tokens.specs.declared.errors.error.Error.TheVariants.{OutOfMemory}
use Rattle.oxc_sourcemap_tokens.specs.Token.{TokenRecord}
use Rattle.oxc_sourcemap_parts.specs.Record.{Text, MapRecord}
use Rattle.oxc_sourcemap_steps.specs.Composed.{Target, target_in, targets, composed_names}
use Rattle.oxc_sourcemap_steps.specs.Composed.{composed_token, composed_by, are_ids}
use Rattle.oxc_sourcemap_steps.specs.Composed.{composition_fault, composition_by, composition}
use Rattle.oxc_sourcemap_steps.specs.Composed.{AreTargets, SomeComposition, NoColumnGoesBack}
use Rattle.oxc_sourcemap_steps.proofs.Targets.{are_targets, targets-are}

module _ (a b : MapRecord) where
  -- faults and limits as results
  pub at_fault : (e : Error) → composition_fault a b ≡ Some e → SomeComposition a b (Err e)
  at_fault e f = (targets a b, are_targets b.tokens a.tokens, rw f)

  module _ (f : composition_fault a b ≡ None) where
    ids-by : (ls : List Target) (t : Bool) → are_ids a.names (composed_names a.names b.names ls) ls ≡ t → composition_by ls a b ≡ cond t (Ok (composed_by ls a b)) (Err TooLarge)
    ids-by ls t i = rw (f, i)

    pub too_large : (ls : List Target) → AreTargets a.tokens b.tokens ls → are_ids a.names (composed_names a.names b.names ls) ls ≡ false → SomeComposition a b (Err TooLarge)
    too_large ls h i = (ls, h, ids-by ls false i)

    -- the composed map as a result
    abbrev pub made : Option Text → List Text → List TokenRecord → Option Text → MapRecord
    made file names tokens debug_id = record {
      file = file;
      names = names;
      source_root = b.source_root;
      sources = b.sources;
      source_contents = b.source_contents;
      tokens = tokens;
      token_chunks = None;
      ignore_list = b.ignore_list;
      debug_id = debug_id;
    }

    pub is_composed : (ls : List Target) (file : Option Text) (names : List Text) (tokens : List TokenRecord) (debug_id : Option Text) → AreTargets a.tokens b.tokens ls
        → file ≡ a.file → debug_id ≡ a.debug_id → names ≡ composed_names a.names b.names ls → tokens ≡ map (composed_token a.names names) ls → are_ids a.names names ls ≡ true
        → SomeComposition a b (Ok (made file names tokens debug_id))
    is_composed ls file names tokens debug_id h f d n t i = (
      ls,
      h,
      ids-by ls true (ap (λ ns. are_ids a.names ns ls) (sym n) ∙ i)
          ∙ sym (ap (λ x. Ok (made x names tokens debug_id)) f ∙ ap (λ x. Ok (made a.file names tokens x)) d ∙ ap (λ ts. Ok (made a.file names ts a.debug_id)) t ∙ ap (λ ns. Ok (made a.file ns (map (composed_token a.names ns) ls) a.debug_id)) n),
    )

  -- if no columns go back, there is only one result
  pub exact : (answer : Result MapRecord Error) → NoColumnGoesBack b.tokens → SomeComposition a b answer → composition a b ≡ answer
  exact answer g s =
      let is : s.0 ≡ targets a b = targets-are b.tokens s.0 g s.1.1 ∙ ap (map (target_in b.tokens)) s.1.0 in
      sym (ap (λ ls. composition_by ls a b) is) ∙ s.2

  pub exact_error : {X : Type 0} (r : Result X Error) → NoColumnGoesBack b.tokens → IfErr r (λ e. (e ≢ OutOfMemory) → SomeComposition a b (Err e)) → IfErr r (λ e. (e ≢ OutOfMemory) → composition a b ≡ Err e)
  exact_error (Ok x) g s = tt
  exact_error (Err e) g s = λ other. exact (Err e) g (s other)

  pub exact_map : {X : Type 0} (view : X → MapRecord) (r : Result X Error) → NoColumnGoesBack b.tokens → IfOk r (λ x. SomeComposition a b (Ok (view x))) → IfOk r (λ x. composition a b ≡ Ok (view x))
  exact_map view (Ok x) g s = exact (Ok (view x)) g s
  exact_map view (Err e) g s = tt

pub of_equals : (a p b q : MapRecord) (answer : Result MapRecord Error) → a ≡ p → b ≡ q → SomeComposition a b answer → SomeComposition p q answer
of_equals a p b q answer e f s = subst (λ a. SomeComposition a q answer) e (subst (λ b. SomeComposition a b answer) f s)
