-- What tokens lead to and the tokens made of that, gathered one by one; and what all of it makes.
use Rattle.std.proofs.Common.{◌≡◌, ◌≢◌, refl, sym, ap, subst, ◌∙◌, ℕ, ◌<◌, ◌≤◌, Bool, true, false}
use Rattle.std.proofs.Common.{cond, ◌&&◌, List, [], ◌∷◌, ◌++◌, map, length, nat_le, Option, Some}
use Rattle.std.proofs.Common.{None, Result, Ok, Err, IfOk, IfErr, arith}
use Rattle.std.proofs.lemmas.Bool.Decides.{nat_tests}
use Rattle.std.proofs.lemmas.List.{map-append, length-map}
use Rattle.std.specs.List.{AllByRecursion, filter_map}
use Rattle.std.specs.Option.{option_and_then}
use Rattle.oxc_sourcemap_tokens.specs.declared.errors.error.Error.{Error}
use Rattle.oxc_sourcemap_tokens.specs.declared.errors.error.Error.TheVariants.{OutOfMemory}
use Rattle.oxc_sourcemap_tokens.specs.declared.errors.error.Error.TheVariants.{TooLarge}
use Rattle.oxc_sourcemap_tokens.specs.Token.{TokenRecord}
use Rattle.oxc_sourcemap_parts.specs.DecodedMap.{DecodedSource}
use Rattle.oxc_sourcemap_parts.specs.Record.{Text, MapRecord}
use Rattle.oxc_sourcemap_parts.specs.Texts.{with_texts}
use Rattle.oxc_sourcemap_steps.specs.Composed.{Target, NoColumnGoesBack}
use Rattle.oxc_sourcemap_steps.specs.InheritedNames.{with_inherited}
use Rattle.oxc_sourcemap_steps.proofs.InheritedNames.{IsPlaced}
use Rattle.oxc_sourcemap_steps.proofs.Targets.{all-append, is_target, targets-are}
use Rattle.oxc_sourcemap_steps.specs.Blocks.{remapped_sources, unless_empty}
use Rattle.oxc_sourcemap_steps.specs.Inputs.{input_for, decoded_inputs, inputs_fault}
use Rattle.oxc_sourcemap_steps.specs.Inputs.{NoInputColumnGoesBack}
use Rattle.oxc_sourcemap_steps.specs.Remapped.{listed_sources, source_of, input_of, target_by}
use Rattle.oxc_sourcemap_steps.specs.Remapped.{remap_targets, Original, original, needed_name}
use Rattle.oxc_sourcemap_steps.specs.Remapped.{needed_names, token_to, remapped_token}
use Rattle.oxc_sourcemap_steps.specs.Remapped.{remapped_names, remapped_by, remapping_by, remapping}
use Rattle.oxc_sourcemap_steps.specs.Remapped.{IsTargetBy, SomeRemapping}
use Rattle.oxc_sourcemap_steps.specs.RemapSteps.{block_input, AreBlocks, block_of, block_original}
use Rattle.oxc_sourcemap_steps.specs.RemapSteps.{IsBlockTarget, AreBlockTargets, block_ids}
use Rattle.oxc_sourcemap_steps.specs.RemapSteps.{put_together}
use Rattle.oxc_sourcemap_steps.specs.declared.remap.blocks.Block.{Block}
use Rattle.oxc_sourcemap_steps.proofs.InputPlaces.{input_for-all}
use Rattle.oxc_sourcemap_steps.proofs.NeededNames.{all-needed, needed-cons, needed-append}
use Rattle.oxc_sourcemap_steps.proofs.NeededNames.{needed-last, no-fewer, token-stays}
use Rattle.oxc_sourcemap_steps.proofs.SourceBlocks.{paths-together, contents-together, few-sources}
use Rattle.oxc_sourcemap_steps.proofs.SourceBlocks.{ignored-together, block-input-of}
use Rattle.oxc_sourcemap_steps.proofs.SourceBlocks.{block-original-is}

-- ---- targets
-- what a token leads to by the clamped lookup is a target
pub is-target-by : (b : Option MapRecord) (t : TokenRecord) → IsTargetBy b (target_by b t)
is-target-by None t = refl
is-target-by (Some b) t = is_target b.tokens t

token-of-target : (b : Option MapRecord) (t : TokenRecord) → (target_by b t).token ≡ t
token-of-target None t = refl
token-of-target (Some b) t = refl

abbrev block-target : List Block → TokenRecord → Target
block-target bs t = target_by (option_and_then block_input (block_of bs t)) t

are-block-targets : (bs : List Block) (ts : List TokenRecord) → AreBlockTargets bs ts (map (block-target bs) ts)
are-block-targets bs [] = (refl, tt)
are-block-targets bs (t ∷ ts) =
    let more = are-block-targets bs ts in
    let same : (block-target bs t).token ≡ t = token-of-target (option_and_then block_input (block_of bs t)) t in (
      ap (λ u. u ∷ map (λ l. l.token) (map (block-target bs) ts)) same ∙ ap (λ us. t ∷ us) more.0,
      (
        subst (λ u. IsTargetBy (option_and_then block_input (block_of bs u)) (block-target bs t)) (sym same) (is-target-by (option_and_then block_input (block_of bs t)) t),
        more.1,
      ),
    )

targets-append : (bs : List Block) (ts us : List TokenRecord) (ls ms : List Target) → AreBlockTargets bs ts ls → AreBlockTargets bs us ms → AreBlockTargets bs (ts ++ us) (ls ++ ms)
targets-append bs ts us ls ms h k = (
  map-append (λ l. l.token) ls ms ∙ ap (λ xs. xs ++ map (λ l. l.token) ms) h.0 ∙ ap (λ ys. ts ++ ys) k.0,
  all-append _ ls ms h.1 k.1,
)

-- ---- tokens, one by one
module _ (bs : List Block) (olds : List Text) where
  abbrev leads : Target → Option Original
  leads l = block_original (block_of bs l.token) olds l

  abbrev token-by : List Text → Target → TokenRecord
  token-by names l = token_to names l.token (leads l)

  -- what is made of some tokens, with the names that they need
  pub record Made (ts : List TokenRecord) (names : List Text) (us : List TokenRecord) : Type 0 where
    pub ls : List Target
    pub each : AreBlockTargets bs ts ls
    pub names-are : names ≡ needed_names (map leads ls)
    pub tokens-are : us ≡ map (token-by names) ls

  pub made-none : Made [] [] []
  made-none = record { ls = []; each = (refl, tt); names-are = refl; tokens-are = refl }

  tokens-stay : (names : List Text) (n : Option Text) (ls : List Target) → AllByRecursion (λ o. IsPlaced names (needed_name o)) (map leads ls)
      → map (token-by (with_inherited names n)) ls ≡ map (token-by names) ls
  tokens-stay names n [] h = refl
  tokens-stay names n (l ∷ ls) h =
      ap (λ u. u ∷ map (token-by (with_inherited names n)) ls) (token-stays names n l.token (leads l) h.0) ∙ ap (λ us. token-by names l ∷ us) (tokens-stay names n ls h.1)

  pub made-more : (ts vs : List TokenRecord) (old new : List Text) (us ws : List TokenRecord) (l : Target) → Made ts old us → vs ≡ ts ++ l.token ∷ []
      → IsBlockTarget (block_of bs l.token) l → new ≡ with_inherited old (needed_name (leads l)) → ws ≡ us ++ token-by new l ∷ [] → Made vs new ws
  made-more ts vs old new us ws l m v h n w =
      let name = needed_name (leads l) in
      let placed = subst (λ ns. AllByRecursion (λ (o : Option Original). IsPlaced ns (needed_name o)) (map leads m.ls)) (sym m.names-are) (all-needed (map leads m.ls)) in
      let stay : map (token-by new) m.ls ≡ map (token-by old) m.ls = ap (λ ns. map (token-by ns) m.ls) n ∙ tokens-stay old name m.ls placed in record {
        ls = m.ls ++ l ∷ [];
        each = subst (λ xs. AreBlockTargets bs xs (m.ls ++ l ∷ [])) (sym v) (targets-append bs ts (l.token ∷ []) m.ls (l ∷ []) m.each (refl, (h, tt)));
        names-are = n ∙ ap (λ ns. with_inherited ns name) m.names-are ∙ sym (needed-last (map leads m.ls) (leads l)) ∙ ap needed_names (sym (map-append leads m.ls (l ∷ [])));
        tokens-are = w ∙ ap (λ xs. xs ++ token-by new l ∷ []) (m.tokens-are ∙ sym stay) ∙ sym (map-append (token-by new) m.ls (l ∷ []));
      }

  -- a name past the limit: then there are targets of all tokens that need too many names
  pub past-all : (ts all : List TokenRecord) (names : List Text) (us more : List TokenRecord) (l : Target) → Made ts names us → ts ++ l.token ∷ more ≡ all
      → IsBlockTarget (block_of bs l.token) l → 4294967295 < length (with_inherited names (needed_name (leads l)))
      → (ls : List Target) × AreBlockTargets bs all ls × (4294967295 < length (needed_names (map leads ls)))
  past-all ts all names us more l m u h p =
      let rest = map (block-target bs) more in
      let ls = m.ls ++ l ∷ rest in
      let r = are-block-targets bs more in
      let new = with_inherited names (needed_name (leads l)) in
      let end : needed_names (map leads ls) ≡ with_texts new (filter_map needed_name (map leads rest)) =
      ap needed_names (map-append leads m.ls (l ∷ rest)) ∙ needed-append (map leads m.ls) (leads l ∷ map leads rest)
      ∙ ap (λ ns. with_texts ns (filter_map needed_name (leads l ∷ map leads rest))) (sym m.names-are) ∙ needed-cons names (leads l) (map leads rest) in
      let count = ap length end in
      let few = no-fewer new (filter_map needed_name (map leads rest)) in (
        ls,
        subst (λ xs. AreBlockTargets bs xs ls) u
            (targets-append bs ts (l.token ∷ more) m.ls (l ∷ rest) m.each (ap (λ us. l.token ∷ us) r.0, (h, r.1))),
        omega (arith, p, count, few),
      )

-- ---- the remapped map
map-same : {A B : Type 0} (f g : A → B) → ((x : A) → f x ≡ g x) → (xs : List A) → map f xs ≡ map g xs
map-same f g h [] = refl
map-same f g h (x ∷ xs) = ap (λ y. y ∷ map f xs) (h x) ∙ ap (λ ys. g x ∷ ys) (map-same f g h xs)

module _ (a : MapRecord) (inputs : List (Text × MapRecord)) where
  abbrev meant-sources : List DecodedSource
  meant-sources = remapped_sources (decoded_inputs inputs) (listed_sources a)

  few-by : (ls : List Target) (s n : Bool) → nat_le (length (map (λ source. source.path) meant-sources)) 4294967295 ≡ s → nat_le (length (remapped_names ls a inputs)) 4294967295 ≡ n
      → inputs_fault inputs ≡ None → remapping_by ls a inputs ≡ cond (s && n) (Ok (remapped_by ls a inputs)) (Err TooLarge)
  few-by ls s n e f g = rw (g, e, f)

  at-least : (n : ℕ) → n ≤ 4294967295 → nat_le n 4294967295 ≡ true
  at-least n h = grind (arith, nat_tests, h)

  more-than : (n : ℕ) → 4294967295 < n → nat_le n 4294967295 ≡ false
  more-than n h = grind (arith, nat_tests, h)

  count-paths : length (map (λ source. source.path) meant-sources) ≡ length meant-sources
  count-paths = length-map meant-sources (λ source. source.path)

  pub well : (ls : List Target) → inputs_fault inputs ≡ None → length meant-sources ≤ 4294967295 → length (remapped_names ls a inputs) ≤ 4294967295
      → remapping_by ls a inputs ≡ Ok (remapped_by ls a inputs)
  well ls e s n = few-by ls true true (at-least _ (omega (arith, count-paths, s))) (at-least _ n) e

  pub many-sources : (ls : List Target) → inputs_fault inputs ≡ None → 4294967295 < length meant-sources → remapping_by ls a inputs ≡ Err TooLarge
  many-sources ls e s = few-by ls false _ (more-than _ (omega (arith, count-paths, s))) refl e

  none-of-both : (s : Bool) (x : MapRecord) → cond (s && false) (Ok x) (Err TooLarge) ≡ Err TooLarge
  none-of-both true x = refl
  none-of-both false x = refl

  pub many-names : (ls : List Target) → inputs_fault inputs ≡ None → 4294967295 < length (remapped_names ls a inputs) → remapping_by ls a inputs ≡ Err TooLarge
  many-names ls e n =
      let s = nat_le (length (map (λ source. source.path) meant-sources)) 4294967295 in
      few-by ls s false refl (more-than _ n) e ∙ none-of-both s (remapped_by ls a inputs)

  -- some targets there are
  are-targets : (ts : List TokenRecord) → (map (λ l. l.token) (map (λ t. target_by (input_of inputs a t) t) ts) ≡ ts)
      × AllByRecursion (λ l. IsTargetBy (input_of inputs a l.token) l) (map (λ t. target_by (input_of inputs a t) t) ts)
  are-targets [] = (refl, tt)
  are-targets (t ∷ ts) =
      let more = are-targets ts in
      let l = target_by (input_of inputs a t) t in
      let same : l.token ≡ t = token-of-target (input_of inputs a t) t in (
        ap (λ u. u ∷ map (λ l. l.token) (map (λ t. target_by (input_of inputs a t) t) ts)) same ∙ ap (λ us. t ∷ us) more.0,
        (subst (λ u. IsTargetBy (input_of inputs a u) l) (sym same) (is-target-by (input_of inputs a t) t), more.1),
      )

  pub at-fault : (e : Error) → inputs_fault inputs ≡ Some e → SomeRemapping a inputs (Err e)
  at-fault e f = (remap_targets a inputs, are-targets a.tokens, rw f)

  pub too-many-sources : inputs_fault inputs ≡ None → 4294967295 < length meant-sources → SomeRemapping a inputs (Err TooLarge)
  too-many-sources e s = (remap_targets a inputs, are-targets a.tokens, many-sources (remap_targets a inputs) e s)

  module _ (bs : List Block) (are : AreBlocks inputs a bs) where
    input-targets : (ls : List Target) → AllByRecursion (λ l. IsBlockTarget (block_of bs l.token) l) ls → AllByRecursion (λ l. IsTargetBy (input_of inputs a l.token) l) ls
    input-targets [] h = tt
    input-targets (l ∷ ls) h = (subst (λ b. IsTargetBy b l) (block-input-of inputs a bs are l.token) h.0, input-targets ls h.1)

    abbrev leads-by : Target → Option Original
    leads-by l = block_original (block_of bs l.token) a.names l

    names-same : (ls : List Target) → needed_names (map leads-by ls) ≡ remapped_names ls a inputs
    names-same ls = ap needed_names (map-same leads-by (original inputs a) (block-original-is inputs a bs are) ls)

    tokens-same : (names : List Text) (ls : List Target) → map (λ l. token_to names l.token (leads-by l)) ls ≡ map (remapped_token inputs a names) ls
    tokens-same names ls = map-same _ (remapped_token inputs a names) (λ l. ap (token_to names l.token) (block-original-is inputs a bs are l)) ls

    pub too-many-names : inputs_fault inputs ≡ None → (ls : List Target) → AreBlockTargets bs a.tokens ls → 4294967295 < length (needed_names (map leads-by ls))
        → SomeRemapping a inputs (Err TooLarge)
    too-many-names e ls h n =
        let many = ap length (names-same ls) in
        (ls, (h.0, input-targets ls h.1), many-names ls e (omega (arith, n, many)))

    -- what is put together is the remapped map
    together : (ls : List Target) (tokens : List TokenRecord) (names : List Text) → names ≡ needed_names (map leads-by ls)
        → tokens ≡ map (λ l. token_to names l.token (leads-by l)) ls → put_together a bs tokens names ≡ remapped_by ls a inputs
    together ls tokens names n t =
        let names-are : names ≡ remapped_names ls a inputs = n ∙ names-same ls in
        let tokens-are : tokens ≡ map (remapped_token inputs a (remapped_names ls a inputs)) ls =
        t ∙ tokens-same names ls ∙ ap (λ ns. map (remapped_token inputs a ns) ls) names-are in
        ap (λ ns. put_together a bs tokens ns) names-are ∙ ap (λ ts. put_together a bs ts (remapped_names ls a inputs)) tokens-are
        ∙ ap (λ ps. record (put_together a bs (map (remapped_token inputs a (remapped_names ls a inputs)) ls) (remapped_names ls a inputs)) { sources = ps }) (paths-together inputs a bs are)
        ∙ ap (λ cs. record (remapped_by ls a inputs) { source_contents = cs; ignore_list = unless_empty (block_ids bs) }) (contents-together inputs a bs are)
        ∙ ap (λ l. record (remapped_by ls a inputs) { ignore_list = l }) (ignored-together inputs a bs are)

    pub is-remapped : inputs_fault inputs ≡ None → (ls : List Target) (tokens : List TokenRecord) (names : List Text) (made : MapRecord) → AreBlockTargets bs a.tokens ls
        → names ≡ needed_names (map leads-by ls) → tokens ≡ map (λ l. token_to names l.token (leads-by l)) ls → length names ≤ 4294967295
        → made ≡ put_together a bs tokens names → SomeRemapping a inputs (Ok made)
    is-remapped e ls tokens names made h n t few is =
        let count = ap length (n ∙ names-same ls) in (
          ls,
          (h.0, input-targets ls h.1),
          well ls e (few-sources inputs a bs are) (omega (arith, few, count)) ∙ sym (ap Ok (is ∙ together ls tokens names n t)),
        )

  same-head : {xs ys : List Target} {x y : Target} → x ∷ xs ≡ y ∷ ys → x ≡ y
  same-head e = cc (e)

  -- ---- where no columns go back, there is only one result
  target-is : (b : Option MapRecord) (l : Target) → ((c : MapRecord) → b ≡ Some c → NoColumnGoesBack c.tokens) → IsTargetBy b l → l ≡ target_by b l.token
  target-is None l g h = ap (λ o. record { token = l.token; found = o }) h
  target-is (Some b) l g h = same-head (targets-are b.tokens (l ∷ []) (g b refl) (h, tt))

  by-source : NoInputColumnGoesBack inputs → (o : Option DecodedSource) (c : MapRecord) → option_and_then (λ source. input_for inputs source.path) o ≡ Some c → NoColumnGoesBack c.tokens
  by-source g None c e = absurd (cc (e))
  by-source g (Some s) c e = input_for-all (λ b. NoColumnGoesBack b.tokens) inputs s.path c g e

  input-in-order : NoInputColumnGoesBack inputs → (t : TokenRecord) (c : MapRecord) → input_of inputs a t ≡ Some c → NoColumnGoesBack c.tokens
  input-in-order g t c e = by-source g (source_of a t) c e

  targets-are-all : NoInputColumnGoesBack inputs → (ls : List Target) → AllByRecursion (λ l. IsTargetBy (input_of inputs a l.token) l) ls
      → ls ≡ map (λ t. target_by (input_of inputs a t) t) (map (λ l. l.token) ls)
  targets-are-all g [] h = refl
  targets-are-all g (l ∷ ls) h =
      ap (λ m. m ∷ ls) (target-is (input_of inputs a l.token) l (λ c e. input-in-order g l.token c e) h.0)
      ∙ ap (λ ms. target_by (input_of inputs a l.token) l.token ∷ ms) (targets-are-all g ls h.1)

  exact : (answer : Result MapRecord Error) → NoInputColumnGoesBack inputs → SomeRemapping a inputs answer → remapping a inputs ≡ answer
  exact answer g s =
      let is : s.0 ≡ remap_targets a inputs = targets-are-all g s.0 s.1.1 ∙ ap (map (λ t. target_by (input_of inputs a t) t)) s.1.0 in
      sym (ap (λ ls. remapping_by ls a inputs) is) ∙ s.2

  pub exact-map : {X : Type 0} (view : X → MapRecord) (r : Result X Error) → NoInputColumnGoesBack inputs → IfOk r (λ x. SomeRemapping a inputs (Ok (view x)))
      → IfOk r (λ x. remapping a inputs ≡ Ok (view x))
  exact-map view (Ok x) g s = exact (Ok (view x)) g s
  exact-map view (Err e) g s = tt

  pub exact-error : {X : Type 0} (r : Result X Error) → NoInputColumnGoesBack inputs → IfErr r (λ e. (e ≢ OutOfMemory) → SomeRemapping a inputs (Err e))
      → IfErr r (λ e. (e ≢ OutOfMemory) → remapping a inputs ≡ Err e)
  exact-error (Ok x) g s = tt
  exact-error (Err e) g s = λ other. exact (Err e) g (s other)
