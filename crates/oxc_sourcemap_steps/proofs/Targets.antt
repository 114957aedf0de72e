-- What tokens lead to, gathered one by one.
use Rattle.std.proofs.Common.{is_some, ◌≡◌, refl, sym, ap, subst, ◌∙◌, ℕ, Bool, true, false, cond}
use Rattle.std.proofs.Common.{◌&&◌, ◌==◌, List, [], ◌∷◌, ◌++◌, map, Option, Some, None}
use Rattle.std.proofs.lemmas.List.{map-append}
use Rattle.std.proofs.lemmas.List.Elements.{recursion_from_All, All-contains_itself}
use Rattle.std.proofs.lemmas.List.Folds.{list_all-append}
use Rattle.std.specs.List.{Contains, last_or, filter, filter_map, AllByRecursion}
use Rattle.std.specs.Option.{option_or, option_and_then, IfSome}
use Rattle.oxc_sourcemap_tokens.specs.Token.{TokenRecord, is_mapped, last}
use Rattle.oxc_sourcemap_parts.specs.Record.{Text}
use Rattle.oxc_sourcemap_parts.specs.Sorted.{token_line, token_column}
use Rattle.oxc_sourcemap_lookup.specs.Lookup.{first, greatest, not_past, in_column, at, clamped_at}
use Rattle.oxc_sourcemap_lookup.specs.Lookup.{clamped_pick, on_line, no_column_goes_back}
use Rattle.oxc_sourcemap_parts.specs.Texts.{with_texts}
use Rattle.oxc_sourcemap_steps.specs.InheritedNames.{with_inherited, inherited_index}
use Rattle.oxc_sourcemap_steps.specs.Composed.{Target, target_of, if_mapped, found_on, line_of}
use Rattle.oxc_sourcemap_steps.specs.Composed.{target_in, inherited_name, inherited_id}
use Rattle.oxc_sourcemap_steps.specs.Composed.{composed_names, composed_token, may_be_id, are_ids}
use Rattle.oxc_sourcemap_steps.specs.Composed.{MayFind, IsTarget, AreTargets}
use Rattle.oxc_sourcemap_steps.proofs.InheritedNames.{IsPlaced, inherited-stays, placed-inherited}
use Rattle.oxc_sourcemap_steps.proofs.InheritedNames.{names-cons, names-append, all-placed}
use Rattle.oxc_sourcemap_steps.proofs.InheritedNames.{tokens-stay, ids-stay}

-- what holds of all items holds of one that a lookup finds
module _ {A : Type 0} (P : A → Type 0) where
  filter-all : (p : A → Bool) (xs : List A) → AllByRecursion P xs → AllByRecursion P (filter p xs)
  filter-all p [] h = tt
  filter-all p (x ∷ xs) h = elim (p x) as (λ b. AllByRecursion P (cond b (x ∷ filter p xs) (filter p xs))) [ true ↦ (h.0, filter-all p xs h.1) | false ↦ filter-all p xs h.1 ]

  first-all : (xs : List A) → AllByRecursion P xs → IfSome (first xs) P
  first-all [] h = tt
  first-all (x ∷ xs) h = h.0

  last-all-after : (o : Option A) (xs : List A) → IfSome o P → AllByRecursion P xs → IfSome (last_or o xs) P
  last-all-after o [] p h = p
  last-all-after o (x ∷ xs) p h = last-all-after (Some x) xs h.0 h.1

  cond-all : (b : Bool) (o p : Option A) → IfSome o P → IfSome p P → IfSome (cond b o p) P
  cond-all true o p h k = h
  cond-all false o p h k = k

  or-all : (o p : Option A) → IfSome o P → IfSome p P → IfSome (option_or o p) P
  or-all None p h k = k
  or-all (Some x) p h k = h

  pub clamped_at-all : (c : A → ℕ) (xs : List A) (col : ℕ) → AllByRecursion P xs → IfSome (clamped_at c xs col) P
  clamped_at-all c xs col h =
      let rs = not_past c col xs in
      let best = greatest c rs in
      let near : AllByRecursion P (in_column c best rs) = filter-all _ rs (filter-all _ xs h) in
      or-all (at c xs col) (first xs) (cond-all (best == col) (first (in_column c best rs)) (last (in_column c best rs)) (first-all _ near) (last-all-after None _ tt near)) (first-all xs h)

  pub clamped_pick-all : (line column : A → ℕ) (xs : List A) (n col : ℕ) → AllByRecursion P xs → IfSome (clamped_pick line column xs n col) P
  clamped_pick-all line column xs n col h = clamped_at-all column (on_line line n xs) col (filter-all _ xs h)

  pub all-append : (xs ys : List A) → AllByRecursion P xs → AllByRecursion P ys → AllByRecursion P (xs ++ ys)
  all-append [] ys h k = k
  all-append (x ∷ xs) ys h k = (h.0, all-append xs ys h.1 k)

if_mapped-of : (P : TokenRecord → Type 0) (b : Bool) (u : TokenRecord) → is_mapped u ≡ b → P u → IfSome (cond b (Some u) None) (λ u. P u × (is_mapped u ≡ true))
if_mapped-of P true u e p = (p, e)
if_mapped-of P false u e p = tt

if_mapped-all : (P : TokenRecord → Type 0) (o : Option TokenRecord) → IfSome o P → IfSome (option_and_then if_mapped o) (λ u. P u × (is_mapped u ≡ true))
if_mapped-all P None h = tt
if_mapped-all P (Some u) h = if_mapped-of P (is_mapped u) u refl h

found-all-of : (P : TokenRecord → Type 0) (id : Option ℕ) (o : Option TokenRecord) → IfSome o P → IfSome (option_and_then (λ _. option_and_then if_mapped o) id) (λ u. P u × (is_mapped u ≡ true))
found-all-of P None o h = tt
found-all-of P (Some id) o h = if_mapped-all P o h

if_some-first : {A : Type 0} (P Q : A → Type 0) (o : Option A) → IfSome o (λ x. P x × Q x) → IfSome o P
if_some-first P Q None h = tt
if_some-first P Q (Some x) h = h.0

-- what holds of all tokens holds of the one that a token leads to
pub found-all : (P : TokenRecord → Type 0) (bs : List TokenRecord) (t : TokenRecord) → AllByRecursion P bs → IfSome (found_on (line_of bs t) t) P
found-all P bs t h =
    if_some-first P (λ u. is_mapped u ≡ true) (found_on (line_of bs t) t)
    (found-all-of P t.source_id (clamped_at token_column (line_of bs t) t.src_col) (clamped_at-all P token_column (line_of bs t) t.src_col (filter-all P (λ x. token_line x == t.src_line) bs h)))

unmapped-none : (id : Option ℕ) (o : Option TokenRecord) → is_some id ≡ false → option_and_then (λ _. o) id ≡ None
unmapped-none None o h = refl
unmapped-none (Some id) o h = cc (h)

mapped-same : (id : Option ℕ) (o : Option TokenRecord) → is_some id ≡ true → option_and_then (λ _. o) id ≡ o
mapped-same None o h = cc (h)
mapped-same (Some id) o h = refl

clamped-none : (o : Option TokenRecord) (line : List TokenRecord) → option_or o (first line) ≡ None → line ≡ []
clamped-none (Some t) line e = cc (e)
clamped-none None [] e = refl
clamped-none None (t ∷ line) e = cc (e)

-- the token of `clamped_at` is one that a clamped lookup may find
may_find : (line : List TokenRecord) (col : ℕ) → MayFind line col (clamped_at token_column line col)
may_find line col = record {
  exact = λ _. refl;
  among = clamped_at-all (Contains line) token_column line col (recursion_from_All _ line (All-contains_itself line));
  nothing = clamped-none (at token_column line col) line;
}

-- what a token leads to by the clamped lookup is a target
pub is_target : (bs : List TokenRecord) (t : TokenRecord) → IsTarget (line_of bs t) (target_in bs t)
is_target bs t =
    let line = line_of bs t in
    let found = clamped_at token_column line t.src_col in
    record {
      unmapped = unmapped-none t.source_id (option_and_then if_mapped found);
      mapped = λ m. (found, may_find line t.src_col, mapped-same t.source_id (option_and_then if_mapped found) m);
    }

pub are_targets : (bs ts : List TokenRecord) → AreTargets ts bs (map (target_in bs) ts)
are_targets bs [] = (refl, tt)
are_targets bs (t ∷ ts) = let more = are_targets bs ts in (ap (λ us. t ∷ us) more.0, (is_target bs t, more.1))

pub targets-append : (ts us bs : List TokenRecord) (ls ms : List Target) → AreTargets ts bs ls → AreTargets us bs ms → AreTargets (ts ++ us) bs (ls ++ ms)
targets-append ts us bs ls ms h k = (
  map-append (λ l. l.token) ls ms ∙ ap (λ xs. xs ++ map (λ l. l.token) ms) h.0 ∙ ap (λ ys. ts ++ ys) k.0,
  all-append _ ls ms h.1 k.1,
)

-- the tokens composed so far, with the names so far
pub record Made (olds old : List Text) (ts bs : List TokenRecord) (now : List Text) (made : List TokenRecord) : Type 0 where
  pub ls : List Target
  pub targets : AreTargets ts bs ls
  pub names : now ≡ composed_names olds old ls
  pub tokens : made ≡ map (composed_token olds now) ls
  pub ids : are_ids olds now ls ≡ true

pub made-none : (olds old : List Text) (bs : List TokenRecord) → Made olds old [] bs old []
made-none olds old bs = record { ls = []; targets = (refl, tt); names = refl; tokens = refl; ids = refl }

-- the composed names with one more target
names-last : (olds old : List Text) (ls : List Target) (l : Target) → composed_names olds old (ls ++ l ∷ []) ≡ with_inherited (composed_names olds old ls) (inherited_name olds l)
names-last olds old ls l = names-append olds old ls (l ∷ []) ∙ names-cons olds (composed_names olds old ls) l []

-- an inherited name, as a list of texts to add
abbrev inherited_texts : Option Text → List Text
inherited_texts None = []
inherited_texts (Some x) = x ∷ []

with_inherited-texts : (names : List Text) (o : Option Text) → with_inherited names o ≡ with_texts names (inherited_texts o)
with_inherited-texts names None = refl
with_inherited-texts names (Some x) = refl

placed-ls : (olds old now : List Text) (ls : List Target) → now ≡ composed_names olds old ls → AllByRecursion (λ l. IsPlaced now (inherited_name olds l)) ls
placed-ls olds old now ls e = subst (λ ns. AllByRecursion (λ (l : Target). IsPlaced ns (inherited_name olds l)) ls) (sym e) (all-placed olds old ls)

and-true : (b : Bool) → (b && true) ≡ b
and-true true = refl
and-true false = refl

pub made-more : (olds old : List Text) (ts us bs : List TokenRecord) (now next : List Text) (made mores : List TokenRecord) (l : Target)
    → Made olds old ts bs now made → us ≡ ts ++ l.token ∷ [] → IsTarget (line_of bs l.token) l → next ≡ with_inherited now (inherited_name olds l)
    → mores ≡ made ++ composed_token olds next l ∷ [] → may_be_id (inherited_index next (inherited_name olds l)) ≡ true → Made olds old us bs next mores
made-more olds old ts us bs now next made mores l m u h n t i =
    let o = inherited_name olds l in
    let placed = placed-ls olds old now m.ls m.names in
    let e : next ≡ with_texts now (inherited_texts o) = n ∙ with_inherited-texts now o in
    let stay : map (composed_token olds next) m.ls ≡ map (composed_token olds now) m.ls = ap (λ ns. map (composed_token olds ns) m.ls) e ∙ tokens-stay olds now (inherited_texts o) m.ls placed in
    let ids : are_ids olds next m.ls ≡ true = ap (λ ns. are_ids olds ns m.ls) e ∙ ids-stay olds now (inherited_texts o) m.ls placed ∙ m.ids in
    record {
      ls = m.ls ++ l ∷ [];
      targets = subst (λ xs. AreTargets xs bs (m.ls ++ l ∷ [])) (sym u) (targets-append ts (l.token ∷ []) bs m.ls (l ∷ []) m.targets (refl, (h, tt)));
      names = n ∙ ap (λ ns. with_inherited ns o) m.names ∙ sym (names-last olds old m.ls l);
      tokens = t ∙ ap (λ xs. xs ++ composed_token olds next l ∷ []) (m.tokens ∙ sym stay) ∙ sym (map-append (composed_token olds next) m.ls (l ∷ []));
      ids = list_all-append (λ l. may_be_id (inherited_id olds next l)) m.ls (l ∷ []) ∙ ap (λ b. b && (may_be_id (inherited_id olds next l) && true)) ids ∙ and-true (may_be_id (inherited_id olds next l)) ∙ i;
    }

-- a name past the last id stays past it, whatever names are added
past-stays : (names more : List Text) (o : Option Text) → IsPlaced names o → may_be_id (inherited_index names o) ≡ false → may_be_id (inherited_index (with_texts names more) o) ≡ false
past-stays names more o p h = ap may_be_id (inherited-stays names more o p) ∙ h

and-false : (a b c : Bool) → b ≡ false → (a && (b && c)) ≡ false
and-false true b c e = rw e
and-false false b c e = refl

pub past-all : (olds old : List Text) (ts bs : List TokenRecord) (now : List Text) (made : List TokenRecord) (l : Target) (more all : List TokenRecord)
    → Made olds old ts bs now made → ts ++ l.token ∷ more ≡ all → IsTarget (line_of bs l.token) l → may_be_id (inherited_index (with_inherited now (inherited_name olds l)) (inherited_name olds l)) ≡ false
    → (ls : List Target) × AreTargets all bs ls × (are_ids olds (composed_names olds old ls) ls ≡ false)
past-all olds old ts bs now made l more all m u h p =
    let o = inherited_name olds l in
    let rest = map (target_in bs) more in
    let ls = m.ls ++ l ∷ rest in
    let end : composed_names olds old ls ≡ with_texts (with_inherited now o) (filter_map (inherited_name olds) rest) =
    names-append olds old m.ls (l ∷ rest) ∙ names-cons olds (composed_names olds old m.ls) l rest ∙ ap (λ ns. with_texts (with_inherited ns o) (filter_map (inherited_name olds) rest)) (sym m.names) in
    let names = composed_names olds old ls in
    let past : may_be_id (inherited_id olds names l) ≡ false = ap (λ ns. may_be_id (inherited_index ns o)) end ∙ past-stays (with_inherited now o) (filter_map (inherited_name olds) rest) o (placed-inherited now o) p in
    let targets : AreTargets (l.token ∷ more) bs (l ∷ rest) = (let r = are_targets bs more in (ap (λ us. l.token ∷ us) r.0, (h, r.1))) in (
      ls,
      subst (λ xs. AreTargets xs bs ls) u (targets-append ts (l.token ∷ more) bs m.ls (l ∷ rest) m.targets targets),
      list_all-append (λ l. may_be_id (inherited_id olds names l)) m.ls (l ∷ rest) ∙ and-false (are_ids olds names m.ls) (may_be_id (inherited_id olds names l)) (are_ids olds names rest) past,
    )

-- on a line whose columns do not go back, the target is that of `clamped_at`
found-is : (line : List TokenRecord) (l : Target) → IsTarget line l → no_column_goes_back token_column line ≡ true → l.found ≡ found_on line l.token
found-is line l h g =
    let here = option_and_then if_mapped (clamped_at token_column line l.token.src_col) in
    elim (is_mapped l.token) as (λ b. is_mapped l.token ≡ b → l.found ≡ found_on line l.token) [
      | true ↦ (λ m. let may = h.mapped m in may.2 ∙ ap (option_and_then if_mapped) (may.1.exact g) ∙ sym (mapped-same l.token.source_id here m))
      | false ↦ (λ m. h.unmapped m ∙ sym (unmapped-none l.token.source_id here m))
    ] refl

target-is : (bs : List TokenRecord) (l : Target) → IsTarget (line_of bs l.token) l → no_column_goes_back token_column (line_of bs l.token) ≡ true → l ≡ target_in bs l.token
target-is bs l h g = ap (target_of l.token) (found-is (line_of bs l.token) l h g)

pub targets-are : (bs : List TokenRecord) (ls : List Target) → ((n : ℕ) → no_column_goes_back token_column (on_line token_line n bs) ≡ true) → AllByRecursion (λ l. IsTarget (line_of bs l.token) l) ls → ls ≡ map (target_in bs) (map (λ l. l.token) ls)
targets-are bs [] g h = refl
targets-are bs (l ∷ ls) g h = ap (λ m. m ∷ ls) (target-is bs l h.0 (g l.token.src_line)) ∙ ap (λ ms. target_in bs l.token ∷ ms) (targets-are bs ls g h.1)
