-- The maps that handles lend, one after the other.
use Rattle.std.proofs.Common.{◌≡◌, ℕ, ◌+◌, ◌<◌, List, [], ◌∷◌, ◌++◌, length, drop, get_or}
use Rattle.std.proofs.Common.{slice_set, Option, Some, None, Err, option_map, refl, sym, ap, subst}
use Rattle.std.proofs.Common.{◌∙◌, ◌≢◌, zero, suc, inl, inr, arith}
use Rattle.std.specs.Prelude.{IsNone, MatchOption}
use Rattle.std.specs.Option.{option_and_then}
use Rattle.std.proofs.lemmas.List.{append_assoc, append-nil, drop_more, map-append}
use Rattle.std.specs.Borrow.{Bor}
use Rattle.oxc_sourcemap_tokens.specs.Results.{lent_items}
use Rattle.oxc_sourcemap_steps.specs.Inputs.{lent_inputs}
use Rattle.oxc_sourcemap_tokens.specs.declared.errors.error.Error.{Error}
use Rattle.oxc_sourcemap_parts.specs.Record.{Text, MapRecord}
use Rattle.oxc_sourcemap_steps.specs.Remapped.{SomeRemapping}
use Rattle.oxc_sourcemap_c.specs.declared.holding.lent.Lent.{Lent}
use Rattle.oxc_sourcemap_c.specs.Holding.{held_map}
use Rattle.oxc_sourcemap_tokens.specs.declared.errors.error.Error.TheVariants.{TooLarge}
use Rattle.oxc_sourcemap_tokens.specs.declared.position.Position.{Position}
use Rattle.oxc_sourcemap_join.specs.Joined.{added, added_all, joined, nothing_joined}
use Rattle.oxc_sourcemap_join.specs.Joined.{IsWithinLimits}
use Rattle.oxc_sourcemap_join.proofs.Adding.{front-within}
use Rattle.oxc_sourcemap_c.specs.declared.holding.held.Held.{Held}
use Rattle.oxc_sourcemap_c.specs.declared.numbers.call_error.CallError.{CallError}
use Rattle.oxc_sourcemap_c.specs.declared.numbers.call_error.CallError.TheVariants.{NullHandle}
use Rattle.oxc_sourcemap_c.specs.declared.numbers.call_error.CallError.TheVariants.{Lengths}
use Rattle.oxc_sourcemap_c.specs.CallErrors.{of_map}
use Rattle.oxc_sourcemap_c.specs.MapsOfMaps.{all_lent, all_maps, at_places, by_path}
use Rattle.oxc_sourcemap_c.specs.MapsOfMaps.{IsAddErrorOf, IsSureJoinError}
use Rattle.oxc_sourcemap_c.specs.MapsOfMaps.{IsSureRemapError, IsRemapError, IsRemappingError}
use Rattle.oxc_sourcemap_c.specs.MapsOfMaps.{IsJoinErrorOf, IsJoinErrorOfMaps, IsJoinOfLent}
use Rattle.oxc_sourcemap_c.specs.MapsOfMaps.{IsJoinOfMaps}

-- the maps that are done, and those after them
abbrev pub after : List MapRecord → Option (List MapRecord) → Option (List MapRecord)
after done rest = option_map (λ ms. done ++ ms) rest

after_one : (done : List MapRecord) (m : MapRecord) (rest : Option (List MapRecord)) → after done (option_map (λ ms. m ∷ ms) rest) ≡ after (done ++ m ∷ []) rest
after_one done m None = refl
after_one done m (Some ms) = ap (λ xs. Some xs) (sym (append_assoc done (m ∷ []) ms))

-- what is left of a list is its next item, and what is left after that
front : {A : Type 0} (xs : List A) (i : ℕ) (x : A) → i < length xs → x ≡ get_or xs i x → drop i xs ≡ x ∷ drop (i + 1) xs
front xs i x a is = drop_more xs i x a ∙ ap (λ y. y ∷ drop (i + 1) xs) (sym is)

-- the maps after one more
pub found_more : (hs : List Lent) (i : ℕ) (h : Lent) (m : Bor MapRecord) (done new : List (Bor MapRecord)) (whole : Option (List MapRecord)) → i < length hs → h ≡ get_or hs i h → held_map h.held ≡ Some m.now
    → new ≡ done ++ m ∷ [] → after (lent_items done) (all_maps (all_lent (drop i hs))) ≡ whole → after (lent_items new) (all_maps (all_lent (drop (i + 1) hs))) ≡ whole
found_more hs i h m done new whole a is held grown so_far =
    let rest = all_maps (all_lent (drop (i + 1) hs)) in
    ap (λ xs. after (lent_items xs) rest) grown ∙ ap (λ xs. after xs rest) (map-append (λ (m : Bor MapRecord). m.now) done (m ∷ [])) ∙ sym (after_one (lent_items done) m.now rest)
    ∙ ap (λ o. after (lent_items done) (option_and_then (λ m. option_map (λ ms. m ∷ ms) rest) o)) (sym held)
    ∙ ap (λ xs. after (lent_items done) (all_maps (all_lent xs))) (sym (front hs i h a is)) ∙ so_far

none_is : (o : Option MapRecord) → IsNone o → o ≡ None
none_is None e = refl
none_is (Some m) e = cc (e)

-- one of them is missing
pub one_missing : (hs : List Lent) (i : ℕ) (h : Lent) (done : List MapRecord) (whole : Option (List MapRecord)) → i < length hs → h ≡ get_or hs i h → IsNone (held_map h.held)
    → after done (all_maps (all_lent (drop i hs))) ≡ whole → whole ≡ None
one_missing hs i h done whole a is none so_far =
    let rest = all_maps (all_lent (drop (i + 1) hs)) in
    sym so_far ∙ ap (λ xs. after done (all_maps (all_lent xs))) (front hs i h a is)
    ∙ ap (λ o. after done (option_and_then (λ m. option_map (λ ms. m ∷ ms) rest) o)) (none_is (held_map h.held) none)

-- the inputs after one more
pub paired_more : (paths : List (Bor Text)) (maps : List (Bor MapRecord)) (i : ℕ) (path : Bor Text) (m : Bor MapRecord) (done new : List (Bor Text × Bor MapRecord)) (whole : List (Text × MapRecord))
    → i < length paths → i < length maps → path ≡ get_or paths i path → m ≡ get_or maps i m → new ≡ done ++ (path, m) ∷ []
    → lent_inputs done ++ by_path (lent_items (drop i paths)) (lent_items (drop i maps)) ≡ whole
    → lent_inputs new ++ by_path (lent_items (drop (i + 1) paths)) (lent_items (drop (i + 1) maps)) ≡ whole
paired_more paths maps i path m done new whole a b is at grown so_far =
    let rest = by_path (lent_items (drop (i + 1) paths)) (lent_items (drop (i + 1) maps)) in
    ap (λ xs. lent_inputs xs ++ rest) grown
    ∙ ap (λ xs. xs ++ rest) (map-append (λ (input : Bor Text × Bor MapRecord). (input.0.now, input.1.now)) done ((path, m) ∷ []))
    ∙ append_assoc (lent_inputs done) ((path.now, m.now) ∷ []) rest
    ∙ sym (ap (λ ps. lent_inputs done ++ by_path (lent_items ps) (lent_items (drop i maps))) (front paths i path a is)
    ∙ ap (λ ms. lent_inputs done ++ by_path (lent_items (path ∷ drop (i + 1) paths)) (lent_items ms)) (front maps i m b at))
    ∙ so_far

-- all are done
pub all_paired : (paths : List (Bor Text)) (maps : List (Bor MapRecord)) (i : ℕ) (done : List (Bor Text × Bor MapRecord)) (whole : List (Text × MapRecord)) → drop i paths ≡ []
    → lent_inputs done ++ by_path (lent_items (drop i paths)) (lent_items (drop i maps)) ≡ whole → lent_inputs done ≡ whole
all_paired paths maps i done whole e so_far =
    sym (append-nil (lent_inputs done)) ∙ sym (ap (λ ps. lent_inputs done ++ by_path (lent_items ps) (lent_items (drop i maps))) e) ∙ so_far

pub all_found : (hs : List Lent) (i : ℕ) (done : List MapRecord) (whole : Option (List MapRecord)) → drop i hs ≡ [] → after done (all_maps (all_lent (drop i hs))) ≡ whole → whole ≡ Some done
all_found hs i done whole e so_far = sym so_far ∙ ap (λ xs. after done (all_maps (all_lent xs))) e ∙ ap (λ xs. Some xs) (append-nil done)

-- the error of a remapping of the same
pub not_remapped : (a b : MapRecord) (xs ys : List (Text × MapRecord)) (e : Error) → a ≡ b → xs ≡ ys → SomeRemapping a xs (Err e) → SomeRemapping b ys (Err e)
not_remapped a b xs ys e same alike is = subst (λ z. SomeRemapping z ys (Err e)) same (subst (λ z. SomeRemapping a z (Err e)) alike is)

-- ---- maps that are there
all_there : (o : Option MapRecord) (rest : Option (List MapRecord)) → o ≢ None → option_and_then (λ m. option_map (λ ms. m ∷ ms) rest) o ≡ None → rest ≡ None
all_there None rest there e = absurd (there refl)
all_there (Some m) None there e = refl
all_there (Some m) (Some ms) there e = cc (e)

all_missing : (o : Option MapRecord) (rest : Option (List MapRecord)) → rest ≡ None → option_and_then (λ m. option_map (λ ms. m ∷ ms) rest) o ≡ None
all_missing None rest e = refl
all_missing (Some m) None e = refl
all_missing (Some m) (Some ms) e = cc (e)

-- the maps from an index on are there if those after it are, and the map at it is
pub there_more : (hs : List Lent) (i : ℕ) (h : Lent) → i < length hs → h ≡ get_or hs i h → held_map h.held ≢ None
    → all_maps (all_lent (drop (i + 1) hs)) ≢ None → all_maps (all_lent (drop i hs)) ≢ None
there_more hs i h a is there more e =
    more (all_there (held_map h.held) (all_maps (all_lent (drop (i + 1) hs))) there (sym (ap (λ xs. all_maps (all_lent xs)) (front hs i h a is)) ∙ e))

pub missing_more : (hs : List Lent) (i : ℕ) (h : Lent) → i < length hs → h ≡ get_or hs i h
    → all_maps (all_lent (drop (i + 1) hs)) ≡ None → all_maps (all_lent (drop i hs)) ≡ None
missing_more hs i h a is e =
    ap (λ xs. all_maps (all_lent xs)) (front hs i h a is) ∙ all_missing (held_map h.held) (all_maps (all_lent (drop (i + 1) hs))) e

pub missing_here : (hs : List Lent) (i : ℕ) (h : Lent) → i < length hs → h ≡ get_or hs i h → IsNone (held_map h.held) → all_maps (all_lent (drop i hs)) ≡ None
missing_here hs i h a is none =
    ap (λ xs. all_maps (all_lent xs)) (front hs i h a is)
    ∙ ap (λ o. option_and_then (λ m. option_map (λ ms. m ∷ ms) (all_maps (all_lent (drop (i + 1) hs)))) o) (none_is (held_map h.held) none)

-- ---- joins
-- the join of some maps with those that handles hold, each at its position
abbrev pub joined_with : MapRecord → List Lent → List Position → Option MapRecord
joined_with j hs ps = option_map (λ ms. added_all j (at_places ms ps)) (all_maps (all_lent hs))

one_added : (j m : MapRecord) (p : Position) (ps : List Position) (o : Option (List MapRecord))
    → option_map (λ ms. added_all j (at_places ms (p ∷ ps))) (option_map (λ ms. m ∷ ms) o) ≡ option_map (λ ms. added_all (added j m p) (at_places ms ps)) o
one_added j m p ps None = refl
one_added j m p ps (Some ms) = refl

held_added : (o : Option MapRecord) (j j' : MapRecord) (p : Position) (ps : List Position) (rest : Option (List MapRecord)) → MatchOption o ⊥ (λ m. j' ≡ added j m p)
    → option_map (λ ms. added_all j' (at_places ms ps)) rest ≡ option_map (λ ms. added_all j (at_places ms (p ∷ ps))) (option_and_then (λ m. option_map (λ ms. m ∷ ms) rest) o)
held_added None j j' p ps rest e = absurd e
held_added (Some m) j j' p ps rest e = ap (λ r. option_map (λ ms. added_all r (at_places ms ps)) rest) e ∙ sym (one_added j m p ps rest)

pub joined_more : (hs : List Lent) (ps : List Position) (i : ℕ) (h : Lent) (p : Position) (j j' : MapRecord) → i < length hs → i < length ps → h ≡ get_or hs i h → p ≡ get_or ps i p
    → MatchOption (held_map h.held) ⊥ (λ m. j' ≡ added j m p) → joined_with j' (drop (i + 1) hs) (drop (i + 1) ps) ≡ joined_with j (drop i hs) (drop i ps)
joined_more hs ps i h p j j' a b is at e =
    held_added (held_map h.held) j j' p (drop (i + 1) ps) (all_maps (all_lent (drop (i + 1) hs))) e
    ∙ sym (ap (λ xs. joined_with j xs (drop i ps)) (front hs i h a is) ∙ ap (λ qs. joined_with j (h ∷ drop (i + 1) hs) qs) (front ps i p b at))

same_number_by : (o : Option MapRecord) (rest : Option (List MapRecord)) (hs : List (Option Held)) (ms : List MapRecord) → ((ns : List MapRecord) → rest ≡ Some ns → length ns ≡ length hs)
    → option_and_then (λ m. option_map (λ ms. m ∷ ms) rest) o ≡ Some ms → length ms ≡ suc (length hs)
same_number_by None rest hs ms more e = cc (e)
same_number_by (Some m) None hs ms more e = cc (e)
same_number_by (Some m) (Some ns) hs ms more e =
    let is : m ∷ ns ≡ ms = cc (e) in
    sym (ap length is) ∙ ap suc (more ns refl)

same_number : (hs : List (Option Held)) (ms : List MapRecord) → all_maps hs ≡ Some ms → length ms ≡ length hs
same_number [] ms e = (let is : [] ≡ ms = cc (e) in sym (ap length is))
same_number (h ∷ hs) ms e = same_number_by (held_map h) (all_maps hs) hs ms (same_number hs) e

number_of_lent : (hs : List Lent) → length (all_lent hs) ≡ length hs
number_of_lent [] = refl
number_of_lent (h ∷ hs) = ap suc (number_of_lent hs)

all_joined_by : (o : Option (List MapRecord)) (j : MapRecord) (ps : List Position) → o ≢ None → Some j ≡ option_map (λ ms. joined (at_places ms ps)) o
    → ((ms : List MapRecord) → o ≡ Some ms → length ms ≡ length ps) → MatchOption o ⊥ (λ ms. IsJoinOfMaps ms ps j)
all_joined_by None j ps there e number = absurd (there refl)
all_joined_by (Some ms) j ps there e number = (number ms refl, cc (e))

-- all maps are joined
pub all_joined : (hs : List Lent) (ps left : List Position) (i : ℕ) (j : MapRecord) → all_maps (all_lent hs) ≢ None → length hs ≡ length ps → drop i hs ≡ []
    → joined_with j (drop i hs) left ≡ joined_with nothing_joined hs ps → IsJoinOfLent (all_lent hs) ps j
all_joined hs ps left i j there number done so_far =
    all_joined_by (all_maps (all_lent hs)) j ps there (sym (ap (λ xs. joined_with j xs left) done) ∙ so_far)
    (λ ms e. same_number (all_lent hs) ms e ∙ number_of_lent hs ∙ number)

past_limit_by : (o rest : Option (List MapRecord)) (j : MapRecord) (ps left : List Position) (r : CallError) → o ≢ None
    → option_map (λ ms. added_all j (at_places ms left)) rest ≡ option_map (λ ms. joined (at_places ms ps)) o → ¬ (IsWithinLimits j) → r ≡ of_map TooLarge
    → ((ms : List MapRecord) → o ≡ Some ms → length ms ≡ length ps) → MatchOption o (r ≡ NullHandle) (λ ms. IsJoinErrorOfMaps ms ps r)
past_limit_by None rest j ps left r there e past is number = absurd (there refl)
past_limit_by (Some ms) None j ps left r there e past is number = cc (e)
past_limit_by (Some ms) (Some ns) j ps left r there e past is number =
    let same : added_all j (at_places ns left) ≡ joined (at_places ms ps) = cc (e) in
    inr (number ms refl, is, λ w. past (front-within j (at_places ns left) (subst IsWithinLimits (sym same) w)))

none_joined : (o : Option (List MapRecord)) (ps : List Position) → None ≡ option_map (λ ms. joined (at_places ms ps)) o → o ≡ None
none_joined None ps e = refl
none_joined (Some ms) ps e = cc (e)

not_added_by : (o : Option MapRecord) (hs : List Lent) (ps left : List Position) (j : MapRecord) (p : Position) (rest : Option (List MapRecord)) (r : CallError)
    → all_maps (all_lent hs) ≢ None → length hs ≡ length ps
    → option_map (λ ms. added_all j (at_places ms (p ∷ left))) (option_and_then (λ m. option_map (λ ms. m ∷ ms) rest) o) ≡ joined_with nothing_joined hs ps
    → IsAddErrorOf j o p r → IsJoinErrorOf (all_lent hs) ps r
not_added_by None hs ps left j p rest r there number e is = absurd (there (none_joined (all_maps (all_lent hs)) ps e))
not_added_by (Some m) hs ps left j p rest r there number e is =
    past_limit_by (all_maps (all_lent hs)) rest (added j m p) ps left r there (sym (one_added j m p left rest) ∙ e) is.0 is.1
    (λ ms q. same_number (all_lent hs) ms q ∙ number_of_lent hs ∙ number)

-- a map is not added
pub not_added : (hs : List Lent) (ps : List Position) (i : ℕ) (h : Lent) (p : Position) (j : MapRecord) (r : CallError) → i < length hs → i < length ps → h ≡ get_or hs i h → p ≡ get_or ps i p
    → all_maps (all_lent hs) ≢ None → length hs ≡ length ps → joined_with j (drop i hs) (drop i ps) ≡ joined_with nothing_joined hs ps
    → IsAddErrorOf j (held_map h.held) p r → IsJoinErrorOf (all_lent hs) ps r
not_added hs ps i h p j r a b is at there number so_far e =
    not_added_by (held_map h.held) hs ps (drop (i + 1) ps) j p (all_maps (all_lent (drop (i + 1) hs))) r there number
    (sym (ap (λ xs. joined_with j xs (drop i ps)) (front hs i h a is) ∙ ap (λ qs. joined_with j (h ∷ drop (i + 1) hs) qs) (front ps i p b at)) ∙ so_far) e

-- there are not as many positions as maps
wrong_number_by : (o : Option (List MapRecord)) (ps : List Position) → o ≢ None → ((ms : List MapRecord) → o ≡ Some ms → length ms ≢ length ps)
    → MatchOption o (Lengths ≡ NullHandle) (λ ms. IsJoinErrorOfMaps ms ps Lengths)
wrong_number_by None ps there other = absurd (there refl)
wrong_number_by (Some ms) ps there other = inl (refl, other ms refl)

pub wrong_number : (hs : List Lent) (ps : List Position) → all_maps (all_lent hs) ≢ None → length hs ≢ length ps → IsJoinErrorOf (all_lent hs) ps Lengths
wrong_number hs ps there other =
    wrong_number_by (all_maps (all_lent hs)) ps there (λ ms e q. other (sym (number_of_lent hs) ∙ sym (same_number (all_lent hs) ms e) ∙ q))

-- an item that is there is found with any default
pub any_default : {A : Type 0} (xs : List A) (i : ℕ) (d e : A) → i < length xs → get_or xs i d ≡ get_or xs i e
any_default [] i d e a = absurd (omega (arith, a))
any_default (x ∷ xs) zero d e a = refl
any_default (x ∷ xs) (suc i) d e a = any_default xs i d e (omega (arith, a))

-- ---- what a join reports whatever the memory
sure_null_by : (o : Option (List MapRecord)) (ps : List Position) (r : CallError) → o ≡ None → MatchOption o (r ≡ NullHandle) (λ ms. (r ≡ Lengths) × (length ms ≢ length ps)) → r ≡ NullHandle
sure_null_by None ps r e sure = sure
sure_null_by (Some ms) ps r e sure = cc (e)

pub sure_null : (hs : List Lent) (ps : List Position) (r : CallError) → all_maps (all_lent hs) ≡ None → IsSureJoinError (all_lent hs) ps r → r ≡ NullHandle
sure_null hs ps r = sure_null_by (all_maps (all_lent hs)) ps r

sure_lengths_by : (o : Option (List MapRecord)) (ps : List Position) (r : CallError) → o ≢ None → MatchOption o (r ≡ NullHandle) (λ ms. (r ≡ Lengths) × (length ms ≢ length ps)) → r ≡ Lengths
sure_lengths_by None ps r there sure = absurd (there refl)
sure_lengths_by (Some ms) ps r there sure = sure.0

pub sure_lengths : (hs : List Lent) (ps : List Position) (r : CallError) → all_maps (all_lent hs) ≢ None → IsSureJoinError (all_lent hs) ps r → r ≡ Lengths
sure_lengths hs ps r = sure_lengths_by (all_maps (all_lent hs)) ps r

none_sure_by : (o : Option (List MapRecord)) (ps : List Position) (r : CallError) → o ≢ None → ((ms : List MapRecord) → o ≡ Some ms → length ms ≡ length ps)
    → MatchOption o (r ≡ NullHandle) (λ ms. (r ≡ Lengths) × (length ms ≢ length ps)) → ⊥
none_sure_by None ps r there number sure = there refl
none_sure_by (Some ms) ps r there number sure = sure.1 (number ms refl)

pub none_sure : (hs : List Lent) (ps : List Position) (r : CallError) → all_maps (all_lent hs) ≢ None → length hs ≡ length ps → IsSureJoinError (all_lent hs) ps r → ⊥
none_sure hs ps r there number =
    none_sure_by (all_maps (all_lent hs)) ps r there (λ ms e. same_number (all_lent hs) ms e ∙ number_of_lent hs ∙ number)

-- ---- what a remapping reports whatever the memory
remap_lengths_by : (o : Option MapRecord) (q : Option (List MapRecord)) (paths : List Text) → o ≢ None → q ≢ None → ((ms : List MapRecord) → q ≡ Some ms → length paths ≢ length ms)
    → MatchOption o (Lengths ≡ NullHandle) (λ a. MatchOption q (Lengths ≡ NullHandle) (λ ms. IsRemappingError a paths ms Lengths))
remap_lengths_by None q paths here there other = absurd (here refl)
remap_lengths_by (Some a) None paths here there other = absurd (there refl)
remap_lengths_by (Some a) (Some ms) paths here there other = inl (refl, other ms refl)

pub remap_lengths : (held : Option Held) (paths : List Text) (hs : List Lent) → held_map held ≢ None → all_maps (all_lent hs) ≢ None → length paths ≢ length hs
    → IsRemapError held paths (all_lent hs) Lengths
remap_lengths held paths hs here there other =
    remap_lengths_by (held_map held) (all_maps (all_lent hs)) paths here there
    (λ ms e q. other (q ∙ same_number (all_lent hs) ms e ∙ number_of_lent hs))

none_sure_remap_by : (o : Option MapRecord) (q : Option (List MapRecord)) (paths : List Text) (r : CallError) → o ≢ None → q ≢ None → ((ms : List MapRecord) → q ≡ Some ms → length paths ≡ length ms)
    → MatchOption o (r ≡ NullHandle) (λ a. MatchOption q (r ≡ NullHandle) (λ ms. (r ≡ Lengths) × (length paths ≢ length ms))) → ⊥
none_sure_remap_by None q paths r here there number sure = here refl
none_sure_remap_by (Some a) None paths r here there number sure = there refl
none_sure_remap_by (Some a) (Some ms) paths r here there number sure = sure.1 (number ms refl)

pub none_sure_remap : (held : Option Held) (paths : List Text) (hs : List Lent) (r : CallError) → held_map held ≢ None → all_maps (all_lent hs) ≢ None → length paths ≡ length hs
    → IsSureRemapError held paths (all_lent hs) r → ⊥
none_sure_remap held paths hs r here there number =
    none_sure_remap_by (held_map held) (all_maps (all_lent hs)) paths r here there
    (λ ms e. number ∙ sym (same_number (all_lent hs) ms e ∙ number_of_lent hs))

pub is_there : (o : Option MapRecord) (m : MapRecord) → o ≡ Some m → o ≢ None
is_there o m e none = cc (sym e ∙ none)
