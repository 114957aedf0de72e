-- What tokens begin with: values, items and members, one after the other.
use Rattle.std.specs.List.{All}
use Rattle.std.proofs.Common.{zero, suc, ◌≡◌, ℕ, ◌-◌, ◌<◌, ◌≤◌, List, [], ◌∷◌, ◌++◌, length, Option}
use Rattle.std.proofs.Common.{Some, MatchOption, String, string_bytes, Result, Ok, Err, IfOk}
use Rattle.std.proofs.Common.{IfSome, None, codes, option_map, option_and_then, refl, sym, ap, ◌∙◌}
use Rattle.std.proofs.Common.{arith}
use Rattle.std.specs.declared.alloc.Global.{Global}
use Rattle.json.specs.Token.{Token}
use Rattle.json.specs.Json.{after_end_array, read_key, items, members, value, parse_map, if_last}
use Rattle.json.specs.Lex.{tokens}
use Rattle.json.proofs.Grammar.{value_is, value-begin_array, value-begin_object, read_key-shorter}
use Rattle.json.proofs.Found.{not_found}
use Rattle.serde_json.specs.Data.{Data, Num, null, number, unsigned, string, array, object, Items}
use Rattle.serde_json.specs.Data.{no_items, item, Members, no_members, put}
use Rattle.serde_json.specs.Read.{of_json, of_items, of_members, converted, max_depth, number_of}
use Rattle.serde_json.specs.Read.{read}
use Rattle.serde_json.proofs.OnLiterals.{serde_json_on_literals}
use Rattle.oxc_sourcemap_json.specs.Usual.{Begins, BeginsAny, BeginItems, BeginMembers, IsAll}
use Rattle.oxc_sourcemap_json.specs.Usual.{items_of, content_data}
use Rattle.oxc_sourcemap_json.proofs.Converted.{as_array_of, as_object_of, next_item, no_more_items}
use Rattle.oxc_sourcemap_json.proofs.Converted.{before, next_member, no_more_members}

-- what follows of what may have been found
pub of_found : {A E : Type 0} {P Q : A → Type 0} → ((a : A) → P a → Q a) → (r : Result (Option A) E) → IfOk r (λ o. IfSome o P) → IfOk r (λ o. IfSome o Q)
of_found f (Ok (Some a)) p = f a p
of_found f (Ok None) p = tt
of_found f (Err e) p = tt

pub of_some : {A : Type 0} {P Q : A → Type 0} → ((a : A) → P a → Q a) → (o : Option A) → IfSome o P → IfSome o Q
of_some f (Some a) p = f a p
of_some f None p = tt

pub of_both : {A : Type 0} {P Q R : A → Type 0} → ((a : A) → P a → Q a → R a) → (o : Option A) → IfSome o P → IfSome o Q → IfSome o R
of_both f (Some a) p q = f a p q
of_both f None p q = tt

pub text_begins : (ts rest : List Token) (s : List ℕ) → ts ≡ Token.string s ∷ rest → BeginsAny ts (string s) rest
text_begins ts rest s is depth = ap (converted of_json) (ap (value depth) is ∙ value_is depth _)

pub null_begins : (ts rest : List Token) → ts ≡ Token.null ∷ rest → BeginsAny ts null rest
null_begins ts rest is depth = ap (converted of_json) (ap (value depth) is ∙ value_is depth _)

pub content_begins : (ts rest : List Token) (content : Option (String Global)) → MatchOption content (ts ≡ Token.null ∷ rest) (λ text. ts ≡ Token.string (string_bytes text) ∷ rest)
    → BeginsAny ts (content_data (option_map string_bytes content)) rest
content_begins ts rest None is = null_begins ts rest is
content_begins ts rest (Some text) is = text_begins ts rest (string_bytes text) is

pub number_begins : (ts rest : List Token) (s : List ℕ) (n : Num) → ts ≡ Token.number s ∷ rest → number_of s ≡ Some n → BeginsAny ts (number n) rest
number_begins ts rest s n is reads depth =
    ap (converted of_json) (ap (value depth) is ∙ value_is depth (Token.number s ∷ rest)) ∙ ap (λ o. option_map (λ d. (d, rest)) (option_map number o)) reads

pub three_begins : (ts rest : List Token) → ts ≡ Token.number (codes "3") ∷ rest → Begins ts (number (unsigned 3)) rest
unfolding serde_json_on_literals
three_begins ts rest is = ap (converted of_json) (ap (value 126) is ∙ value_is 126 (Token.number (codes "3") ∷ rest))

pub list_begins : (ts more rest : List Token) (ds : List Data) → ts ≡ Token.begin_array ∷ more → BeginItems more ds rest → Begins ts (array (items_of ds)) rest
list_begins ts more rest ds is found =
    ap (converted of_json) (ap (value 126) is ∙ value-begin_array 126 more (omega arith))
    ∙ as_array_of (items (value 125) (length more) more) ∙ ap (parse_map array) found

pub object_is_all : (ts more : List Token) (ms : Members) → ts ≡ Token.begin_object ∷ more → BeginMembers more ms [] → IsAll ts (object ms)
object_is_all ts more ms is found =
    ap (converted of_json) (ap (value max_depth) is ∙ value-begin_object max_depth more (omega arith))
    ∙ as_object_of (members (value 126) (length more) more) ∙ ap (parse_map object) found

-- ---- a list, item by item

-- these items, and then others
abbrev onto : List Data → Items → Items
onto [] rest = rest
onto (d ∷ ds) rest = item d (onto ds rest)

onto-no_items : (ds : List Data) → onto ds no_items ≡ items_of ds
onto-no_items [] = refl
onto-no_items (d ∷ ds) = ap (item d) (onto-no_items ds)

onto-item : (ds : List Data) (d : Data) (rest : Items) → onto ds (item d rest) ≡ onto (ds ++ d ∷ []) rest
onto-item [] d rest = refl
onto-item (e ∷ ds) d rest = ap (item e) (onto-item ds d rest)

onto-more : (ds : List Data) (d : Data) (r : Option (Items × List Token)) → parse_map (onto ds) (parse_map (item d) r) ≡ parse_map (onto (ds ++ d ∷ [])) r
onto-more ds d None = refl
onto-more ds d (Some p) = ap (λ rest. Some (rest, p.1)) (onto-item ds d p.0)

onto-none : (r : Option (Items × List Token)) → r ≡ parse_map (onto []) r
onto-none None = refl
onto-none (Some p) = refl

-- These items were read so far, and those tokens are left.
abbrev pub AreReadSoFar : List Token → List Data → List Token → Type 0
AreReadSoFar all ds left =
    (n : ℕ) × (length left ≤ n) × (length left ≤ length all)
    × (converted of_items (items (value 125) (length all) all) ≡ parse_map (onto ds) (converted of_items (items (value 125) n left)))

pub none_read : (all : List Token) → AreReadSoFar all [] all
none_read all = (length all, omega arith, omega arith, onto-none (converted of_items (items (value 125) (length all) all)))

-- no value begins with the bracket that closes a list
no_end : (ts rest : List Token) (d : Data) → BeginsAny ts d rest → after_end_array ts ≡ None
no_end [] rest d is = refl
no_end (Token.begin_object ∷ ts) rest d is = refl
no_end (Token.end_object ∷ ts) rest d is = refl
no_end (Token.begin_array ∷ ts) rest d is = refl
no_end (Token.end_array ∷ ts) rest d is = not_found (d, rest) (sym (ap (converted of_json) (value_is 125 (Token.end_array ∷ ts))) ∙ is 125)
no_end (Token.key s ∷ ts) rest d is = refl
no_end (Token.string s ∷ ts) rest d is = refl
no_end (Token.number s ∷ ts) rest d is = refl
no_end (Token.boolean b ∷ ts) rest d is = refl
no_end (Token.null ∷ ts) rest d is = refl
no_end (Token.bad ∷ ts) rest d is = refl

pub one_more_read : (all left rest : List Token) (ds : List Data) (d : Data) → AreReadSoFar all ds left → BeginsAny left d rest → length rest < length left
    → AreReadSoFar all (ds ++ d ∷ []) rest
one_more_read all left rest ds d h is less = (
  h.0 - 1,
  omega (arith, h.1, less),
  omega (arith, h.2, less),
  h.3 ∙ ap (parse_map (onto ds)) (next_item (value 125) h.0 left rest d (omega (arith, h.1, less)) (no_end left rest d is) (is 125)) ∙ onto-more ds d _,
)

pub all_read : (all left rest : List Token) (ds : List Data) → AreReadSoFar all ds left → after_end_array left ≡ Some rest → BeginItems all ds rest
all_read all left rest ds h end =
    h.3 ∙ ap (parse_map (onto ds)) (no_more_items (value 125) h.0 left rest h.1 end) ∙ ap (λ found. Some (found, rest)) (onto-no_items ds)

-- ---- an object, member by member

-- These members were read so far, and those tokens are left.
abbrev pub MembersSoFar : List Token → Members → List Token → Type 0
MembersSoFar all ms left =
    (n : ℕ) × (length left ≤ n)
    × (converted (λ found. of_members found no_members) (members (value 126) (length all) all) ≡ converted (λ found. of_members found ms) (members (value 126) n left))

pub no_members_read : (all : List Token) → MembersSoFar all no_members all
no_members_read all = (length all, omega arith, refl)

pub one_more_member : (all left value_at rest : List Token) (ms : Members) (key : List ℕ) (d : Data) → MembersSoFar all ms left
    → read_key left ≡ Some (Some key, value_at) → Begins value_at d rest → length rest < length value_at → MembersSoFar all (put key d ms) rest
one_more_member all left value_at rest ms key d h named is less =
    let lesser = read_key-shorter left (Some key) value_at named in (
      h.0 - 1,
      omega (arith, h.1, less, lesser),
      h.2 ∙ next_member (value 126) ms h.0 key left value_at rest d (omega (arith, h.1, lesser)) named is,
    )

pub all_members : (all left rest : List Token) (ms : Members) → MembersSoFar all ms left → read_key left ≡ Some (None, rest) → BeginMembers all ms rest
all_members all left rest ms h end = h.2 ∙ no_more_members (value 126) ms h.0 left rest h.1 end

-- ---- a whole text

pub text_is : (text : List ℕ) (d : Data) → IsAll (tokens text) d → read text ≡ Some d
text_is text d h =
    let j = before of_json (value max_depth (tokens text)) d [] h in
    ap (λ r. option_and_then of_json (option_and_then (λ p. if_last p.0 p.1) r)) j.1 ∙ j.2

-- ---- a list of one number

pub all_of_one : (n : ℕ) → n < 4294967296 → All (λ m. m < 4294967296) (n ∷ [])
all_of_one n small zero d less = small
all_of_one n small (suc k) d less = absurd (omega (arith, less))
