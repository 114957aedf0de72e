-- The grammar of JSON, a step at a time, together with the conversion of what it reads to values.
use Rattle.std.proofs.Common.{◌≡◌, ℕ, ◌-◌, ◌<◌, ◌≤◌, List, length, Option, Some, None}
use Rattle.std.proofs.Common.{option_map, refl, ap, ◌∙◌}
use Rattle.json.specs.Token.{Token}
use Rattle.json.specs.Json as json
use Rattle.json.specs.Json.{Parse, parse_map, after_end_array, read_key, items, members}
use Rattle.json.proofs.Grammar.{items_end, items_more, members_end, members_more}
use Rattle.serde_json.specs.Data.{Data, array, object, no_items, item, Members, no_members, put}
use Rattle.serde_json.specs.Read.{of_json, of_items, of_members, converted}

-- the value of an option, or another one
abbrev or_else : {A : Type 0} → A → Option A → A
or_else other None = other
or_else other (Some a) = a

paired : {B : Type 0} (s r : List Token) (x : Option B) (b : B) → option_map {U = B × List Token} (λ y. (y, s)) x ≡ Some (b, r) → (s ≡ r) × (x ≡ Some b)
paired s r None b e = absurd (cc)
paired s r (Some y) b e = let both = ap (or_else (y, s)) e in (ap (λ p. p.1) both, ap (λ p. Some p.0) both)

-- what was converted was read
pub before : {A B : Type 0} (f : A → Option B) (o : Option (A × List Token)) (b : B) (r : List Token) → converted f o ≡ Some (b, r) → (a : A) × (o ≡ Some (a, r)) × (f a ≡ Some b)
before f None b r e = absurd (cc)
before f (Some p) b r e = let both = paired p.1 r (f p.0) b e in (p.0, ap (λ s. Some (p.0, s)) both.0, both.1)

-- a conversion, and a step after it
then_mapped : {A B : Type 0} (g : A → B) (r : List Token) (x : Option A) → option_map (λ b. (b, r)) (option_map g x) ≡ parse_map g (option_map (λ a. (a, r)) x)
then_mapped g r None = refl
then_mapped g r (Some a) = refl

pub as_array_of : (o : Option (json.Items × List Token)) → converted of_json (parse_map json.array o) ≡ parse_map array (converted of_items o)
as_array_of None = refl
as_array_of (Some p) = then_mapped array p.1 (of_items p.0)

pub as_object_of : (o : Option (json.Members × List Token)) → converted of_json (parse_map json.object o) ≡ parse_map object (converted (λ ms. of_members ms no_members) o)
as_object_of None = refl
as_object_of (Some p) = then_mapped object p.1 (of_members p.0 no_members)

item_onto : (j : json.Json) (d : Data) → of_json j ≡ Some d → (o : Option (json.Items × List Token)) → converted of_items (parse_map (json.item j) o) ≡ parse_map (item d) (converted of_items o)
item_onto j d e None = refl
item_onto j d e (Some p) = rw e (then_mapped (item d) p.1 (of_items p.0))

member_onto : (key : List ℕ) (j : json.Json) (d : Data) (ms : Members) → of_json j ≡ Some d → (o : Option (json.Members × List Token))
    → converted (λ found. of_members found ms) (parse_map (json.member key j) o) ≡ converted (λ found. of_members found (put key d ms)) o
member_onto key j d ms e None = refl
member_onto key j d ms e (Some p) = rw e

module _ (value : Parse json.Json) where
  pub next_item : (n : ℕ) (ts rest : List Token) (d : Data) → 0 < n → after_end_array ts ≡ None → converted of_json (value ts) ≡ Some (d, rest)
      → converted of_items (items value n ts) ≡ parse_map (item d) (converted of_items (items value (n - 1) rest))
  next_item n ts rest d some going is =
      let j = before of_json (value ts) d rest is in
      ap (converted of_items) (items_more value n ts rest j.0 some going j.1) ∙ item_onto j.0 d j.2 _

  pub no_more_items : (n : ℕ) (ts rest : List Token) → length ts ≤ n → after_end_array ts ≡ Some rest → converted of_items (items value n ts) ≡ Some (no_items, rest)
  no_more_items n ts rest enough end = ap (converted of_items) (items_end value n ts rest enough end)

  pub next_member : (ms : Members) (n : ℕ) (key : List ℕ) (ts value_at rest : List Token) (d : Data) → 0 < n → read_key ts ≡ Some (Some key, value_at)
      → converted of_json (value value_at) ≡ Some (d, rest)
      → converted (λ found. of_members found ms) (members value n ts) ≡ converted (λ found. of_members found (put key d ms)) (members value (n - 1) rest)
  next_member ms n key ts value_at rest d some named is =
      let j = before of_json (value value_at) d rest is in
      ap (converted (λ found. of_members found ms)) (members_more value n key ts value_at rest j.0 some named j.1) ∙ member_onto key j.0 d ms j.2 _

  pub no_more_members : (ms : Members) (n : ℕ) (ts rest : List Token) → length ts ≤ n → read_key ts ≡ Some (None, rest)
      → converted (λ found. of_members found ms) (members value n ts) ≡ Some (ms, rest)
  no_more_members ms n ts rest enough end = ap (converted (λ found. of_members found ms)) (members_end value n ts rest enough end)
