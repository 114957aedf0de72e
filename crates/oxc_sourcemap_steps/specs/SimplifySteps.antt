-- How the private steps of simplifying are seen. No public contract cites this module.
use Rattle.std.specs.Prelude.{◌≡◌, ℕ, ◌+◌, ◌<◌, ◌≤◌, Bool, false, true, ◌&&◌, List, [], ◌∷◌, ◌++◌}
use Rattle.std.specs.Prelude.{map, length, slice_get, Option, Some, None, option_map, is_some}
use Rattle.std.specs.Prelude.{if◌then◌else◌, ◌==◌, get_or, vec_len, nat_eq, min, ◌⊎◌, ◌*◌}
use Rattle.std.specs.Bool.{beq}
use Rattle.std.specs.Borrow.{Bor}
use Rattle.std.specs.Cmp.Lexicographic.{pointwise}
use Rattle.std.specs.HashMap as hash
use Rattle.std.specs.HashMap.{HashMap}
use Rattle.std.specs.List.{position_from, AllByRecursion}
use Rattle.std.specs.Option.{option_and_then, option_eq, unwrap_or}
use Rattle.std.specs.Str.{bytes_eq}
use Rattle.std.specs.Vec.{vec_capacity}
use Rattle.oxc_sourcemap_tokens.specs.Token.{TokenRecord}
use Rattle.oxc_sourcemap_parts.specs.DecodedMap.{DecodedSource, sources_of, decoded_map_of}
use Rattle.oxc_sourcemap_parts.specs.Record.{Text, MapRecord}
use Rattle.oxc_sourcemap_parts.specs.Views.{texts_of, contents_of, ids_of}
use Rattle.oxc_sourcemap_parts.specs.declared.parts.SourceMapParts.{SourceMapParts}
use Rattle.oxc_sourcemap_parts.specs.Sorted.{token_line, token_column}
use Rattle.oxc_sourcemap_join.specs.Joined.{is_same_option, is_same_id}
use Rattle.oxc_sourcemap_steps.specs.Blocks.{marked_sources}
use Rattle.oxc_sourcemap_steps.specs.Simple.{are_together, is_followed}
use Rattle.oxc_sourcemap_steps.specs.Simplified.{index_of_marked, token_at_next_column}
use Rattle.oxc_sourcemap_steps.specs.Simplified.{simple_names, simplified}
use Rattle.oxc_sourcemap_steps.specs.declared.simplify.ids.NewIds.{NewIds}
use Rattle.oxc_sourcemap_steps.specs.declared.simplify.numbering.Numbering.{Numbering}
use Rattle.oxc_sourcemap_steps.specs.declared.simplify.simplify.Simple.{Simple}
use Rattle.oxc_sourcemap_steps.specs.declared.simplify.sources.Source.{Source}
use Rattle.oxc_sourcemap_steps.specs.declared.simplify.tokens.Numbers.{Numbers}
use Rattle.oxc_sourcemap_steps.specs.declared.simplify.tokens.Tables.{Tables}
use Rattle.oxc_sourcemap_steps.specs.declared.simplify.tokens.Target.{Target}

-- ---- numbers
-- where a number stands in a list
abbrev pub index_in : ℕ → List ℕ → Option ℕ
index_in k ks = position_from (λ j. k == j) 0 ks

-- the list with this number: as it is if it has it, else with this as a new last one
abbrev pub with_number : List ℕ → ℕ → List ℕ
with_number ks k = if is_some (index_in k ks) then ks else ks ++ k ∷ []

-- the same, if there is a number
abbrev pub with_any : List ℕ → Option ℕ → List ℕ
with_any ks None = ks
with_any ks (Some k) = with_number ks k

-- no two of these numbers are equal
abbrev pub AreApart : List ℕ → Type 0
AreApart [] = Unit {0}
AreApart (k ∷ ks) = AllByRecursion (λ j. (k == j) ≡ false) ks × AreApart ks

-- each index has its place among those that have one, and there are no more of these than ids
pub record IsNumbering (n : Numbering) : Type 0 where
  pub numbers : (k : ℕ) → k < length n.numbers.items → slice_get n.numbers.items k ≡ Some (index_in k n.order.items)
  pub apart : AreApart n.order.items
  pub within : AllByRecursion (λ k. k < length n.numbers.items) n.order.items
  pub few : length n.order.items ≤ 4294967295

-- ---- lists with equal items
-- for each item of a list the index of the first equal one
abbrev pub AreFirsts : {A : Type 0} → (A → A → Bool) → List A → List ℕ → Type 0
AreFirsts same items firsts = map (λ k. Some k) firsts ≡ map (λ x. position_from (same x) 0 items) items

-- the sources of a map, each with whether it is ignored
abbrev pub listed_in : MapRecord → List (DecodedSource × Bool)
listed_in r = marked_sources (decoded_map_of r)

-- where a source of these is listed first, not ignored and ignored
abbrev pub source_among : List (DecodedSource × Bool) → DecodedSource × Bool → Source
source_among listed m =
    record { plain = index_of_marked (m.0, false) listed; ignored = index_of_marked (m.0, true) listed; is_ignored = m.1 }

-- where the source itself is listed first with its own mark
abbrev pub own_index : Source → Option ℕ
own_index s = if s.is_ignored then s.ignored else s.plain

-- the same by the index of the first equal source and the mark of each, which stand for it
abbrev pub first_marked : List (ℕ × Bool) → ℕ → Bool → Option ℕ
first_marked ps c mark = position_from (λ p. c == p.0 && beq mark p.1) 0 ps

abbrev pub source_by : List (ℕ × Bool) → ℕ × Bool → Source
source_by ps p = record { plain = first_marked ps p.0 false; ignored = first_marked ps p.0 true; is_ignored = p.1 }

abbrev pub ArePlacesOf : List (ℕ × Bool) → Bool → List (Option ℕ) → Type 0
ArePlacesOf ps mark places = (c : ℕ) → c < length places → slice_get places c ≡ Some (first_marked ps c mark)

-- the sources of a map
abbrev pub sources_in : SourceMapParts → List DecodedSource
sources_in parts = sources_of (texts_of parts.sources) (contents_of parts.source_contents)

-- a source that is borrowed: its path and its content
abbrev pub SourceKey : Type 0
SourceKey = Bor Text × Option (Bor Text)

abbrev pub lent_source : SourceKey → DecodedSource
lent_source s = record { path = s.0.now; content = option_map (λ text. text.now) s.1 }

-- equality of these, as a map of them tests it
abbrev pub is_same_key : SourceKey → SourceKey → Bool
is_same_key a b = pointwise nat_eq a.0.now b.0.now && option_eq (λ x y. pointwise nat_eq x.now y.now) a.1 b.1

-- what is found for a key
abbrev pub found_for : {S : Type 0} → HashMap SourceKey ℕ S → SourceKey → Option ℕ
found_for places key = hash.get is_same_key places key

-- the map has this number for the key, unless it had one, and no other changes
abbrev pub KeepsFirst : {S : Type 0} → HashMap SourceKey ℕ S → HashMap SourceKey ℕ S → SourceKey → ℕ → Type 0
KeepsFirst old new key i = (q : SourceKey)
    → found_for new q ≡ (if is_same_key key q then Some (unwrap_or (found_for old key) i) else found_for old q)

-- the tables of a map
pub record AreTables (r : MapRecord) (tables : Tables) : Type 0 where
  pub sources : tables.sources.items ≡ map (source_among (listed_in r)) (listed_in r)
  pub names : AreFirsts bytes_eq r.names tables.names.items

-- ---- tokens
-- what a token points to, by the tables
abbrev pub target_at : List ℕ → TokenRecord → Source → Target
target_at names t s =
    record { source = s; src_line = t.src_line; src_col = t.src_col; name = option_and_then (slice_get names) t.name_id }

abbrev pub target_by : Tables → TokenRecord → Option Target
target_by tables t =
    option_map (target_at tables.names.items t) (option_and_then (slice_get tables.sources.items) t.source_id)

abbrev pub is_same_target : Target → Target → Bool
is_same_target a b =
    is_same_id a.source.plain b.source.plain && (is_same_id a.source.ignored b.source.ignored
    && (a.src_line == b.src_line && (a.src_col == b.src_col && is_same_id a.name b.name)))

-- tokens point to the same, by the tables
abbrev pub are_alike_by : Tables → TokenRecord → TokenRecord → Bool
are_alike_by tables t u = is_same_option is_same_target (target_by tables t) (target_by tables u)

-- the token before this one, if any, is at its position
abbrev pub is_behind : Option TokenRecord → TokenRecord → Bool
is_behind None t = false
is_behind (Some p) t = are_together token_line token_column p t

-- the token after this one, if any, is on its line, at its column or at the next one
abbrev pub is_before : TokenRecord → Option TokenRecord → Bool
is_before t None = false
is_before t (Some u) = is_followed token_line token_column t (u ∷ [])

-- a token points where the one before it on its line points, by the tables
abbrev pub repeats_by : Tables → Option TokenRecord → TokenRecord → Bool
repeats_by tables None t = false
repeats_by tables (Some p) t = token_line p == token_line t && are_alike_by tables p t

-- What is kept of tokens, if this one is before them, and this says whether it repeats the one before it.
abbrev pub kept_from : Tables → Option TokenRecord → Bool → List TokenRecord → List TokenRecord
kept_from tables p repeats [] = []
kept_from tables p repeats (t ∷ ts) =
    (if repeats_by tables p t then [] else (if is_behind p t && repeats then token_at_next_column t else t) ∷ [])
    ++ kept_from tables (Some t) (repeats_by tables p t) ts

-- the places of names and sources, with those that tokens need
abbrev pub with_name : Tables → List ℕ → TokenRecord → List ℕ
with_name tables ks t = with_any ks (option_and_then (λ target. target.name) (target_by tables t))

abbrev pub with_listings : List ℕ → Option Target → List ℕ
with_listings ks None = ks
with_listings ks (Some target) = with_any (with_any ks target.source.plain) target.source.ignored

abbrev pub with_source : Tables → List ℕ → TokenRecord → List ℕ
with_source tables ks t = with_listings ks (target_by tables t)

abbrev pub with_all : (List ℕ → TokenRecord → List ℕ) → List ℕ → List TokenRecord → List ℕ
with_all more ks [] = ks
with_all more ks (t ∷ ts) = with_all more (more ks t) ts

-- a token with its ids by their places among these
abbrev pub token_to : List ℕ → List ℕ → TokenRecord → Option Target → TokenRecord
token_to sources names t None =
    record { dst_line = t.dst_line; dst_col = t.dst_col; src_line = 0; src_col = 0; source_id = None; name_id = None }
token_to sources names t (Some target) = record t {
  source_id = option_and_then (λ k. index_in k sources) (own_index target.source);
  name_id = option_and_then (λ k. index_in k names) target.name;
}

-- more than there may be of sources or of names
abbrev pub AreTooMany : List ℕ → List ℕ → Type 0
AreTooMany sources names = (4294967295 < length sources) ⊎ (4294967295 < length names)

-- where a token is kept: at the next column if it moves
abbrev pub shifted_token : Bool → TokenRecord → TokenRecord
shifted_token moves t = if moves then token_at_next_column t else t

-- the generated position as one number, 0 where there is no token
abbrev pub position_of : Option TokenRecord → ℕ
position_of None = 0
position_of (Some t) = t.dst_line * 4294967296 + t.dst_col

-- what a table has is an index of it
abbrev pub IsBelow : ℕ → Option ℕ → Type 0
IsBelow n None = Unit {0}
IsBelow n (Some k) = k < n

pub record IsSourceBelow (n : ℕ) (s : Source) : Type 0 where
  pub plain : IsBelow n s.plain
  pub ignored : IsBelow n s.ignored

pub record AreWithin (tables : Tables) : Type 0 where
  pub sources : AllByRecursion (IsSourceBelow (length tables.sources.items)) tables.sources.items
  pub own : AllByRecursion (λ s. is_some (own_index s) ≡ true) tables.sources.items
  pub names : AllByRecursion (λ k. k < length tables.names.items) tables.names.items

-- ---- new ids
-- what is listed at one place, not ignored
abbrev pub listed_once : ℕ → Source
listed_once k = record { plain = Some k; ignored = None; is_ignored = false }

-- the list with the places of this one
abbrev pub with_places : List ℕ → Source → List ℕ
with_places ks s = with_any (with_any ks s.plain) s.ignored

-- the same, if there is one
abbrev pub with_places_of : List ℕ → Option Source → List ℕ
with_places_of ks None = ks
with_places_of ks (Some s) = with_places ks s

-- there is none, or it has a place
abbrev pub IsPlaced : List ℕ → Option ℕ → Type 0
IsPlaced ks None = Unit {0}
IsPlaced ks (Some k) = is_some (index_in k ks) ≡ true

-- its places are numbered, and this is the number of its own
pub record IsKnown (ks : List ℕ) (s : Source) (id : ℕ) : Type 0 where
  pub plain : IsPlaced ks s.plain
  pub ignored : IsPlaced ks s.ignored
  pub own : option_and_then (λ k. index_in k ks) (own_index s) ≡ Some id

-- the new id of what an old id stands for, 4294967295 if for nothing
abbrev pub IsNewId : List ℕ → Option Source → ℕ → Type 0
IsNewId ks None id = id ≡ 4294967295
IsNewId ks (Some s) id = IsKnown ks s id × (id < 4294967295)

-- new ids by the old ones of what is listed here
pub record AreIds (listed : List Source) (n : NewIds) : Type 0 where
  pub numbering : IsNumbering n.numbering
  pub count : length n.numbering.numbers.items ≡ length listed
  pub len : length n.ids.items ≡ min (length listed) 4294967295 + 1
  pub last : (k : ℕ) → k + 1 ≡ length n.ids.items → slice_get n.ids.items k ≡ Some (Some 4294967295)
  pub known : (k id : ℕ) (s : Source) → k + 1 < length n.ids.items → slice_get n.ids.items k ≡ Some (Some id)
      → slice_get listed k ≡ Some s → IsKnown n.numbering.order.items s id

-- the new ids of a map with these tables
pub record AreNumbers (tables : Tables) (numbers : Numbers) : Type 0 where
  pub sources : AreIds tables.sources.items numbers.sources
  pub names : AreIds (map listed_once tables.names.items) numbers.names

-- what a simplified map is made of
pub record IsSimple (r : MapRecord) (s : Simple) : Type 0 where
  pub tokens_are : s.tokens.items ≡ (simplified r).tokens
  pub names_are : map (λ k. get_or r.names k []) s.numbers.names.numbering.order.items ≡ simple_names r
  pub sources_are : map (λ k. get_or r.sources k []) s.numbers.sources.numbering.order.items ≡ (simplified r).sources
  pub contents_are : map (λ k. get_or r.source_contents k None) s.numbers.sources.numbering.order.items ≡ (simplified r).source_contents
  pub ignored_are : ids_of s.ignore_list ≡ (simplified r).ignore_list
  pub names_apart : AreApart s.numbers.names.numbering.order.items
  pub sources_apart : AreApart s.numbers.sources.numbering.order.items
  pub names_within : AllByRecursion (λ k. k < length r.names) s.numbers.names.numbering.order.items
  pub sources_within : AllByRecursion (λ k. k < length r.sources) s.numbers.sources.numbering.order.items
  pub names_room : (s.names.items ≡ []) × (vec_len s.names + length s.numbers.names.numbering.order.items ≤ vec_capacity s.names)
  pub sources_room : (s.sources.items ≡ []) × (vec_len s.sources + length s.numbers.sources.numbering.order.items ≤ vec_capacity s.sources)
  pub contents_room : (s.source_contents.items ≡ [])
      × (vec_len s.source_contents + length s.numbers.sources.numbering.order.items ≤ vec_capacity s.source_contents)
