-- Trees of spans, as the list of their spans in the order of their starts, each with the index of its parent.
use Rattle.std.specs.Prelude.{◌⊎◌, ◌≡◌, ℕ, ◌+◌, ◌-◌, ◌*◌, ◌<◌, ◌≤◌, Bool, ◌&&◌, ◌==◌, nat_lt}
use Rattle.std.specs.Prelude.{nat_le}
use Rattle.std.specs.Prelude.{List, [], ◌∷◌, ◌++◌, length, set, get_or, Option, Some, None}
use Rattle.std.specs.Prelude.{if◌then◌else◌}
use Rattle.oxc_sourcemap_tokens.specs.declared.position.Position.{Position}
use Rattle.oxc_sourcemap_scopes.specs.declared.scopes.Span.{Span}

-- a position as one number, in the order of positions
abbrev pub place_of : Position → ℕ
place_of p = p.line * 4294967296 + p.column

-- a place of a source as one number: the places of a source come before those of the next
abbrev pub key : ℕ → ℕ → ℕ
key source place = source * 18446744073709551616 + place

abbrev pub start_key : Span → ℕ
start_key span = key span.source (place_of span.start)

abbrev pub end_key : Span → ℕ
end_key span = key span.source (place_of span.end)

-- how many spans there are up to this index, which may be absent
abbrev pub rank : Option ℕ → ℕ
rank None = 0
rank (Some i) = i + 1

-- what stands for a span past the end
abbrev pub no_span : Span
no_span = record { source = 0; start = record { line = 0; column = 0 }; end = record { line = 0; column = 0 }; parent = None }

abbrev pub span_at : List Span → ℕ → Span
span_at spans i = get_or spans i no_span

-- how many spans there are up to the parent of the span at this index
abbrev pub parent_rank : List Span → ℕ → ℕ
parent_rank spans i = rank (span_at spans i).parent

-- Spans in the order of their starts, each after its parent: those between the two end before it starts.
pub record AreNested (spans : List Span) : Type 0 where
  pub in_order : (i j : ℕ) → j < i → i < length spans → start_key (span_at spans j) ≤ start_key (span_at spans i)
  pub parents : (i : ℕ) → i < length spans → parent_rank spans i ≤ i
  pub sources : (i j : ℕ) → j < i → i < length spans → (span_at spans i).parent ≡ Some j → (span_at spans i).source ≡ (span_at spans j).source
  pub apart : (i j : ℕ) → j < i → i < length spans → parent_rank spans i ≤ j → end_key (span_at spans j) ≤ start_key (span_at spans i)

-- each span ends within its parent
abbrev pub AreWithin : List Span → Type 0
AreWithin spans =
    (i j : ℕ) → j < i → i < length spans → (span_at spans i).parent ≡ Some j → end_key (span_at spans i) ≤ end_key (span_at spans j)

-- a span of this source contains this place: its start, and not its end
abbrev pub contains : ℕ → ℕ → Span → Bool
contains source place span = span.source == source && nat_le (place_of span.start) place && nat_lt place (place_of span.end)

-- the index of the last item that passes a test, the first item having this index
abbrev pub last_from : {A : Type 0} → (A → Bool) → ℕ → List A → Option ℕ
last_from test i [] = None
last_from test i (x ∷ xs) = elim (last_from test (i + 1) xs) [ Some k ↦ Some k | None ↦ if test x then Some i else None ]

-- the index of the last item that passes a test
abbrev pub last_that : {A : Type 0} → (A → Bool) → List A → Option ℕ
last_that test xs = last_from test 0 xs

-- The innermost span that contains a place of a source: the last, since those that contain it start one after the other.
unfoldable pub innermost : List Span → ℕ → ℕ → Option ℕ
innermost spans source place = last_that (contains source place) spans

-- A tree as it grows: its spans so far, the index of the innermost that has no end yet, how many have none, and the place that was
-- reached.
pub record Grown : Type 0 where
  pub spans : List Span
  pub current : Option ℕ
  pub depth : ℕ
  pub source : ℕ
  pub position : Position

-- where the place that was reached lies
abbrev pub reached : Grown → ℕ
reached t = key t.source (place_of t.position)

-- A tree with one more span, which starts here, within the innermost that is open. As long as it has no end, it ends where it starts.
abbrev pub started : Grown → Position → Grown
started t here = record {
  spans = t.spans ++ record { source = t.source; start = here; end = here; parent = t.current } ∷ [];
  current = Some (length t.spans);
  depth = t.depth + 1;
  source = t.source;
  position = here;
}

-- a tree whose span at this index, the innermost that is open, ends here
abbrev pub ended : Grown → ℕ → Position → Grown
ended t i here =
    let span = span_at t.spans i in
    record { spans = set t.spans i (record span { end = here }); current = span.parent; depth = t.depth - 1; source = t.source; position = here }

-- a tree at the start of the next source
abbrev pub at_next_source : Grown → Grown
at_next_source t = record t { source = t.source + 1; position = record { line = 0; column = 0 } }

-- the span at this index has no end yet: all after it are within it, and the next one would be
abbrev pub IsOpen : Grown → ℕ → Type 0
IsOpen t j = (j < rank t.current) × ((k : ℕ) → k < length t.spans → j < k → j < parent_rank t.spans k)

-- The spans so far are nested, none goes past the place that was reached, and of two spans one contains the other or they lie apart:
-- also of the next one, which would start within the innermost that is open.
pub record IsGrowing (t : Grown) : Type 0 where
  pub nested : AreNested t.spans
  pub starts : (i : ℕ) → i < length t.spans → start_key (span_at t.spans i) ≤ reached t
  pub ends : (i : ℕ) → i < length t.spans → end_key (span_at t.spans i) ≤ reached t
  pub current : rank t.current ≤ length t.spans
  pub source : (j : ℕ) → j < length t.spans → t.current ≡ Some j → (span_at t.spans j).source ≡ t.source
  pub laminar : (i j : ℕ) → j < i → i < length t.spans → parent_rank t.spans i ≤ j → parent_rank t.spans i ≤ parent_rank t.spans j
  pub closed : (i j : ℕ) → j < i → i < length t.spans → (span_at t.spans i).parent ≡ Some j
      → (end_key (span_at t.spans i) ≤ end_key (span_at t.spans j)) ⊎ IsOpen t j
  pub around : (j : ℕ) → j < length t.spans → rank t.current ≤ j → rank t.current ≤ parent_rank t.spans j

-- a tree before its first span
abbrev pub nothing_grown : Grown
nothing_grown = record { spans = []; current = None; depth = 0; source = 0; position = record { line = 0; column = 0 } }
