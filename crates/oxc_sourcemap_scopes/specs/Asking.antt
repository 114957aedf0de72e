-- What is asked of scopes: the innermost scope, range or function at a position, and the frames that a position stands for.
use Rattle.std.specs.Prelude.{◌≡◌, ℕ, zero, suc, ◌*◌, ◌+◌, Bool, false, List, [], ◌∷◌, ◌++◌, get_or}
use Rattle.std.specs.Prelude.{slice_get, length, filter, map, nat_le, ◌&&◌, ◌==◌, Option}
use Rattle.std.specs.Prelude.{Some, None}
use Rattle.std.specs.Prelude.{if◌then◌else◌}
use Rattle.std.specs.Option.{option_map, option_and_then, option_map_or}
use Rattle.oxc_sourcemap_scopes.specs.declared.scopes.Span.{Span}
use Rattle.oxc_sourcemap_scopes.specs.declared.scopes.ScopeInfo.{ScopeInfo}
use Rattle.oxc_sourcemap_scopes.specs.declared.scopes.CallSite.{CallSite}
use Rattle.oxc_sourcemap_scopes.specs.declared.scopes.ScopeFrame.{ScopeFrame}
use Rattle.oxc_sourcemap_scopes.specs.declared.chains.ScopeChainEntry.{ScopeChainEntry}
use Rattle.oxc_sourcemap_scopes.specs.declared.frames.OriginalScope.{OriginalScope}
use Rattle.oxc_sourcemap_scopes.specs.declared.frames.GeneratedRange.{GeneratedRange}
use Rattle.oxc_sourcemap_scopes.specs.declared.frames.Frames.{Frames}
use Rattle.oxc_sourcemap_scopes.specs.declared.scopes.RangeInfo.{RangeInfo}
use Rattle.oxc_sourcemap_scopes.specs.declared.scopes.Value.{Value}
use Rattle.oxc_sourcemap_scopes.specs.declared.scopes.ValuePiece.{ValuePiece}
use Rattle.oxc_sourcemap_scopes.specs.Trees.{rank, span_at, innermost, place_of}
use Rattle.oxc_sourcemap_scopes.specs.Items.{no_range}
use Rattle.oxc_sourcemap_scopes.specs.Reading.{ScopesRecord}

-- a line and a column as one number
abbrev pub place : ℕ → ℕ → ℕ
place line column = line * 4294967296 + column

-- the innermost scope of a source that contains a position
abbrev pub scope_at : ScopesRecord → ℕ → ℕ → ℕ → Option ℕ
scope_at s source line column = innermost s.scopes source (place line column)

-- the innermost range that contains a position of the generated code
abbrev pub range_at : ScopesRecord → ℕ → ℕ → Option ℕ
range_at s line column = innermost s.ranges 0 (place line column)

-- what stands for a scope past the end
abbrev pub no_scope : ScopeInfo
no_scope = record { name = None; kind = None; is_stack_frame = false }

-- The first of a scope and those around it, from the inside out, that is a stack frame. The number bounds how many are looked at.
abbrev pub function_within : ℕ → List Span → List ScopeInfo → Option ℕ → Option ℕ
function_within zero scopes infos scope = None
function_within (suc n) scopes infos None = None
function_within (suc n) scopes infos (Some i) =
    if (get_or infos i no_scope).is_stack_frame then Some i else function_within n scopes infos (span_at scopes i).parent

-- the function of a scope: the first of it and those around it, from the inside out, that is a stack frame
unfoldable pub function_of : List Span → List ScopeInfo → Option ℕ → Option ℕ
function_of scopes infos scope = function_within (rank scope) scopes infos scope

-- the function of a source that a position is in
abbrev pub function_at : ScopesRecord → ℕ → ℕ → ℕ → Option ℕ
function_at s source line column = function_of s.scopes s.scope_infos (scope_at s source line column)

-- The frames of the source that a frame of the stack stands for, from the inside out; and whether it is a helper that the source does
-- not have.
pub record FramesRecord : Type 0 where
  pub frames : List ScopeFrame
  pub is_hidden : Bool

-- these frames, and those further out
abbrev pub with_frames : List ScopeFrame → FramesRecord → FramesRecord
with_frames front outer = record outer { frames = front ++ outer.frames }

-- the frame in which a body was called that was inlined, named by the function there
abbrev pub calling_frames : ScopesRecord → Option CallSite → List ScopeFrame
calling_frames s None = []
calling_frames s (Some call) = record { scope = function_at s call.source call.line call.column; call_site = Some call } ∷ []

-- The frames in which the bodies of a range and of those around it were called, up to the first range that is a stack frame of the
-- generated code. The number bounds how many are looked at.
abbrev pub callers_within : ℕ → ScopesRecord → Option ℕ → FramesRecord
callers_within zero s range = record { frames = []; is_hidden = false }
callers_within (suc n) s None = record { frames = []; is_hidden = false }
callers_within (suc n) s (Some i) =
    let info = get_or s.range_infos i no_range in
    if info.is_stack_frame then record { frames = []; is_hidden = info.is_hidden }
    else with_frames (calling_frames s info.call_site) (callers_within n s (span_at s.ranges i).parent)

-- the frames in which the bodies of a range and of those around it were called
unfoldable pub callers_of : ScopesRecord → Option ℕ → FramesRecord
callers_of s range = callers_within (rank range) s range

-- The frames at the innermost range of a position: that of the function that the range is the code of, at the position to which the
-- mappings lead, and those in which inlined bodies were called.
abbrev pub frames_of : ScopesRecord → Option ℕ → FramesRecord
frames_of s None = record { frames = []; is_hidden = false }
frames_of s (Some i) =
    with_frames (record { scope = function_of s.scopes s.scope_infos (get_or s.range_infos i no_range).definition; call_site = None } ∷ []) (callers_of s (Some i))

-- the frames at a position of the generated code, none where no range contains it
abbrev pub frames_at : ScopesRecord → ℕ → ℕ → FramesRecord
frames_at s line column = frames_of s (range_at s line column)

-- what frames are as they are returned
abbrev pub frames_record : Frames → FramesRecord
frames_record f = record { frames = f.frames.items; is_hidden = f.is_hidden }

-- a scope, by where it lies and what is said of it
abbrev pub scope_of : Span → ScopeInfo → OriginalScope
scope_of span info = record { source = span.source; start = span.start; end = span.end; name = info.name; kind = info.kind; is_stack_frame = info.is_stack_frame; parent = span.parent }

-- a range, by where it lies and what is said of it
abbrev pub range_of : Span → RangeInfo → GeneratedRange
range_of span info = record { start = span.start; end = span.end; definition = info.definition; is_stack_frame = info.is_stack_frame; is_hidden = info.is_hidden; call_site = info.call_site; parent = span.parent }

-- the scope at an index, if there is one
abbrev pub scope_seen : ScopesRecord → ℕ → Option OriginalScope
scope_seen s i = option_and_then (λ span. option_map (scope_of span) (slice_get s.scope_infos i)) (slice_get s.scopes i)

-- the range at an index, if there is one
abbrev pub range_seen : ScopesRecord → ℕ → Option GeneratedRange
range_seen s i = option_and_then (λ span. option_map (range_of span) (slice_get s.range_infos i)) (slice_get s.ranges i)

-- the variables of the scope at an index, as indices of names, if there is such a scope
abbrev pub variables_of : ScopesRecord → ℕ → Option (List ℕ)
variables_of s i = slice_get s.variables i

-- the values in the range at an index, if there is such a range
abbrev pub values_of : ScopesRecord → ℕ → Option (List Value)
values_of s i = slice_get s.values i

-- how many values there are
abbrev pub value_count : Option (List Value) → ℕ
value_count values = option_map_or length values 0

-- the value at an index, if there is one
abbrev pub value_seen : Option (List Value) → ℕ → Option Value
value_seen values k = option_and_then (λ list. slice_get list k) values

-- the name that has the expression of a value, if there is one
abbrev pub expression_of : Option Value → Option ℕ
expression_of value = option_and_then (λ v. v.expression) value

-- a piece of this variable's value starts at a place or before it
abbrev pub starts_by : ℕ → ℕ → ValuePiece → Bool
starts_by variable place piece = piece.variable == variable && nat_le (place_of piece.start) place

-- the expression of the last of these pieces, else the one before them
abbrev pub last_expression : Option ℕ → List ValuePiece → Option ℕ
last_expression before [] = before
last_expression before (piece ∷ more) = last_expression piece.expression more

-- The name that has the expression of a variable's value in a range at a position: that of the last of its pieces that starts by there,
-- else that of the whole value.
abbrev pub value_at : ScopesRecord → ℕ → ℕ → ℕ → ℕ → Option ℕ
value_at s range variable line column =
    let whole : Option ℕ = expression_of (value_seen (values_of s range) variable) in
    elim (slice_get s.pieces range) [
      | None ↦ whole
      | Some pieces ↦ last_expression whole (filter (starts_by variable (place line column)) pieces)
    ]

-- these frames were appended to the old ones
abbrev pub IsCalled : List ScopeFrame → List ScopeFrame → Bool → FramesRecord → Type 0
IsCalled old new is_hidden callers = (new ≡ old ++ callers.frames) × (is_hidden ≡ callers.is_hidden)

-- the indices of a span and those around it, from the inside out; the number bounds how many are looked at
abbrev pub around_within : ℕ → List Span → Option ℕ → List ℕ
around_within zero spans at = []
around_within (suc n) spans None = []
around_within (suc n) spans (Some i) = i ∷ around_within n spans (span_at spans i).parent

-- the indices of a span and those around it, from the inside out
unfoldable pub around : List Span → Option ℕ → List ℕ
around spans at = around_within (rank at) spans at

-- a range is the code of a scope
abbrev pub is_code_of : ℕ → RangeInfo → Bool
is_code_of scope range = option_map_or (λ i. i == scope) range.definition false

-- the first of these ranges that is the code of a scope
abbrev pub code_of : List RangeInfo → ℕ → List ℕ → Option ℕ
code_of infos scope [] = None
code_of infos scope (i ∷ more) = if is_code_of scope (get_or infos i no_range) then Some i else code_of infos scope more

-- a scope, with the first of a range and those around it that is its code
abbrev pub entry_of : ScopesRecord → Option ℕ → ℕ → ScopeChainEntry
entry_of s range i = record { scope = i; range = code_of s.range_infos i (around s.ranges range) }

-- such an entry for a scope and each of those around it, from the inside out
abbrev pub chain_of : ScopesRecord → Option ℕ → Option ℕ → List ScopeChainEntry
chain_of s scope range = map (entry_of s range) (around s.scopes scope)

-- the scope that a range is the code of
abbrev pub definition_of : ScopesRecord → Option ℕ → Option ℕ
definition_of s range = option_and_then (λ i. (get_or s.range_infos i no_range).definition) range

-- The scopes that a position of the generated code is in: that which the innermost range is the code of, and those around it.
abbrev pub scope_chain_at : ScopesRecord → ℕ → ℕ → List ScopeChainEntry
scope_chain_at s line column = chain_of s (definition_of s (range_at s line column)) (range_at s line column)

-- the innermost scope at the place of a call whose body is this range, and the range around it
abbrev pub calling_starts : ScopesRecord → ℕ → Option CallSite → List (Option ℕ × Option ℕ)
calling_starts s i None = []
calling_starts s i (Some call) = (scope_at s call.source call.line call.column, (span_at s.ranges i).parent) ∷ []

-- For the frame of each call in which the bodies of a range and of those around it were called, up to the first range that is a stack
-- frame: its innermost scope, and the range from which its values are looked for. The number bounds how many are looked at.
abbrev pub caller_starts_within : ℕ → ScopesRecord → Option ℕ → List (Option ℕ × Option ℕ)
caller_starts_within zero s range = []
caller_starts_within (suc n) s None = []
caller_starts_within (suc n) s (Some i) =
    let info = get_or s.range_infos i no_range in
    if info.is_stack_frame then [] else calling_starts s i info.call_site ++ caller_starts_within n s (span_at s.ranges i).parent

unfoldable pub caller_starts : ScopesRecord → Option ℕ → List (Option ℕ × Option ℕ)
caller_starts s range = caller_starts_within (rank range) s range

-- the same for all frames at a range: first that of the function that the range is the code of
abbrev pub frame_starts : ScopesRecord → ℕ → List (Option ℕ × Option ℕ)
frame_starts s i = (definition_of s (Some i), Some i) ∷ caller_starts s (Some i)

-- The scopes that a frame at a position of the generated code is in, by the index of the frame: its innermost scope and those around it,
-- each with the innermost range that is its code, of those that are not within a body that was called from the frame.
abbrev pub scope_chain : ScopesRecord → ℕ → ℕ → ℕ → Option (List ScopeChainEntry)
scope_chain s frame line column =
    option_map (λ start. chain_of s start.0 start.1) (option_and_then (λ i. slice_get (frame_starts s i) frame) (range_at s line column))
