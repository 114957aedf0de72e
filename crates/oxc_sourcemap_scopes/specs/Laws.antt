-- Laws of scopes: what is found from the innermost outward is what contains a position.
use Rattle.std.specs.Prelude.{◌≡◌, ℕ, zero, suc, false, List, [], ◌∷◌, length, get_or}
use Rattle.std.specs.Prelude.{Option, Some, None, ◌<◌, IfSome, IfOk, slice_get}
use Rattle.std.specs.Prelude.{if◌then◌else◌}
use Rattle.std.specs.List.{All}
use Rattle.oxc_sourcemap_scopes.specs.declared.scopes.Span.{Span}
use Rattle.oxc_sourcemap_scopes.specs.declared.scopes.Value.{Value}
use Rattle.oxc_sourcemap_scopes.specs.declared.scopes.ValuePiece.{ValuePiece}
use Rattle.oxc_sourcemap_scopes.specs.Trees.{span_at, contains}
use Rattle.oxc_sourcemap_scopes.specs.Reading.{ScopesRecord, AreSound, scopes_of}
use Rattle.oxc_sourcemap_scopes.specs.Asking.{place, scope_at, range_at, function_at, frames_at}
use Rattle.oxc_sourcemap_scopes.specs.Asking.{no_scope, FramesRecord, with_frames, calling_frames}
use Rattle.oxc_sourcemap_scopes.specs.Asking.{function_of, around}
use Rattle.oxc_sourcemap_scopes.specs.Items.{no_range}
use Rattle.oxc_sourcemap_scopes.specs.declared.scopes.ScopeInfo.{ScopeInfo}

-- the indices below this number of the spans that contain a place of a source, the last first: from the inside out
abbrev pub containing_below : ℕ → List Span → ℕ → ℕ → List ℕ
containing_below zero spans source place = []
containing_below (suc i) spans source place =
    if contains source place (span_at spans i) then i ∷ containing_below i spans source place
    else containing_below i spans source place

-- the indices of all spans that contain a place of a source, from the inside out
abbrev pub containing : List Span → ℕ → ℕ → List ℕ
containing spans source place = containing_below (length spans) spans source place

-- The innermost range at a position and those around it are all ranges that contain it.
abbrev pub RangesAround : Type 0
RangesAround = (s : ScopesRecord) (line column : ℕ) → AreSound s
    → around s.ranges (range_at s line column) ≡ containing s.ranges 0 (place line column)

-- The innermost scope at a position of a source and those around it are all scopes of the source that contain it.
abbrev pub ScopesAround : Type 0
ScopesAround = (s : ScopesRecord) (source line column : ℕ) → AreSound s
    → around s.scopes (scope_at s source line column) ≡ containing s.scopes source (place line column)

-- the first of these scopes that is a stack frame
abbrev pub first_function : List ScopeInfo → List ℕ → Option ℕ
first_function infos [] = None
first_function infos (i ∷ more) = if (get_or infos i no_scope).is_stack_frame then Some i else first_function infos more

-- A position is in the function that is the innermost of the scopes that contain it and are stack frames.
abbrev pub FunctionsContain : Type 0
FunctionsContain = (s : ScopesRecord) (source line column : ℕ) → AreSound s
    → function_at s source line column ≡ first_function s.scope_infos (containing s.scopes source (place line column))

-- the frames in which the bodies of these ranges were called, up to the first that is a stack frame
abbrev pub callers_in : ScopesRecord → List ℕ → FramesRecord
callers_in s [] = record { frames = []; is_hidden = false }
callers_in s (i ∷ more) =
    let info = get_or s.range_infos i no_range in
    if info.is_stack_frame then record { frames = []; is_hidden = info.is_hidden }
    else with_frames (calling_frames s info.call_site) (callers_in s more)

-- the frames at these ranges, from the inside out: that of the function that the first is the code of, and those of calls
abbrev pub frames_in : ScopesRecord → List ℕ → FramesRecord
frames_in s [] = record { frames = []; is_hidden = false }
frames_in s (i ∷ more) =
    with_frames (record { scope = function_of s.scopes s.scope_infos (get_or s.range_infos i no_range).definition; call_site = None } ∷ [])
    (callers_in s (i ∷ more))

-- The frames at a position are those at all ranges that contain it.
abbrev pub FramesContain : Type 0
FramesContain = (s : ScopesRecord) (line column : ℕ) → AreSound s
    → frames_at s line column ≡ frames_in s (containing s.ranges 0 (place line column))

-- a scope's name and its kind, if it has them, are among so many names
pub record IsNamed (names : ℕ) (info : ScopeInfo) : Type 0 where
  pub name : IfSome info.name (λ i. i < names)
  pub kind : IfSome info.kind (λ i. i < names)

-- those of all scopes
abbrev pub AreNamed : ℕ → List ScopeInfo → Type 0
AreNamed names infos = (i : ℕ) → (info : ScopeInfo) → slice_get infos i ≡ Some info → IsNamed names info

-- each scope lies in one of the sources that are counted
abbrev pub AreCounted : ScopesRecord → Type 0
AreCounted s = (i : ℕ) → i < length s.scopes → (span_at s.scopes i).source < s.sources

-- The sources of scopes that were read are below their number.
abbrev pub SourcesLead : Type 0
SourcesLead = (text : List ℕ) (names : ℕ) → IfOk (scopes_of text names) AreCounted

-- The names and the kinds of scopes that were read are below the number of names.
abbrev pub NamesLead : Type 0
NamesLead = (text : List ℕ) (names : ℕ) → IfOk (scopes_of text names) (λ s. AreNamed names s.scope_infos)

-- a value has the expression of one of so many names, or none
abbrev pub IsValueNamed : ℕ → Value → Type 0
IsValueNamed names value = IfSome value.expression (λ i. i < names)

-- a piece has the expression of one of so many names, or none
abbrev pub IsPieceNamed : ℕ → ValuePiece → Type 0
IsPieceNamed names piece = IfSome piece.expression (λ i. i < names)

-- variables, the expressions of values and those of their pieces are among so many names
pub record AreBound (names : ℕ) (s : ScopesRecord) : Type 0 where
  pub variables : All (All (λ i. i < names)) s.variables
  pub values : All (All (IsValueNamed names)) s.values
  pub pieces : All (All (IsPieceNamed names)) s.pieces

-- The variables of scopes that were read, and the expressions of values, are below the number of names.
abbrev pub ValuesLead : Type 0
ValuesLead = (text : List ℕ) (names : ℕ) → IfOk (scopes_of text names) (AreBound names)
