-- A handle, as contracts see it: what it holds. Rattle has one type of handle and C has seven, so a handle may also hold what a call
-- does not take.
use Rattle.std.specs.Prelude.{ℕ, List, Option, Some, None, string_bytes, MatchOption}
use Rattle.oxc_sourcemap_parts.specs.Record.{Text, MapRecord}
use Rattle.oxc_sourcemap_map.specs.Built.{Built}
use Rattle.oxc_sourcemap_c.specs.Indices.{Loaded}
use Rattle.oxc_sourcemap_found.specs.declared.mending.mend.Mend.{Mend}
use Rattle.oxc_sourcemap_scopes.specs.Reading.{ScopesRecord}
use Rattle.oxc_sourcemap_c.specs.declared.holding.held.Held.{Held}
use Rattle.oxc_sourcemap_c.specs.declared.holding.held.Held.TheVariants.{Map, Written}
use Rattle.oxc_sourcemap_c.specs.declared.holding.held.Held.TheVariants.{Building, Joining}
use Rattle.oxc_sourcemap_c.specs.declared.holding.held.Held.TheVariants.{Mended, Bytes}
use Rattle.oxc_sourcemap_c.specs.declared.holding.held.Held.TheVariants.{Compiled, Scopes, Shared}
use Rattle.oxc_sourcemap_c.specs.declared.numbers.call_error.CallError.{CallError}
use Rattle.oxc_sourcemap_c.specs.declared.numbers.call_error.CallError.TheVariants.{NullHandle}
use Rattle.oxc_sourcemap_c.specs.declared.numbers.call_error.CallError.TheVariants.{Shared as SharedError}

-- the map that a handle holds, if it holds one, with what is kept beside it
abbrev pub held_loaded : Option Held → Option Loaded
held_loaded None = None
held_loaded (Some (Map l)) = Some l
held_loaded (Some (Written text)) = None
held_loaded (Some (Building b)) = None
held_loaded (Some (Joining j)) = None
held_loaded (Some (Mended mends)) = None
held_loaded (Some (Bytes bytes)) = None
held_loaded (Some (Compiled c)) = None
held_loaded (Some (Scopes s)) = None
held_loaded (Some (Shared a)) = Some a.value

-- the map that a handle holds, if it holds one
abbrev pub held_map : Option Held → Option MapRecord
held_map None = None
held_map (Some (Map l)) = Some l.map
held_map (Some (Written text)) = None
held_map (Some (Building b)) = None
held_map (Some (Joining j)) = None
held_map (Some (Mended mends)) = None
held_map (Some (Bytes bytes)) = None
held_map (Some (Compiled c)) = None
held_map (Some (Scopes s)) = None
held_map (Some (Shared a)) = Some a.value.map

-- the map that a handle holds and a call may change, if it holds one: none that is shared
abbrev pub own_loaded : Option Held → Option Loaded
own_loaded None = None
own_loaded (Some (Map l)) = Some l
own_loaded (Some (Written text)) = None
own_loaded (Some (Building b)) = None
own_loaded (Some (Joining j)) = None
own_loaded (Some (Mended mends)) = None
own_loaded (Some (Bytes bytes)) = None
own_loaded (Some (Compiled c)) = None
own_loaded (Some (Scopes s)) = None
own_loaded (Some (Shared a)) = None

-- the same without what is kept beside it
abbrev pub own_map : Option Held → Option MapRecord
own_map None = None
own_map (Some (Map l)) = Some l.map
own_map (Some (Written text)) = None
own_map (Some (Building b)) = None
own_map (Some (Joining j)) = None
own_map (Some (Mended mends)) = None
own_map (Some (Bytes bytes)) = None
own_map (Some (Compiled c)) = None
own_map (Some (Scopes s)) = None
own_map (Some (Shared a)) = None

-- the shared map that a handle holds, if it holds one, with what is kept beside it
abbrev pub shared_loaded : Option Held → Option Loaded
shared_loaded None = None
shared_loaded (Some (Map l)) = None
shared_loaded (Some (Written text)) = None
shared_loaded (Some (Building b)) = None
shared_loaded (Some (Joining j)) = None
shared_loaded (Some (Mended mends)) = None
shared_loaded (Some (Bytes bytes)) = None
shared_loaded (Some (Compiled c)) = None
shared_loaded (Some (Scopes s)) = None
shared_loaded (Some (Shared a)) = Some a.value

-- the error of a call that changes a map, where a handle holds none that it may change
abbrev pub why_not : Option Held → CallError
why_not None = NullHandle
why_not (Some (Map l)) = NullHandle
why_not (Some (Written text)) = NullHandle
why_not (Some (Building b)) = NullHandle
why_not (Some (Joining j)) = NullHandle
why_not (Some (Mended mends)) = NullHandle
why_not (Some (Bytes bytes)) = NullHandle
why_not (Some (Compiled c)) = NullHandle
why_not (Some (Scopes s)) = NullHandle
why_not (Some (Shared a)) = SharedError

-- the text that a handle holds, or the bytes of a compiled map, if it holds one
abbrev pub held_text : Option Held → Option Text
held_text None = None
held_text (Some (Map m)) = None
held_text (Some (Written text)) = Some (string_bytes text)
held_text (Some (Building b)) = None
held_text (Some (Joining j)) = None
held_text (Some (Mended mends)) = None
held_text (Some (Bytes bytes)) = Some bytes.items
held_text (Some (Compiled c)) = None
held_text (Some (Scopes s)) = None
held_text (Some (Shared a)) = None

-- the builder that a handle holds, if it holds one
abbrev pub held_builder : Option Held → Option Built
held_builder None = None
held_builder (Some (Map m)) = None
held_builder (Some (Written text)) = None
held_builder (Some (Building b)) = Some b.value
held_builder (Some (Joining j)) = None
held_builder (Some (Mended mends)) = None
held_builder (Some (Bytes bytes)) = None
held_builder (Some (Compiled c)) = None
held_builder (Some (Scopes s)) = None
held_builder (Some (Shared a)) = None

-- the join so far that a handle holds, if it holds one
abbrev pub held_join : Option Held → Option MapRecord
held_join None = None
held_join (Some (Map m)) = None
held_join (Some (Written text)) = None
held_join (Some (Building b)) = None
held_join (Some (Joining j)) = Some j
held_join (Some (Mended mends)) = None
held_join (Some (Bytes bytes)) = None
held_join (Some (Compiled c)) = None
held_join (Some (Scopes s)) = None
held_join (Some (Shared a)) = None

-- the mends that a handle holds, if it holds them
abbrev pub held_mends : Option Held → Option (List Mend)
held_mends None = None
held_mends (Some (Map m)) = None
held_mends (Some (Written text)) = None
held_mends (Some (Building b)) = None
held_mends (Some (Joining j)) = None
held_mends (Some (Mended mends)) = Some mends.items
held_mends (Some (Bytes bytes)) = None
held_mends (Some (Compiled c)) = None
held_mends (Some (Scopes s)) = None
held_mends (Some (Shared a)) = None

-- the bytes of the compiled map that is open in a handle, if there is one
abbrev pub held_compiled : Option Held → Option (List ℕ)
held_compiled None = None
held_compiled (Some (Map m)) = None
held_compiled (Some (Written text)) = None
held_compiled (Some (Building b)) = None
held_compiled (Some (Joining j)) = None
held_compiled (Some (Mended mends)) = None
held_compiled (Some (Bytes bytes)) = None
held_compiled (Some (Compiled c)) = Some c
held_compiled (Some (Scopes s)) = None
held_compiled (Some (Shared a)) = None

-- the scopes that a handle holds, if it holds them
abbrev pub held_scopes : Option Held → Option ScopesRecord
held_scopes None = None
held_scopes (Some (Map m)) = None
held_scopes (Some (Written text)) = None
held_scopes (Some (Building b)) = None
held_scopes (Some (Joining j)) = None
held_scopes (Some (Mended mends)) = None
held_scopes (Some (Bytes bytes)) = None
held_scopes (Some (Compiled c)) = None
held_scopes (Some (Scopes s)) = Some s
held_scopes (Some (Shared a)) = None

-- a handle holds a map of which this holds
abbrev pub HoldsMap : Option Held → (MapRecord → Type 0) → Type 0
HoldsMap held P = MatchOption (held_map held) ⊥ P

-- a handle holds a map that a call may change, and this holds of it
abbrev pub HoldsOwn : Option Held → (MapRecord → Type 0) → Type 0
HoldsOwn held P = MatchOption (own_map held) ⊥ P
