-- Calls that change the map that a handle holds, and their errors.
use Rattle.std.specs.Prelude.{◌≡◌, Option, Some, Ok, MatchOption, IsNone, IsUtf8, true, false}
use Rattle.oxc_sourcemap_tokens.specs.Results.{lent_items}
use Rattle.oxc_sourcemap_parts.specs.Record.{MapRecord}
use Rattle.oxc_sourcemap_parts.specs.Roots.{rooted}
use Rattle.oxc_sourcemap_parts.specs.Sorted.{are_tokens_sorted}
use Rattle.oxc_sourcemap_steps.specs.Sorting.{sorted_map}
use Rattle.oxc_sourcemap_steps.specs.Simplified.{simplification}
use Rattle.oxc_sourcemap_c.specs.declared.numbers.call_error.CallError.{CallError}
use Rattle.oxc_sourcemap_c.specs.declared.making.changing.Change.{Change}
use Rattle.oxc_sourcemap_c.specs.declared.making.changing.Change.TheVariants.{File, SourceRoot}
use Rattle.oxc_sourcemap_c.specs.declared.making.changing.Change.TheVariants.{DebugId, IgnoreList}
use Rattle.oxc_sourcemap_c.specs.declared.making.changing.Change.TheVariants.{Sources}
use Rattle.oxc_sourcemap_c.specs.declared.making.changing.Change.TheVariants.{SourceContents}
use Rattle.oxc_sourcemap_c.specs.declared.making.changing.Change.TheVariants.{ApplySourceRoot, Sort}
use Rattle.oxc_sourcemap_c.specs.declared.making.changing.Change.TheVariants.{Simplify}
use Rattle.oxc_sourcemap_c.specs.declared.holding.held.Held.{Held}
use Rattle.oxc_sourcemap_c.specs.CallErrors.{IsNotText, IsSimplifyError, IsUnsorted}
use Rattle.oxc_sourcemap_c.specs.Holding.{own_map, own_loaded, why_not}
use Rattle.oxc_sourcemap_c.specs.Indices.{Loaded}
use Rattle.oxc_sourcemap_c.specs.Lists.{AreTexts, IsNotTexts, known_texts, AreContents}
use Rattle.oxc_sourcemap_c.specs.Lists.{IsNotContents}

-- a handle holds a map before a call and one after it, both not shared, and this holds of the two
abbrev pub Changes : Option Held → Option Held → (Loaded → Loaded → Type 0) → Type 0
Changes old new P = MatchOption (own_loaded old) ⊥ (λ l. MatchOption (own_loaded new) ⊥ (λ n. P l n))

-- an error of a call that changes the map in a handle: the handle holds none or a shared one, or this is an error of the call
abbrev pub IsMapError : Option Held → (MapRecord → CallError → Type 0) → CallError → Type 0
IsMapError held IsOther r = MatchOption (own_map held) (r ≡ why_not held) (λ m. IsOther m r)

-- the error of a call that changes the map in a handle that holds none or a shared one
abbrev pub IsUnchangeable : Option Held → CallError → Type 0
IsUnchangeable held r = IsNone (own_map held) × (r ≡ why_not held)

-- a map and the map after a change; its indices stay, but for a change of tokens
abbrev pub IsChange : Change → Loaded → Loaded → Type 0
IsChange (File file) l n = IsUtf8 file.now × (n ≡ record l { map = record l.map { file = Some file.now } })
IsChange (SourceRoot root) l n = IsUtf8 root.now × (n ≡ record l { map = record l.map { source_root = Some root.now } })
IsChange (DebugId id) l n = IsUtf8 id.now × (n ≡ record l { map = record l.map { debug_id = Some id.now } })
IsChange (IgnoreList ids) l n = n ≡ record l { map = record l.map { ignore_list = Some ids.now } }
IsChange (Sources sources) l n = AreTexts (lent_items sources.now) × (n ≡ record l { map = record l.map { sources = lent_items sources.now } })
IsChange (SourceContents contents known) l n =
    AreContents (known_texts (lent_items contents.now) known.now) × (n ≡ record l { map = record l.map { source_contents = known_texts (lent_items contents.now) known.now } })
IsChange ApplySourceRoot l n = n ≡ record l { map = rooted l.map }
IsChange Sort l n = (n.map ≡ sorted_map l.map) × (n.has_order ≡ false)
IsChange Simplify l n = (simplification l.map ≡ Ok n.map) × (n.has_order ≡ false)

-- an error of a change, but for want of memory
abbrev pub IsChangeError : Change → MapRecord → CallError → Type 0
IsChangeError (File file) m r = IsNotText file.now r
IsChangeError (SourceRoot root) m r = IsNotText root.now r
IsChangeError (DebugId id) m r = IsNotText id.now r
IsChangeError (IgnoreList ids) m r = ⊥
IsChangeError (Sources sources) m r = IsNotTexts (lent_items sources.now) r
IsChangeError (SourceContents contents known) m r = IsNotContents (known_texts (lent_items contents.now) known.now) r
IsChangeError ApplySourceRoot m r = ⊥
IsChangeError Sort m r = ⊥
IsChangeError Simplify m r = IsSimplifyError m r

-- an error of a change that is met before any memory is taken
abbrev pub IsSureError : Change → MapRecord → CallError → Type 0
IsSureError (File file) m r = IsNotText file.now r
IsSureError (SourceRoot root) m r = IsNotText root.now r
IsSureError (DebugId id) m r = IsNotText id.now r
IsSureError (IgnoreList ids) m r = ⊥
IsSureError (Sources sources) m r = ⊥
IsSureError (SourceContents contents known) m r = ⊥
IsSureError ApplySourceRoot m r = ⊥
IsSureError Sort m r = ⊥
IsSureError Simplify m r = IsUnsorted m r

-- a change of this map that cannot fail for want of memory
abbrev pub NeedsNoMemory : Change → MapRecord → Type 0
NeedsNoMemory Sort m = are_tokens_sorted m.tokens ≡ true
NeedsNoMemory change m = ⊥
