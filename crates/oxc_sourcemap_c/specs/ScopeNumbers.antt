-- Scopes, ranges and frames, as C reads them.
use Rattle.std.specs.Prelude.{ℕ, length, Option, Some, None}
use Rattle.std.specs.Option.{option_and_then}
use Rattle.oxc_sourcemap_scopes.specs.Reading.{ScopesRecord}
use Rattle.oxc_sourcemap_scopes.specs.Asking.{scope_seen}
use Rattle.oxc_sourcemap_scopes.specs.declared.frames.OriginalScope.{OriginalScope}
use Rattle.oxc_sourcemap_scopes.specs.declared.frames.GeneratedRange.{GeneratedRange}
use Rattle.oxc_sourcemap_scopes.specs.declared.scopes.CallSite.{CallSite}
use Rattle.oxc_sourcemap_scopes.specs.declared.scopes.ScopeFrame.{ScopeFrame}
use Rattle.oxc_sourcemap_scopes.specs.declared.chains.ScopeChainEntry.{ScopeChainEntry}
use Rattle.oxc_sourcemap_c.specs.declared.texts.scopes.ScopesCounts.{ScopesCounts}
use Rattle.oxc_sourcemap_c.specs.declared.texts.scopes.ScopeNumbers.{ScopeNumbers}
use Rattle.oxc_sourcemap_c.specs.declared.texts.scopes.RangeNumbers.{RangeNumbers}
use Rattle.oxc_sourcemap_c.specs.declared.texts.scopes.CallNumbers.{CallNumbers}
use Rattle.oxc_sourcemap_c.specs.declared.texts.scopes.FrameNumbers.{FrameNumbers}
use Rattle.oxc_sourcemap_c.specs.declared.texts.scopes.ChainEntryNumbers.{ChainEntryNumbers}
use Rattle.oxc_sourcemap_c.specs.Answers.{flag_of}
use Rattle.oxc_sourcemap_c.specs.Structs.{index_number, number_or_none}

-- how many sources, scopes and ranges there are
abbrev pub scopes_counts_of : ScopesRecord → ScopesCounts
scopes_counts_of s = record { sources = s.sources; scopes = length s.scopes; ranges = length s.ranges }

-- the numbers of a scope
abbrev pub scope_numbers : OriginalScope → ScopeNumbers
scope_numbers o = record {
  source = o.source;
  start = o.start;
  end = o.end;
  name = number_or_none o.name;
  kind = number_or_none o.kind;
  is_stack_frame = flag_of o.is_stack_frame;
  parent = index_number o.parent;
}

-- the numbers of the place of a call, 4294967295 three times for none
abbrev pub call_numbers : Option CallSite → CallNumbers
call_numbers None = record { source = 4294967295; line = 4294967295; column = 4294967295 }
call_numbers (Some call) = record { source = call.source; line = call.line; column = call.column }

-- the numbers of a range
abbrev pub range_numbers : GeneratedRange → RangeNumbers
range_numbers r = record {
  start = r.start;
  end = r.end;
  definition = number_or_none r.definition;
  is_stack_frame = flag_of r.is_stack_frame;
  is_hidden = flag_of r.is_hidden;
  call = call_numbers r.call_site;
  parent = index_number r.parent;
}

-- the id of the name of a scope
abbrev pub name_of_scope : ScopesRecord → Option ℕ → Option ℕ
name_of_scope s scope = option_and_then (λ o. o.name) (option_and_then (scope_seen s) scope)

-- the numbers of a frame
abbrev pub frame_numbers : ScopesRecord → ScopeFrame → FrameNumbers
frame_numbers s f = record {
  name = number_or_none (name_of_scope s f.scope);
  scope = index_number f.scope;
  call = call_numbers f.call_site;
}

-- the numbers of an entry of a chain of scopes
abbrev pub chain_entry_numbers : ScopeChainEntry → ChainEntryNumbers
chain_entry_numbers e = record { scope = index_number (Some e.scope); range = index_number e.range }
