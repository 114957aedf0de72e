-- A builder after a call, and the id that the call returns.
use Rattle.std.specs.Prelude.{ℕ, [], ◌∷◌, ◌++◌, ◌≤◌, length, Option, Some, None, IsNone, ◌≡◌, ◌↔◌}
use Rattle.std.specs.Prelude.{◌⊎◌, Result, IsErrOf, IfOk, IfErr, OnErr}
use Rattle.std.specs.FinMap as fin
use Rattle.oxc_sourcemap_tokens.specs.declared.errors.error.Error.{Error}
use Rattle.oxc_sourcemap_tokens.specs.declared.errors.error.Error.TheVariants.{OutOfMemory}
use Rattle.oxc_sourcemap_tokens.specs.declared.errors.error.Error.TheVariants.{TooLarge}
use Rattle.oxc_sourcemap_parts.specs.Record.{Text, MapRecord}
use Rattle.oxc_sourcemap_parts.specs.Texts.{index_of}
use Rattle.oxc_sourcemap_map.specs.Built.{Built}

-- a builder to which a name is added: an equal name keeps its id, given here if there is one; else it is the new last one
abbrev pub with_name_at : Built → Text → Option ℕ → Built × ℕ
with_name_at b name (Some id) = (b, id)
with_name_at b name None = (record b { map = record b.map { names = b.map.names ++ name ∷ [] } }, length b.map.names)

abbrev pub with_name : Built → Text → Built × ℕ
with_name b name = with_name_at b name (index_of name b.map.names)

-- a map with one source more, and its content, if it is known
abbrev pub with_listed_source : MapRecord → Text → Option Text → MapRecord
with_listed_source r path content = record r { sources = r.sources ++ path ∷ []; source_contents = r.source_contents ++ content ∷ [] }

-- a map with one source more, and its content
abbrev pub with_source : MapRecord → Text → Text → MapRecord
with_source r path content = with_listed_source r path (Some content)

-- a builder with a new last source; the ids given to paths stay as they are
abbrev pub with_another_source : Built → Text → Text → Built × ℕ
with_another_source b path content = (record b { map = with_source b.map path content }, length b.map.sources)

-- a builder to which a source is added by its path: a path that was given an id keeps it; else the source is the new last one,
-- and its id is given to the path
abbrev pub with_path_at : Built → Text → Option Text → Option ℕ → Built × ℕ
with_path_at b path content (Some id) = (b, id)
with_path_at b path content None =
    (record { map = with_listed_source b.map path content; given = fin.insert b.given path (length b.map.sources) }, length b.map.sources)

-- the same of a source with a content
abbrev pub with_path : Built → Text → Text → Built × ℕ
with_path b path content = with_path_at b path (Some content) (fin.get b.given path)

-- the same of a source without a content
abbrev pub with_bare_path : Built → Text → Built × ℕ
with_bare_path b path = with_path_at b path None (fin.get b.given path)

-- a builder has no id for a name: there is no equal name, and one more name would be too many
abbrev pub HasNoIdForName : Built → Text → Type 0
HasNoIdForName b name = IsNone (index_of name b.map.names) × (4294967295 ≤ length b.map.names)

-- a builder has no id for one more source
abbrev pub HasNoIdForSource : Built → Type 0
HasNoIdForSource b = 4294967295 ≤ length b.map.sources

-- a builder has no id for a source by its path: the path was given none, and one more source would be too many
abbrev pub HasNoIdForPath : Built → Text → Type 0
HasNoIdForPath b path = IsNone (fin.get b.given path) × HasNoIdForSource b

-- What an add of a name or a source to a builder gives: at Ok the builder with it and its id; `TooLarge` exactly if the builder has
-- no id for it, and no error but that and `OutOfMemory`; at an error the builder as it was.
pub record GivesId (result : Result ℕ Error) (old new : Built) (with_id : Built × ℕ) (HasNoId : Type 0) : Type 0 where
  pub added : IfOk result (λ id. (new, id) ≡ with_id)
  pub too_large : IsErrOf result TooLarge ↔ HasNoId
  pub error : IfErr result (λ e. (e ≡ OutOfMemory) ⊎ (e ≡ TooLarge))
  pub unchanged : OnErr result (new ≡ old)
