-- A builder, as contracts see it.
use Rattle.std.specs.Prelude.{◌≡◌, ℕ, [], Vec}
use Rattle.std.specs.Cow.{cow_str_bytes}
use Rattle.std.specs.Str.{bytes_eq}
use Rattle.std.specs.HashMap as hash
use Rattle.std.specs.HashMap.{HashMap}
use Rattle.std.specs.declared.alloc.Global.{Global}
use Rattle.std.specs.declared.borrow.CowStr.{CowStr}
use Rattle.std.specs.Ordering.{nat_cmp}
use Rattle.std.specs.Cmp.Lexicographic.{slice_cmp}
use Rattle.std.specs.Coded.{Coded, coded_ℕ, coded_list}
use Rattle.std.specs.FinMap as fin
use Rattle.oxc_sourcemap_parts.specs.Record.{Text, MapRecord}
use Rattle.oxc_sourcemap_parts.specs.Texts.{index_of}
use Rattle.oxc_sourcemap_parts.specs.Views.{texts_of, empty_record}

-- the ids given to paths
abbrev pub Ids : Type 0
Ids = fin.FinMap (slice_cmp nat_cmp) ℕ

-- the code of the ids given to paths, which a model has to have
abbrev pub ids_code : Coded Ids
ids_code = fin.code (coded_list coded_ℕ) coded_ℕ

-- A builder: the map built so far, and the ids that `add_source_and_content` has given to paths.
pub record Built : Type 0 where
  pub map : MapRecord
  pub given : Ids

-- nothing is built, and no path has an id
abbrev pub nothing_built : Built
nothing_built = record { map = empty_record; given = fin.from_entries [] }

-- The hash map has the index of each text among these, and no other text. No public contract cites it.
abbrev pub HasIndices : {S : Type 0} → Vec (CowStr Global) Global → HashMap (CowStr Global) ℕ S → Type 0
HasIndices texts ids = (text : Text) → hash.get_by (λ key. bytes_eq text (cow_str_bytes key)) ids ≡ index_of text (texts_of texts)
