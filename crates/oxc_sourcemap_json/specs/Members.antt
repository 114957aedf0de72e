-- What the members of a stored JSON object stand for.
use Rattle.std.specs.Prelude.{ℕ, List, Option, option_map, String}
use Rattle.std.specs.Borrow.{Bor}
use Rattle.std.specs.declared.alloc.Global.{Global}
use Rattle.serde_json.specs.Data.{Data}
use Rattle.serde_json.specs.Find.{get_member}
use Rattle.serde_json.specs.View.{view, members_view}
use Rattle.serde_json.specs.declared.value.Value.{Value}

-- a borrowed member, if there is one
abbrev pub lent_member : Option (Bor Value) → Option Data
lent_member member = option_map (λ value. view value.now) member

-- the member of this key, if there is one
abbrev pub member_in : List ℕ → List (String Global × Value) → Option Data
member_in key entries = get_member key (members_view entries)
