-- The ids of names stay as they are.
use Rattle.std.proofs.Common.{◌≡◌, refl, ◌∙◌, ap, sym, ℕ, List, [], ◌∷◌, Option, Some, None}
use Rattle.std.specs.FinMap as fin
use Rattle.oxc_sourcemap_parts.specs.Record.{Text}
use Rattle.oxc_sourcemap_parts.specs.Texts.{index_of}
use Rattle.oxc_sourcemap_parts.proofs.Places.{index-last, index-front, same_place}
use Rattle.oxc_sourcemap_map.specs.Built.{Built}
use Rattle.oxc_sourcemap_map.specs.Building.{with_name, with_name_at, with_path_at}
use Rattle.oxc_sourcemap_map.specs.NameLaws.{Call, AddName, AddSource, SetSource, AddToken}
use Rattle.oxc_sourcemap_map.specs.NameLaws.{AddBareSource, AddTokens, SetFile, SetChunks}
use Rattle.oxc_sourcemap_map.specs.NameLaws.{after_call, after_calls, EqualIdsForEqualNames}

-- the id of a name that was added is its index
placed-at : (o : Option ℕ) (b : Built) (name : Text) → index_of name b.map.names ≡ o → index_of name (with_name_at b name o).0.map.names ≡ Some (with_name_at b name o).1
placed-at (Some id) b name e = e
placed-at None b name e = index-last name b.map.names e

placed : (b : Built) (name : Text) → index_of name (with_name b name).0.map.names ≡ Some (with_name b name).1
placed b name = placed-at (index_of name b.map.names) b name refl

-- no call changes the index of a name
stays-with_name : (o : Option ℕ) (b : Built) (other name : Text) (id : ℕ) → index_of name b.map.names ≡ Some id → index_of name (with_name_at b other o).0.map.names ≡ Some id
stays-with_name (Some i) b other name id e = e
stays-with_name None b other name id e = index-front name id b.map.names (other ∷ []) e

stays-with_path : (o : Option ℕ) (b : Built) (path : Text) (content : Option Text) (name : Text) (id : ℕ) → index_of name b.map.names ≡ Some id → index_of name (with_path_at b path content o).0.map.names ≡ Some id
stays-with_path (Some i) b path content name id e = e
stays-with_path None b path content name id e = e

stays : (call : Call) (b : Built) (name : Text) (id : ℕ) → index_of name b.map.names ≡ Some id → index_of name (after_call b call).map.names ≡ Some id
stays (AddName other) b name id e = stays-with_name (index_of other b.map.names) b other name id e
stays (AddSource path content) b name id e = stays-with_path (fin.get b.given path) b path (Some content) name id e
stays (AddBareSource path) b name id e = stays-with_path (fin.get b.given path) b path None name id e
stays (SetSource path content) b name id e = e
stays (AddToken token) b name id e = e
stays (AddTokens tokens) b name id e = e
stays (SetFile file) b name id e = e
stays (SetChunks chunks) b name id e = e

stays-all : (calls : List Call) (b : Built) (name : Text) (id : ℕ) → index_of name b.map.names ≡ Some id → index_of name (after_calls b calls).map.names ≡ Some id
stays-all [] b name id e = e
stays-all (call ∷ calls) b name id e = stays-all calls (after_call b call) name id (stays call b name id e)

pub equal_ids : EqualIdsForEqualNames
equal_ids b name other calls =
    let c = after_calls (with_name b name).0 calls in
    let names = (with_name c other).0.map.names in
    let first : index_of name names ≡ Some (with_name b name).1 = stays (AddName other) c name (with_name b name).1 (stays-all calls (with_name b name).0 name (with_name b name).1 (placed b name)) in
    let second : index_of other names ≡ Some (with_name c other).1 = placed c other in (
      (λ e. same_place name other (with_name b name).1 names first (second ∙ ap (λ id. Some id) (sym e))),
      (λ e. cc (sym first ∙ ap (λ t. index_of t names) e ∙ second)),
    )
