-- The fields of an object, from what is held for its keys.
use Rattle.std.proofs.Common.{◌≡◌, ◌<◌, ℕ, suc, List, [], ◌∷◌, Option, Some, None, Ok, map}
use Rattle.std.proofs.Common.{option_map, codes, string_bytes, String, Vec, Global, refl, sym, ap}
use Rattle.std.proofs.Common.{◌∙◌, arith}
use Rattle.std.specs.List.{All}
use Rattle.std.specs.Option.{unwrap_or, option_or}
use Rattle.std.specs.Cow.{cow_str_bytes}
use Rattle.std.specs.declared.borrow.CowStr.{CowStr}
use Rattle.serde_json.specs.Data.{string, number, unsigned, object, Members}
use Rattle.serde_json.specs.Find.{as_str, get_member}
use Rattle.oxc_sourcemap_tokens.specs.declared.errors.error.Field.{Field}
use Rattle.oxc_sourcemap_tokens.specs.declared.errors.error.Field.TheVariants.{File, Mappings}
use Rattle.oxc_sourcemap_tokens.specs.declared.errors.error.Field.TheVariants.{SourceRoot, Sources}
use Rattle.oxc_sourcemap_tokens.specs.declared.errors.error.Field.TheVariants.{SourcesContent}
use Rattle.oxc_sourcemap_tokens.specs.declared.errors.error.Field.TheVariants.{Names, DebugId}
use Rattle.oxc_sourcemap_tokens.specs.declared.errors.error.Field.TheVariants.{IgnoreList}
use Rattle.oxc_sourcemap_tokens.specs.declared.errors.error.Field.TheVariants.{GoogleIgnoreList}
use Rattle.oxc_sourcemap_parts.specs.Views.{texts_of, contents_of}
use Rattle.oxc_sourcemap_json.specs.Shape.{all_items, onto_read, as_content, as_id, text_in}
use Rattle.oxc_sourcemap_json.specs.Shape.{texts_in, ◌>>=◌, contents_in, optional, required}
use Rattle.oxc_sourcemap_json.specs.Shape.{present, names_of, version_of, ignore_list_of}
use Rattle.oxc_sourcemap_json.specs.Shape.{or_misshapen, shape}
use Rattle.oxc_sourcemap_json.specs.Usual.{items_of, text_data, content_data, texts_data}
use Rattle.oxc_sourcemap_json.specs.Usual.{contents_data, ids_data, AreIds}

all_texts : (ss : List (List ℕ)) → all_items as_str (items_of (map string ss)) ≡ Some ss
all_texts [] = refl
all_texts (s ∷ ss) = ap (onto_read (Some s)) (all_texts ss)

content_of_data : (o : Option (List ℕ)) → as_content (content_data o) ≡ Some o
content_of_data None = refl
content_of_data (Some s) = refl

all_contents : (os : List (Option (List ℕ))) → all_items as_content (items_of (map content_data os)) ≡ Some os
all_contents [] = refl
all_contents (o ∷ os) = ap (λ r. onto_read r (all_items as_content (items_of (map content_data os)))) (content_of_data o) ∙ ap (onto_read (Some o)) (all_contents os)

pub texts_read : (field : Field) (ss : List (List ℕ)) → texts_in field (texts_data ss) ≡ Ok ss
texts_read field ss = ap (or_misshapen field) (all_texts ss)

pub text_read : (field : Field) (o : Option (String Global)) → optional (text_in field) (present (option_map text_data o)) ≡ Ok (option_map string_bytes o)
text_read field None = refl
text_read field (Some s) = refl

pub contents_read : (o : Option (Vec (Option (CowStr Global)) Global))
    → optional (contents_in SourcesContent) (present (option_map (λ contents. contents_data (contents_of contents)) o)) ≡ Ok (option_map contents_of o)
contents_read None = refl
contents_read (Some os) = ap (λ r. optional (λ d. or_misshapen SourcesContent r) (Some (contents_data (contents_of os)))) (all_contents (contents_of os))

small_id : (id : ℕ) → id < 4294967296 → as_id (number (unsigned id)) ≡ Some id
small_id id small = grind (arith, small)

all_ids : (ids : List ℕ) → All (λ id. id < 4294967296) ids → all_items as_id (items_of (map (λ id. number (unsigned id)) ids)) ≡ Some ids
all_ids [] small = refl
all_ids (id ∷ ids) small =
    ap (λ r. onto_read r (all_items as_id (items_of (map (λ i. number (unsigned i)) ids)))) (small_id id (small 0 0 (omega arith)))
    ∙ ap (onto_read (Some id)) (all_ids ids (λ k d less. small (suc k) d (omega (arith, less))))

-- the ignore lists, as they are read
pub ids_read : (list older : Option (Vec ℕ Global)) → AreIds list → AreIds older
    → ignore_list_of (present (option_map (λ ids. ids_data ids.items) list)) (present (option_map (λ ids. ids_data ids.items) older))
    ≡ Ok (option_map (λ ids. ids.items) (option_or list older))
ids_read None None small also = refl
ids_read None (Some older) small also = ap (λ r. optional (λ d. or_misshapen GoogleIgnoreList r) (Some (ids_data older.items))) (all_ids older.items also)
ids_read (Some list) older small also = ap (λ r. or_misshapen IgnoreList r >>= (λ ids. Ok (Some ids))) (all_ids list.items small)

-- the fields that are read of the members of an object, if each of them can be read
pub shape_of : (ms : Members) (version : ℕ) (file source_root debug_id : Option (List ℕ)) (mappings : List ℕ) (sources names : List (List ℕ)) (contents : Option (List (Option (List ℕ)))) (ignore_list : Option (List ℕ))
    → version_of (get_member (codes "version") ms) ≡ Ok version
    → optional (text_in File) (present (get_member (codes "file") ms)) ≡ Ok file
    → required Mappings (text_in Mappings) (get_member (codes "mappings") ms) ≡ Ok mappings
    → optional (text_in SourceRoot) (present (get_member (codes "sourceRoot") ms)) ≡ Ok source_root
    → required Sources (texts_in Sources) (get_member (codes "sources") ms) ≡ Ok sources
    → optional (contents_in SourcesContent) (present (get_member (codes "sourcesContent") ms)) ≡ Ok contents
    → names_of (get_member (codes "names") ms) ≡ Ok names
    → optional (text_in DebugId) (present (get_member (codes "debugId") ms)) ≡ Ok debug_id
    → ignore_list_of (present (get_member (codes "ignoreList") ms)) (present (get_member (codes "x_google_ignoreList") ms)) ≡ Ok ignore_list
    → shape (object ms) ≡ Ok (record {
      version = version;
      file = file;
      mappings = mappings;
      source_root = source_root;
      sources = sources;
      sources_content = contents;
      names = names;
      debug_id = debug_id;
      ignore_list = ignore_list;
    })
unfolding shape
shape_of ms version file source_root debug_id mappings sources names contents ignore_list a b c d e f g h i = rw (a, b, c, d, e, f, g, h, i)

pub names_read : (o : Option (Vec (CowStr Global) Global)) (none : Vec (CowStr Global) Global) → none.items ≡ []
    → names_of (option_map (λ texts. texts_data (texts_of texts)) o) ≡ Ok (texts_of (unwrap_or o none))
names_read None none empty = sym (ap (λ ss. Ok (map cow_str_bytes ss)) empty)
names_read (Some texts) none empty = texts_read Names (texts_of texts)
