-- Worked examples of the members of a JSON object, computed by the definitions themselves.
use Rattle.std.specs.Prelude.{◌≡◌, refl, ℕ, List, [], ◌∷◌, codes, Ok, Err, Some, None}
use Rattle.oxc_sourcemap_tokens.specs.declared.errors.error.Error.TheVariants.{BadJson}
use Rattle.oxc_sourcemap_tokens.specs.declared.errors.error.JsonFault.TheVariants.{Shape, Version}
use Rattle.oxc_sourcemap_tokens.specs.declared.errors.error.Field.TheVariants.{Object}
use Rattle.oxc_sourcemap_tokens.specs.declared.errors.error.Field.TheVariants.{Version as VersionField}
use Rattle.oxc_sourcemap_tokens.specs.declared.errors.error.Field.TheVariants.{Names, IgnoreList}
use Rattle.oxc_sourcemap_json.specs.Shape.{shape}
use Rattle.oxc_sourcemap_json.specs.Usual.{held, with_held}
use Rattle.serde_json.specs.Data.{Data, null, number, string, array, object, unsigned, no_items}
use Rattle.serde_json.specs.Data.{item, no_members, member}

-- a JSON object of version 3 without sources and tokens, with one more member
abbrev object_with : List ℕ → Data → Data
object_with key value =
    object (member (codes "version") (number (unsigned 3)) (member (codes "sources") (array no_items) (member (codes "mappings") (string []) (member key value no_members))))

shape-no_object : shape (array (item (number (unsigned 3)) no_items)) ≡ Err (BadJson (Shape Object))
unfolding shape
shape-no_object = refl

shape-another_version : shape (object (member (codes "version") (number (unsigned 2)) no_members)) ≡ Err (BadJson (Version 2))
unfolding shape
shape-another_version = refl

shape-a_version_that_is_no_number : shape (object (member (codes "version") (string (codes "3")) no_members)) ≡ Err (BadJson (Shape VersionField))
unfolding shape
shape-a_version_that_is_no_number = refl

shape-names_are_never_null : shape (object_with (codes "names") null) ≡ Err (BadJson (Shape Names))
unfolding shape
shape-names_are_never_null = refl

shape-an_older_ignore_list : shape (object_with (codes "x_google_ignoreList") (array (item (number (unsigned 3)) no_items)))
    ≡ Ok (record { version = 3; file = None; mappings = []; source_root = None; sources = []; sources_content = None; names = []; debug_id = None; ignore_list = Some (3 ∷ []) })
unfolding shape
shape-an_older_ignore_list = refl

shape-an_id_past_32_bits : shape (object_with (codes "ignoreList") (array (item (number (unsigned 4294967296)) no_items))) ≡ Err (BadJson (Shape IgnoreList))
unfolding shape
shape-an_id_past_32_bits = refl

shape-unknown_content : shape (object_with (codes "sourcesContent") (array (item null (item (string (codes "A")) no_items))))
    ≡ Ok (record { version = 3; file = None; mappings = []; source_root = None; sources = []; sources_content = Some (None ∷ Some (codes "A") ∷ []); names = []; debug_id = None; ignore_list = None })
unfolding shape
shape-unknown_content = refl

with_held-a_key_that_comes_again : with_held (codes "a") null ((codes "b", None) ∷ (codes "a", Some (string [])) ∷ []) ≡ (codes "b", None) ∷ (codes "a", Some null) ∷ []
with_held-a_key_that_comes_again = refl

held-nothing_for_another_key : held (codes "sections") ((codes "file", Some null) ∷ (codes "names", None) ∷ []) ≡ None
held-nothing_for_another_key = refl
