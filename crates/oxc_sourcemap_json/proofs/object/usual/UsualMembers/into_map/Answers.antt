use Rattle.std.proofs.Common.{◌≡◌, true, string_bytes, option_map, Some, None, codes, Ok, sym, ap}
use Rattle.std.proofs.Common.{◌∙◌, arith}
use Rattle.std.specs.Prelude.{if◌then◌else◌}
use Rattle.serde_json.specs.Find.{get_member}
use Rattle.oxc_sourcemap_tokens.specs.declared.errors.error.Field.TheVariants.{File, Mappings}
use Rattle.oxc_sourcemap_tokens.specs.declared.errors.error.Field.TheVariants.{SourceRoot, Sources}
use Rattle.oxc_sourcemap_tokens.specs.declared.errors.error.Field.TheVariants.{SourcesContent}
use Rattle.oxc_sourcemap_tokens.specs.declared.errors.error.Field.TheVariants.{DebugId}
use Rattle.oxc_sourcemap_json.specs.Shape.{version_of, ignore_list_of, required, optional, present}
use Rattle.oxc_sourcemap_json.specs.Shape.{text_in, texts_in, contents_in, names_of}
use Rattle.oxc_sourcemap_json.specs.Words.{texts_of, contents_of, number, unsigned, string}
use Rattle.oxc_sourcemap_json.specs.Words.{texts_data, ids_data, ignored_by}
use Rattle.oxc_sourcemap_json.proofs.HeldShape.{shape_of, texts_read, text_read, contents_read}
use Rattle.oxc_sourcemap_json.proofs.HeldShape.{names_read, ids_read}
use Rattle.oxc_sourcemap_json.proofs.object.usual.UsualMembers.into_map.Goals as goal

pub returns-clause-fields : goal.returns-clause-fields
returns-clause-fields c = λ ms h small.
    let m = c.args.self in
    let mappings = c.in_ok-mappings.field-0 in
    let sources = c.in_ok-sources.field-0 in
    let three : m.has_version ≡ true = grind arith in
    let version = ap version_of (h (codes "version")) ∙ ap (λ b. version_of (if b then Some (number (unsigned 3)) else None)) three in
    let given = ap (required Mappings (text_in Mappings)) (h (codes "mappings") ∙ ap (option_map (λ text. string text.now)) c.in_ok-mappings.was) in
    let listed = ap (required Sources (texts_in Sources)) (h (codes "sources") ∙ ap (option_map (λ texts. texts_data (texts_of texts))) c.in_ok-sources.was) ∙ texts_read Sources (texts_of sources) in
    let contents = ap (λ o. optional (contents_in SourcesContent) (present o)) (h (codes "sourcesContent")) ∙ contents_read m.source_contents in
    let named = ap names_of (h (codes "names")) ∙ names_read m.names c.new.result c.new.ensures.items ∙ ap (λ texts. Ok (texts_of texts)) (sym c.unwrap_or.ensures) in
    let ignored = ap (λ o. ignore_list_of (present o) (present (get_member (codes "x_google_ignoreList") ms))) (h (codes "ignoreList"))
    ∙ ap (λ o. ignore_list_of (present (option_map (λ ids. ids_data ids.items) m.ignore_list)) (present o)) (h (codes "x_google_ignoreList"))
    ∙ ids_read m.ignore_list m.older_ignore_list small.0 small.1
    ∙ ap (λ list. Ok (option_map (λ ids. ids.items) list)) (sym c.or.ensures) in
    shape_of ms 3 (option_map string_bytes m.file) (option_map string_bytes m.source_root) (option_map string_bytes m.debug_id) mappings.now
    (texts_of sources) (texts_of c.unwrap_or.result) (option_map contents_of m.source_contents) (option_map (λ ids. ids.items) c.or.result)
    version (ap (λ o. optional (text_in File) (present o)) (h (codes "file")) ∙ text_read File m.file) given
    (ap (λ o. optional (text_in SourceRoot) (present o)) (h (codes "sourceRoot")) ∙ text_read SourceRoot m.source_root) listed contents named
    (ap (λ o. optional (text_in DebugId) (present o)) (h (codes "debugId")) ∙ text_read DebugId m.debug_id) ignored

pub returns-clause-ignored : goal.returns-clause-ignored
returns-clause-ignored c = λ ms h. ap ignored_by (h (codes "ignoreList")) ∙ sym c.ignored_by.ensures
