use Rattle.std.proofs.Common.{◌≡◌, ◌+◌, ◌*◌, map, option_map, Some, None, sym, ap, ◌∙◌}
use Rattle.std.proofs.Common.{if◌then◌else◌, ◌&&◌}
use Rattle.std.proofs.Math.Nat.{zero-add}
use Rattle.std.specs.List.{range_with_len, list_all}
use Rattle.std.specs.Str.{is_utf8}
use Rattle.oxc_sourcemap_parts.specs.Views.{text_of, texts_of, contents_of}
use Rattle.oxc_sourcemap_compiled.specs.Decompiled.{is_optional_utf8, checked_texts}
use Rattle.oxc_sourcemap_compiled.specs.Words.{listed_in, map_in}
use Rattle.oxc_sourcemap_compiled.proofs.Taken.{checked-some, checked-none, same-map, all-checked}
use Rattle.oxc_sourcemap_compiled.proofs.opened.Opened.all_parts.Goals as goal

pub returns : goal.returns
returns c =
    let bytes = c.args.self.now.bytes.now in
    let h = c.args.self.now.header in
    let r = map_in bytes h in
    let n = 2 * h.sources + h.names in
    let first : map (λ i. listed_in bytes h (0 + i)) (range_with_len 0 h.sources) ≡ r.sources = simp zero-add in
    let sources = checked-some (list_all is_utf8 r.sources) r.sources (texts_of c.in-Some.sources) (ap (option_map texts_of) (sym c.in-Some.is) ∙ c.in_ok-sources.ensures ∙ ap checked_texts first) in
    let names = checked-some (list_all is_utf8 r.names) r.names (texts_of c.in-Some-2.names) (ap (option_map texts_of) (sym c.in-Some-2.is) ∙ c.in_ok-names.ensures) in
    let contents = checked-some (list_all is_optional_utf8 r.source_contents) r.source_contents (contents_of c.in-Some-3.source_contents)
    (ap (option_map contents_of) (sym c.in-Some-3.is) ∙ c.in_ok-source_contents.ensures) in
    let file = checked-some (is_optional_utf8 r.file) r.file (text_of c.in-Some-lent_optional.file) c.in-Some-lent_optional.ensures in
    let root = checked-some (is_optional_utf8 r.source_root) r.source_root (text_of c.in-Some-lent_optional-2.source_root) c.in-Some-lent_optional-2.ensures in
    let debug_id = checked-some (is_optional_utf8 r.debug_id) r.debug_id (text_of c.in-Some-lent_optional-3.debug_id) c.in-Some-lent_optional-3.ensures in
    let all = all-checked (list_all is_utf8 r.sources) (list_all is_utf8 r.names) (list_all is_optional_utf8 r.source_contents) (is_optional_utf8 r.file) (is_optional_utf8 r.source_root)
    (is_optional_utf8 r.debug_id) sources.0 names.0 contents.0 file.0 root.0 debug_id.0 in
    ap Some (same-map file.1 names.1 root.1 sources.1 contents.1 (c.into_boxed_slice.ensures.items ∙ c.in_ok-all_tokens.ensures) c.in_ok-ignore_list.ensures debug_id.1)
    ∙ sym (ap (λ b. if b then Some r else None) all)

pub returns-in_default : goal.returns-in_default
returns-in_default c =
    let bytes = c.args.self.now.bytes.now in
    let h = c.args.self.now.header in
    let r = map_in bytes h in
    let first : map (λ i. listed_in bytes h (0 + i)) (range_with_len 0 h.sources) ≡ r.sources = simp zero-add in
    let sources = checked-none (list_all is_utf8 r.sources) r.sources (ap (option_map texts_of) (sym c.in_default.is) ∙ c.in_ok-sources.ensures ∙ ap checked_texts first) in
    let others = list_all is_utf8 r.names && (list_all is_optional_utf8 r.source_contents && (is_optional_utf8 r.file && (is_optional_utf8 r.source_root && is_optional_utf8 r.debug_id))) in
    sym (ap (λ b. if b && others then Some r else None) sources)
