use Rattle.std.proofs.Common.{arith, ◌≡◌, ◌+◌, ◌<◌, ◌∷◌, [], ◌++◌, length, take, set, Some, sym, ap}
use Rattle.std.proofs.Common.{◌∙◌}
use Rattle.std.specs.Option.{option_map_or}
use Rattle.std.proofs.lemmas.Bool.Decides.{nat_tests}
use Rattle.std.proofs.lemmas.List.{take_more_set}
use Rattle.oxc_sourcemap_tokens.specs.Steps.{state_of}
use Rattle.oxc_sourcemap_mappings.specs.Canonical.{delta_text}
use Rattle.oxc_sourcemap_mappings.proofs.Placing.{near-placed, same-source, five-placed}
use Rattle.oxc_sourcemap_mappings.proofs.encode.write_fields.Goals as goal

pub returns-then-has_same_source-dst_col-clause-bytes : goal.returns-then-has_same_source-dst_col-clause-bytes
returns-then-has_same_source-dst_col-clause-bytes c =
    let s = state_of c.args.previous.now in
    let t = c.args.token.now in
    let first = c.write_near-at in
    let line = c.write_near-at-then-has_same_source-dst_col in
    let column = c.write_near-at-then-has_same_source-dst_col-2 in
    let tests = c.if-has_same_source-dst_col.true in
    let same : t.source_id ≡ Some s.source_id = grind (arith, nat_tests, tests, c.eq-has_same_source.ensures, c.get_source_id.ensures.value) in
    let inside : first.result < length first.new.buf = omega (arith, first.ensures.within, c.requires.room, first.auto.buf) in
    five-placed (take c.args.at c.args.buf.now) _ (65 ∷ []) _ _ _ (take first.result first.new.buf) (take (first.result + 1) (set first.new.buf first.result 65)) (take line.result line.new.buf) (take column.result column.new.buf) (take c.write_name.result c.write_name.new.buf)
    (near-placed _ _ _ t.dst_col c.args.column _ c.get_dst_col.ensures (c.rank_of-dst_col.ensures.near (grind (arith, nat_tests, tests))) first.ensures.bytes)
    (take_more_set first.new.buf first.result 65 inside)
    (near-placed _ _ _ t.src_line s.src_line _ c.get_src_line.ensures (c.rank_of-src_line.ensures.near (grind (arith, nat_tests, tests))) line.ensures.bytes)
    (near-placed _ _ _ t.src_col s.src_col _ c.get_src_col.ensures (c.rank_of-src_col.ensures.near (grind (arith, nat_tests, tests))) column.ensures.bytes)
    (c.write_name.ensures.bytes ∙ ap (λ o. take column.result column.new.buf ++ option_map_or (λ id. delta_text id s.name_id) o []) c.get_name_id.ensures.value)
    ∙ ap (λ xs. take c.args.at c.args.buf.now ++ xs) (sym (same-source c.args.column s t same))
