use Rattle.std.proofs.Common.{◌≡◌, ◌++◌, codes, string_bytes, arith}
use Rattle.std.proofs.lemmas.Grind.{common_steps}
use Rattle.oxc_sourcemap_map.specs.VisualText.{part_text, position_text}
use Rattle.oxc_sourcemap_map.proofs.Appends.{parts-appended}
use Rattle.oxc_sourcemap_map.proofs.sourcemap_visualizer.push_parts.Goals as goal

pub returns-clause-text : goal.returns-clause-text
returns-clause-text c =
    let t = c.args.token.now in
    let before = position_text t.src_line t.src_col ++ codes " " in
    let between = codes " --> " ++ (position_text t.dst_line t.dst_col ++ codes " ") in
    let first : string_bytes c.push.new.self ≡ string_bytes c.args.out.now ++ before = grind (arith, common_steps) in
    let middle : string_bytes c.push-2.new.self ≡ string_bytes c.push_part.new.out ++ between = grind (arith, common_steps) in
    let last : string_bytes c.push-3.new.self ≡ string_bytes c.push_part-2.new.out ++ codes "\n" = grind (arith, common_steps) in
    parts-appended (string_bytes c.args.out.now) (string_bytes c.push.new.self) (string_bytes c.push_part.new.out) (string_bytes c.push-2.new.self)
    (string_bytes c.push_part-2.new.out) (string_bytes c.push-3.new.self) before between (codes "\n") (part_text c.args.src.now) (part_text c.args.dst.now)
    first c.in_ok-push_part.ensures.text middle c.in_ok-push_part-2.ensures.text last
