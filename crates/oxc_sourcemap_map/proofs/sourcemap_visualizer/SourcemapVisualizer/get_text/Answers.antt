use Rattle.std.proofs.Common.{◌≡◌, map, option_map, arith}
use Rattle.std.proofs.lemmas.Grind.{common_steps}
use Rattle.oxc_sourcemap_text.specs.TextLines.{lines_of, text_lines}
use Rattle.oxc_sourcemap_map.proofs.KnownContents.{cut-known}
use Rattle.oxc_sourcemap_map.proofs.sourcemap_visualizer.SourcemapVisualizer.get_text.Goals as goal

pub push_tokens-requires : goal.push_tokens-requires
push_tokens-requires c =
    let cut : map (option_map (λ v. lines_of v.items)) c.in_ok-contents.contents.items ≡ map (option_map text_lines) c.args.self.now.map.source_contents =
    cut-known c.in_ok-contents.contents.items c.args.self.now.map.source_contents (grind (arith, common_steps)) in
    grind (arith, common_steps, cut)
