use Rattle.std.proofs.Common.{◌≡◌, ◌+◌, ◌-◌, string_bytes, length, get_or, take, drop, reverse}
use Rattle.std.proofs.Common.{arith}
use Rattle.std.specs.Fmt.{AppendsText}
use Rattle.std.proofs.lemmas.List.{take_all, length-drop}
use Rattle.std.proofs.lemmas.Grind.{common_steps}
use Rattle.oxc_sourcemap_map.specs.VisualText.{shown, nearest_source, visual_token_text}
use Rattle.oxc_sourcemap_map.proofs.Appends.{appends_then}
use Rattle.oxc_sourcemap_map.proofs.Printing.{further-source, further-text, text-end}
use Rattle.oxc_sourcemap_map.proofs.sourcemap_visualizer.Printer.push_tokens.Goals as goal

pub loop-i-preserved : goal.loop-i-preserved
loop-i-preserved c =
    let r = c.args.self.now.sourcemap.now in
    let code = c.args.self.now.code in
    let ts = c.args.tokens.now in
    let i = c.loop-i.i in
    let t = c.index-tokens-i.result in
    let rest : take (length ts - (i + 1)) (drop (i + 1) ts) ≡ drop (i + 1) ts = take_all (length ts - (i + 1)) (drop (i + 1) ts) (omega (arith, length-drop (i + 1) ts)) in
    let source = further-source r ts i t c.loop-i-test.true in
    let told = further-text code r ts i t c.loop-i-test.true in
    record {
      last = grind (arith, common_steps, source);
      text = λ later more.
          let here : AppendsText (string_bytes c.loop-i.out) (string_bytes c.push_token.new.out)
          (visual_token_text code (nearest_source r (reverse (take i ts))) (get_or ts i t) (drop (i + 1) ts) (get_or ts i t).source_id (shown r (get_or ts i t))) = rw (← c.index-tokens-i.is, ← c.loop-i.invariant.last, ← rest) c.in_ok-last.ensures.text in
          c.loop-i.invariant.text later (rw told (appends_then (string_bytes c.loop-i.out) (string_bytes c.push_token.new.out) later _ _ here more));
    }

pub returns-clause-text : goal.returns-clause-text
returns-clause-text c =
    c.loop-i.invariant.text (string_bytes c.loop-i.out) (text-end c.args.self.now.code c.args.self.now.sourcemap.now c.args.tokens.now c.loop-i.i (string_bytes c.loop-i.out) (omega arith))
