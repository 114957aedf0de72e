use Rattle.std.proofs.Common.{◌≡◌, ℕ, List, [], drop, take, reverse, option_map, string_bytes}
use Rattle.std.specs.Fmt.{AppendsText}
use Rattle.oxc_sourcemap_map.specs.VisualText.{nearest_source, tokens_text}
use Rattle.oxc_sourcemap_map.proofs.sourcemap_visualizer.Printer.push_tokens.Given as goal

abbrev pub invariant-loop-i : goal.invariant-loop-i
invariant-loop-i l = record {
  last : option_map (λ text. text.now) l.last ≡ nearest_source l.self.sourcemap.now (reverse (take l.i l.tokens));
  text : (later : List ℕ) → AppendsText (string_bytes l.out) later (tokens_text l.self.code l.self.sourcemap.now (reverse (take l.i l.tokens)) (drop l.i l.tokens))
      → AppendsText (string_bytes l.initial.out) later (tokens_text l.self.code l.self.sourcemap.now [] l.tokens);
}
