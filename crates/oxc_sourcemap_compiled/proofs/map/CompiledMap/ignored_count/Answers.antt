use Rattle.std.proofs.Common.{◌≡◌, ap, ◌∙◌, sym, true, length, option_map, Some, None, map}
use Rattle.std.proofs.Common.{if◌then◌else◌}
use Rattle.std.specs.List.{range_with_len}
use Rattle.std.proofs.lemmas.List.FromFn.{length-map-range_with_len}
use Rattle.oxc_sourcemap_compiled.specs.Words.{header_in, ignored_in}
use Rattle.oxc_sourcemap_compiled.proofs.map.CompiledMap.ignored_count.Goals as goal

pub returns-then-self : goal.returns-then-self
returns-then-self c =
    let bytes = c.args.self.now in
    let h = header_in bytes in
    let same = c.self.invariant.header ∙ ap header_in c.self.view_is in
    let has : h.has_ignore_list ≡ true = sym (ap (λ h. h.has_ignore_list) same) ∙ c.if-self.true in
    let list = map (ignored_in bytes h) (range_with_len 0 h.ignored) in
    ap (λ h. Some h.ignored) same ∙ ap Some (sym (length-map-range_with_len (ignored_in bytes h) 0 h.ignored))
    ∙ sym (ap (λ b. option_map length (if b then Some list else None)) has)
