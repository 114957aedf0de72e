use Rattle.std.proofs.Common.{ap, ◌∙◌, sym}
use Rattle.std.proofs.lemmas.List.FromFn.{length-map-range_with_len}
use Rattle.oxc_sourcemap_compiled.specs.Words.{header_in, listed_in}
use Rattle.oxc_sourcemap_compiled.proofs.map.CompiledMap.source_count.Goals as goal

pub returns : goal.returns
returns c =
    let h = header_in c.args.self.now in
    ap (λ h. h.sources) c.self.invariant.header ∙ ap (λ b. (header_in b).sources) c.self.view_is ∙ sym (length-map-range_with_len (listed_in c.args.self.now h) 0 h.sources)
