use Rattle.std.proofs.Common.{◌≡◌, ◌∙◌, sym, ap, Some, Option, slice_get}
use Rattle.std.specs.Option.{option_and_then}
use Rattle.std.specs.Cow.{cow_str_bytes}
use Rattle.oxc_sourcemap_parts.specs.DecodedMap.{DecodedSource}
use Rattle.oxc_sourcemap_parts.specs.Record.{Text}
use Rattle.oxc_sourcemap_parts.specs.Views.{text_of}
use Rattle.oxc_sourcemap_steps.proofs.FirstOnes.{source-seen}
use Rattle.oxc_sourcemap_steps.proofs.simplify.firsts.source_at.Goals as goal

source-by : (p q : Text) (s t : Option Text) → p ≡ q → s ≡ t → ◌≡◌ {A = DecodedSource} (record { path = p; content = s }) (record { path = q; content = t })
source-by p q s t e f = rw (e, f)

pub returns : goal.returns
returns c =
    let parts = c.args.parts.now in
    source-seen cow_str_bytes text_of parts.sources.items parts.source_contents.items c.args.i c.index.result.now c.requires c.index.ensures
    ∙ ap (λ s. Some s) (sym (source-by _ _ _ _ c.as_str.ensures.value
    (c.content_at-content.ensures ∙ ap (λ cs. option_and_then text_of (slice_get cs c.args.i)) c.as_slice.ensures.value)))
