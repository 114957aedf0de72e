use Rattle.std.proofs.Common.{refl}
use Rattle.oxc_sourcemap_steps.proofs.remap.remap.put_together.Goals as goal

pub returns : goal.returns
returns c =
    rw (c.lent_text.ensures, c.in_ok-names.ensures, c.in_ok-sources.ensures, c.in_ok-source_contents.ensures, c.into_boxed_slice.ensures.items, c.in_ok-ignore_list.ensures, c.lent_text-2.ensures) refl
