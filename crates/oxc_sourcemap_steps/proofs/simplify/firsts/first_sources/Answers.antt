use Rattle.std.proofs.Common.{◌≡◌, ◌<◌, ℕ, subst, length, get_or}
use Rattle.std.specs.Str.{bytes_eq}
use Rattle.oxc_sourcemap_parts.specs.Views.{cow_texts, texts_of, contents_of}
use Rattle.oxc_sourcemap_steps.specs.SimplifySteps.{AreFirsts}
use Rattle.oxc_sourcemap_steps.proofs.OwnFirsts.{own-firsts}
use Rattle.oxc_sourcemap_steps.proofs.simplify.firsts.first_sources.Goals as goal

pub returns-then-are_own : goal.returns-then-are_own
returns-then-are_own c =
    let parts = c.args.parts.now in
    let firsts = c.in_ok-firsts.firsts.items in
    let are = subst (λ ts. AreFirsts bytes_eq (cow_texts ts) firsts) c.as_slice.ensures.value c.in_ok-firsts.ensures in
    let own = subst (λ xs. (k : ℕ) → k < length xs → get_or xs k 0 ≡ k) c.as_slice-2.ensures.value (c.are_own.ensures c.if-are_own.true) in
    own-firsts (texts_of parts.sources) (contents_of parts.source_contents) firsts are own
