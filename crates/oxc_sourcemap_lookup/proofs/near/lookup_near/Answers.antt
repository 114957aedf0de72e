use Rattle.std.proofs.Common.{◌≡◌, ◌∙◌, sym, ap, length, slice_get, Some, refl}
use Rattle.std.proofs.lemmas.Option.{slice_get_read}
use Rattle.std.specs.Option.{option_and_then}
use Rattle.oxc_sourcemap_lookup.specs.Lookup.{clamped_index_at}
use Rattle.oxc_sourcemap_lookup.proofs.Numbers.{token_of-clamped_index_at}
use Rattle.oxc_sourcemap_lookup.proofs.near.lookup_near.Goals as goal

pub returns-clause-found : goal.returns-clause-found
returns-clause-found c =
    let ts = c.tokens_near-on_line.result.now in
    let k = c.in_ok-found.found in
    let t = c.index-on_line-found.result in
    let there : slice_get ts k ≡ Some t = slice_get_read ts (length ts) k t refl c.in_ok-found.ensures.within c.index-on_line-found.is in
    rw (sym c.tokens_near-on_line.ensures) (λ g.
    let index : Some k ≡ clamped_index_at ts c.args.col = c.in_ok-found.ensures.found g in
    sym there ∙ ap (option_and_then (slice_get ts)) index ∙ token_of-clamped_index_at ts c.args.col)
