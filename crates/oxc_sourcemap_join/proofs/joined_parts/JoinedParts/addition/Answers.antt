use Rattle.std.proofs.Common.{◌+◌, ◌-◌, arith, ap, length, drop, ◌≡◌, ◌∙◌, sym, refl, subst, true}
use Rattle.std.proofs.Common.{false}
use Rattle.std.specs.Cow.{cow_str_bytes}
use Rattle.std.proofs.lemmas.List.{length-append}
use Rattle.oxc_sourcemap_tokens.specs.Token.{AreInBounds, last}
use Rattle.oxc_sourcemap_tokens.specs.State.{state_at}
use Rattle.oxc_sourcemap_tokens.specs.Chunks.{chunk_from}
use Rattle.oxc_sourcemap_tokens.specs.Results.{lent_item}
use Rattle.oxc_sourcemap_join.specs.Joined.{is_same_token, without_repeat, raised_ignore_list}
use Rattle.oxc_sourcemap_join.specs.Joined.{AreEntriesInBounds}
use Rattle.oxc_sourcemap_join.specs.Joining.{all_shifted, map_of}
use Rattle.oxc_sourcemap_join.specs.declared.shift.Shift.{Shift}
use Rattle.oxc_sourcemap_join.proofs.Moving.{length-mapped}
use Rattle.oxc_sourcemap_join.proofs.IgnoreLists.{raised-in-bounds}
use Rattle.oxc_sourcemap_join.proofs.Adding.{addition-is}
use Rattle.oxc_sourcemap_join.proofs.joined_parts.JoinedParts.addition.Goals as goal
use Rattle.oxc_sourcemap_join.proofs.joined_parts.JoinedParts.addition.Goals.{then-names_len-len-via-then-names_len-len}
use Rattle.oxc_sourcemap_join.proofs.joined_parts.JoinedParts.addition.Goals.{then-names_len-len-via-else-names_len-len+then-sources_len-len}

pub returns-then-names_len-len-clause-too_large : goal.returns-then-names_len-len-clause-too_large
returns-then-names_len-len-clause-too_large g c = λ e w.
    let r = c.args.self.now in
    let m = map_of (g.S.Strings.names c.args.strings.now) (g.S.Strings.sources c.args.strings.now) (g.S.Strings.contents c.args.strings.now) c.args.tokens.now (lent_item c.args.ignored) in
    elim c.then-names_len-len.branch [
      | then-names_len-len-via-then-names_len-len b ↦ (omega (
        arith,
        w.names,
        length-append r.names m.names,
        b.if-names_len-len.true,
        c.names_len.ensures,
        c.len-3.ensures,
        ap (λ x. length x.names) c.self.view_is,
        length-mapped cow_str_bytes c.self.inside.lists.names.items,
      ))
      | then-names_len-len-via-else-names_len-len+then-sources_len-len b ↦ (omega (
        arith,
        w.sources,
        length-append r.sources m.sources,
        b.if-sources_len-len.true,
        b.sources_len.ensures,
        b.len-else-names_len-len.ensures,
        ap (λ x. length x.sources) c.self.view_is,
        length-mapped cow_str_bytes c.self.inside.lists.sources.items,
      ))
    ]

pub returns-then-not-fits_ignore_list-clause-too_large : goal.returns-then-not-fits_ignore_list-clause-too_large
returns-then-not-fits_ignore_list-clause-too_large g c = λ e w.
    let r = c.args.self.now in
    let m = map_of (g.S.Strings.names c.args.strings.now) (g.S.Strings.sources c.args.strings.now) (g.S.Strings.contents c.args.strings.now) c.args.tokens.now (lent_item c.args.ignored) in
    let sources : c.len-2.result ≡ length r.sources = omega (arith, ap (λ x. length x.sources) c.self.view_is, length-mapped cow_str_bytes c.self.inside.lists.sources.items, c.len-2.ensures) in
    let raised = subst (λ n. AreEntriesInBounds (raised_ignore_list n m.ignore_list)) (sym sources) (raised-in-bounds r m c.args.position w) in
    let fits : c.fits_ignore_list.result ≡ true = c.fits_ignore_list.ensures.1 raised in
    let not : c.fits_ignore_list.result ≡ false = c.if-not-fits_ignore_list.true in
    absurd cc

pub returns-clause-fits : goal.returns-clause-fits
returns-clause-fits g c =
    let r = c.args.self.now in
    let m = map_of (g.S.Strings.names c.args.strings.now) (g.S.Strings.sources c.args.strings.now) (g.S.Strings.contents c.args.strings.now) c.args.tokens.now (lent_item c.args.ignored) in
    let so_far : c.as_slice.result.now ≡ r.tokens = c.as_slice.ensures.value ∙ ap (λ x. x.tokens) c.self.view_is in
    let names : c.len.result ≡ length r.names = omega (arith, ap (λ x. length x.names) c.self.view_is, length-mapped cow_str_bytes c.self.inside.lists.names.items, c.len.ensures) in
    let sources : c.len-2.result ≡ length r.sources = omega (arith, ap (λ x. length x.sources) c.self.view_is, length-mapped cow_str_bytes c.self.inside.lists.sources.items, c.len-2.ensures) in
    let shift : Shift = record { names = c.len.result; sources = c.len-2.result; position = c.args.position } in
    let kept : all_shifted shift (drop c.skip_len-passed.result m.tokens) ≡ without_repeat is_same_token (last r.tokens) (all_shifted shift m.tokens) =
    c.skip_len-passed.ensures.kept ∙ ap (λ o. without_repeat is_same_token o (all_shifted shift m.tokens)) c.last_token.ensures in
    let end : c.len-5.result + (length m.tokens - c.skip_len-passed.result) ≡ length r.tokens + (length m.tokens - c.skip_len-passed.result) =
    omega (arith, c.len-5.ensures, ap length so_far, c.as_slice.ensures.len) in
    addition-is r m c.args.position shift c.skip_len-passed.result names sources refl kept c.next_chunk-chunk.result
    (subst AreInBounds (ap (λ x. x.tokens) c.self.view_is) c.self.invariant.in_bounds)
    (subst AreEntriesInBounds (ap (λ x. x.ignore_list) c.self.view_is) c.self.invariant.entries)
    (c.fits_ignore_list.ensures.0 c.if-not-fits_ignore_list.false)
    (omega (
      arith,
      c.if-names_len-len.false,
      c.names_len.ensures,
      c.len-3.ensures,
      ap (λ x. length x.names) c.self.view_is,
      length-mapped cow_str_bytes c.self.inside.lists.names.items,
    ))
    (omega (
      arith,
      c.if-sources_len-len.false,
      c.sources_len.ensures,
      c.len-else-names_len-len.ensures,
      ap (λ x. length x.sources) c.self.view_is,
      length-mapped cow_str_bytes c.self.inside.lists.sources.items,
    ))
    (omega (arith, c.skip_len-passed.ensures.within))
    (omega (arith, c.if-kept-len.false, c.len-4.ensures, c.len-5.ensures, ap length so_far))
    (c.next_chunk-chunk.ensures ∙ ap (λ ts. chunk_from (state_at ts (length ts)) (length ts) (c.len-5.result + (length m.tokens - c.skip_len-passed.result))) so_far ∙ ap (chunk_from (state_at r.tokens (length r.tokens)) (length r.tokens)) end)
