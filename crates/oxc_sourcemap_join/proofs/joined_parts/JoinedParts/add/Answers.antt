use Rattle.std.proofs.Common.{rules, ◌++◌, ◌∷◌, [], Some, ap, length, map, drop, ◌≡◌, ◌∙◌, sym}
use Rattle.std.proofs.Common.{subst, refl, arith, take, vec_len}
use Rattle.std.specs.Option.{option_map}
use Rattle.std.specs.Cow.{cow_str_bytes}
use Rattle.oxc_sourcemap_tokens.specs.Token.{AreInBounds}
use Rattle.oxc_sourcemap_tokens.specs.Chunks.{ChunksFit}
use Rattle.oxc_sourcemap_tokens.specs.Results.{lent_item}
use Rattle.oxc_sourcemap_join.specs.Joined.{fitted, raised_ignore_list, appended_ignore_lists}
use Rattle.oxc_sourcemap_join.specs.Joined.{IsWithinLimits, added}
use Rattle.oxc_sourcemap_join.specs.Joining.{all_shifted, map_of}
use Rattle.oxc_sourcemap_parts.specs.Views.{texts_of, contents_of, ids_of}
use Rattle.oxc_sourcemap_join.proofs.Adding.{kept, too-large, as-result, added-is, join-is, glued}
use Rattle.oxc_sourcemap_join.proofs.Adding.{by-lists}
use Rattle.oxc_sourcemap_join.proofs.Moving.{length-mapped}
use Rattle.oxc_sourcemap_join.proofs.joined_parts.JoinedParts.add.Goals as goal

pub push_tokens-requires-clause-entries : goal.push_tokens-requires-clause-entries
push_tokens-requires-clause-entries g c = c.in-Some.ensures.fits.entries

pub invariant_of-self-2 : goal.invariant_of-self-2
invariant_of-self-2 g c =
    let r = c.args.self.now in
    let m = map_of (g.S.Strings.names c.args.strings) (g.S.Strings.sources c.args.strings) (g.S.Strings.contents c.args.strings) c.args.tokens.now (lent_item c.args.ignored) in
    let a = c.in-Some.addition in
    let names : texts_of c.push.new.lists.names ≡ r.names ++ m.names = c.in-Ok-push.ensures.names ∙ glued (ap (map cow_str_bytes) c.make_room_for.ensures.names ∙ ap (λ x. x.names) c.self.view_is) refl in
    let sources : texts_of c.push.new.lists.sources ≡ r.sources ++ m.sources = c.in-Ok-push.ensures.sources ∙ glued (ap (map cow_str_bytes) c.make_room_for.ensures.sources ∙ ap (λ x. x.sources) c.self.view_is) refl in
    let contents : contents_of c.push.new.lists.contents ≡ r.source_contents ++ fitted (length m.sources) m.source_contents =
    c.in-Ok-push.ensures.contents ∙ glued (ap (map (option_map cow_str_bytes)) c.make_room_for.ensures.contents ∙ ap (λ x. x.source_contents) c.self.view_is) refl in
    let tokens : c.push_tokens.new.tokens.items ≡ r.tokens ++ all_shifted a.shift (drop a.passed m.tokens) =
    c.in_default-push_tokens.ensures.tokens ∙ glued (c.make_room_for.ensures.tokens ∙ ap (λ x. x.tokens) c.self.view_is) (ap (all_shifted a.shift) (kept a.passed {xs = m.tokens} refl)) in
    let chunks : c.push_reserved.new.self.items ≡ c.self.inside.token_chunks.items ++ a.chunk ∷ [] = c.push_reserved.ensures.items ∙ ap (λ ks. ks ++ a.chunk ∷ []) c.make_room_for.ensures.chunks in
    let entries : ids_of c.push_tokens.new.ignore_list ≡ appended_ignore_lists r.ignore_list (raised_ignore_list a.shift.sources m.ignore_list) =
    c.in_default-push_tokens.ensures.entries ∙ ap (λ o. appended_ignore_lists o (raised_ignore_list a.shift.sources m.ignore_list)) (ap (λ x. x.ignore_list) c.self.view_is) in
    let has : r.token_chunks ≡ Some c.self.inside.token_chunks.items = sym (ap (λ x. x.token_chunks) c.self.view_is) in
    let each : length r.sources ≡ length r.source_contents = ap (λ x. length x.sources) (sym c.self.view_is) ∙ c.self.invariant.contents ∙ ap (λ x. length x.source_contents) c.self.view_is in
    let within : IsWithinLimits (added r m c.args.position) = c.in-Some.ensures.fits.within (subst AreInBounds (ap (all_shifted a.shift) (kept a.passed {xs = m.tokens} refl)) c.in_default-push_tokens.ensures.fits) in
    let fit : ChunksFit r.tokens c.self.inside.token_chunks.items = subst (λ ts. ChunksFit ts c.self.inside.token_chunks.items) (ap (λ x. x.tokens) c.self.view_is) c.self.invariant.fit in
    join-is r m c.args.position a c.in-Some.ensures.fits c.self.inside.token_chunks.items has each _ _ _ _ _ _ names sources contents tokens chunks entries within fit

pub returns : goal.returns
returns g c =
    let r = c.args.self.now in
    let m = map_of (g.S.Strings.names c.args.strings) (g.S.Strings.sources c.args.strings) (g.S.Strings.contents c.args.strings) c.args.tokens.now (lent_item c.args.ignored) in
    let a = c.in-Some.addition in
    let names : texts_of c.push.new.lists.names ≡ r.names ++ m.names = c.in-Ok-push.ensures.names ∙ glued (ap (map cow_str_bytes) c.make_room_for.ensures.names ∙ ap (λ x. x.names) c.self.view_is) refl in
    let sources : texts_of c.push.new.lists.sources ≡ r.sources ++ m.sources = c.in-Ok-push.ensures.sources ∙ glued (ap (map cow_str_bytes) c.make_room_for.ensures.sources ∙ ap (λ x. x.sources) c.self.view_is) refl in
    let contents : contents_of c.push.new.lists.contents ≡ r.source_contents ++ fitted (length m.sources) m.source_contents =
    c.in-Ok-push.ensures.contents ∙ glued (ap (map (option_map cow_str_bytes)) c.make_room_for.ensures.contents ∙ ap (λ x. x.source_contents) c.self.view_is) refl in
    let tokens : c.push_tokens.new.tokens.items ≡ r.tokens ++ all_shifted a.shift (drop a.passed m.tokens) =
    c.in_default-push_tokens.ensures.tokens ∙ glued (c.make_room_for.ensures.tokens ∙ ap (λ x. x.tokens) c.self.view_is) (ap (all_shifted a.shift) (kept a.passed {xs = m.tokens} refl)) in
    let chunks : c.push_reserved.new.self.items ≡ c.self.inside.token_chunks.items ++ a.chunk ∷ [] = c.push_reserved.ensures.items ∙ ap (λ ks. ks ++ a.chunk ∷ []) c.make_room_for.ensures.chunks in
    let entries : ids_of c.push_tokens.new.ignore_list ≡ appended_ignore_lists r.ignore_list (raised_ignore_list a.shift.sources m.ignore_list) =
    c.in_default-push_tokens.ensures.entries ∙ ap (λ o. appended_ignore_lists o (raised_ignore_list a.shift.sources m.ignore_list)) (ap (λ x. x.ignore_list) c.self.view_is) in
    let has : r.token_chunks ≡ Some c.self.inside.token_chunks.items = sym (ap (λ x. x.token_chunks) c.self.view_is) in
    let each : length r.sources ≡ length r.source_contents = ap (λ x. length x.sources) (sym c.self.view_is) ∙ c.self.invariant.contents ∙ ap (λ x. length x.source_contents) c.self.view_is in
    let within : IsWithinLimits (added r m c.args.position) = c.in-Some.ensures.fits.within (subst AreInBounds (ap (all_shifted a.shift) (kept a.passed {xs = m.tokens} refl)) c.in_default-push_tokens.ensures.fits) in
    record {
      joined = added-is r m c.args.position a c.in-Some.ensures.fits c.self.inside.token_chunks.items has each _ _ _ _ _ _ names sources contents tokens chunks entries;
      limits = within;
      too_large = (λ p. absurd cc, λ n. absurd (n within));
      error = search rules;
      unchanged = search rules;
    }

pub returns-in-Err : goal.returns-in-Err
returns-in-Err g c =
    let r = c.args.self.now in
    let m = map_of (g.S.Strings.names c.args.strings) (g.S.Strings.sources c.args.strings) (g.S.Strings.contents c.args.strings) c.args.tokens.now (lent_item c.args.ignored) in
    let a = c.in-Some.addition in
    let names_len : c.len-names_len.result ≡ vec_len c.make_room_for.new.lists.names = omega (arith, c.len-names_len.ensures, ap length c.make_room_for.ensures.names) in
    let sources_len : c.len-sources_len.result ≡ vec_len c.make_room_for.new.lists.sources = omega (arith, c.len-sources_len.ensures, ap length c.make_room_for.ensures.sources) in
    let contents_len : c.len-sources_len.result ≡ vec_len c.make_room_for.new.lists.contents =
    omega (
      arith,
      c.len-sources_len.ensures,
      ap length c.make_room_for.ensures.contents,
      c.self.invariant.contents,
      length-mapped cow_str_bytes c.self.inside.lists.sources.items,
      length-mapped (option_map cow_str_bytes) c.self.inside.lists.contents.items,
    ) in
    record {
      joined = search rules;
      limits = search rules;
      too_large = too-large r m c.args.position a c.in-Some.ensures.fits _ (kept a.passed {xs = m.tokens} refl) _ c.in-Err.ensures.too_large;
      error = search rules;
      unchanged = by-lists r (ap (map cow_str_bytes) (c.cut-in-Err.ensures.names ∙ ap (λ k. take k c.push.new.lists.names.items) names_len ∙ c.push.ensures.names_front ∙ c.make_room_for.ensures.names))
          (ap (map cow_str_bytes) (c.cut-in-Err.ensures.sources ∙ ap (λ k. take k c.push.new.lists.sources.items) sources_len ∙ c.push.ensures.sources_front ∙ c.make_room_for.ensures.sources))
          (ap (map (option_map cow_str_bytes)) (c.cut-in-Err.ensures.contents ∙ ap (λ k. take k c.push.new.lists.contents.items) contents_len ∙ c.push.ensures.contents_front ∙ c.make_room_for.ensures.contents))
          (c.in-Err.ensures.unchanged.0 ∙ c.make_room_for.ensures.tokens) c.make_room_for.ensures.chunks c.in-Err.ensures.unchanged.1 c.self.view_is;
    }

pub returns-in_default-make_room_for : goal.returns-in_default-make_room_for
returns-in_default-make_room_for g c =
    let r = c.args.self.now in
    let m = map_of (g.S.Strings.names c.args.strings) (g.S.Strings.sources c.args.strings) (g.S.Strings.contents c.args.strings) c.args.tokens.now (lent_item c.args.ignored) in
    let a = c.in-Some.addition in
    record {
      joined = search rules;
      limits = search rules;
      too_large = too-large r m c.args.position a c.in-Some.ensures.fits _ (kept a.passed {xs = m.tokens} refl) _ (as-result c.error_without_room.result _ c.error_without_room.ensures.too_large);
      error = search rules;
      unchanged = search rules;
    }

pub returns-in_default-push : goal.returns-in_default-push
returns-in_default-push g c =
    let r = c.args.self.now in
    let m = map_of (g.S.Strings.names c.args.strings) (g.S.Strings.sources c.args.strings) (g.S.Strings.contents c.args.strings) c.args.tokens.now (lent_item c.args.ignored) in
    let a = c.in-Some.addition in
    let names_len : c.len-names_len.result ≡ vec_len c.make_room_for.new.lists.names = omega (arith, c.len-names_len.ensures, ap length c.make_room_for.ensures.names) in
    let sources_len : c.len-sources_len.result ≡ vec_len c.make_room_for.new.lists.sources = omega (arith, c.len-sources_len.ensures, ap length c.make_room_for.ensures.sources) in
    let contents_len : c.len-sources_len.result ≡ vec_len c.make_room_for.new.lists.contents =
    omega (
      arith,
      c.len-sources_len.ensures,
      ap length c.make_room_for.ensures.contents,
      c.self.invariant.contents,
      length-mapped cow_str_bytes c.self.inside.lists.sources.items,
      length-mapped (option_map cow_str_bytes) c.self.inside.lists.contents.items,
    ) in
    record {
      joined = search rules;
      limits = search rules;
      too_large = too-large r m c.args.position a c.in-Some.ensures.fits _ (kept a.passed {xs = m.tokens} refl) _ (as-result c.error_without_room-in_default-push.result _ c.error_without_room-in_default-push.ensures.too_large);
      error = search rules;
      unchanged = by-lists r (ap (map cow_str_bytes) (c.cut.ensures.names ∙ ap (λ k. take k c.push.new.lists.names.items) names_len ∙ c.push.ensures.names_front ∙ c.make_room_for.ensures.names))
          (ap (map cow_str_bytes) (c.cut.ensures.sources ∙ ap (λ k. take k c.push.new.lists.sources.items) sources_len ∙ c.push.ensures.sources_front ∙ c.make_room_for.ensures.sources))
          (ap (map (option_map cow_str_bytes)) (c.cut.ensures.contents ∙ ap (λ k. take k c.push.new.lists.contents.items) contents_len ∙ c.push.ensures.contents_front ∙ c.make_room_for.ensures.contents))
          c.make_room_for.ensures.tokens c.make_room_for.ensures.chunks refl c.self.view_is;
    }

pub returns-in_default : goal.returns-in_default
returns-in_default g c = record {
  joined = search rules;
  limits = search rules;
  too_large = search rules;
  error = search rules;
  unchanged = search rules;
}
