use lib.Signed.{lt_z}
use Rattle.std.proofs.Common.{refl, arith, rules, sym, ap, ◌≡◌, ◌∙◌, Ok, ℤ, pos, ◌≤ℤ◌, FitsSigned}
use Rattle.std.proofs.Common.{to_z, of_z, w8, false}
use Rattle.std.proofs.lemmas.Int.{ints}
use Rattle.oxc_sourcemap_mappings.specs.Faults.{counts_of}
use Rattle.oxc_sourcemap_mappings.specs.Decoding.{place_of}
use Rattle.oxc_sourcemap_mappings.proofs.Usual.{front-end, kept, digits-four, place-four}
use Rattle.oxc_sourcemap_mappings.proofs.Usual.{token-four}
use Rattle.oxc_sourcemap_mappings.proofs.Usual.{digits-five, place-five, token-five}
use Rattle.oxc_sourcemap_mappings.proofs.decode.Sums.usual_token.Goals as goal

at_least : (z : ℤ) → FitsSigned w8 z → lt_z (to_z w8 (of_z w8 z)) (pos 96) ≡ false → pos 96 ≤ℤ z
at_least z f h = grind (arith, ints)

pub returns-then-byte_number-gt95-clause-token : goal.returns-then-byte_number-gt95-clause-token
returns-then-byte_number-gt95-clause-token c =
    let ended = front-end c.args.text.now _ (omega (arith, c.in_ok-dst_col.ensures.len.1, c.in_ok-source_id.ensures.len.1, c.in_ok-src_line.ensures.len.1, c.in_ok-src_col.ensures.len.1)) (c.byte_number.ensures.mark (grind (arith, ints, c.if-byte_number-gt95.true))) in
    let counts = counts_of c.args.names c.args.sources in
    let before = place_of c.args.self.now in
    let first = c.in_ok-dst_col.ensures.number in
    let second = c.in_ok-source_id.ensures.number in
    let third = c.in_ok-src_line.ensures.number in
    let fourth = c.in_ok-src_col.ensures.number in
    let id = c.in_ok-source_id-2.ensures in
    let position = c.in_ok-moved.ensures in
    let source_id = rw (kept _ second.small) at id.value in
    let below = rw (kept _ second.small) at id.below in
    let dst_col = rw (kept _ first.small) at position.dst_col in
    let src_line = rw (kept _ third.small) at position.src_line in
    let src_col = rw (kept _ fourth.small) at position.src_col in
    let clean = rw (kept _ first.small, kept _ third.small, kept _ fourth.small) at position.clean refl in
    let after = place_of (record { dst_col = c.in_ok-moved.moved.dst_col; source_id = c.in_ok-source_id-2.source_id; src_line = c.in_ok-moved.moved.src_line; src_col = c.in_ok-moved.moved.src_col; name_id = c.in_ok-moved.moved.name_id }) in
    record {
      place = place-four _ _ _ _ _ _ _ _ _ first second third fourth counts c.args.line before after dst_col source_id src_line src_col clean.0 below clean.1 clean.2 ended (ap pos position.others.1);
      result = token-four _ _ _ _ _ _ _ _ _ first second third fourth counts c.args.line before after dst_col source_id src_line src_col clean.0 below clean.1 clean.2 ended (ap pos position.others.1) ∙ ap Ok (sym c.token.ensures);
      len_is = digits-four _ _ _ _ _ _ _ _ _ first second third fourth ended;
      within = omega (arith, c.in_ok-dst_col.ensures.len.1, c.in_ok-source_id.ensures.len.1, c.in_ok-src_line.ensures.len.1, c.in_ok-src_col.ensures.len.1);
    }

pub returns-clause-token : goal.returns-clause-token
returns-clause-token c =
    let ended = front-end c.args.text.now _ (omega (arith, c.in_ok-dst_col.ensures.len.1, c.in_ok-source_id.ensures.len.1, c.in_ok-src_line.ensures.len.1, c.in_ok-src_col.ensures.len.1, c.in_ok-by.ensures.len.1)) (c.byte_number-2.ensures.mark (at_least c.byte_number-2.result (search rules) c.if-byte_number-lt96.false)) in
    let counts = counts_of c.args.names c.args.sources in
    let before = place_of c.args.self.now in
    let first = c.in_ok-dst_col.ensures.number in
    let second = c.in_ok-source_id.ensures.number in
    let third = c.in_ok-src_line.ensures.number in
    let fourth = c.in_ok-src_col.ensures.number in
    let id = c.in_ok-source_id-2.ensures in
    let position = c.in_ok-moved.ensures in
    let source_id = rw (kept _ second.small) at id.value in
    let below = rw (kept _ second.small) at id.below in
    let dst_col = rw (kept _ first.small) at position.dst_col in
    let src_line = rw (kept _ third.small) at position.src_line in
    let src_col = rw (kept _ fourth.small) at position.src_col in
    let clean = rw (kept _ first.small, kept _ third.small, kept _ fourth.small) at position.clean refl in
    let fifth = c.in_ok-by.ensures.number in
    let name = c.in_ok-name_id.ensures in
    let name_id = rw (kept _ fifth.small) at name.value in
    let name_below = rw (kept _ fifth.small) at name.below in
    let after = place_of (record { dst_col = c.in_ok-moved.moved.dst_col; source_id = c.in_ok-source_id-2.source_id; src_line = c.in_ok-moved.moved.src_line; src_col = c.in_ok-moved.moved.src_col; name_id = c.in_ok-name_id.name_id }) in
    record {
      place = place-five _ _ _ _ _ _ _ _ _ first second third fourth counts c.args.line before after dst_col source_id src_line src_col clean.0 below clean.1 clean.2 _ _ fifth ended name_id;
      result = token-five _ _ _ _ _ _ _ _ _ first second third fourth counts c.args.line before after dst_col source_id src_line src_col clean.0 below clean.1 clean.2 _ _ fifth ended name_id name_below ∙ ap Ok (sym c.token-2.ensures);
      len_is = digits-five _ _ _ _ _ _ _ _ _ first second third fourth counts c.args.line before after dst_col source_id src_line src_col clean.0 below clean.1 clean.2 _ _ fifth ended name_id;
      within = omega (arith, c.in_ok-dst_col.ensures.len.1, c.in_ok-source_id.ensures.len.1, c.in_ok-src_line.ensures.len.1, c.in_ok-src_col.ensures.len.1, c.in_ok-by.ensures.len.1);
    }
