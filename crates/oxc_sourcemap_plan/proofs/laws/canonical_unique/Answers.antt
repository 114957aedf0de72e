use Rattle.oxc_sourcemap_mappings.proofs.Ascii.{piece-plain}
use Rattle.oxc_sourcemap_mappings.proofs.Pieces.{pieces-is}
use Rattle.oxc_sourcemap_tokens.proofs.InOrder.{back_from-all}
use Rattle.oxc_sourcemap_mappings.proofs.RoundTrip.{are-within, round_trip, as_written-of_carried}
use Rattle.oxc_sourcemap_mappings.proofs.RoundTrip.{as_written-from_canonical, canonical-from_bare}
use Rattle.oxc_sourcemap_mappings.proofs.Again.{reads_of, read_again, bounds_within}
use Rattle.std.proofs.Common.{◌∙◌, sym}
use Rattle.std.proofs.lemmas.List.Elements.{recursion_from_All}
use Rattle.oxc_sourcemap_tokens.specs.Token.{IsInBounds}
use Rattle.oxc_sourcemap_plan.proofs.ReadsBack.{is_written, is_too_large, reads_back}
use Rattle.oxc_sourcemap_json.proofs.WellRead.{read_in_bounds, read_in_order}
use Rattle.oxc_sourcemap_plan.proofs.Rewriting.{stays_sound}
use Rattle.oxc_sourcemap_plan.proofs.laws.canonical_unique.Goals as goal

pub returns-clause-unique : goal.returns-clause-unique
returns-clause-unique c = λ a b p q. (as_written-from_canonical a b (recursion_from_All IsInBounds a p.in_bounds) (recursion_from_All IsInBounds b q.in_bounds) p.in_order q.in_order, canonical-from_bare a b)

pub returns-clause-reads_back : goal.returns-clause-reads_back
returns-clause-reads_back c = λ names sources tokens p w. (round_trip names sources tokens (are-within names sources tokens (recursion_from_All IsInBounds tokens p.in_bounds) w) p.in_order, as_written-of_carried tokens)

pub returns-clause-reads_again : goal.returns-clause-reads_again
returns-clause-reads_again c = λ text names sources tokens e.
    let r = reads_of text names sources tokens e in
    (record { in_order = sym (back_from-all tokens) ∙ r.order 0; in_bounds = bounds_within names sources tokens r.within }, read_again text names sources tokens e)

pub returns-clause-in_pieces : goal.returns-clause-in_pieces
returns-clause-in_pieces c = pieces-is

pub returns-clause-chunk_texts_are_ascii : goal.returns-clause-chunk_texts_are_ascii
returns-clause-chunk_texts_are_ascii c = piece-plain

pub returns-clause-sound_is_written : goal.returns-clause-sound_is_written
returns-clause-sound_is_written c = is_written

pub returns-clause-sound_is_too_large : goal.returns-clause-sound_is_too_large
returns-clause-sound_is_too_large c = is_too_large

pub returns-clause-sound_reads_back : goal.returns-clause-sound_reads_back
returns-clause-sound_reads_back c = reads_back

pub returns-clause-sound_stays_sound : goal.returns-clause-sound_stays_sound
returns-clause-sound_stays_sound c = stays_sound

pub returns-clause-read_is_in_bounds : goal.returns-clause-read_is_in_bounds
returns-clause-read_is_in_bounds c = read_in_bounds

pub returns-clause-read_is_in_line_order : goal.returns-clause-read_is_in_line_order
returns-clause-read_is_in_line_order c = read_in_order
