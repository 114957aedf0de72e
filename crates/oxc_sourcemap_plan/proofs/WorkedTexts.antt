-- The texts of the worked examples of joins, computed by the definitions themselves.
use Rattle.std.specs.Prelude.{◌≡◌, refl, codes}
use Rattle.oxc_sourcemap_mappings.specs.Canonical.{canonical, text_after, token_text, separator}
use Rattle.oxc_sourcemap_mappings.specs.Canonical.{vlq_text, digits, letter}
use Rattle.oxc_sourcemap_join.proofs.Worked.{one_source_each, three_names, unmapped_twice}
use Rattle.oxc_sourcemap_join.proofs.Worked.{side_by_side}

writes-after_a_map_without_tokens : canonical one_source_each.tokens ≡ codes "AAKG;EEJF"
unfolding canonical text_after token_text separator vlq_text digits letter
writes-after_a_map_without_tokens = refl

writes-after_an_unmapped_token_with_a_name : canonical three_names.tokens ≡ codes "AAAAA,C;ACAAG"
unfolding canonical text_after token_text separator vlq_text digits letter
writes-after_an_unmapped_token_with_a_name = refl

writes-once_what_repeats : canonical unmapped_twice.tokens ≡ codes "A"
unfolding canonical text_after token_text separator vlq_text digits letter
writes-once_what_repeats = refl

writes-at_column_10 : canonical (side_by_side 10).tokens ≡ codes "AAAA,IAAI,MCAJ;AACA"
unfolding canonical text_after token_text separator vlq_text digits letter
writes-at_column_10 = refl

-- two maps may meet at one position
writes-at_column_4 : canonical (side_by_side 4).tokens ≡ codes "AAAA,IAAI,ACAJ;AACA"
unfolding canonical text_after token_text separator vlq_text digits letter
writes-at_column_4 = refl
