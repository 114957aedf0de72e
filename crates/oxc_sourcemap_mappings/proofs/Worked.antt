-- Worked examples of mappings, computed by the definitions themselves.
use Rattle.std.specs.Prelude.{◌≡◌, refl, ℕ, true, false, [], ◌∷◌, ◌++◌, codes, Ok, Err, Option}
use Rattle.std.specs.Prelude.{Some, None}
use Rattle.std.specs.List.{flat_map}
use Rattle.oxc_sourcemap_tokens.specs.declared.errors.error.Error.TheVariants.{VlqLeftover}
use Rattle.oxc_sourcemap_tokens.specs.declared.errors.error.Error.TheVariants.{VlqOverflow}
use Rattle.oxc_sourcemap_tokens.specs.declared.errors.error.Error.TheVariants.{BadSegmentSize}
use Rattle.oxc_sourcemap_tokens.specs.declared.errors.error.Error.TheVariants.{BadSourceReference}
use Rattle.oxc_sourcemap_tokens.specs.declared.errors.error.Error.TheVariants.{BadNameReference}
use Rattle.oxc_sourcemap_tokens.specs.declared.errors.error.Error.TheVariants.{LineOrder, BadChunks}
use Rattle.oxc_sourcemap_tokens.specs.declared.token.TokenChunk.{TokenChunk}
use Rattle.oxc_sourcemap_mappings.specs.Number.{digit}
use Rattle.oxc_sourcemap_mappings.specs.Faults.{digit_fault, place_fault}
use Rattle.oxc_sourcemap_tokens.specs.Token.{TokenRecord}
use Rattle.oxc_sourcemap_mappings.specs.Reading.{reading, text_results, line_results}
use Rattle.oxc_sourcemap_mappings.specs.SegmentPlaces.{fault_place, places_from, text_start}
use Rattle.oxc_sourcemap_mappings.specs.Canonical.{canonical, text_after, token_text, separator}
use Rattle.oxc_sourcemap_mappings.specs.Canonical.{delta_text, vlq_text, digits, letter}
use Rattle.oxc_sourcemap_mappings.specs.ChunkTexts.{chunk_text, chunk_text_after, writing_fault}

-- a token from its generated line and column, source line and column, source id, name id
abbrev token : ℕ → ℕ → ℕ → ℕ → Option ℕ → Option ℕ → TokenRecord
token dst_line dst_col src_line src_col source_id name_id =
    record { dst_line = dst_line; dst_col = dst_col; src_line = src_line; src_col = src_col; source_id = source_id; name_id = name_id }

-- a chunk from its start, its end, and its header in the order of the fields
abbrev chunk : ℕ → ℕ → ℕ → ℕ → ℕ → ℕ → ℕ → ℕ → TokenChunk
chunk start end dst_line dst_col src_line src_col name_id source_id =
    record { start = start; end = end; prev_dst_line = dst_line; prev_dst_col = dst_col; prev_src_line = src_line; prev_src_col = src_col; prev_name_id = name_id; prev_source_id = source_id }

reads-nothing : reading (codes "") 0 0 ≡ Ok ([])
unfolding reading text_results line_results place_fault digit_fault digit
reads-nothing = refl

writes-nothing : canonical ([]) ≡ (codes "")
unfolding canonical text_after token_text separator vlq_text digits letter
writes-nothing = refl

reads-names_and_sources : reading (codes "AAAA,GAAIA,GAAI,EACR,IAAIA,GAAK,EAAG,CACVC,MAAM") 2 1 ≡ Ok (token 0 0 0 0 (Some 0) None ∷ token 0 3 0 4 (Some 0) (Some 0) ∷ token 0 6 0 8 (Some 0) None ∷ token 0 8 1 0 (Some 0) None ∷ token 0 12 1 4 (Some 0) (Some 0) ∷ token 0 15 1 9 (Some 0) None ∷ token 0 17 1 12 (Some 0) None ∷ token 0 18 2 2 (Some 0) (Some 1) ∷ token 0 24 2 8 (Some 0) None ∷ [])
unfolding reading text_results line_results place_fault digit_fault digit
reads-names_and_sources = refl

writes-names_and_sources : canonical (token 0 0 0 0 (Some 0) None ∷ token 0 3 0 4 (Some 0) (Some 0) ∷ token 0 6 0 8 (Some 0) None ∷ token 0 8 1 0 (Some 0) None ∷ token 0 12 1 4 (Some 0) (Some 0) ∷ token 0 15 1 9 (Some 0) None ∷ token 0 17 1 12 (Some 0) None ∷ token 0 18 2 2 (Some 0) (Some 1) ∷ token 0 24 2 8 (Some 0) None ∷ []) ≡ (codes "AAAA,GAAIA,GAAI,EACR,IAAIA,GAAK,EAAG,CACVC,MAAM")
unfolding canonical text_after token_text separator vlq_text digits letter
writes-names_and_sources = refl

reads-two_fields : reading (codes "AA") 0 0 ≡ Err (BadSegmentSize 2)
unfolding reading text_results line_results place_fault digit_fault digit
reads-two_fields = refl

reads-six_fields : reading (codes "AAAAAA") 0 0 ≡ Err (BadSegmentSize 6)
unfolding reading text_results line_results place_fault digit_fault digit
reads-six_fields = refl

reads-unfinished_number : reading (codes "AAAAAg") 0 0 ≡ Err VlqLeftover
unfolding reading text_results line_results place_fault digit_fault digit
reads-unfinished_number = refl

reads-column_before_field_count : reading (codes "DA") 0 0 ≡ Err (BadSegmentSize 0)
unfolding reading text_results line_results place_fault digit_fault digit
reads-column_before_field_count = refl

reads-thirteen_open_digits : reading (codes "ggggggggggggg,A") 0 0 ≡ Err VlqLeftover
unfolding reading text_results line_results place_fault digit_fault digit
reads-thirteen_open_digits = refl

reads-fourteen_open_digits : reading (codes "gggggggggggggg") 0 0 ≡ Err VlqOverflow
unfolding reading text_results line_results place_fault digit_fault digit
reads-fourteen_open_digits = refl

reads-largest_negative : reading (codes "hgggggggggggH") 0 0 ≡ Err (BadSegmentSize 0)
unfolding reading text_results line_results place_fault digit_fault digit
reads-largest_negative = refl

reads-thirteenth_payload_of_8 : reading (codes "hgggggggggggI") 0 0 ≡ Err VlqOverflow
unfolding reading text_results line_results place_fault digit_fault digit
reads-thirteenth_payload_of_8 = refl

reads-thirteenth_payload_of_31 : reading (codes "/////////////") 0 0 ≡ Err VlqOverflow
unfolding reading text_results line_results place_fault digit_fault digit
reads-thirteenth_payload_of_31 = refl

reads-foreign_byte : reading (codes "gD,!C") 0 0 ≡ Ok (token 0 48 0 0 None None ∷ token 0 1 0 0 None None ∷ [])
unfolding reading text_results line_results place_fault digit_fault digit
reads-foreign_byte = refl

writes-foreign_byte : canonical (token 0 48 0 0 None None ∷ token 0 1 0 0 None None ∷ []) ≡ (codes "gD,/C")
unfolding canonical text_after token_text separator vlq_text digits letter
writes-foreign_byte = refl

reads-largest_column : reading (codes "+/////H") 0 0 ≡ Ok (token 0 4294967295 0 0 None None ∷ [])
unfolding reading text_results line_results place_fault digit_fault digit
reads-largest_column = refl

reads-column_past_the_largest : reading (codes "ggggggI") 0 0 ≡ Err VlqOverflow
unfolding reading text_results line_results place_fault digit_fault digit
reads-column_past_the_largest = refl

reads-name_without_names : reading (codes "AAAAA") 0 1 ≡ Err (BadNameReference 0)
unfolding reading text_results line_results place_fault digit_fault digit
reads-name_without_names = refl

reads-name_below_0 : reading (codes "AAAAD") 1 1 ≡ Err (BadNameReference 4294967295)
unfolding reading text_results line_results place_fault digit_fault digit
reads-name_below_0 = refl

reads-name_past_32_bits : reading (codes "AAAAggggggI") 1 1 ≡ Err (BadNameReference 0)
unfolding reading text_results line_results place_fault digit_fault digit
reads-name_past_32_bits = refl

reads-source_past_the_count : reading (codes "ACAA") 1 1 ≡ Err (BadSourceReference 0)
unfolding reading text_results line_results place_fault digit_fault digit
reads-source_past_the_count = refl

writes-deltas_around_16 : canonical (token 0 15 15 15 (Some 0) (Some 0) ∷ token 0 30 0 0 (Some 0) None ∷ token 0 46 16 16 (Some 0) (Some 0) ∷ token 0 47 0 0 (Some 0) (Some 0) ∷ token 1 1 1 1 (Some 0) (Some 0) ∷ token 1 2 1 1 None None ∷ []) ≡ (codes "eAeeA,eAff,gBAgBgBA,CAhBhBA;CACCA,C")
unfolding canonical text_after token_text separator vlq_text digits letter
writes-deltas_around_16 = refl

reads-minus_zero : reading (codes "B") 0 0 ≡ Ok (token 0 0 0 0 None None ∷ [])
unfolding reading text_results line_results place_fault digit_fault digit
reads-minus_zero = refl

writes-minus_zero : canonical (token 0 0 0 0 None None ∷ []) ≡ (codes "A")
unfolding canonical text_after token_text separator vlq_text digits letter
writes-minus_zero = refl

reads-padded_zero : reading (codes "gA") 0 0 ≡ Ok (token 0 0 0 0 None None ∷ [])
unfolding reading text_results line_results place_fault digit_fault digit
reads-padded_zero = refl

reads-empty_segments : reading (codes ",,A,;,C") 0 0 ≡ Ok (token 0 0 0 0 None None ∷ token 1 1 0 0 None None ∷ [])
unfolding reading text_results line_results place_fault digit_fault digit
reads-empty_segments = refl

writes-empty_segments : canonical (token 0 0 0 0 None None ∷ token 1 1 0 0 None None ∷ []) ≡ (codes "A;C")
unfolding canonical text_after token_text separator vlq_text digits letter
writes-empty_segments = refl

reads-lines_at_the_end : reading (codes "A;;") 0 0 ≡ Ok (token 0 0 0 0 None None ∷ [])
unfolding reading text_results line_results place_fault digit_fault digit
reads-lines_at_the_end = refl

reads-column_goes_back : reading (codes "G,D") 0 0 ≡ Ok (token 0 3 0 0 None None ∷ token 0 2 0 0 None None ∷ [])
unfolding reading text_results line_results place_fault digit_fault digit
reads-column_goes_back = refl

writes-column_goes_back : canonical (token 0 3 0 0 None None ∷ token 0 2 0 0 None None ∷ []) ≡ (codes "G,D")
unfolding canonical text_after token_text separator vlq_text digits letter
writes-column_goes_back = refl

writes-largest_deltas : canonical (token 0 4294967295 4294967295 4294967295 (Some 0) None ∷ token 1 0 0 0 (Some 0) None ∷ []) ≡ (codes "+/////HA+/////H+/////H;AA//////H//////H")
unfolding canonical text_after token_text separator vlq_text digits letter
writes-largest_deltas = refl

writes-three_chunks : canonical (token 1 1 1 1 (Some 0) (Some 0) ∷ token 3 1 1 1 (Some 1) (Some 2) ∷ token 3 2 2 2 (Some 2) (Some 3) ∷ []) ≡ (codes ";CACCA;;CCAAE,CCCCC")
unfolding canonical text_after token_text separator vlq_text digits letter
writes-three_chunks = refl

fits-three_chunks : writing_fault (token 1 1 1 1 (Some 0) (Some 0) ∷ token 3 1 1 1 (Some 1) (Some 2) ∷ token 3 2 2 2 (Some 2) (Some 3) ∷ []) (Some (chunk 0 1 0 0 0 0 0 0 ∷ chunk 1 2 1 1 1 1 0 0 ∷ chunk 2 3 3 1 1 1 2 1 ∷ [])) ≡ None
fits-three_chunks = refl

pieces-three_chunks : flat_map (chunk_text (token 1 1 1 1 (Some 0) (Some 0) ∷ token 3 1 1 1 (Some 1) (Some 2) ∷ token 3 2 2 2 (Some 2) (Some 3) ∷ [])) (chunk 0 1 0 0 0 0 0 0 ∷ chunk 1 2 1 1 1 1 0 0 ∷ chunk 2 3 3 1 1 1 2 1 ∷ []) ≡ (codes ";CACCA;;CCAAE,CCCCC")
unfolding chunk_text chunk_text_after token_text separator vlq_text digits letter
pieces-three_chunks = refl

writes-unmapped_token_before : canonical (token 0 0 5 3 (Some 0) None ∷ token 0 4 0 0 None None ∷ token 1 0 7 1 (Some 1) None ∷ []) ≡ (codes "AAKG,I;ACEF")
unfolding canonical text_after token_text separator vlq_text digits letter
writes-unmapped_token_before = refl

fits-unmapped_token_before : writing_fault (token 0 0 5 3 (Some 0) None ∷ token 0 4 0 0 None None ∷ token 1 0 7 1 (Some 1) None ∷ []) (Some (chunk 0 2 0 0 0 0 0 0 ∷ chunk 2 3 0 4 5 3 0 0 ∷ [])) ≡ None
fits-unmapped_token_before = refl

pieces-unmapped_token_before : flat_map (chunk_text (token 0 0 5 3 (Some 0) None ∷ token 0 4 0 0 None None ∷ token 1 0 7 1 (Some 1) None ∷ [])) (chunk 0 2 0 0 0 0 0 0 ∷ chunk 2 3 0 4 5 3 0 0 ∷ []) ≡ (codes "AAKG,I;ACEF")
unfolding chunk_text chunk_text_after token_text separator vlq_text digits letter
pieces-unmapped_token_before = refl

writes-unmapped_tokens : canonical (token 0 0 0 0 None None ∷ token 2 3 0 0 None None ∷ token 3 9 0 0 None None ∷ []) ≡ (codes "A;;G;S")
unfolding canonical text_after token_text separator vlq_text digits letter
writes-unmapped_tokens = refl

fits-unmapped_tokens : writing_fault (token 0 0 0 0 None None ∷ token 2 3 0 0 None None ∷ token 3 9 0 0 None None ∷ []) (Some (chunk 0 2 0 0 0 0 0 0 ∷ chunk 2 3 2 3 0 0 0 0 ∷ [])) ≡ None
fits-unmapped_tokens = refl

pieces-unmapped_tokens : flat_map (chunk_text (token 0 0 0 0 None None ∷ token 2 3 0 0 None None ∷ token 3 9 0 0 None None ∷ [])) (chunk 0 2 0 0 0 0 0 0 ∷ chunk 2 3 2 3 0 0 0 0 ∷ []) ≡ (codes "A;;G;S")
unfolding chunk_text chunk_text_after token_text separator vlq_text digits letter
pieces-unmapped_tokens = refl

writes-empty_chunks : canonical ([]) ≡ (codes "")
unfolding canonical text_after token_text separator vlq_text digits letter
writes-empty_chunks = refl

fits-empty_chunks : writing_fault ([]) (Some (chunk 0 0 0 0 0 0 0 0 ∷ chunk 0 0 0 0 0 0 0 0 ∷ [])) ≡ None
fits-empty_chunks = refl

pieces-empty_chunks : flat_map (chunk_text ([])) (chunk 0 0 0 0 0 0 0 0 ∷ chunk 0 0 0 0 0 0 0 0 ∷ []) ≡ (codes "")
unfolding chunk_text chunk_text_after token_text separator vlq_text digits letter
pieces-empty_chunks = refl

writes-empty_chunk_between : canonical (token 0 0 5 3 (Some 0) None ∷ token 1 2 1 1 (Some 2) None ∷ []) ≡ (codes "AAKG;EEJF")
unfolding canonical text_after token_text separator vlq_text digits letter
writes-empty_chunk_between = refl

fits-empty_chunk_between : writing_fault (token 0 0 5 3 (Some 0) None ∷ token 1 2 1 1 (Some 2) None ∷ []) (Some (chunk 0 1 0 0 0 0 0 0 ∷ chunk 1 1 0 0 5 3 0 0 ∷ chunk 1 2 0 0 5 3 0 0 ∷ [])) ≡ None
fits-empty_chunk_between = refl

pieces-empty_chunk_between : flat_map (chunk_text (token 0 0 5 3 (Some 0) None ∷ token 1 2 1 1 (Some 2) None ∷ [])) (chunk 0 1 0 0 0 0 0 0 ∷ chunk 1 1 0 0 5 3 0 0 ∷ chunk 1 2 0 0 5 3 0 0 ∷ []) ≡ (codes "AAKG;EEJF")
unfolding chunk_text chunk_text_after token_text separator vlq_text digits letter
pieces-empty_chunk_between = refl

writes-name_of_unmapped_token : canonical (token 0 0 0 0 (Some 0) (Some 0) ∷ token 0 1 0 0 None (Some 2) ∷ token 1 0 0 0 (Some 1) (Some 3) ∷ []) ≡ (codes "AAAAA,C;ACAAG")
unfolding canonical text_after token_text separator vlq_text digits letter
writes-name_of_unmapped_token = refl

fits-name_of_unmapped_token : writing_fault (token 0 0 0 0 (Some 0) (Some 0) ∷ token 0 1 0 0 None (Some 2) ∷ token 1 0 0 0 (Some 1) (Some 3) ∷ []) (Some (chunk 0 2 0 0 0 0 0 0 ∷ chunk 2 3 0 1 0 0 0 0 ∷ [])) ≡ None
fits-name_of_unmapped_token = refl

pieces-name_of_unmapped_token : flat_map (chunk_text (token 0 0 0 0 (Some 0) (Some 0) ∷ token 0 1 0 0 None (Some 2) ∷ token 1 0 0 0 (Some 1) (Some 3) ∷ [])) (chunk 0 2 0 0 0 0 0 0 ∷ chunk 2 3 0 1 0 0 0 0 ∷ []) ≡ (codes "AAAAA,C;ACAAG")
unfolding chunk_text chunk_text_after token_text separator vlq_text digits letter
pieces-name_of_unmapped_token = refl

writes-empty_chunk_at_the_end : canonical (token 0 0 0 0 None None ∷ []) ≡ (codes "A")
unfolding canonical text_after token_text separator vlq_text digits letter
writes-empty_chunk_at_the_end = refl

fits-empty_chunk_at_the_end : writing_fault (token 0 0 0 0 None None ∷ []) (Some (chunk 0 1 0 0 0 0 0 0 ∷ chunk 1 1 0 0 0 0 0 0 ∷ [])) ≡ None
fits-empty_chunk_at_the_end = refl

pieces-empty_chunk_at_the_end : flat_map (chunk_text (token 0 0 0 0 None None ∷ [])) (chunk 0 1 0 0 0 0 0 0 ∷ chunk 1 1 0 0 0 0 0 0 ∷ []) ≡ (codes "A")
unfolding chunk_text chunk_text_after token_text separator vlq_text digits letter
pieces-empty_chunk_at_the_end = refl

piece-true_header : chunk_text (token 1 1 1 1 (Some 0) (Some 0) ∷ token 3 1 1 1 (Some 1) (Some 2) ∷ token 3 2 2 2 (Some 2) (Some 3) ∷ []) (chunk 2 3 3 1 1 1 2 1) ≡ (codes ",CCCCC")
unfolding chunk_text chunk_text_after token_text separator vlq_text digits letter
piece-true_header = refl

piece-false_header : chunk_text (token 1 1 1 1 (Some 0) (Some 0) ∷ token 3 1 1 1 (Some 1) (Some 2) ∷ token 3 2 2 2 (Some 2) (Some 3) ∷ []) (chunk 2 3 0 0 0 0 0 0) ≡ (codes ";;;EEEEG")
unfolding chunk_text chunk_text_after token_text separator vlq_text digits letter
piece-false_header = refl

fails-chunks_end_too_soon : writing_fault (token 0 0 0 0 None None ∷ token 0 1 0 0 None None ∷ []) (Some (chunk 0 1 0 0 0 0 0 0 ∷ [])) ≡ Some (BadChunks 1)
fails-chunks_end_too_soon = refl

fails-false_header : writing_fault (token 1 1 1 1 (Some 0) (Some 0) ∷ token 3 1 1 1 (Some 1) (Some 2) ∷ token 3 2 2 2 (Some 2) (Some 3) ∷ []) (Some (chunk 0 1 0 0 0 0 0 0 ∷ chunk 1 2 1 1 1 1 0 0 ∷ chunk 2 3 3 1 1 1 1 1 ∷ [])) ≡ Some (BadChunks 2)
fails-false_header = refl

fails-line_goes_back : writing_fault (token 1 0 0 0 None None ∷ token 0 0 0 0 None None ∷ []) None ≡ Some (LineOrder 1)
fails-line_goes_back = refl

fails-no_chunks : writing_fault (token 0 0 0 0 None None ∷ token 0 1 0 0 None None ∷ []) (Some ([])) ≡ Some (BadChunks 0)
fails-no_chunks = refl

fails-chunk_past_the_end : writing_fault (token 0 0 0 0 None None ∷ token 0 1 0 0 None None ∷ []) (Some (chunk 0 3 0 0 0 0 0 0 ∷ [])) ≡ Some (BadChunks 0)
fails-chunk_past_the_end = refl

fails-chunks_overlap : writing_fault (token 0 0 0 0 None None ∷ token 0 1 0 0 None None ∷ []) (Some (chunk 0 2 0 0 0 0 0 0 ∷ chunk 1 2 0 0 0 0 0 0 ∷ [])) ≡ Some (BadChunks 1)
fails-chunks_overlap = refl

writes-two_names : canonical (token 0 0 4 4 (Some 0) (Some 0) ∷ token 0 3 5 5 (Some 0) (Some 1) ∷ []) ≡ (codes "AAIIA,GACCC")
unfolding canonical text_after token_text separator vlq_text digits letter
writes-two_names = refl

reads-three_fields : reading (codes "AAA") 0 1 ≡ Err (BadSegmentSize 3)
unfolding reading text_results line_results place_fault digit_fault digit
reads-three_fields = refl

reads-six_fields_of_one_source : reading (codes "AAAAAA") 1 1 ≡ Err (BadSegmentSize 6)
unfolding reading text_results line_results place_fault digit_fault digit
reads-six_fields_of_one_source = refl

reads-unfinished_name : reading (codes "AAAAg") 1 1 ≡ Err VlqLeftover
unfolding reading text_results line_results place_fault digit_fault digit
reads-unfinished_name = refl

reads-unfinished_foreign_name : reading (codes "AAAA!") 1 1 ≡ Err VlqLeftover
unfolding reading text_results line_results place_fault digit_fault digit
reads-unfinished_foreign_name = refl

reads-column_below_0_with_source : reading (codes "DAAA") 0 1 ≡ Err (BadSegmentSize 0)
unfolding reading text_results line_results place_fault digit_fault digit
reads-column_below_0_with_source = refl

reads-column_above : reading (codes "+/////H,C") 0 0 ≡ Err VlqOverflow
unfolding reading text_results line_results place_fault digit_fault digit
reads-column_above = refl

reads-large_column_goes_back : reading (codes "+/////H,D") 0 0 ≡ Ok (token 0 4294967295 0 0 None None ∷ token 0 4294967294 0 0 None None ∷ [])
unfolding reading text_results line_results place_fault digit_fault digit
reads-large_column_goes_back = refl

reads-source_line_above : reading (codes "AA+/////HA,AACA") 0 1 ≡ Err VlqOverflow
unfolding reading text_results line_results place_fault digit_fault digit
reads-source_line_above = refl

reads-bytes_past_ascii : reading (codes "ggggB," ++ 195 ∷ 169 ∷ codes "C") 0 0 ≡ Ok (token 0 524288 0 0 None None ∷ token 0 522753 0 0 None None ∷ [])
unfolding reading text_results line_results place_fault digit_fault digit
reads-bytes_past_ascii = refl

writes-bytes_past_ascii : canonical (token 0 524288 0 0 None None ∷ token 0 522753 0 0 None None ∷ []) ≡ (codes "ggggB,//C")
unfolding canonical text_after token_text separator vlq_text digits letter
writes-bytes_past_ascii = refl

writes-id_out_of_range : canonical (token 0 0 0 0 (Some 5) None ∷ []) ≡ (codes "AKAA")
unfolding canonical text_after token_text separator vlq_text digits letter
writes-id_out_of_range = refl

writes-unmapped_with_a_name : canonical (token 0 0 3 4 None (Some 7) ∷ []) ≡ (codes "A")
unfolding canonical text_after token_text separator vlq_text digits letter
writes-unmapped_with_a_name = refl

delta-0 : delta_text 0 0 ≡ codes "A"
unfolding vlq_text digits letter
delta-0 = refl

delta-1 : delta_text 1 0 ≡ codes "C"
unfolding vlq_text digits letter
delta-1 = refl

delta-15 : delta_text 15 0 ≡ codes "e"
unfolding vlq_text digits letter
delta-15 = refl

delta-16 : delta_text 16 0 ≡ codes "gB"
unfolding vlq_text digits letter
delta-16 = refl

delta-511 : delta_text 511 0 ≡ codes "+f"
unfolding vlq_text digits letter
delta-511 = refl

delta-512 : delta_text 512 0 ≡ codes "ggB"
unfolding vlq_text digits letter
delta-512 = refl

delta-16383 : delta_text 16383 0 ≡ codes "+/f"
unfolding vlq_text digits letter
delta-16383 = refl

delta-16384 : delta_text 16384 0 ≡ codes "gggB"
unfolding vlq_text digits letter
delta-16384 = refl

delta-4294967295 : delta_text 4294967295 0 ≡ codes "+/////H"
unfolding vlq_text digits letter
delta-4294967295 = refl

delta-minus_1 : delta_text 0 1 ≡ codes "D"
unfolding vlq_text digits letter
delta-minus_1 = refl

delta-minus_15 : delta_text 0 15 ≡ codes "f"
unfolding vlq_text digits letter
delta-minus_15 = refl

delta-minus_16 : delta_text 0 16 ≡ codes "hB"
unfolding vlq_text digits letter
delta-minus_16 = refl

delta-minus_511 : delta_text 0 511 ≡ codes "/f"
unfolding vlq_text digits letter
delta-minus_511 = refl

delta-minus_512 : delta_text 0 512 ≡ codes "hgB"
unfolding vlq_text digits letter
delta-minus_512 = refl

delta-minus_16383 : delta_text 0 16383 ≡ codes "//f"
unfolding vlq_text digits letter
delta-minus_16383 = refl

delta-minus_16384 : delta_text 0 16384 ≡ codes "hggB"
unfolding vlq_text digits letter
delta-minus_16384 = refl

delta-minus_536870912 : delta_text 0 536870912 ≡ codes "hgggggB"
unfolding vlq_text digits letter
delta-minus_536870912 = refl

delta-minus_4294967295 : delta_text 0 4294967295 ≡ codes "//////H"
unfolding vlq_text digits letter
delta-minus_4294967295 = refl

-- the places of segments: empty ones do not count
places-of_segments : places_from text_start false (codes ",A,,C;;D")
    ≡ record { byte = 1; line = 0; segment = 0 } ∷ record { byte = 4; line = 0; segment = 1 } ∷ record { byte = 7; line = 2; segment = 0 } ∷ []
unfolding places_from
places-of_segments = refl

-- nothing is read behind the `;` that begins line 4294967296
places-too_large : places_from (record { byte = 7; line = 4294967295; segment = 2 }) true (codes "A,C;D")
    ≡ record { byte = 9; line = 4294967295; segment = 2 } ∷ record { byte = 10; line = 4294967295; segment = 3 } ∷ []
unfolding places_from
places-too_large = refl

place-none : fault_place (codes "A;C,C") 0 0 ≡ None
unfolding fault_place places_from text_results line_results place_fault digit_fault digit
place-none = refl

place-second_line : fault_place (codes "A;A,D") 0 0 ≡ Some (record { byte = 4; line = 1; segment = 1 })
unfolding fault_place places_from text_results line_results place_fault digit_fault digit
place-second_line = refl

place-first : fault_place (codes "AAAA") 0 0 ≡ Some (record { byte = 0; line = 0; segment = 0 })
unfolding fault_place places_from text_results line_results place_fault digit_fault digit
place-first = refl
