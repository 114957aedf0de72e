-- Worked examples of what the program prints, computed by the definitions themselves.
use Rattle.std.specs.Prelude.{◌≡◌, refl, ℕ, true, false, List, [], ◌∷◌, codes, Option}
use Rattle.std.specs.Prelude.{Some, None, option_to_list}
use Rattle.std.specs.Borrow.{Bor}
use Rattle.std.specs.Str.{chars, is_utf8}
use lib.Utf8.{encode}
use Rattle.std.specs.BTreeMap.{BTreeMap}
use Rattle.std.proofs.Common.{inl, sym, true≢false, String, Global}
use Rattle.std.specs.Str.Lossy.{utf8_valid_len, utf8_error_len}
use Rattle.oxc_sourcemap_tokens.specs.declared.position.Position.{Position}
use Rattle.oxc_sourcemap_parts.specs.Record.{Text, MapRecord}
use Rattle.oxc_sourcemap_parts.specs.Views.{empty_record}
use Rattle.oxc_sourcemap_parts.specs.DecodedMap.{OriginalPosition}
use Rattle.oxc_sourcemap_text.specs.TextLines.{lines_of}
use Rattle.oxc_sourcemap_text.specs.Positions.{position_of}
use Rattle.sourcemap_run.specs.declared.counting.Mark.{Mark}
use Rattle.sourcemap_run.specs.declared.frames.Cut.{Cut}
use Rattle.sourcemap_run.specs.declared.frames.Target.{Target}
use Rattle.sourcemap_run.specs.declared.raw_lines.Splice.{Splice}
use Rattle.sourcemap_run.specs.declared.sizes.Start.{Start}
use Rattle.sourcemap_run.specs.Counts.{original_count, missed_ranges}
use Rattle.sourcemap_run.specs.Frames.{frame_position, answer_to, location_text, line_led_back}
use Rattle.sourcemap_run.specs.Differences.{is_same_answer}
use Rattle.sourcemap_run.specs.Contexts.{context_text, before_column, mark_line}
use Rattle.sourcemap_run.specs.Totals.{with_counts, HaveLines}
use Rattle.sourcemap_run.specs.Covered.{ran, missed_text, lcov_text, missed_numbers}
use Rattle.sourcemap_run.specs.Covered.{covered_members}
use Rattle.sourcemap_run.specs.Covered.{covered_line, told}
use Rattle.sourcemap_run.specs.Texts.{object_text, text_member, number_member}
use Rattle.std.specs.Fmt.{digits}
use Rattle.oxc_sourcemap_json.specs.JsonString.{json_string, escaped}
use Rattle.sourcemap_run.specs.Bundled.{StandsAt, HasLineEnds, IsEnded}
use Rattle.sourcemap_run.specs.RawLines.{spliced, are_in_row, IsMasked}
use Rattle.sourcemap_run.specs.Sizes.{lengths_of, bytes_at}

abbrev lent : Text → Bor Text
lent text = record { ref_ptr = (0, 0); now = text }

abbrev at : ℕ → ℕ → Position
at line column = record { line = line; column = column }

-- ---- counts of lines
abbrev mark : ℕ → ℕ → ℕ → Mark
mark source_id line count = record { source_id = source_id; line = line; count = count; start = at 0 0; end = at 0 1 }

-- sources 0 and 2 have one path
abbrev three_paths : List Text
three_paths = codes "a.ts" ∷ codes "b.ts" ∷ codes "a.ts" ∷ []

abbrev six_marks : List Mark
six_marks = mark 0 3 1 ∷ mark 1 3 9 ∷ mark 2 3 2 ∷ mark 0 3 4 ∷ mark 0 4 0 ∷ mark 2 5 1 ∷ []

-- and not 4 and 2, the greatest of each source, together
counts-the_greatest_of_all_sources_with_the_path : original_count three_paths six_marks (codes "a.ts") 3 ≡ Some 4
counts-the_greatest_of_all_sources_with_the_path = refl

counts-each_original_by_itself : original_count three_paths six_marks (codes "b.ts") 3 ≡ Some 9
counts-each_original_by_itself = refl

counts-a_line_that_did_not_run : original_count three_paths six_marks (codes "a.ts") 4 ≡ Some 0
counts-a_line_that_did_not_run = refl

counts-a_line_of_the_second_source_alone : original_count three_paths six_marks (codes "a.ts") 5 ≡ Some 1
counts-a_line_of_the_second_source_alone = refl

counts-nothing_without_a_mark : original_count three_paths six_marks (codes "b.ts") 4 ≡ None
counts-nothing_without_a_mark = refl

counts-nothing_of_another_path : original_count three_paths six_marks (codes "c.ts") 3 ≡ None
counts-nothing_of_another_path = refl

-- a line without a count does not end a range, as 9 and 10 here
has-ranges : missed_ranges ((3, 0) ∷ (4, 1) ∷ (7, 0) ∷ (8, 0) ∷ (11, 0) ∷ (12, 5) ∷ []) ≡ (3, 3) ∷ (7, 11) ∷ []
has-ranges = refl

has-no_range : missed_ranges ((3, 1) ∷ (4, 2) ∷ []) ≡ []
has-no_range = refl

-- ---- counts of lines over scripts
-- in a second script, whose source is a.ts, its line 3 ran 5 times
adds-two_scripts :
    with_counts (with_counts None (option_to_list (original_count three_paths six_marks (codes "a.ts") 3)))
    (option_to_list (original_count (codes "a.ts" ∷ []) (mark 0 3 5 ∷ mark 0 3 2 ∷ []) (codes "a.ts") 3))
    ≡ Some 9
adds-two_scripts = refl

ends-at_the_greatest : with_counts (Some 0xffff_ffff_ffff_fffe) (3 ∷ []) ≡ Some 0xffff_ffff_ffff_ffff
ends-at_the_greatest = refl

keeps-a_line_that_did_not_run : with_counts None (0 ∷ []) ≡ Some 0
keeps-a_line_that_did_not_run = refl

keeps-no_line_without_a_count : with_counts None [] ≡ None
keeps-no_line_without_a_count = refl

-- totals begin without an original
have_lines-at_first : (totals : BTreeMap (String Global) (BTreeMap ℕ ℕ)) → totals.entries ≡ [] → HaveLines totals
have_lines-at_first totals none path there =
    let nothing : false ≡ true = rw none at there in
    absurd (true≢false (sym nothing))

-- ---- what is printed of lines that ran
abbrev five_lines : List (ℕ × ℕ)
five_lines = (2, 0) ∷ (3, 7) ∷ (6, 0) ∷ (7, 0) ∷ (8, 0) ∷ []

counts-lines_that_ran : ran five_lines ≡ 1
counts-lines_that_ran = refl

tells-missed_ranges : missed_text five_lines ≡ codes "3, 7-9"
unfolding digits
tells-missed_ranges = refl

tells-nothing_missed : missed_text ((3, 7) ∷ []) ≡ []
tells-nothing_missed = refl

tells-lcov : lcov_text (codes "a.ts") ((2, 0) ∷ (3, 7) ∷ []) ≡ codes "TN:\nSF:a.ts\nDA:3,0\nDA:4,7\nLF:2\nLH:1\nend_of_record\n"
unfolding digits
tells-lcov = refl

tells-missed_numbers : missed_numbers five_lines ≡ codes "3,7,8,9"
unfolding digits
tells-missed_numbers = refl

tells-an_object : covered_line (codes "a.ts") five_lines ≡ codes "{\"source\":\"a.ts\",\"ran\":1,\"missed\":4,\"lines\":[3,7,8,9]}\n"
unfolding digits covered_members object_text text_member number_member json_string escaped chars encode
tells-an_object = refl

tells-of_an_original : told (codes "a.ts", five_lines) ≡ (codes "a.ts", 1, 4, 2 ∷ 6 ∷ 7 ∷ 8 ∷ [])
tells-of_an_original = refl

-- ---- lines around a position
-- three lines: their ends are a carriage return, and a carriage return with a line feed
abbrev three_lines : Text
three_lines = codes "a\r\tbc\r\nd"

shows-lines_around : context_text 1 1 (at 1 2) three_lines ≡ codes "      1 | a\n>     2 | \tbc\n        | \t ^\n      3 | d\n"
unfolding lines_of chars encode digits
shows-lines_around = refl

marks-line_100000 : mark_line 100000 1 (codes "ab") ≡ codes "         |  ^\n"
unfolding digits
marks-line_100000 = refl

shows-one_line : context_text 0 0 (at 2 0) three_lines ≡ codes ">     2 | d\n        | ^\n"
unfolding lines_of chars encode digits
shows-one_line = refl

shows-no_line_that_is_not_there : context_text 0 1 (at 3 0) three_lines ≡ []
unfolding lines_of chars encode digits
shows-no_line_that_is_not_there = refl

-- U+2028, an escape and `x`
ends-a_line_at_2028 : context_text 0 1 (at 1 1) (226 ∷ 128 ∷ 168 ∷ 27 ∷ 120 ∷ []) ≡ codes ">     2 | \\u001bx\n        |       ^\n"
unfolding lines_of chars encode digits
ends-a_line_at_2028 = refl

-- the smiling face U+1F600 has two columns
counts-two_columns : before_column 1 (0x1f600 ∷ 120 ∷ []) ≡ 0x1f600 ∷ []
counts-two_columns = refl

counts-one_column : before_column 2 (0x1f600 ∷ 120 ∷ []) ≡ 0x1f600 ∷ []
counts-one_column = refl

-- ---- frames
counts-from_1 : frame_position false 1 20 ≡ Some (at 0 19)
counts-from_1 = refl

counts-columns_of_bytecode_from_0 : frame_position true 1 20 ≡ Some (at 0 20)
counts-columns_of_bytecode_from_0 = refl

has-no_line_0 : frame_position true 0 5 ≡ None
has-no_line_0 = refl

has-no_column_0 : frame_position false 1 0 ≡ None
has-no_column_0 = refl

abbrev target : Target
target = record { map = 0; position = at 0 19 }

abbrev cuts : List Cut
cuts = record { start = 5; end = 14; target = Some target } ∷ []

leads-back-nothing_without_a_map : line_led_back (λ p. []) [] (codes "at f(b.js:1:20)") 0 cuts ≡ codes "at f(b.js:1:20)"
leads-back-nothing_without_a_map = refl

abbrev one_token : MapRecord
one_token = record empty_record {
  sources = codes "a.ts" ∷ [];
  tokens = record { dst_line = 0; dst_col = 19; src_line = 2; src_col = 4; source_id = Some 0; name_id = None } ∷ [];
}

-- the second position has no map
abbrev two_cuts : List Cut
two_cuts = record { start = 5; end = 14; target = Some target } ∷ record { start = 16; end = 22; target = Some (record { map = 1; position = at 0 0 }) } ∷ []

leads-back-a_line : line_led_back (λ p. p.source.path) (one_token ∷ []) (codes "at f(b.js:1:20) c.js:1") 0 two_cuts ≡ codes "at f(a.ts) c.js:1"
leads-back-a_line = refl

stays-without_a_map : location_text (λ p. []) (codes "b.js:1:20") (answer_to [] (Some target)) ≡ codes "b.js:1:20"
stays-without_a_map = refl

-- ---- lines of bytes
abbrev splice : ℕ → ℕ → Text → Splice
splice start end text = record { start = start; end = end; text = lent text }

splices-two_places : spliced (codes "at b.js:1:2, c.js:3:4\r") 0 (splice 3 11 (codes "b.ts:5:6") ∷ splice 13 21 (codes "c.ts:7:8") ∷ []) ≡ codes "at b.ts:5:6, c.ts:7:8\r"
splices-two_places = refl

splices-nothing : spliced (codes "at b.js:1:2") 0 [] ≡ codes "at b.js:1:2"
splices-nothing = refl

has-NUL_for_no_text : IsMasked (97 ∷ 255 ∷ 98 ∷ []) (97 ∷ 0 ∷ 98 ∷ [])
unfolding utf8_valid_len utf8_error_len encode is_utf8 chars
has-NUL_for_no_text =
    IsMasked.cut (97 ∷ 255 ∷ 98 ∷ []) (97 ∷ []) (255 ∷ []) (98 ∷ []) (98 ∷ []) refl refl refl (IsMasked.whole (98 ∷ []) (98 ∷ [], (refl, refl)))

are-not_in_a_row : are_in_row 9 0 (splice 4 6 [] ∷ splice 5 7 [] ∷ []) ≡ false
are-not_in_a_row = refl

-- ---- differences
abbrev original : Option Text → OriginalPosition
original content = record { source = record { path = codes "a.ts"; content = content }; src_line = 2; src_col = 0; name = None }

differs-from_unmapped : is_same_answer None (Some None) ≡ false
differs-from_unmapped = refl

differs-by_content : is_same_answer (Some (Some (original (Some (codes "x"))))) (Some (Some (original None))) ≡ false
differs-by_content = refl

is_same-answer : is_same_answer (Some (Some (original None))) (Some (Some (original None))) ≡ true
is_same-answer = refl

-- ---- bundles
stands-at_a_line : StandsAt (codes "a\n") 1
unfolding position_of lines_of chars encode
stands-at_a_line = refl

has-one_line_end : HasLineEnds (codes "a\nb") 1
unfolding position_of lines_of chars encode
has-one_line_end = (1, refl)

is-ended : IsEnded (codes "a\n") (codes "a\n")
is-ended = inl ((codes "a", refl), refl)

-- ---- bytes of a code
abbrev piece_start : ℕ → Option ℕ → Start
piece_start offset source = record { offset = offset; source = source }

-- of nine bytes; the third piece would begin ahead of the second one, and the fourth behind the code
abbrev four_pieces : List Start
four_pieces = piece_start 2 (Some 0) ∷ piece_start 5 None ∷ piece_start 4 (Some 1) ∷ piece_start 12 (Some 0) ∷ []

sizes-of_pieces : lengths_of 9 four_pieces ≡ (None, 2) ∷ (Some 0, 3) ∷ (None, 0) ∷ (Some 1, 4) ∷ (Some 0, 0) ∷ []
sizes-of_pieces = refl

sizes-of_a_source : bytes_at 2 (lengths_of 9 four_pieces) 0 ≡ 3
sizes-of_a_source = refl

sizes-of_no_source : bytes_at 2 (lengths_of 9 four_pieces) 2 ≡ 2
sizes-of_no_source = refl

-- with source 1, which is not there
sizes-of_no_source_of_one : bytes_at 1 (lengths_of 9 four_pieces) 1 ≡ 6
sizes-of_no_source_of_one = refl
