-- Worked examples of lookups, computed by the definitions themselves.
use Rattle.std.proofs.Common.{arith}
use Rattle.std.specs.Prelude.{◌≡◌, refl, ℕ, List, [], ◌∷◌, codes, Ok, Err, Option, Some, None}
use Rattle.oxc_sourcemap_tokens.specs.declared.errors.error.Error.TheVariants.{LineOrder}
use Rattle.oxc_sourcemap_tokens.specs.Token.{TokenRecord}
use Rattle.oxc_sourcemap_parts.specs.Record.{MapRecord}
use Rattle.oxc_sourcemap_parts.specs.Views.{empty_record}
use Rattle.oxc_sourcemap_parts.specs.Sorted.{token_line, token_column}
use Rattle.oxc_sourcemap_parts.specs.DecodedMap.{decoded_map_of}
use Rattle.oxc_sourcemap_lookup.specs.Digits.{binary_digits}
use Rattle.oxc_sourcemap_lookup.specs.Lookup.{pick, clamped_pick, line_table, token_after}
use Rattle.oxc_sourcemap_lookup.specs.Lookup.{index_for, clamped_index_for, index_after}
use Rattle.oxc_sourcemap_lookup.specs.LineSpans.{AreStarts}
use Rattle.oxc_sourcemap_lookup.specs.Trace.{trace}

-- a token from its generated line and column, source line and column, source id, name id
abbrev token : ℕ → ℕ → ℕ → ℕ → Option ℕ → Option ℕ → TokenRecord
token dst_line dst_col src_line src_col source_id name_id =
    record { dst_line = dst_line; dst_col = dst_col; src_line = src_line; src_col = src_col; source_id = source_id; name_id = name_id }

-- one token before five at one column
abbrev five_equal : List TokenRecord
five_equal =
    token 0 0 9 9 (Some 0) None
    ∷ token 0 7 1 0 (Some 0) None
    ∷ token 0 7 2 0 (Some 0) None
    ∷ token 0 7 3 0 (Some 0) None
    ∷ token 0 7 4 0 (Some 0) None
    ∷ token 0 7 5 0 (Some 0) None
    ∷ []

looks_up-the_first_of_equal_columns : pick token_line token_column five_equal 0 7 ≡ Some (token 0 7 1 0 (Some 0) None)
looks_up-the_first_of_equal_columns = refl

looks_up-the_last_after_equal_columns : pick token_line token_column five_equal 0 8 ≡ Some (token 0 7 5 0 (Some 0) None)
looks_up-the_last_after_equal_columns = refl

looks_up-nothing_on_another_line : clamped_pick token_line token_column five_equal 1 8 ≡ None
looks_up-nothing_on_another_line = refl

looks_up-nothing_before : pick token_line token_column (token 0 5 0 0 None None ∷ []) 0 0 ≡ None
looks_up-nothing_before = refl

looks_up-the_first_when_clamped : clamped_pick token_line token_column (token 0 5 0 0 None None ∷ []) 0 0 ≡ Some (token 0 5 0 0 None None)
looks_up-the_first_when_clamped = refl

looks_after-the_last_of_equal_columns : token_after five_equal 0 7 ≡ Some (token 0 7 5 0 (Some 0) None)
looks_after-the_last_of_equal_columns = refl

looks_after-the_first_past_the_column : token_after five_equal 0 6 ≡ Some (token 0 7 1 0 (Some 0) None)
looks_after-the_first_past_the_column = refl

looks_after-nothing_past_the_last : token_after five_equal 0 8 ≡ None
looks_after-nothing_past_the_last = refl

indexes-the_first_and_the_last : (index_for five_equal 0 7 ≡ Some 1) × (index_for five_equal 0 8 ≡ Some 5) × (index_after five_equal 0 7 ≡ Some 5) × (index_after five_equal 0 6 ≡ Some 1)
indexes-the_first_and_the_last = (refl, refl, refl, refl)

indexes-when_clamped : clamped_index_for (token 0 5 0 0 None None ∷ token 1 5 0 0 None None ∷ []) 1 0 ≡ Some 1
indexes-when_clamped = refl

-- tokens on lines 1 and 3
tables-have_each_line : line_table (token 1 1 1 1 (Some 0) (Some 0) ∷ token 3 1 1 1 (Some 1) (Some 2) ∷ token 3 2 2 2 (Some 2) (Some 3) ∷ [])
    ≡ Ok ([] ∷ (token 1 1 1 1 (Some 0) (Some 0) ∷ []) ∷ [] ∷ (token 3 1 1 1 (Some 1) (Some 2) ∷ token 3 2 2 2 (Some 2) (Some 3) ∷ []) ∷ [])
tables-have_each_line = refl

-- no token lies before line 1, one before line 2, and all three before line 4
begins-each_line : AreStarts (token 1 1 1 1 (Some 0) (Some 0) ∷ token 3 1 1 1 (Some 1) (Some 2) ∷ token 3 2 2 2 (Some 2) (Some 3) ∷ []) (0 ∷ 0 ∷ 1 ∷ 1 ∷ 3 ∷ [])
begins-each_line = record { order = refl; each = refl; few = omega arith }

tables-ask_for_line_order : line_table (token 1 0 0 0 None None ∷ token 0 0 0 0 None None ∷ []) ≡ Err (LineOrder 1)
tables-ask_for_line_order = refl

-- two tokens of one source, the second with a name
abbrev named : MapRecord
named = record empty_record {
  names = codes "x" ∷ [];
  sources = codes "coolstuff.js" ∷ [];
  tokens = token 0 0 0 0 (Some 0) None ∷ token 0 3 0 4 (Some 0) (Some 0) ∷ token 0 9 0 0 None None ∷ [];
}

traces-a_name : trace (decoded_map_of named) 0 5 ≡ Some (Some (record { source = record { path = codes "coolstuff.js"; content = None }; src_line = 0; src_col = 4; name = Some (codes "x") }))
traces-a_name = refl

traces-an_unmapped_token : trace (decoded_map_of named) 0 9 ≡ Some None
traces-an_unmapped_token = refl

traces-nothing : trace (decoded_map_of named) 1 0 ≡ None
traces-nothing = refl

digits-of_zero : binary_digits 0 ≡ 0
digits-of_zero = refl

digits-of_one : binary_digits 1 ≡ 1
digits-of_one = refl

digits-of_six : binary_digits 6 ≡ 3
digits-of_six = refl

digits-of_65536 : binary_digits 65536 ≡ 17
digits-of_65536 = refl
