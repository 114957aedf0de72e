-- What a `mappings` text reads as: its tokens, or its first fault (ECMA-426, "Mappings structure").
use Rattle.std.specs.Prelude.{ℕ, ◌+◌, List, [], ◌∷◌, ◌++◌, length, Some, None, Result, Ok, Err}
use Rattle.std.specs.Prelude.{if◌then◌else◌, nat_lt}
use Rattle.oxc_sourcemap_tokens.specs.declared.errors.error.Error.{Error}
use Rattle.oxc_sourcemap_tokens.specs.declared.errors.error.Error.TheVariants.{TooLarge}
use Rattle.oxc_sourcemap_mappings.specs.Parts.{Segment, has_source, has_name, lines}
use Rattle.oxc_sourcemap_mappings.specs.Places.{Before, nothing_before, past_segment, past_line}
use Rattle.oxc_sourcemap_mappings.specs.Places.{Place, place}
use Rattle.oxc_sourcemap_tokens.specs.Errors.{unless}
use Rattle.oxc_sourcemap_mappings.specs.Faults.{Counts, counts_of, nat_of, segment_fault}
use Rattle.oxc_sourcemap_tokens.specs.Token.{TokenRecord}

-- The token of a segment of this size, by its place. A segment of four or five fields gives a source, one of five a name.
abbrev pub token_at : ℕ → ℕ → Place → TokenRecord
token_at line size p = record {
  dst_line = line;
  dst_col = nat_of p.dst_col;
  src_line = nat_of p.src_line;
  src_col = nat_of p.src_col;
  source_id = if has_source size then Some (nat_of p.source_id) else None;
  name_id = if has_name size then Some (nat_of p.name_id) else None;
}

-- What a segment gives: its token, unless it has a fault. The segments before it reach the place `reached`, and `here` is its
-- own.
abbrev pub segment_result : Counts → ℕ → Place → Segment → Place → Result TokenRecord Error
segment_result counts line reached s here = unless (segment_fault counts reached s here) (Ok (token_at line (length s) here))

-- what each of these segments of a line gives, after those before them
unfoldable pub line_results : Counts → ℕ → Before → List Segment → List (Result TokenRecord Error)
line_results counts line before [] = []
line_results counts line before (s ∷ more) =
    segment_result counts line (place before) s (place (past_segment before s))
    ∷ line_results counts line (past_segment before s) more

-- What each segment of these lines gives, the first of which has this number. The line that the 4294967296th `;` begins is
-- a fault, and nothing after it is read.
unfoldable pub text_results : Counts → ℕ → Before → List (List Segment) → List (Result TokenRecord Error)
text_results counts line before [] = []
text_results counts line before (l ∷ ls) =
    if nat_lt line 4294967296
    then line_results counts line before l ++ text_results counts (line + 1) (past_line before l) ls
    else Err TooLarge ∷ []

-- a reading with this token before its tokens
abbrev pub onto : TokenRecord → Result (List TokenRecord) Error → Result (List TokenRecord) Error
onto token (Ok tokens) = Ok (token ∷ tokens)
onto token (Err fault) = Err fault

-- the tokens of a text from what its segments give, or the first fault
abbrev pub gathered : List (Result TokenRecord Error) → Result (List TokenRecord) Error
gathered [] = Ok []
gathered (Ok token ∷ more) = onto token (gathered more)
gathered (Err fault ∷ more) = Err fault

-- what a text reads as, where there are so many names and sources
unfoldable pub reading : List ℕ → ℕ → ℕ → Result (List TokenRecord) Error
reading text names sources = gathered (text_results (counts_of names sources) 0 nothing_before (lines text))
