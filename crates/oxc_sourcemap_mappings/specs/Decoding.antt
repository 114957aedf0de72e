-- The steps of the decoder, beside the sums of `Places` and the faults of `Faults`. No public contract cites this module.
use Rattle.std.specs.Prelude.{◌≡◌, ℕ, ◌+◌, ◌<◌, ◌^◌, Bool, true, false, ◌||◌, ◌&&◌, List, [], ◌∷◌}
use Rattle.std.specs.Prelude.{length, drop, get_or, ℤ, pos, ◌+ℤ◌, nat_abs, None, Ok, if◌then◌else◌}
use Rattle.std.specs.Prelude.{nat_lt, ◌==◌, ◌≤◌}
use Rattle.oxc_sourcemap_mappings.specs.declared.decode.Fields.{Fields}
use Rattle.oxc_sourcemap_mappings.specs.declared.decode.Sums.{Sums}
use Rattle.oxc_sourcemap_mappings.specs.Number.{digit, payload, number, is_fitting, is_open}
use Rattle.oxc_sourcemap_mappings.specs.Parts.{Segment, runs, field, has_source, has_name}
use Rattle.oxc_sourcemap_mappings.specs.Parts.{is_semicolon, is_comma}
use Rattle.oxc_sourcemap_mappings.specs.Places.{Place}
use Rattle.oxc_sourcemap_mappings.specs.Faults.{Counts, digit_fault}
use Rattle.oxc_sourcemap_mappings.specs.Reading.{segment_result}
use Rattle.oxc_sourcemap_tokens.specs.Token.{TokenRecord}

-- `,` and `;` end a segment
abbrev pub ends_segment : ℕ → Bool
ends_segment byte = is_semicolon byte || is_comma byte

-- the digits before the first `,` or `;`
abbrev pub front_digits : List ℕ → List ℕ
front_digits [] = []
front_digits (byte ∷ bytes) = if ends_segment byte then [] else digit byte ∷ front_digits bytes

-- the segment before the first `,` or `;`
abbrev pub front_segment : List ℕ → Segment
front_segment text = runs (front_digits text)

-- how many segments begin in a text, where the byte before it belongs to a segment or does not
abbrev pub segments_after : Bool → List ℕ → ℕ
segments_after is_inside [] = 0
segments_after is_inside (byte ∷ bytes) =
    if ends_segment byte
    then segments_after false bytes
    else (if is_inside then segments_after true bytes else 1 + segments_after true bytes)

-- At this index of a text there is a number of so many digits: a run without a fault, and then the rest of the segment.
pub record IsNumberAt (text : List ℕ) (at : ℕ) (n : ℤ) (len : ℕ) : Type 0 where
  pub run : List ℕ
  pub front : front_segment (drop at text) ≡ run ∷ front_segment (drop (at + len) text)
  pub digits : length (front_digits (drop at text)) ≡ len + length (front_digits (drop (at + len) text))
  pub number : number run ≡ n
  pub fits : is_fitting run ≡ true
  pub closed : is_open run ≡ false
  pub small : nat_abs n < 2 ^ 62

-- a digit at this exponent, counted from 0, makes a run that does not fit
abbrev pub is_over : ℕ → ℕ → Bool
is_over exponent d = nat_lt 12 exponent || (exponent == 12 && nat_lt 7 (payload d))

-- the fields that were read are those of the segment, whose digits have no fault
pub record AreFieldsOf (s : Segment) (f : Fields) : Type 0 where
  pub clean : digit_fault s ≡ None
  pub count : f.count ≡ length s
  pub values : (k : ℕ) → k < 5 → get_or f.values k (pos 0) ≡ field k s

-- no sum with one of the fields passes 64 bits
pub record AreSmall (f : Fields) : Type 0 where
  pub small : (k : ℕ) → nat_abs (get_or f.values k (pos 0)) < 2 ^ 62
  pub five : length f.values ≡ 5

-- field k, as it was read
abbrev pub value : Fields → ℕ → ℤ
value f k = get_or f.values k (pos 0)

-- the place that the sums of the decoder stand for
abbrev pub place_of : Sums → Place
place_of sums = record {
  dst_col = pos sums.dst_col;
  source_id = pos sums.source_id;
  src_line = pos sums.src_line;
  src_col = pos sums.src_col;
  name_id = pos sums.name_id;
}

-- a place with its source position moved by fields 1 to 3
abbrev pub source_moved : Place → (ℕ → ℤ) → Place
source_moved p f = record p { source_id = p.source_id +ℤ f 1; src_line = p.src_line +ℤ f 2; src_col = p.src_col +ℤ f 3 }

-- a place further on by the fields of a segment of this size
abbrev pub moved : Place → ℕ → (ℕ → ℤ) → Place
moved p size f = record {
  dst_col = p.dst_col +ℤ f 0;
  source_id = if has_source size then p.source_id +ℤ f 1 else p.source_id;
  src_line = if has_source size then p.src_line +ℤ f 2 else p.src_line;
  src_col = if has_source size then p.src_col +ℤ f 3 else p.src_col;
  name_id = if has_name size then p.name_id +ℤ f 4 else p.name_id;
}

-- a place further on by a segment
abbrev pub moved_by : Place → Segment → Place
moved_by p s = moved p (length s) (λ k. field k s)

-- a place at the start of the next line
abbrev pub at_line_start : Place → Place
at_line_start p = record p { dst_col = pos 0 }

-- The segment at the front of a text, on this line and after this place, leads to a place, and gives a token; and so many
-- bytes long it is.
pub record IsFrontOf (counts : Counts) (line : ℕ) (p : Place) (text : List ℕ) (here : Place) (token : TokenRecord) (len : ℕ) : Type 0 where
  pub place : here ≡ moved_by p (front_segment text)
  pub result : segment_result counts line p (front_segment text) (moved_by p (front_segment text)) ≡ Ok token
  pub len_is : len ≡ length (front_digits text)
  pub within : len ≤ length text
