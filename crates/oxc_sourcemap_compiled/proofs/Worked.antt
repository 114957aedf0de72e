-- Worked examples of compiled maps, computed by the definitions themselves. The bytes were written by hand after the rules.
use Rattle.std.specs.Prelude.{◌≡◌, refl, ℕ, List, [], ◌∷◌, codes, Err, Some, None, take, drop, ◌++◌}
use Rattle.std.specs.Prelude.{Ok}
use Rattle.std.specs.Str.{is_utf8, chars}
use lib.Utf8.{encode}
use Rattle.oxc_sourcemap_parts.specs.Record.{MapRecord}
use Rattle.oxc_sourcemap_compiled.specs.Decompiled.{checked_map}
use Rattle.oxc_sourcemap_compiled.specs.Means.{stored_map, compiled_of}
use Rattle.std.specs.Prelude.{true, false}
use Rattle.oxc_sourcemap_compiled.specs.Compiled.{map_bytes, bytes_of, stored_text}
use Rattle.oxc_sourcemap_compiled.specs.declared.fields.Field.{Field}
use Rattle.oxc_sourcemap_compiled.specs.declared.writing.blocks.Packing.{Packing}
use Rattle.oxc_sourcemap_compiled.specs.Numbers.{number_at}
use Rattle.oxc_sourcemap_compiled.specs.Layout.{header_in, compiled_fault}
use Rattle.oxc_sourcemap_compiled.specs.Fields.{value_at, value_in, field_in, field_of, row_in}
use Rattle.oxc_sourcemap_compiled.specs.CompiledMeaning.{compiled_in, compiled_meaning, token_in}
use Rattle.oxc_sourcemap_compiled.specs.CompiledMeaning.{part_between}
use Rattle.oxc_sourcemap_compiled.specs.declared.errors.CompiledError.TheVariants.{NotCompiled}
use Rattle.oxc_sourcemap_compiled.specs.declared.errors.CompiledError.TheVariants.{Version, Length}
use Rattle.oxc_sourcemap_compiled.specs.declared.errors.CompiledError.TheVariants.{Sizes}

-- ---- numbers
-- 1 + 2 * 256 + 3 * 65536
number-means : number_at 3 (9 ∷ 1 ∷ 2 ∷ 3 ∷ 9 ∷ []) 1 ≡ 197121
unfolding number_at
number-means = refl

-- Eight values of three bits take three bytes: 1 to 7 and 0 are 1 + 2 * 8 + 3 * 8^2 + 4 * 8^3 + 5 * 8^4 + 6 * 8^5 + 7 * 8^6, and 10 is added.
abbrev threes : Field
threes = field_of 10 0 3

values-mean : value_in (209 ∷ 88 ∷ 31 ∷ 0 ∷ 0 ∷ 0 ∷ 0 ∷ 0 ∷ 0 ∷ 0 ∷ 0 ∷ 0 ∷ 0 ∷ 0 ∷ 0 ∷ 0 ∷ 0 ∷ []) (record { at = 0; stride = 3; column = threes; source = threes; src_line = threes; src_col = threes; name = threes }) threes 6 ≡ 17
unfolding value_at number_at
values-mean = refl

-- ---- a map with two lines
-- {"version":3,"file":"o.js","sources":["a.js"],"sourcesContent":[""],"names":["f"],"mappings":"AAAAA;CAEE","ignoreList":[0]}
abbrev two_lines : List ℕ
two_lines =
    115 ∷ 109 ∷ 97 ∷ 112 ∷ 1 ∷ 0 ∷ 0 ∷ 0 ∷ 194 ∷ 0 ∷ 0 ∷ 0 ∷ 0 ∷ 0 ∷ 0 ∷ 0 ∷ 107 ∷ 0 ∷ 0 ∷ 0 ∷ 0 ∷ 0 ∷ 0 ∷ 0 ∷ 0 ∷ 1 ∷ 2 ∷ 3
    ∷ 4 ∷ 5 ∷ 6 ∷ 7 ∷ 8 ∷ 9 ∷ 10 ∷ 11 ∷ 12 ∷ 13 ∷ 14 ∷ 15 ∷ 16 ∷ 17 ∷ 18 ∷ 19 ∷ 20 ∷ 21 ∷ 22 ∷ 23 ∷ 24 ∷ 25 ∷ 26 ∷ 27 ∷ 28 ∷ 29 ∷ 30 ∷ 31
    ∷ 2 ∷ 0 ∷ 0 ∷ 0 ∷ 2 ∷ 0 ∷ 0 ∷ 0 ∷ 1 ∷ 0 ∷ 0 ∷ 0 ∷ 1 ∷ 0 ∷ 0 ∷ 0 ∷ 1 ∷ 0 ∷ 0 ∷ 0 ∷ 1 ∷ 0 ∷ 0 ∷ 0 ∷ 0 ∷ 0 ∷ 0 ∷ 0
    ∷ 6 ∷ 0 ∷ 0 ∷ 0 ∷ 0 ∷ 0 ∷ 0 ∷ 0 ∷ 1 ∷ 0 ∷ 0 ∷ 0 ∷ 2 ∷ 0 ∷ 0 ∷ 0 ∷ 0 ∷ 0 ∷ 0 ∷ 0 ∷ 0 ∷ 0 ∷ 0 ∷ 0 ∷ 1 ∷ 0 ∷ 0 ∷ 0
    ∷ 0 ∷ 0 ∷ 0 ∷ 0 ∷ 0 ∷ 0 ∷ 0 ∷ 0 ∷ 0 ∷ 0 ∷ 0 ∷ 0 ∷ 1 ∷ 0 ∷ 2 ∷ 2 ∷ 1 ∷ 0 ∷ 0 ∷ 0 ∷ 0 ∷ 0 ∷ 0 ∷ 0 ∷ 0 ∷ 4 ∷ 0 ∷ 0
    ∷ 0 ∷ 5 ∷ 0 ∷ 0 ∷ 0 ∷ 6 ∷ 0 ∷ 0 ∷ 0 ∷ 11 ∷ 0 ∷ 0 ∷ 0 ∷ 11 ∷ 0 ∷ 0 ∷ 0 ∷ 11 ∷ 0 ∷ 0 ∷ 0 ∷ 96 ∷ 5 ∷ 0 ∷ 0 ∷ 0 ∷ 0 ∷ 97 ∷ 46 ∷ 106
    ∷ 115 ∷ 1 ∷ 102 ∷ 1 ∷ 111 ∷ 46 ∷ 106 ∷ 115 ∷ 0 ∷ 0 ∷ 0 ∷ 0 ∷ 0 ∷ 0 ∷ 0 ∷ 0 ∷ 0 ∷ 0 ∷ 0 ∷ 0 ∷ 0 ∷ 0 ∷ 0 ∷ 0 ∷ []

two_lines-fine : compiled_fault two_lines ≡ None
unfolding header_in compiled_fault number_at
two_lines-fine = refl

two_lines-tokens : (compiled_in two_lines).content.tokens
    ≡ record { dst_line = 0; dst_col = 0; src_line = 0; src_col = 0; source_id = Some 0; name_id = Some 0 }
    ∷ record { dst_line = 1; dst_col = 1; src_line = 2; src_col = 2; source_id = Some 0; name_id = None } ∷ []
unfolding header_in token_in value_at row_in field_in number_at
two_lines-tokens = refl

two_lines-names : (compiled_in two_lines).content.names ≡ codes "f" ∷ []
unfolding header_in part_between number_at
two_lines-names = refl

two_lines-sources : (compiled_in two_lines).content.sources ≡ codes "a.js" ∷ []
unfolding header_in part_between number_at
two_lines-sources = refl

-- an empty content is there
two_lines-contents : (compiled_in two_lines).content.source_contents ≡ Some [] ∷ []
unfolding header_in part_between number_at
two_lines-contents = refl

two_lines-file : (compiled_in two_lines).content.file ≡ Some (codes "o.js")
unfolding header_in part_between number_at
two_lines-file = refl

two_lines-root : (compiled_in two_lines).content.source_root ≡ None
unfolding header_in part_between number_at
two_lines-root = refl

two_lines-ignored : (compiled_in two_lines).content.ignore_list ≡ Some (0 ∷ [])
unfolding header_in number_at
two_lines-ignored = refl

two_lines-length : (compiled_in two_lines).text_length ≡ 107
unfolding number_at
two_lines-length = refl

-- ---- a map with tokens on the lines 0 and 7 alone, whose numbers are listed
abbrev far_lines : List ℕ
far_lines =
    115 ∷ 109 ∷ 97 ∷ 112 ∷ 1 ∷ 0 ∷ 0 ∷ 0 ∷ 207 ∷ 0 ∷ 0 ∷ 0 ∷ 0 ∷ 0 ∷ 0 ∷ 0 ∷ 0 ∷ 0 ∷ 0 ∷ 0 ∷ 0 ∷ 0 ∷ 0 ∷ 0 ∷ 0 ∷ 0 ∷ 0 ∷ 0
    ∷ 0 ∷ 0 ∷ 0 ∷ 0 ∷ 0 ∷ 0 ∷ 0 ∷ 0 ∷ 0 ∷ 0 ∷ 0 ∷ 0 ∷ 0 ∷ 0 ∷ 0 ∷ 0 ∷ 0 ∷ 0 ∷ 0 ∷ 0 ∷ 0 ∷ 0 ∷ 0 ∷ 0 ∷ 0 ∷ 0 ∷ 0 ∷ 0
    ∷ 3 ∷ 0 ∷ 0 ∷ 0 ∷ 2 ∷ 0 ∷ 0 ∷ 0 ∷ 2 ∷ 0 ∷ 0 ∷ 0 ∷ 0 ∷ 0 ∷ 0 ∷ 0 ∷ 0 ∷ 0 ∷ 0 ∷ 0 ∷ 0 ∷ 0 ∷ 0 ∷ 0 ∷ 1 ∷ 0 ∷ 0 ∷ 0
    ∷ 15 ∷ 0 ∷ 0 ∷ 0 ∷ 0 ∷ 0 ∷ 0 ∷ 0 ∷ 2 ∷ 0 ∷ 0 ∷ 0 ∷ 3 ∷ 0 ∷ 0 ∷ 0 ∷ 0 ∷ 0 ∷ 0 ∷ 0 ∷ 3 ∷ 0 ∷ 0 ∷ 0 ∷ 0 ∷ 0 ∷ 0 ∷ 0
    ∷ 0 ∷ 0 ∷ 0 ∷ 0 ∷ 0 ∷ 0 ∷ 0 ∷ 0 ∷ 0 ∷ 0 ∷ 0 ∷ 0 ∷ 3 ∷ 2 ∷ 1 ∷ 9 ∷ 0 ∷ 0 ∷ 0 ∷ 0 ∷ 0 ∷ 1 ∷ 0 ∷ 0 ∷ 0 ∷ 2 ∷ 0 ∷ 0
    ∷ 0 ∷ 2 ∷ 0 ∷ 0 ∷ 0 ∷ 4 ∷ 0 ∷ 0 ∷ 0 ∷ 4 ∷ 0 ∷ 0 ∷ 0 ∷ 6 ∷ 0 ∷ 0 ∷ 0 ∷ 7 ∷ 0 ∷ 0 ∷ 0 ∷ 0 ∷ 0 ∷ 0 ∷ 0 ∷ 7 ∷ 0 ∷ 0
    ∷ 0 ∷ 50 ∷ 75 ∷ 87 ∷ 0 ∷ 0 ∷ 0 ∷ 0 ∷ 0 ∷ 0 ∷ 0 ∷ 0 ∷ 0 ∷ 0 ∷ 0 ∷ 0 ∷ 97 ∷ 98 ∷ 1 ∷ 120 ∷ 1 ∷ 114 ∷ 1 ∷ 0 ∷ 0 ∷ 0 ∷ 0 ∷ 0 ∷ 0 ∷ 0 ∷ 0 ∷ 0 ∷ 0 ∷ 0
    ∷ 0 ∷ 0 ∷ 0 ∷ 0 ∷ 0 ∷ []

far_lines-fine : compiled_fault far_lines ≡ None
unfolding header_in compiled_fault number_at
far_lines-fine = refl

far_lines-tokens : (compiled_in far_lines).content.tokens
    ≡ record { dst_line = 0; dst_col = 5; src_line = 1; src_col = 300; source_id = Some 1; name_id = None }
    ∷ record { dst_line = 0; dst_col = 9; src_line = 1; src_col = 2; source_id = Some 0; name_id = None }
    ∷ record { dst_line = 7; dst_col = 3; src_line = 0; src_col = 0; source_id = None; name_id = None } ∷ []
unfolding header_in token_in value_at row_in field_in number_at
far_lines-tokens = refl

-- an absent content
far_lines-contents : (compiled_in far_lines).content.source_contents ≡ None ∷ Some (codes "x") ∷ []
unfolding header_in part_between number_at
far_lines-contents = refl

-- an empty debug id, which is there
far_lines-debug_id : (compiled_in far_lines).content.debug_id ≡ Some []
unfolding header_in part_between number_at
far_lines-debug_id = refl

far_lines-root : (compiled_in far_lines).content.source_root ≡ Some (codes "r")
unfolding header_in part_between number_at
far_lines-root = refl

-- no list is not an empty one
far_lines-ignored : (compiled_in far_lines).content.ignore_list ≡ None
unfolding header_in number_at
far_lines-ignored = refl

-- ---- bytes that are no compiled map
nothing-means : compiled_meaning [] ≡ Err NotCompiled
unfolding compiled_fault
nothing-means = refl

json-means : compiled_meaning (codes "{\"version\":3}") ≡ Err NotCompiled
unfolding compiled_fault number_at
json-means = refl

later-means : compiled_meaning (codes "smap" ++ 2 ∷ 1 ∷ 0 ∷ 0 ∷ []) ≡ Err (Version 258)
unfolding compiled_fault number_at
later-means = refl

cut-means : compiled_meaning (take 193 two_lines) ≡ Err Length
unfolding compiled_fault number_at
cut-means = refl

-- 16385 tokens are counted, in 257 blocks
sizes-mean : compiled_meaning (take 56 two_lines ++ 1 ∷ 64 ∷ drop 58 two_lines) ≡ Err Sizes
unfolding header_in compiled_fault number_at
sizes-mean = refl

-- ---- what is written of these maps
abbrev packing : ℕ → ℕ → Packing
packing least width = record { least = least; width = width }

-- the map with two lines
abbrev two_lines_map : MapRecord
two_lines_map = record {
  file = Some (codes "o.js");
  names = codes "f" ∷ [];
  source_root = None;
  sources = codes "a.js" ∷ [];
  source_contents = Some [] ∷ [];
  tokens = record { dst_line = 0; dst_col = 0; src_line = 0; src_col = 0; source_id = Some 0; name_id = Some 0 }
      ∷ record { dst_line = 1; dst_col = 1; src_line = 2; src_col = 2; source_id = Some 0; name_id = None } ∷ [];
  token_chunks = None;
  ignore_list = Some (0 ∷ []);
  debug_id = None;
}

two_lines-written : map_bytes two_lines_map (0 ∷ 1 ∷ []) false (record { column = packing 0 1; source = packing 1 0; src_line = packing 0 2; src_col = packing 0 2; name = packing 0 1 } ∷ []) 107 (take 32 (drop 24 two_lines))
    ≡ two_lines
unfolding bytes_of stored_text
two_lines-written = refl

far_lines-written : map_bytes (record {
  file = None;
  names = [];
  source_root = Some (codes "r");
  sources = codes "a" ∷ codes "b" ∷ [];
  source_contents = None ∷ Some (codes "x") ∷ [];
  tokens = record { dst_line = 0; dst_col = 5; src_line = 1; src_col = 300; source_id = Some 1; name_id = None }
      ∷ record { dst_line = 0; dst_col = 9; src_line = 1; src_col = 2; source_id = Some 0; name_id = None }
      ∷ record { dst_line = 7; dst_col = 3; src_line = 0; src_col = 0; source_id = None; name_id = None } ∷ [];
  token_chunks = None;
  ignore_list = None;
  debug_id = Some [];
}) (0 ∷ 7 ∷ []) true (record { column = packing 3 3; source = packing 0 2; src_line = packing 0 1; src_col = packing 0 9; name = packing 0 0 } ∷ []) 0 (take 32 (drop 24 far_lines))
    ≡ far_lines
unfolding bytes_of stored_text
far_lines-written = refl

-- ---- what these bytes mean, as a whole
two_lines-mean : compiled_meaning two_lines ≡ Ok (compiled_of two_lines_map 107 (take 32 (drop 24 two_lines)))
unfolding header_in compiled_fault part_between token_in value_at row_in field_in number_at
two_lines-mean = refl

-- Contents are stored for each source, and for no more: one is missing here, and two have no source there.
contents-missing : (stored_map (record two_lines_map { source_contents = [] })).source_contents ≡ None ∷ []
contents-missing = refl

contents-past : (stored_map (record two_lines_map { source_contents = Some (codes "x") ∷ None ∷ Some (codes "y") ∷ [] })).source_contents ≡ Some (codes "x") ∷ []
contents-past = refl

-- ---- what is taken apart
all-utf8 : checked_map two_lines_map ≡ Some two_lines_map
unfolding is_utf8 chars encode
all-utf8 = refl

-- no text has the byte 255
one-not-utf8 : checked_map (record two_lines_map { debug_id = Some (97 ∷ 255 ∷ []) }) ≡ None
unfolding is_utf8 chars encode
one-not-utf8 = refl
