-- Worked examples, computed by the definitions themselves.
use Rattle.std.specs.Prelude.{◌≡◌, refl, ℕ, true, false, List, [], ◌∷◌, ◌++◌, codes, Some, None}
use Rattle.std.specs.Prelude.{length}
use Rattle.std.proofs.Common.{lit<, true≢false, ap, sym, ◌∙◌, arith, Bool, Option}
use Rattle.std.specs.Option.{unwrap_or}
use Rattle.std.specs.Str.{bytes_eq}
use Rattle.oxc_sourcemap_tokens.specs.declared.position.Position.{Position}
use Rattle.std.specs.Borrow.{Bor}
use Rattle.std.specs.Str.{chars}
use lib.Utf8.{encode}
use Rattle.oxc_sourcemap_parts.specs.Record.{Text}
use Rattle.sourcemap_texts.specs.declared.matching.Candidate.{Candidate}
use Rattle.sourcemap_texts.specs.declared.matching.Choice.TheVariants.{Determined, MaybeFirst}
use Rattle.sourcemap_texts.specs.declared.matching.Choice.TheVariants.{Nothing}
use Rattle.sourcemap_texts.specs.Matching.{below_length, ends_in_folder, tells_apart, chosen}
use Rattle.sourcemap_texts.specs.Paths.{place_of, named, above, is_in_folder}
use Rattle.sourcemap_texts.specs.Paths.{begins_plainly, IsMoved}
use Rattle.sourcemap_texts.specs.Positions.{IsSourcePosition}
use Rattle.sourcemap_texts.specs.Texts.{visible_string}
use Rattle.oxc_sourcemap_json.specs.JsonString.{json_string, escaped}

abbrev at : ℕ → ℕ → Position
at line column = record { line = line; column = column }

abbrev lent : Text → Bor Text
lent text = record { ref_ptr = (0, 0); now = text }

-- ---- texts in quotes
-- `a`, a quote, a backslash, a line feed, U+0001, DEL and `é`
tells-in_quotes : visible_string (97 ∷ 34 ∷ 92 ∷ 10 ∷ 1 ∷ 127 ∷ 195 ∷ 169 ∷ []) ≡ codes "\"a\\\"\\\\\\n\\u0001\\u007f" ++ 195 ∷ 169 ∷ codes "\""
unfolding json_string escaped chars encode
tells-in_quotes = refl

-- ---- which code a path names
is_below-its_prefix : below_length (codes "C:/proj/dist/a.js") (codes "C:/proj/") ≡ 8
is_below-its_prefix = refl

is_below-no_other : below_length (codes "C:/project/a.js") (codes "C:/proj/") ≡ 0
is_below-no_other = refl

is_below-no_whole_path : below_length (codes "C:/proj/") (codes "C:/proj/") ≡ 0
is_below-no_whole_path = refl

ends-in_its_folder : ends_in_folder (codes "/proj/") (codes "C:/proj/") ≡ true
ends-in_its_folder = refl

ends-in_it_alone : ends_in_folder (codes "/proj/") (codes "proj/") ≡ true
ends-in_it_alone = refl

ends-in_no_longer_name : ends_in_folder (codes "/proj/") (codes "C:/myproj/") ≡ false
ends-in_no_longer_name = refl

tells-nothing_by_names_alone : tells_apart (Some (codes "b.js")) (codes "a.js") ≡ false
tells-nothing_by_names_alone = refl

tells-two_files : tells_apart (Some (codes "src/b.js")) (codes "a.js") ≡ true
tells-two_files = refl

tells-nothing_by_one_file : tells_apart (Some (codes "src/a.js")) (codes "src/a.js") ≡ false
tells-nothing_by_one_file = refl

abbrev candidate : Text → Text → Candidate
candidate prefix rest = record { prefix = lent prefix; rest = lent rest; earlier = None }

abbrev two_prefixes : List Candidate
two_prefixes = candidate (codes "C:/") (codes "proj/a.js") ∷ candidate (codes "C:/proj/") (codes "a.js") ∷ []

chooses-by_the_folder : chosen (codes "/proj/") false two_prefixes ≡ Determined 1
chooses-by_the_folder = refl

chooses-by_no_folder_of_a_host : chosen (codes "/proj/") true two_prefixes ≡ MaybeFirst
chooses-by_no_folder_of_a_host = refl

chooses-nothing : chosen (codes "/proj/") false [] ≡ Nothing
chooses-nothing = refl

-- ---- words of positions
reads-behind_colons : IsSourcePosition 1 (codes "webpack:///a.ts:3:5") (codes "webpack:///a.ts") (at 2 4)
reads-behind_colons = record {
  line = codes "3";
  column = codes "5";
  parts = refl;
  is_line = record { numeral = (lit< tt, (lit< tt, tt)); value = refl; small = lit< tt };
  is_column = record { numeral = (lit< tt, (lit< tt, tt)); value = refl; small = lit< tt };
}

-- ---- paths of sources
leads-out_of_a_folder : named (codes "/home/u") (codes "dist/js/") (codes "../../src/./a.ts") ≡ codes "home" ∷ codes "u" ∷ codes "src" ∷ codes "a.ts" ∷ []
leads-out_of_a_folder = refl

leads-to_no_folder_above_the_root : named [] (codes "/a/") (codes "../../b.ts") ≡ codes "b.ts" ∷ []
leads-to_no_folder_above_the_root = refl

goes-above_the_root : above [] (codes "/a/") (codes "../../../b.ts") ≡ 2
goes-above_the_root = refl

goes-not_above_the_root : above (codes "/p") (codes "a/") (codes "../../b.ts") ≡ 0
goes-not_above_the_root = refl

is_from-the_root : place_of (codes "/home/u") (codes "/out//x/..") ≡ codes "out" ∷ []
is_from-the_root = refl

is_in-no_folder : is_in_folder (codes "webpack:///a.ts") ≡ false
is_in-no_folder = refl

is_in-a_folder_with_a_colon : is_in_folder (codes "src/a:b.ts") ≡ true
is_in-a_folder_with_a_colon = refl

is_in-no_folder_of_a_drive : is_in_folder (codes "C:/a.ts") ≡ false
is_in-no_folder_of_a_drive = refl

begins-as_a_scheme : begins_plainly (codes "a:b" ∷ codes "c.ts" ∷ []) ≡ false
begins-as_a_scheme = refl

abbrev is_out : Option Text → Bool
is_out name = bytes_eq (unwrap_or name []) (codes "out")

moves-to_a_deeper_folder : IsMoved (codes "/p") (codes "dist/") (codes "out/js/") (codes "../src/a.ts") (codes "../../src/a.ts")
moves-to_a_deeper_folder = record {
  same_place = λ _. refl;
  plain = λ _. refl;
  absolute_stays = λ e. absurd (true≢false e);
  stays = λ e. absurd (omega (arith, ap length e));
  direct = λ _ _. record {
    up = 2;
    names = codes "src" ∷ codes "a.ts" ∷ [];
    is_path = refl;
    are_names = refl;
    apart = λ name less from into. true≢false (ap is_out (from ∙ sym into));
    no_higher = λ _. omega arith;
    as_high = λ high. absurd (omega (arith, high));
  };
}

moves-above_the_root : IsMoved [] (codes "/dist/") (codes "/out/js/") (codes "../../a.ts") (codes "../../../a.ts")
moves-above_the_root = record {
  same_place = λ _. refl;
  plain = λ _. refl;
  absolute_stays = λ e. absurd (true≢false e);
  stays = λ e. absurd (omega (arith, ap length e));
  direct = λ _ _. record {
    up = 3;
    names = codes "a.ts" ∷ [];
    is_path = refl;
    are_names = refl;
    apart = λ name below from into. omega (arith, below);
    no_higher = λ none. absurd (omega (arith, none));
    as_high = λ _. refl;
  };
}
