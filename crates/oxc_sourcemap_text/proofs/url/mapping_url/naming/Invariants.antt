use Rattle.std.proofs.Common.{◌≡◌, ◌++◌, List, ℕ, length, fold, flat_map, None, IfSome}
use Rattle.std.specs.Str.{chars, IsUtf8}
use Rattle.oxc_sourcemap_text.specs.TextLines.{lines_of}
use Rattle.oxc_sourcemap_text.specs.MappingUrls.{known_after, pieces, all_pieces}
use Rattle.oxc_sourcemap_text.specs.Comments.{url_of, IsPlaced, IsLastUpTo, AreReadApart}
use Rattle.oxc_sourcemap_text.proofs.url.mapping_url.naming.Given as goal

-- what is known after the code is what is known after the rest of its lines, and its comment stands in the code
abbrev pub invariant-loop-line : goal.invariant-loop-line
invariant-loop-line l = record {
  utf8 : IsUtf8 l.rest;
  known : fold known_after (url_of l.known) (flat_map (pieces l.slashes None) (lines_of (chars l.rest)))
      ≡ fold known_after None (flat_map (pieces l.slashes None) (lines_of (chars l.code)));
  front : (front : List ℕ) × (l.code ≡ front ++ l.rest) × IsUtf8 front × AreReadApart l.slashes (chars front) (chars l.rest);
  placed : IfSome l.known (IsPlaced l.slashes l.code);
  last : IfSome l.known (IsLastUpTo l.slashes (all_pieces l.slashes (chars l.rest)));
}

abbrev pub decreases-loop-line : goal.decreases-loop-line
decreases-loop-line l = length l.rest
