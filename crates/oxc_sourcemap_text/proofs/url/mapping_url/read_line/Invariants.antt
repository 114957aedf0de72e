use Rattle.std.proofs.Common.{◌≡◌, ◌++◌, ℕ, List, length, fold, None, IfSome}
use Rattle.std.specs.Str.{chars, IsUtf8}
use Rattle.std.specs.Str.Iter.{chars_rest}
use Rattle.oxc_sourcemap_text.specs.MappingUrls.{known_after, pieces}
use Rattle.oxc_sourcemap_text.specs.Comments.{url_of, IsPlaced, IsLineOf, IsLastUpTo}
use Rattle.oxc_sourcemap_text.specs.Comments.{pieces_left, AreReadApart}
use Rattle.oxc_sourcemap_text.proofs.Apart.{AreCutAt}
use Rattle.oxc_sourcemap_text.proofs.url.mapping_url.read_line.Given as goal

-- what is known after the line is what is known after the rest of it, and its comment stands in the code
abbrev pub invariant-loop-ch : goal.invariant-loop-ch
invariant-loop-ch l = record {
  utf8 : IsUtf8 (chars_rest l.rest);
  known : fold known_after (url_of l.known) (pieces l.slashes None (chars (chars_rest l.rest)))
      ≡ fold known_after (url_of l.fn.before) (pieces l.slashes None (chars l.fn.line));
  passed : (passed : List ℕ) × (l.fn.line ≡ passed ++ chars_rest l.rest);
  placed : (code front : List ℕ) → code ≡ front ++ l.fn.line ++ l.fn.after → IsUtf8 front
      → AreReadApart l.slashes (chars front) (chars l.fn.line ++ chars l.fn.after) → IsLineOf l.slashes (chars l.fn.line) (chars l.fn.after)
      → IfSome l.fn.before (IsPlaced l.slashes code) → IfSome l.known (IsPlaced l.slashes code);
  spelt : (front : List ℕ) × (chars l.fn.line ≡ front ++ chars (chars_rest l.rest)) × AreCutAt l.slashes front (chars (chars_rest l.rest));
  last : IsLineOf l.slashes (chars l.fn.line) (chars l.fn.after) → IfSome l.fn.before (IsLastUpTo l.slashes (pieces_left l.slashes (chars l.fn.line) (chars l.fn.after)))
      → IfSome l.known (IsLastUpTo l.slashes (pieces_left l.slashes (chars (chars_rest l.rest)) (chars l.fn.after)));
}

abbrev pub decreases-loop-ch : goal.decreases-loop-ch
decreases-loop-ch l = length (chars (chars_rest l.rest))
