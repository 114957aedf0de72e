use Rattle.std.proofs.Common.{◌≡◌, length}
use Rattle.oxc_sourcemap_text.specs.MappingUrls.{is_quote}
use Rattle.std.specs.List.{list_any}
use Rattle.std.specs.Str.{chars, IsUtf8}
use Rattle.std.specs.Str.Iter.{chars_rest}
use Rattle.oxc_sourcemap_text.proofs.url.comment.has_quote.Given as goal

abbrev pub invariant-loop-ch : goal.invariant-loop-ch
invariant-loop-ch l = record {
  utf8 : IsUtf8 (chars_rest l.rest);
  found : list_any is_quote (chars l.text) ≡ list_any is_quote (chars (chars_rest l.rest));
}

abbrev pub decreases-loop-ch : goal.decreases-loop-ch
decreases-loop-ch l = length (chars_rest l.rest)
