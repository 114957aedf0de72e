-- The index that is kept beside a map.
use Rattle.std.specs.Prelude.{◌≡◌, List, true}
use Rattle.oxc_sourcemap_tokens.specs.Token.{TokenRecord}
use Rattle.oxc_sourcemap_parts.specs.Sorted.{are_tokens_sorted}
use Rattle.oxc_sourcemap_lookup.specs.LineSpans.{IsIndexOf}
use Rattle.oxc_sourcemap_lookup.specs.declared.line_index.LineIndex.{LineIndex}

-- the index of the lines of these tokens, which are sorted
pub record IsIndexed (tokens : List TokenRecord) (index : LineIndex) : Type 0 where
  pub sorted : are_tokens_sorted tokens ≡ true
  pub lines : IsIndexOf tokens index
