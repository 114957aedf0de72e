-- The law of a code without the comment by which it names its map. Texts are lists of characters here.
use Rattle.std.specs.Prelude.{◌≡◌, ℕ, List, [], ◌∷◌, ◌++◌}
use Rattle.oxc_sourcemap_text.specs.TextLines.{lines_of}
use Rattle.oxc_sourcemap_text.specs.declared.url.language.Language.{Language}
use Rattle.oxc_sourcemap_text.specs.MappingUrls.{mapping_url, IsMappingComment, IsQuiet}
use Rattle.oxc_sourcemap_text.specs.MappingUrls.{BeginsOutside}

-- Behind this text a line begins: it ends with a line end, or is empty, so its last line is empty.
abbrev pub IsAtLineStart : List ℕ → Type 0
IsAtLineStart text = (lines : List (List ℕ)) × (lines_of text ≡ lines ++ [] ∷ [])

-- Where a comment begins outside of others, and what is behind it is quiet, the code without the comment has the URL of what is in
-- front of it.
abbrev pub CommentIsCut : Type 0
CommentIsCut =
    (language : Language) (front comment back url : List ℕ) → IsMappingComment language comment url
    → BeginsOutside language front (comment ++ back) → IsQuiet language back
    → mapping_url language (front ++ back) ≡ mapping_url language front

-- So it has with a space between them, which keeps a carriage return and a line feed apart.
abbrev pub CommentIsCutApart : Type 0
CommentIsCutApart =
    (language : Language) (front comment back url : List ℕ) → IsMappingComment language comment url
    → BeginsOutside language front (comment ++ back) → IsQuiet language back
    → mapping_url language (front ++ 32 ∷ back) ≡ mapping_url language front

-- A comment that begins a line begins outside of others.
abbrev pub LineBeginsOutside : Type 0
LineBeginsOutside =
    (language : Language) (front comment back url : List ℕ) → IsMappingComment language comment url
    → IsAtLineStart front → BeginsOutside language front (comment ++ back)
