-- Lists of bytes that are to be texts.
use Rattle.std.specs.Prelude.{◌⊎◌, ℕ, List, [], ◌∷◌, Option, Some, None, if◌then◌else◌, ◌==◌}
use Rattle.std.specs.Prelude.{IsUtf8, IfSome}
use Rattle.std.specs.List.{All}
use Rattle.oxc_sourcemap_parts.specs.Record.{Text}
use Rattle.oxc_sourcemap_c.specs.declared.numbers.call_error.CallError.{CallError}
use Rattle.oxc_sourcemap_c.specs.CallErrors.{IsNotText}
use Rattle.oxc_sourcemap_tokens.specs.Token.{TokenRecord, id_of}
use Rattle.oxc_sourcemap_c.specs.declared.texts.text.TokenNumbers.{TokenNumbers}

-- all of these are UTF-8
abbrev pub AreTexts : List Text → Type 0
AreTexts texts = All IsUtf8 texts

-- one of these is not UTF-8, and this is the error for the first
abbrev pub IsNotTexts : List Text → CallError → Type 0
IsNotTexts [] r = ⊥
IsNotTexts (text ∷ texts) r = IsNotText text r ⊎ (IsUtf8 text × IsNotTexts texts r)

-- a content, which is not known if its flag is 0
abbrev pub known_text : Text → ℕ → Option Text
known_text text flag = if flag == 0 then None else Some text

-- contents with their flags; one without a flag is not known
abbrev pub known_texts : List Text → List ℕ → List (Option Text)
known_texts [] flags = []
known_texts (text ∷ texts) [] = None ∷ known_texts texts []
known_texts (text ∷ texts) (flag ∷ flags) = known_text text flag ∷ known_texts texts flags

-- a content is UTF-8, if it is known
abbrev pub IsContent : Option Text → Type 0
IsContent content = IfSome content IsUtf8

-- all contents that are known are UTF-8
abbrev pub AreContents : List (Option Text) → Type 0
AreContents contents = All IsContent contents

-- a content is known and not UTF-8, and this is the error for it
abbrev pub IsNotContent : Option Text → CallError → Type 0
IsNotContent None r = ⊥
IsNotContent (Some text) r = IsNotText text r

-- a content is known and not UTF-8, and this is the error for the first
abbrev pub IsNotContents : List (Option Text) → CallError → Type 0
IsNotContents [] r = ⊥
IsNotContents (content ∷ contents) r = IsNotContent content r ⊎ (IsContent content × IsNotContents contents r)

-- the token of these numbers; 4294967295 stands for no id
abbrev pub token_of : TokenNumbers → TokenRecord
token_of t = record {
  dst_line = t.dst_line;
  dst_col = t.dst_col;
  src_line = t.src_line;
  src_col = t.src_col;
  source_id = id_of t.source_id;
  name_id = id_of t.name_id;
}
