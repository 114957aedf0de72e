-- The law of the comment by which a code names its map. Texts are lists of characters here.
use Rattle.std.specs.Prelude.{◌≡◌, ℕ, false, List, ◌++◌, codes, Some}
use Rattle.std.specs.List.{list_any}
use Rattle.std.specs.Char.{is_whitespace}
use Rattle.oxc_sourcemap_text.specs.declared.url.language.Language.{Language}
use Rattle.oxc_sourcemap_text.specs.declared.url.language.Language.TheVariants.{JavaScript, Css}
use Rattle.oxc_sourcemap_text.specs.MappingUrls.{may_end_another, mapping_url}

-- A code, and behind it a comment that names this URL, on a line of its own.
abbrev pub with_comment : Language → List ℕ → List ℕ → List ℕ
with_comment JavaScript code url = code ++ codes "\n//# sourceMappingURL=" ++ url ++ codes "\n"
with_comment Css code url = code ++ codes "\n/*# sourceMappingURL=" ++ url ++ codes " */\n"

-- A comment can name this URL: it has no white space, no quote, apostrophe or backtick, and no `*/`.
abbrev pub CanBeNamed : List ℕ → Type 0
CanBeNamed url = (list_any is_whitespace url ≡ false) × (may_end_another url ≡ false)

-- The comment behind a code is the one that counts.
abbrev pub AppendedIsFound : Type 0
AppendedIsFound = (language : Language) (code url : List ℕ) → CanBeNamed url → mapping_url language (with_comment language code url) ≡ Some url
