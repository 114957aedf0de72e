-- The URL that a code names for its map, found without parsing (ECMA-426, extraction methods without parsing; docs/FORMAT.md, "The
-- map of a code"). Texts are lists of characters here.
use Rattle.std.specs.Prelude.{◌≡◌, ◌⊎◌, ℕ, Bool, true, false, ◌&&◌, ◌||◌, List, [], ◌∷◌, ◌++◌}
use Rattle.std.specs.Prelude.{codes, drop, flat_map, fold, Option, Some, None, if◌then◌else◌, ◌==◌}
use Rattle.std.specs.Prelude.{nat_eq, is_some}
use Rattle.std.specs.Option.{option_map, option_or}
use Rattle.std.specs.List.{list_any, starts_with}
use Rattle.std.specs.Char.{is_whitespace}
use Rattle.std.specs.Borrow.{Bor}
use Rattle.std.specs.Str.{chars, skip_leading_whitespace, drop_trailing_whitespace}
use Rattle.oxc_sourcemap_text.specs.TextLines.{lines_of}
use Rattle.oxc_sourcemap_text.specs.declared.url.language.Language.{Language}
use Rattle.oxc_sourcemap_text.specs.declared.url.language.Language.TheVariants.{JavaScript, Css}

-- ---- one comment

-- `#`, and the older `@`
abbrev pub is_mark : ℕ → Bool
is_mark c = c == 35 || c == 64

-- what is behind the first character, if that is a mark
abbrev pub behind_mark : List ℕ → Option (List ℕ)
behind_mark [] = None
behind_mark (c ∷ cs) = if is_mark c then Some cs else None

-- the text, if it has no white space
abbrev pub without_white_space : List ℕ → Option (List ℕ)
without_white_space text = if list_any is_whitespace text then None else Some text

-- what is behind `sourceMappingURL=`, without white space at its end; it may have none
abbrev pub behind_key : List ℕ → Option (List ℕ)
behind_key text =
    if starts_with nat_eq text (codes "sourceMappingURL=") then without_white_space (drop_trailing_whitespace (drop 17 text)) else None

-- The URL that the text of a comment names: it is a `#` or a `@`, white space or none, `sourceMappingURL=`, the URL, and white space
-- or none.
abbrev pub url_behind : Option (List ℕ) → Option (List ℕ)
url_behind None = None
url_behind (Some text) = behind_key (skip_leading_whitespace text)

abbrev pub named_url : List ℕ → Option (List ℕ)
named_url comment = url_behind (behind_mark comment)

-- a quote, an apostrophe or a backtick
abbrev pub is_quote : ℕ → Bool
is_quote c = c == 34 || (c == 39 || c == 96)

abbrev pub begins_with : ℕ → List ℕ → Bool
begins_with first [] = false
begins_with first (c ∷ cs) = c == first

-- what is before the first `*/`, and behind it
abbrev pub around_block_end : List ℕ → Option (List ℕ × List ℕ)
around_block_end [] = None
around_block_end (c ∷ cs) =
    if c == 42 && begins_with 47 cs then Some ([], drop 1 cs)
    else option_map (λ parts. (c ∷ parts.0, parts.1)) (around_block_end cs)

-- the text may end a string, a template or a comment that began on an earlier line
abbrev pub may_end_another : List ℕ → Bool
may_end_another text = list_any is_quote text || is_some (around_block_end text)

-- ---- the pieces of a line

-- A piece of a line is a comment, by its text, or None: a character of code, or a comment that the line does not end.
abbrev pub Piece : Type 0
Piece = Option (List ℕ)

-- `//` begins a comment in this language; `/*` does in each
abbrev pub has_line_comments : Language → Bool
has_line_comments JavaScript = true
has_line_comments Css = false

-- The pieces of a line, outside of comments, or inside one behind `/*` of which this text is passed. White space is passed over.
unfoldable pub pieces : Bool → Option (List ℕ) → List ℕ → List Piece
pieces slashes None [] = []
pieces slashes None (a ∷ []) = if is_whitespace a then [] else None ∷ []
pieces slashes None (a ∷ b ∷ cs) =
    if is_whitespace a then pieces slashes None (b ∷ cs)
    else if a == 47 && (slashes && b == 47) then Some cs ∷ []
    else if a == 47 && b == 42 then pieces slashes (Some []) cs
    else None ∷ pieces slashes None (b ∷ cs)
pieces slashes (Some text) [] = None ∷ []
pieces slashes (Some text) (a ∷ []) = None ∷ []
pieces slashes (Some text) (a ∷ b ∷ cs) =
    if a == 42 && b == 47 then Some text ∷ pieces slashes None cs
    else pieces slashes (Some (text ++ a ∷ [])) (b ∷ cs)

-- What is known of the URL after a piece: none after code, and after a comment that may end a string, a template or another comment;
-- that which the comment names, if it names one; else what was known.
abbrev pub known_after : Option (List ℕ) → Piece → Option (List ℕ)
known_after known None = None
known_after known (Some text) =
    if may_end_another text then None else option_or (named_url text) known

-- the pieces of all lines of a code
abbrev pub all_pieces : Bool → List ℕ → List Piece
all_pieces slashes code = flat_map (pieces slashes None) (lines_of code)

-- What is known of the URL after all pieces of a code.
unfoldable pub url_known : Bool → List ℕ → Option (List ℕ)
url_known slashes code = fold known_after None (all_pieces slashes code)

-- The URL that a code names.
abbrev pub mapping_url : Language → List ℕ → Option (List ℕ)
mapping_url language code = url_known (has_line_comments language) code

-- ---- the comment

-- The text of a comment names this URL.
abbrev pub IsNamingText : List ℕ → List ℕ → Type 0
IsNamingText text url = (may_end_another text ≡ false) × (named_url text ≡ Some url)

-- A comment that names this URL: `//`, where that begins one, and a text without the white space at its end; or `/*`, a text, and `*/`.
abbrev pub IsComment : Bool → List ℕ → List ℕ → Type 0
IsComment slashes comment url =
    ((slashes ≡ true) × (text : List ℕ) × (comment ≡ 47 ∷ 47 ∷ drop_trailing_whitespace text) × IsNamingText text url)
    ⊎ ((text : List ℕ) × (comment ≡ 47 ∷ 42 ∷ text ++ 42 ∷ 47 ∷ []) × IsNamingText text url)

abbrev pub IsMappingComment : Language → List ℕ → List ℕ → Type 0
IsMappingComment language comment url = IsComment (has_line_comments language) comment url

-- Pieces that change nothing: they are comments, none of which names a URL or may end another text.
abbrev pub AreQuiet : List Piece → Type 0
AreQuiet ps = (known : Option (List ℕ)) → fold known_after known ps ≡ known

abbrev pub IsQuiet : Language → List ℕ → Type 0
IsQuiet language text = AreQuiet (all_pieces (has_line_comments language) text)

-- What follows a front, and does not begin with white space, begins outside of the comments before it on its line: the pieces of
-- the whole are those of the front, and then its own.
abbrev pub IsOutside : Bool → List ℕ → List ℕ → Type 0
IsOutside slashes front rest = all_pieces slashes (front ++ rest) ≡ all_pieces slashes front ++ all_pieces slashes rest

abbrev pub BeginsOutside : Language → List ℕ → List ℕ → Type 0
BeginsOutside language front rest = IsOutside (has_line_comments language) front rest

-- the characters of a text behind a borrow
abbrev pub lent_chars : Option (Bor (List ℕ)) → Option (List ℕ)
lent_chars text = option_map (λ found. chars found.now) text
