-- What is printed of an answer.
use Rattle.std.specs.Prelude.{ℕ, ◌+◌, [], ◌++◌, ◌∷◌, codes, decimal, ◌==◌, if◌then◌else◌, Option}
use Rattle.std.specs.Prelude.{Some, None}
use Rattle.oxc_sourcemap_parts.specs.Record.{Text}
use Rattle.oxc_sourcemap_parts.specs.DecodedMap.{OriginalPosition}
use Rattle.sourcemap_texts.specs.Texts.{shown, visible_string}

-- a colon and a number
abbrev pub number_part : ℕ → Text
number_part n = codes ":" ++ decimal n

-- an original position, lines and columns counted from `base`
abbrev pub original_text : ℕ → OriginalPosition → Text
original_text base p = shown p.source.path ++ (number_part (p.src_line + base) ++ number_part (p.src_col + base))

-- a space and a name, if there is one
abbrev pub name_part : Option Text → Text
name_part None = []
name_part (Some name) = codes " " ++ shown name

-- an answer: of no token, of an unmapped one, and of one that points to a source
abbrev pub answer_text : ℕ → Option (Option OriginalPosition) → Text
answer_text base None = codes "nothing"
answer_text base (Some None) = codes "unmapped"
answer_text base (Some (Some p)) = original_text base p ++ name_part p.name

-- a member of a JSON object, of a number, behind a comma
unfoldable pub number_member : Text → ℕ → Text
number_member key n = codes ",\"" ++ (key ++ (codes "\":" ++ decimal n))

-- the same of a text
unfoldable pub text_member : Text → Text → Text
text_member key text = codes ",\"" ++ (key ++ (codes "\":" ++ visible_string text))

-- the member of a name, if there is one
abbrev pub name_member : Option Text → Text
name_member None = []
name_member (Some name) = text_member (codes "name") name

-- the members of a line, a column and a name
unfoldable pub position_members : ℕ → OriginalPosition → Text
position_members base p =
    number_member (codes "sourceLine") (p.src_line + base)
    ++ (number_member (codes "sourceColumn") (p.src_col + base) ++ name_member p.name)

-- the members of an answer
abbrev pub answer_members : ℕ → Option (Option OriginalPosition) → Text
answer_members base None = text_member (codes "found") (codes "nothing")
answer_members base (Some None) = text_member (codes "found") (codes "unmapped")
answer_members base (Some (Some p)) =
    text_member (codes "found") (codes "original") ++ (text_member (codes "source") p.source.path ++ position_members base p)

-- members without the comma before the first one
abbrev pub without_comma : Text → Text
without_comma [] = []
without_comma (b ∷ bs) = if b == 44 then bs else b ∷ bs

-- the JSON object of members, each of which is behind a comma
unfoldable pub object_text : Text → Text
object_text members = codes "{" ++ (without_comma members ++ codes "}")
