-- What is printed of what is generated from an original position.
use Rattle.std.specs.Prelude.{ℕ, ◌+◌, Bool, false, true, List, [], ◌∷◌, ◌++◌, codes, decimal}
use Rattle.std.specs.Prelude.{if◌then◌else◌}
use Rattle.std.specs.List.{flat_map}
use Rattle.oxc_sourcemap_tokens.specs.Token.{TokenRecord}
use Rattle.oxc_sourcemap_tokens.specs.declared.position.Position.{Position}
use Rattle.oxc_sourcemap_parts.specs.Record.{Text}
use Rattle.sourcemap_run.specs.declared.answers.Style.{Style}
use Rattle.sourcemap_run.specs.Texts.{number_part, number_member, text_member}

-- a line and a column, both counted from `base`, as members of a JSON object that begins with them
abbrev pub opened_object : ℕ → ℕ → ℕ → Text
opened_object base line column = codes "{\"line\":" ++ (decimal (line + base) ++ number_member (codes "column") (column + base))

-- the generated position of a token: `LINE:COLUMN`, or a JSON object
abbrev pub generated_text : Style → TokenRecord → Text
generated_text style t =
    if style.json then opened_object style.base t.dst_line t.dst_col ++ codes "}"
    else decimal (t.dst_line + style.base) ++ number_part (t.dst_col + style.base)

-- what is between two generated positions
abbrev pub separator : Bool → Text
separator json = if json then codes "," else codes " "

-- a generated position behind another one
abbrev pub next_generated : Style → TokenRecord → Text
next_generated style t = separator style.json ++ generated_text style t

-- the generated positions of tokens in their order, one for each token
abbrev pub generated_texts : Style → List TokenRecord → Text
generated_texts style [] = []
generated_texts style (t ∷ ts) = generated_text style t ++ flat_map (next_generated style) ts

abbrev pub is_there : List TokenRecord → Bool
is_there [] = false
is_there (t ∷ ts) = true

-- how the line of generated positions ends, or the line for none
abbrev pub line_end : Bool → Text
line_end found = if found then codes "\n" else codes "nothing\n"

-- the object for an original position of which these tokens are generated
abbrev pub reversed_object : Style → Text → Position → List TokenRecord → Text
reversed_object style source p tokens =
    opened_object style.base p.line p.column ++ (text_member (codes "source") source
    ++ (codes ",\"generated\":[" ++ (generated_texts style tokens ++ codes "]}\n")))

-- the line for an original position of which these tokens are generated
abbrev pub reversed_line : Style → Text → Position → List TokenRecord → Text
reversed_line style source p tokens =
    if style.json then reversed_object style source p tokens else generated_texts style tokens ++ line_end (is_there tokens)
