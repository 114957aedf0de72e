-- The lines that `trace` prints.
use Rattle.std.specs.Prelude.{ℕ, ◌+◌, [], ◌∷◌, ◌++◌, codes, decimal, Option, if◌then◌else◌}
use Rattle.oxc_sourcemap_tokens.specs.declared.position.Position.{Position}
use Rattle.oxc_sourcemap_parts.specs.Record.{Text, MapRecord}
use Rattle.oxc_sourcemap_parts.specs.DecodedMap.{OriginalPosition}
use Rattle.sourcemap_run.specs.declared.answers.Style.{Style}
use Rattle.sourcemap_run.specs.Answers.{map_answer}
use Rattle.sourcemap_run.specs.Texts.{answer_text, answer_members, number_member}

-- an answer for a position, as a JSON object
abbrev pub answer_object : ℕ → Position → Option (Option OriginalPosition) → Text
answer_object base p answer =
    codes "{\"line\":" ++ (decimal (p.line + base) ++ (number_member (codes "column") (p.column + base)
    ++ (answer_members base answer ++ codes "}")))

-- the line for a position: what the map says of it
abbrev pub answer_line : Style → MapRecord → Position → Text
answer_line style r p =
    let answer = map_answer style.bias r p.line p.column in
    (if style.json then answer_object style.base p answer else answer_text style.base answer) ++ 10 ∷ []
