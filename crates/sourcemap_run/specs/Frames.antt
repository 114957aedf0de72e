-- Lines of a stack trace, and what they are led back to.
use Rattle.std.specs.Prelude.{◌≤◌, ◌-◌, ℕ, Bool, not, ◌||◌, ◌&&◌, ◌==◌, List, [], ◌∷◌, ◌++◌}
use Rattle.std.specs.Prelude.{⊤, take, drop, Option, Some, None, slice_get, if◌then◌else◌}
use Rattle.std.specs.Str.{IsCharBoundary}
use Rattle.std.specs.Option.{option_and_then}
use Rattle.oxc_sourcemap_tokens.specs.declared.position.Position.{Position}
use Rattle.oxc_sourcemap_parts.specs.Record.{Text, MapRecord}
use Rattle.oxc_sourcemap_parts.specs.DecodedMap.{OriginalPosition}
use Rattle.oxc_sourcemap_lookup.specs.declared.bias.Bias.TheVariants.{Before}
use Rattle.sourcemap_run.specs.declared.frames.Cut.{Cut}
use Rattle.sourcemap_run.specs.declared.frames.Frame.{Frame}
use Rattle.sourcemap_run.specs.declared.frames.Target.{Target}
use Rattle.sourcemap_run.specs.declared.frames.Paint.{Paint}
use Rattle.sourcemap_run.specs.Answers.{map_answer}
use Rattle.sourcemap_run.specs.Texts.{original_text}

-- The position of a frame, which has its line and column from 1, its column in bytecode from 0. There is none before the first one.
abbrev pub frame_position : Bool → ℕ → ℕ → Option Position
frame_position is_bytecode line column =
    if line == 0 || (not is_bytecode && column == 0) then None
    else Some (record { line = line - 1; column = if is_bytecode then column else column - 1 })

-- The bytes of a cut from `start` up to but not including `end`: it does not end before it begins, and both are ends of characters.
abbrev pub IsCutAt : Text → ℕ → ℕ → Type 0
IsCutAt text start end = (start ≤ end) × IsCharBoundary text start × IsCharBoundary text end

-- what the map of a target says of its position
abbrev pub answer_to : List MapRecord → Option Target → Option (Option OriginalPosition)
answer_to maps None = None
answer_to maps (Some t) = option_and_then (λ r. map_answer Before r t.position.line t.position.column) (slice_get maps t.map)

-- an original position, counted from 1, between the codes of a colour
abbrev pub painted : Paint → OriginalPosition → Text
painted paint p = paint.before.now ++ (original_text 1 p ++ paint.after.now)

-- a position: what it comes from, or as it is
abbrev pub location_text : (OriginalPosition → Text) → Text → Option (Option OriginalPosition) → Text
location_text print own None = own
location_text print own (Some None) = own
location_text print own (Some (Some p)) = print p

-- a line, or a part of it, whose position is led back
abbrev pub led_back : (OriginalPosition → Text) → List MapRecord → Frame → Text
led_back print maps f =
    f.front.now ++ (location_text print f.location.now (answer_to maps f.target) ++ f.back.now)

-- the bytes of a text from `start` up to but not including `end`
abbrev pub between : Text → ℕ → ℕ → Text
between text start end = drop start (take end text)

-- Cuts of a line from byte `from` on: each begins where the one ahead of it ends or behind that, does not end before it begins, and both its
-- beginning and its end are ends of characters.
abbrev pub AreInRow : Text → ℕ → List Cut → Type 0
AreInRow line from [] = ⊤
AreInRow line from (c ∷ cs) = (from ≤ c.start) × IsCutAt line c.start c.end × AreInRow line c.end cs

-- what is printed of a line that is cut at positions, from byte `from` on: what their maps say, or what stands there if they say nothing,
-- and between them all as it is
abbrev pub line_led_back : (OriginalPosition → Text) → List MapRecord → Text → ℕ → List Cut → Text
line_led_back print maps line from [] = drop from line
line_led_back print maps line from (c ∷ cs) =
    between line from c.start ++ (location_text print (between line c.start c.end) (answer_to maps c.target)
    ++ line_led_back print maps line c.end cs)
