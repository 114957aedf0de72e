-- Choices of calls, by their numbers.
use Rattle.std.specs.Prelude.{ℕ, Option, Some, None, if◌then◌else◌, ◌==◌}
use Rattle.oxc_sourcemap_lookup.specs.declared.bias.Bias.{Bias}
use Rattle.oxc_sourcemap_lookup.specs.declared.bias.Bias.TheVariants.{Before, Clamped, After}
use Rattle.oxc_sourcemap_c.specs.declared.numbers.options.Direction.{Direction}
use Rattle.oxc_sourcemap_c.specs.declared.numbers.options.Direction.TheVariants.{At, For}
use Rattle.oxc_sourcemap_c.specs.declared.numbers.options.Direction.TheVariants.{From, OnLine}

-- which token answers for a generated position
abbrev pub bias_of : ℕ → Option Bias
bias_of n = if n == 0 then Some Before else if n == 1 then Some Clamped else if n == 2 then Some After else None

-- which tokens answer for an original position
abbrev pub direction_of : ℕ → Option Direction
direction_of n =
    if n == 0 then Some At else if n == 1 then Some For else if n == 2 then Some From else if n == 3 then Some OnLine else None
