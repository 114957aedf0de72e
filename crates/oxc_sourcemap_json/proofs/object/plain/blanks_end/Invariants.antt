use Rattle.std.proofs.Common.{◌≡◌, ◌-◌, length, drop}
use Rattle.json.specs.Lex.{between, lex}
use Rattle.oxc_sourcemap_json.proofs.object.plain.blanks_end.Given as goal

abbrev pub invariant-blanks : goal.invariant-blanks
invariant-blanks l = lex between (drop l.end l.text) ≡ lex between (drop l.from l.text)

abbrev pub decreases-blanks : goal.decreases-blanks
decreases-blanks l = length l.text - l.end
