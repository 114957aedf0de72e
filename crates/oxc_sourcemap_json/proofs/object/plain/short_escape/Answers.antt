use Rattle.std.proofs.Common.{arith}
use Rattle.json.specs.Text.{short_escape}
use Rattle.oxc_sourcemap_json.proofs.object.plain.short_escape.Goals as goal

pub returns-in-34-clause-value : goal.returns-in-34-clause-value
unfolding short_escape
returns-in-34-clause-value c = grind arith

pub returns-in-98-clause-value : goal.returns-in-98-clause-value
unfolding short_escape
returns-in-98-clause-value c = rw c.in-98.is

pub returns-in-102-clause-value : goal.returns-in-102-clause-value
unfolding short_escape
returns-in-102-clause-value c = rw c.in-102.is

pub returns-in-110-clause-value : goal.returns-in-110-clause-value
unfolding short_escape
returns-in-110-clause-value c = rw c.in-110.is

pub returns-in-114-clause-value : goal.returns-in-114-clause-value
unfolding short_escape
returns-in-114-clause-value c = rw c.in-114.is

pub returns-in-116-clause-value : goal.returns-in-116-clause-value
unfolding short_escape
returns-in-116-clause-value c = rw c.in-116.is

pub returns-in_default-clause-value : goal.returns-in_default-clause-value
unfolding short_escape
returns-in_default-clause-value c = grind arith
