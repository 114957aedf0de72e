use Rattle.std.proofs.Common.{◌≡◌, true}
use Rattle.std.specs.List.{list_all}
use Rattle.sourcemap_texts.specs.Words.{is_name, written}
use Rattle.sourcemap_texts.proofs.placing.names_of.Given as goal

abbrev pub invariant-loop-part : goal.invariant-loop-part
invariant-loop-part l = list_all is_name (written l.names.items) ≡ true
