use Rattle.std.proofs.Common.{◌≡◌, not, take}
use Rattle.std.specs.List.{filter}
use Rattle.oxc_sourcemap_found.specs.MendedSections.{is_behind}
use Rattle.oxc_sourcemap_found.proofs.mending.cut.tokens_before.Given as goal

abbrev pub invariant-loop-token : goal.invariant-loop-token
invariant-loop-token l = l.kept.items ≡ filter (λ t. not (is_behind l.next l.offset t)) (take l.token-index l.tokens)
