use Rattle.std.proofs.Common.{◌≡◌, map, take, drop}
use Rattle.std.specs.Cow.{cow_str_bytes}
use Rattle.oxc_sourcemap_steps.specs.InheritSteps.{names_with, IsInheriting}
use Rattle.oxc_sourcemap_steps.proofs.Targets.{Made}
use Rattle.oxc_sourcemap_steps.proofs.compose.compose.compose_tokens.Given as goal

abbrev pub invariant-loop-token : goal.invariant-loop-token
invariant-loop-token l = record {
  made : Made (map cow_str_bytes l.first) (map cow_str_bytes l.second) (take l.token-index l.initial.tokens) l.input (names_with (map cow_str_bytes l.second) l.inherited) (take l.token-index l.tokens);
  left : drop l.token-index l.tokens ≡ drop l.token-index l.initial.tokens;
  kept : IsInheriting (map cow_str_bytes l.first) (map cow_str_bytes l.second) l.inherited;
}
