use Rattle.std.proofs.Common.{inl, inr, arith}
use Rattle.std.proofs.lemmas.Bool.{cases_lt}
use Rattle.oxc_sourcemap_json.proofs.JsonString.{cut_after_first}
use Rattle.oxc_sourcemap_json.proofs.write.json_string.gathered_len.Goals as goal

pub returns-clause-some : goal.returns-clause-some
returns-clause-some c = elim (cases_lt 0 c.floor_char_boundary.result) [
  | inl some ↦ some
  | inr none ↦ (let first = cut_after_first c.args.text.now c.utf8.text c.requires in
      absurd (c.floor_char_boundary.ensures.nearest first.0 (omega (arith, first.1)) (omega (arith, first.2)) first.3))
]
