use Rattle.std.proofs.Common.{◌≡◌, ◌∙◌, true, get_or, arith}
use Rattle.json.specs.Word.{is_space}
use Rattle.oxc_sourcemap_json.proofs.PlainTokens.{blank_passed}
use Rattle.oxc_sourcemap_json.proofs.object.plain.blanks_end.Goals as goal

pub blanks-preserved : goal.blanks-preserved
blanks-preserved c =
    let blank : is_space (get_or c.args.text.now c.blanks.end 0) ≡ true = grind arith in
    blank_passed c.args.text.now c.blanks.end (grind arith) blank ∙ c.blanks.invariant
