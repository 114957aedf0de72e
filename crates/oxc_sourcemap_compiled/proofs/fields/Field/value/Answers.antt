use Rattle.std.proofs.Common.{◌+◌, ◌%◌, ◌/◌, ◌^◌, bit_and, ap, ◌∙◌}
use Rattle.std.proofs.lemmas.Nat.{and_mask}
use Rattle.oxc_sourcemap_compiled.proofs.fields.Field.value.Goals as goal

pub returns : goal.returns
returns c =
    let above = c.args.word / 2 ^ c.args.from in
    ap (λ n. (c.args.self.least + n) % 4294967296) (ap (bit_and above) c.requires.mask ∙ and_mask above c.args.self.width)
