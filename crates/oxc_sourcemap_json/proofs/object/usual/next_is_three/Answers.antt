use Rattle.std.proofs.Common.{arith, ◌≡◌, ◌∷◌, ◌∙◌, codes, sym}
use Rattle.std.proofs.lemmas.Slice.Eq.{bytes_eq-Decides}
use Rattle.json.specs.Token.{Token}
use Rattle.oxc_sourcemap_json.proofs.Tokens.{three_begins}
use Rattle.oxc_sourcemap_json.proofs.object.usual.next_is_three.Goals as goal

pub returns-in-Some-clause-three : goal.returns-in-Some-clause-three
returns-in-Some-clause-three c = λ yes.
    let three = (bytes_eq-Decides c.in-Some.digits.now (codes "3")).0 (sym c.eq.ensures ∙ yes) in
    let is : c.args.reader.now ≡ Token.number (codes "3") ∷ c.next_digits.new.self = grind (arith, three) in
    three_begins c.args.reader.now c.next_digits.new.self is
