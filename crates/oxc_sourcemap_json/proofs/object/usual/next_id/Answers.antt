use Rattle.std.proofs.Common.{◌≡◌, ◌∷◌, Some, IfSome, subst, arith}
use Rattle.json.specs.Token.{Token}
use Rattle.oxc_sourcemap_json.specs.Words.{unsigned, number_of}
use Rattle.oxc_sourcemap_json.proofs.Tokens.{number_begins, of_some}
use Rattle.oxc_sourcemap_json.proofs.object.usual.next_id.Goals as goal

pub returns-clause-id : goal.returns-clause-id
returns-clause-id c =
    let is : c.args.reader.now ≡ Token.number c.in_ok-next_digits.field-0.now ∷ c.next_digits.new.self = grind arith in
    of_some (λ id reads. number_begins c.args.reader.now c.next_digits.new.self c.in_ok-next_digits.field-0.now (unsigned id) is reads) c.id_of.result
    (subst (λ s. IfSome c.id_of.result (λ id. number_of s ≡ Some (unsigned id))) c.as_bytes.ensures.value c.id_of.ensures)
