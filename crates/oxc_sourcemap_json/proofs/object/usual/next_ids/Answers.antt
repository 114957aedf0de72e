use Rattle.std.proofs.Common.{◌≡◌, ◌∷◌, map, arith}
use Rattle.json.specs.Token.{Token}
use Rattle.oxc_sourcemap_json.specs.Words.{number, unsigned}
use Rattle.oxc_sourcemap_json.proofs.Tokens.{list_begins, of_found}
use Rattle.oxc_sourcemap_json.proofs.object.usual.next_ids.Goals as goal

pub returns-clause-ids : goal.returns-clause-ids
returns-clause-ids c =
    let is : c.args.reader.now ≡ Token.begin_array ∷ c.begin_array.new.self = grind arith in
    of_found (λ found. list_begins c.args.reader.now c.begin_array.new.self c.rest_of_ids.new.reader (map (λ id. number (unsigned id)) found.items) is) c.rest_of_ids.result c.rest_of_ids.ensures.ids
