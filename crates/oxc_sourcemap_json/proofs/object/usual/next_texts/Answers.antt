use Rattle.std.proofs.Common.{◌≡◌, ◌∷◌, map, arith}
use Rattle.json.specs.Token.{Token}
use Rattle.oxc_sourcemap_json.specs.Words.{texts_of, string}
use Rattle.oxc_sourcemap_json.proofs.Tokens.{list_begins, of_found}
use Rattle.oxc_sourcemap_json.proofs.object.usual.next_texts.Goals as goal

pub returns-clause-texts : goal.returns-clause-texts
returns-clause-texts c =
    let is : c.args.reader.now ≡ Token.begin_array ∷ c.begin_array.new.self = grind arith in
    of_found (λ found. list_begins c.args.reader.now c.begin_array.new.self c.rest_of_texts.new.reader (map string (texts_of found)) is) c.rest_of_texts.result c.rest_of_texts.ensures.texts
