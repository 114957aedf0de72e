use Rattle.std.proofs.Common.{◌≡◌, ◌∷◌, map, arith}
use Rattle.json.specs.Token.{Token}
use Rattle.oxc_sourcemap_json.specs.Words.{contents_of, content_data}
use Rattle.oxc_sourcemap_json.proofs.Tokens.{list_begins, of_found}
use Rattle.oxc_sourcemap_json.proofs.object.usual.next_contents.Goals as goal

pub returns-clause-contents : goal.returns-clause-contents
returns-clause-contents c =
    let is : c.args.reader.now ≡ Token.begin_array ∷ c.begin_array.new.self = grind arith in
    of_found (λ found. list_begins c.args.reader.now c.begin_array.new.self c.rest_of_contents.new.reader (map content_data (contents_of found)) is) c.rest_of_contents.result c.rest_of_contents.ensures.contents
