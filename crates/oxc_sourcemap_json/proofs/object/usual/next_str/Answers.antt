use Rattle.oxc_sourcemap_json.proofs.Tokens.{text_begins, of_some}
use Rattle.oxc_sourcemap_json.proofs.object.usual.next_str.Goals as goal

pub returns-clause-member : goal.returns-clause-member
returns-clause-member c = of_some (λ text is. text_begins c.args.reader.now c.next_str.new.self text.now is 126) c.next_str.result c.next_str.ensures
