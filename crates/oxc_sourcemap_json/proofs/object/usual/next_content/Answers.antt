use Rattle.oxc_sourcemap_json.proofs.Tokens.{content_begins, of_found}
use Rattle.oxc_sourcemap_json.proofs.object.usual.next_content.Goals as goal

pub returns-clause-content : goal.returns-clause-content
returns-clause-content c = of_found (λ content is. content_begins c.args.reader.now c.next_content.new.self content is) c.next_content.result c.next_content.ensures
