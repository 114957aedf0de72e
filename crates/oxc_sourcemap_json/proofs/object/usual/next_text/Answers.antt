use Rattle.std.proofs.Common.{string_bytes}
use Rattle.oxc_sourcemap_json.proofs.Tokens.{text_begins, of_found}
use Rattle.oxc_sourcemap_json.proofs.object.usual.next_text.Goals as goal

pub returns-clause-text : goal.returns-clause-text
returns-clause-text c = of_found (λ text is. text_begins c.args.reader.now c.next_text.new.self (string_bytes text) is) c.next_text.result c.next_text.ensures

pub returns-clause-member : goal.returns-clause-member
returns-clause-member c = of_found (λ text is. text_begins c.args.reader.now c.next_text.new.self (string_bytes text) is 126) c.next_text.result c.next_text.ensures
