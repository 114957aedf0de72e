-- What is left of a JSON text, by the way it is read.
use Rattle.std.specs.Prelude.{List}
use Rattle.json.specs.Token.{Token}
use Rattle.oxc_sourcemap_json.specs.PlainReader.{tokens_left}
use Rattle.oxc_sourcemap_json.specs.declared.object.token_reader.Way.{Way}
use Rattle.oxc_sourcemap_json.specs.declared.object.token_reader.Way.TheVariants.{Plain, Any}

abbrev pub tokens_of : Way → List Token
tokens_of (Plain reader) = tokens_left reader
tokens_of (Any tokens) = tokens
