use Rattle.std.proofs.Common.{arith}
use Rattle.oxc_sourcemap_json.proofs.PlainBlocks.{marked}
use Rattle.oxc_sourcemap_json.proofs.object.plain.stops_in.Goals as goal

pub returns : goal.returns
returns c = marked c.args.bytes 16 c.fits-bytes.0 (omega arith)
