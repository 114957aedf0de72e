use Rattle.std.proofs.Common.{Some, None, string_bytes}
use Rattle.oxc_sourcemap_mappings.proofs.Length.{canonical-bounded}
use Rattle.oxc_sourcemap_mappings.proofs.Pieces.{on_ok-order}
use Rattle.oxc_sourcemap_mappings.proofs.encode.encode_mappings.Goals as goal

pub returns-in-Some-clause-bound : goal.returns-in-Some-clause-bound
returns-in-Some-clause-bound c =
    let r = c.encode_chunks.ensures in
    canonical-bounded c.encode_chunks.result c.args.tokens.now (string_bytes c.args.out.now) (string_bytes c.encode_chunks.new.out) r.text (on_ok-order c.encode_chunks.result c.args.tokens.now (Some c.in-Some.chunks.now) r.clean) c.tokens_in_bounds.ensures

pub returns-in-None-clause-bound : goal.returns-in-None-clause-bound
returns-in-None-clause-bound c =
    let r = c.encode_whole.ensures in
    canonical-bounded c.encode_whole.result c.args.tokens.now (string_bytes c.args.out.now) (string_bytes c.encode_whole.new.out) r.text (on_ok-order c.encode_whole.result c.args.tokens.now None r.clean) c.tokens_in_bounds.ensures
