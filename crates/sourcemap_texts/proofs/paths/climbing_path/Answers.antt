use Rattle.std.proofs.Common.{◌∙◌, ◌+◌, codes, string_bytes}
use Rattle.std.specs.List.{repeat}
use Rattle.oxc_sourcemap_tokens.specs.Results.{lent_items}
use Rattle.sourcemap_texts.specs.Paths.{front_of}
use Rattle.sourcemap_texts.proofs.Ways.{join_lent, two_parts, goes_up}
use Rattle.sourcemap_texts.proofs.paths.climbing_path.Goals as goal

pub returns : goal.returns
returns c =
    let above = c.args.above in
    let up = c.args.up in
    let joined = c.as_str-2.ensures.value ∙ c.in_ok-join.ensures.ok ∙ join_lent c.args.parts.now in
    let climbed = goes_up above up _ (string_bytes c.push_str.new.self) c.in_ok-path.ensures.bytes (rw (c.as_str.ensures.value, c.in_ok-repeat.ensures.bytes) at c.in_ok-push_str.ensures.bytes) in
    two_parts (string_bytes c.push_str-3.new.self) (string_bytes c.push_str-2.new.self) (repeat (above + up) (codes "../")) (front_of (above + up) (lent_items c.args.parts.now)) _
    (rw (climbed, c.front_of.ensures) at c.in_ok-push_str-2.ensures.bytes) (rw joined at c.in_ok-push_str-3.ensures.bytes)
