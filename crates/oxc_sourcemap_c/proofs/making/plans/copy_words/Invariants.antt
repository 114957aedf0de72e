use Rattle.std.proofs.Common.{◌≡◌, map, take, string_bytes}
use Rattle.oxc_sourcemap_tokens.specs.Results.{lent_items}
use Rattle.oxc_sourcemap_c.proofs.making.plans.copy_words.Given as goal

abbrev pub invariant-loop-word : goal.invariant-loop-word
invariant-loop-word l = map string_bytes l.copies.items ≡ lent_items (take l.word-index l.words)
