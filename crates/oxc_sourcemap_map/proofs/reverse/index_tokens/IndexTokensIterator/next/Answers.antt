use Rattle.std.proofs.Common.{◌<◌, length}
use Rattle.std.proofs.lemmas.List.Elements.{All-rest}
use Rattle.std.specs.Slice.Iter.{iter_rest}
use Rattle.oxc_sourcemap_map.proofs.reverse.index_tokens.IndexTokensIterator.next.Goals as goal

pub invariant_of-self-2 : goal.invariant_of-self-2
invariant_of-self-2 c = All-rest (λ i. i < length c.self.inside.tokens.now) _ (iter_rest c.next.new.self) (iter_rest c.self.inside.order) c.in_ok-i.ensures.steps c.self.invariant
