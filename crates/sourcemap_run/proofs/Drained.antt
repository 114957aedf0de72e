-- What a run of `next` over a `Vec` gives.
use Rattle.std.proofs.Common.{◌≡◌, List, length, None, refl, sym, ◌∙◌}
use Rattle.std.proofs.lemmas.List.{map-id}
use Rattle.std.proofs.lemmas.Iterator.Adapters.{YieldsList-from_vec}
use Rattle.std.proofs.lemmas.Iterator.Consumers.{YieldsList-end}
use Rattle.std.specs.Iterator.{Drains}
use Rattle.std.specs.declared.vec.IntoIter.{IntoIter}
use Rattle.std.specs.Vec.Iter.{into_iter_items, into_iter_len, into_iter_steps}

pub drained : {A Z : Type 0} (s : IntoIter A Z) (xs all : List A) → into_iter_items s ≡ all → into_iter_len s ≡ length all
    → Drains (into_iter_steps {X = A} {Z = Z}) s xs → xs ≡ all
drained s xs all e l (u, (t, y, last)) = sym (map-id xs) ∙ (YieldsList-end (YieldsList-from_vec {s = s} all e l) xs t y None u refl last).0
