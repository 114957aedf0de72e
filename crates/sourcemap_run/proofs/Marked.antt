-- One more item of what a function keeps of a list.
use Rattle.std.proofs.Common.{◌≡◌, List, [], ◌∷◌, ◌++◌, Option, Some, None, arith}
use Rattle.std.specs.List.{filter_map}
use Rattle.std.proofs.lemmas.Grind.{common_steps}
use Rattle.std.proofs.lemmas.List.Elements.{filter_map-append}

pub one_more : {X Y : Type 0} (f : X → Option Y) (xs : List X) (x : X) (old mid new : List Y) (y : Y)
    → f x ≡ Some y → mid ≡ old ++ filter_map f xs → new ≡ mid ++ y ∷ [] → new ≡ old ++ filter_map f (xs ++ x ∷ [])
one_more f xs x old mid new y kept so_far pushed = grind (arith, common_steps, filter_map-append)

pub none_more : {X Y : Type 0} (f : X → Option Y) (xs : List X) (x : X) (old mid : List Y)
    → f x ≡ None → mid ≡ old ++ filter_map f xs → mid ≡ old ++ filter_map f (xs ++ x ∷ [])
none_more f xs x old mid left_out so_far = grind (arith, common_steps, filter_map-append)
