-- The segment with the first fault.
use Rattle.std.proofs.Common.{◌≡◌, refl, ap, ℕ, suc, List, [], ◌∷◌, take, slice_get}
use Rattle.std.proofs.Common.{Some, Result, Ok, Err}
use Rattle.std.specs.Prelude.{IsOk}
use Rattle.std.specs.List.{AllByRecursion}
use Rattle.oxc_sourcemap_tokens.specs.declared.errors.error.Error.{Error}
use Rattle.oxc_sourcemap_tokens.specs.Token.{TokenRecord}
use Rattle.oxc_sourcemap_tokens.specs.declared.errors.fault.SegmentPlace.{SegmentPlace}
use Rattle.oxc_sourcemap_mappings.specs.Reading.{onto, gathered, reading}
use Rattle.oxc_sourcemap_mappings.specs.SegmentPlaces.{first_fault, fault_place}
use Rattle.oxc_sourcemap_plan.specs.FaultLaws.{segment_results, segment_places, FaultIsThere}

record Failing (results : List (Result TokenRecord Error)) (places : List SegmentPlace) (p : SegmentPlace) : Type 0 where
  index : ℕ
  error : Error
  begins : slice_get places index ≡ Some p
  fails : slice_get results index ≡ Some (Err error)
  before : AllByRecursion IsOk (take index results)
  gathers : gathered results ≡ Err error

failing : (results : List (Result TokenRecord Error)) (places : List SegmentPlace) (p : SegmentPlace) → first_fault results places ≡ Some p → Failing results places p
failing [] places p e = absurd (cc (e))
failing (result ∷ results) [] p e = absurd (cc (e))
failing (Ok token ∷ results) (q ∷ places) p e =
    let h = failing results places p e in
    record { index = suc h.index; error = h.error; begins = h.begins; fails = h.fails; before = (refl, h.before); gathers = ap (onto token) h.gathers }
failing (Err fault ∷ results) (q ∷ places) p e = record { index = 0; error = fault; begins = e; fails = refl; before = tt; gathers = refl }

pub fault_is_there : FaultIsThere
unfolding fault_place reading
fault_is_there text names sources p e =
    let h = failing (segment_results text names sources) (segment_places text) p e in
    record { index = h.index; error = h.error; begins = h.begins; fails = h.fails; before = h.before; read = h.gathers }
