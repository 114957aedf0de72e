-- The decoded map of an indexed map that is read, by those of its sections.
use Rattle.std.proofs.Common.{◌≡◌, Bool, true, false, cond, List, [], ◌∷◌, refl, sym, ap, ◌∙◌}
use Rattle.std.proofs.Common.{subst, Option, Some, None, Result, Ok, Err}
use Rattle.std.specs.List.{AllByRecursion}
use Rattle.oxc_sourcemap_tokens.specs.declared.errors.error.Error.{Error}
use Rattle.oxc_sourcemap_tokens.specs.declared.errors.error.Error.TheVariants.{TooLarge}
use Rattle.oxc_sourcemap_tokens.specs.Errors.{unless}
use Rattle.oxc_sourcemap_parts.specs.Record.{Text, MapRecord}
use Rattle.oxc_sourcemap_parts.specs.DecodedMap.{DecodedMap, decoded_map_of}
use Rattle.oxc_sourcemap_json.specs.Shape.{◌>>=◌}
use Rattle.oxc_sourcemap_tokens.specs.declared.position.Position.{Position}
use Rattle.oxc_sourcemap_join.specs.Joined.{joined}
use Rattle.oxc_sourcemap_json.specs.Sections.{Sections, joined_sections}
use Rattle.oxc_sourcemap_json.specs.JoinLimits.{is_map_within_limits}
use Rattle.oxc_sourcemap_json.specs.ReadMap.{indexed, indexed_record, map_of_form}
use Rattle.oxc_sourcemap_json.proofs.WellRead.{IsWellRead, sections_well, value_sections_well}
use Rattle.oxc_sourcemap_json.proofs.WellRead.{read_is_form, value_is_form}
use Rattle.oxc_sourcemap_plan.specs.Repeats.{EqualUpToRepeats}
use Rattle.oxc_sourcemap_plan.specs.JoinLaws.{AreAllInRange}
use Rattle.oxc_sourcemap_plan.specs.SectionLaws.{decoded_map_of_sections, ValueOfSections}
use Rattle.oxc_sourcemap_plan.specs.SectionLaws.{TextOfSections}
use Rattle.oxc_sourcemap_plan.proofs.JoinDecodedMaps.{decoded_map_joined}

pub all-in-range : (ms : List (MapRecord × Position)) → AllByRecursion (λ m. IsWellRead m.0) ms → AreAllInRange ms
all-in-range [] h = tt
all-in-range (m ∷ ms) h = (h.0.in_range.tokens, all-in-range ms h.1)

pub record FromSections (fault : Option Error) (ms : List (MapRecord × Position)) (r : MapRecord) : Type 0 where
  pub no_fault : fault ≡ None
  pub is_join : joined ms ≡ r

pub from-sections : (b : Bool) (fault : Option Error) (ms : List (MapRecord × Position)) (r : MapRecord) → cond b (unless fault (Ok (joined ms))) (Err TooLarge) ≡ Ok r → FromSections fault ms r
from-sections true None ms r e = record { no_fault = refl; is_join = cc }
from-sections true (Some f) ms r e = cc
from-sections false fault ms r e = cc

pub joined-of : (file : Option Text) (x : Result MapRecord Error) (r : MapRecord) → (x >>= (λ j. Ok (indexed_record file j))) ≡ Ok r → (j : MapRecord) × (x ≡ Ok j) × (indexed_record file j ≡ r)
joined-of file (Ok j) r e = (j, refl, cc)
joined-of file (Err f) r e = cc

of-sections : (file : Option Text) (found : Sections) (r : MapRecord) → AllByRecursion (λ m. IsWellRead m.0) found.maps → map_of_form (indexed file found) ≡ Ok r
    → EqualUpToRepeats (decoded_map_of r) (decoded_map_of_sections file found)
of-sections file found r well e =
    let j = joined-of file (joined_sections found) r e in
    let f = from-sections (is_map_within_limits (joined found.maps)) found.fault found.maps j.0 j.1 in
    let is : indexed_record file (joined found.maps) ≡ r = ap (indexed_record file) f.is_join ∙ j.2 in
    subst (λ (m : MapRecord). EqualUpToRepeats (decoded_map_of m) (decoded_map_of_sections file found)) is
    (ap (λ (t : DecodedMap). record t { file = file }) (decoded_map_joined found.maps (all-in-range found.maps well)))

pub value_of_sections : ValueOfSections
value_of_sections d file found r said e =
    of-sections file found r (value_sections_well d file found said) (sym (ap map_of_form said) ∙ sym (value_is_form d) ∙ e)

pub text_of_sections : TextOfSections
text_of_sections text file found r said e =
    of-sections file found r (sections_well text file found said) (sym (ap map_of_form said) ∙ sym (read_is_form text) ∙ e)
