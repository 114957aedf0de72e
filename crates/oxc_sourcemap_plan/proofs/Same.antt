-- The test for equality of mappings decides it.
use Rattle.std.proofs.Common.{◌≡◌, ap}
use Rattle.std.specs.Bool.{Decides}
use Rattle.std.proofs.lemmas.Bool.Decides.{Decides-eqb}
use Rattle.oxc_sourcemap_parts.specs.DecodedMap.{DecodedMapping}
use Rattle.oxc_sourcemap_join.proofs.SameToken.{decides_and, decides_as, decides_option}
use Rattle.oxc_sourcemap_steps.specs.Same.{is_same_original}
use Rattle.oxc_sourcemap_steps.proofs.Same.{decides_origin, entry_by}
use Rattle.oxc_sourcemap_plan.specs.Repeats.{is_same_mapping}

pub decides_entry : (a b : DecodedMapping) → Decides (is_same_mapping a b) (a ≡ b)
decides_entry a b =
    decides_as (is_same_mapping a b) ((a.dst_line ≡ b.dst_line) × ((a.dst_col ≡ b.dst_col) × (a.original ≡ b.original))) (a ≡ b)
    (λ h. entry_by a b.dst_line b.dst_col b.original h.0 h.1.0 h.1.1)
    (λ e. (ap (λ (m : DecodedMapping). m.dst_line) e, (ap (λ (m : DecodedMapping). m.dst_col) e, ap (λ (m : DecodedMapping). m.original) e)))
    (decides_and _ _ _ _ (Decides-eqb a.dst_line b.dst_line) (decides_and _ _ _ _ (Decides-eqb a.dst_col b.dst_col) (decides_option is_same_original decides_origin a.original b.original)))
