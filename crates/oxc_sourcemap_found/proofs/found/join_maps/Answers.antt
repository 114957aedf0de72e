use Rattle.std.proofs.Common.{ap, sym, subst, ◌∙◌, inl, inr, Err, Ok, option_map}
use Rattle.std.specs.String.{string_bytes}
use Rattle.oxc_sourcemap_join.specs.Joined.{owned_records, IsWithinLimits}
use Rattle.oxc_sourcemap_json.specs.ReadMap.{indexed_record}
use Rattle.oxc_sourcemap_tokens.specs.Places.{no_place}
use Rattle.oxc_sourcemap_found.proofs.Joining.{within_joined, past_joined}
use Rattle.oxc_sourcemap_found.proofs.found.join_maps.Goals as goal

pub returns-in-Ok-clause-map : goal.returns-in-Ok-clause-map
returns-in-Ok-clause-map c =
    let file = option_map string_bytes c.args.file in (
      within_joined (owned_records c.args.maps.items) file (subst IsWithinLimits c.in-Ok.ensures.joined c.in-Ok.ensures.limits)
          ∙ ap (λ r. Ok (indexed_record file r)) (sym c.in-Ok.ensures.joined)
          ∙ ap (λ r. Ok r) (sym c.with_file.ensures),
      tt,
    )

pub returns-in-Err-clause-map : goal.returns-in-Err-clause-map
returns-in-Err-clause-map c = rw c.without_place.ensures (
  tt,
  λ n. elim c.in-Err.ensures.error [
    | inl m ↦ absurd (n m)
    | inr t ↦ (past_joined (owned_records c.args.maps.items) (option_map string_bytes c.args.file) t.1 ∙ ap (λ x. Err x) (sym t.0))
  ],
)

pub returns-in-Err-clause-place : goal.returns-in-Err-clause-place
returns-in-Err-clause-place c = rw c.without_place.ensures (λ n. elim c.in-Err.ensures.error [
  | inl m ↦ absurd (n m)
  | inr t ↦ ap no_place t.0
])
