use Rattle.std.proofs.Common.{◌∙◌, sym, arith, length, None}
use Rattle.std.proofs.lemmas.Grind.{common_steps}
use Rattle.std.proofs.lemmas.List.{length-map}
use Rattle.oxc_sourcemap_steps.proofs.KeptNames.{resized, all_up_to_repeats}
use Rattle.oxc_sourcemap_steps.proofs.compose.inherited_names.no_names.Goals as goal

pub returns : goal.returns
returns c =
    let all = resized c.in_ok-ids.ids.items c.resize.new.self.items (length c.args.first.now) _ None c.in_ok-ids.ensures.items c.in_ok-ids.ensures.len c.in_ok-resize.ensures.items in
    let up_to_repeats = all_up_to_repeats c.resize.new.self.items (length c.args.first.now) None all in (
      record {
        names = record { places = λ h. absurd (omega (arith, h, c.new-2.ensures.len)); none = λ h. c.new.ensures.items };
        each = up_to_repeats.0 ∙ sym (length-map _ _);
        ids = λ i id name f g. absurd (cc (up_to_repeats.1 i _ g));
      },
      grind (arith, common_steps),
    )
