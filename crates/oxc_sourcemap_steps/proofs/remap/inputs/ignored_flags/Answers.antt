use Rattle.std.proofs.Common.{◌≡◌, ◌∙◌, sym, ap, arith, length, map, replicate, false, Some, Bool}
use Rattle.std.proofs.Common.{None, Vec, Global, []}
use Rattle.std.proofs.lemmas.List.{length-map}
use Rattle.std.specs.Cow.{cow_str_bytes}
use Rattle.oxc_sourcemap_parts.specs.Views.{ids_of}
use Rattle.oxc_sourcemap_steps.proofs.KeptNames.{resized, all_up_to_repeats}
use Rattle.oxc_sourcemap_steps.specs.Blocks.{listed_flags}
use Rattle.oxc_sourcemap_steps.proofs.Flags.{unset, unset-empty}
use Rattle.oxc_sourcemap_steps.proofs.remap.inputs.ignored_flags.Goals as goal
use Rattle.oxc_sourcemap_steps.proofs.remap.inputs.ignored_flags.Goals.{in-Some, in_default}

pub set_flags-requires : goal.set_flags-requires
set_flags-requires c =
    let n = c.len-2.result in
    let all : c.resize.new.self.items ≡ replicate n false =
    resized c.in_ok-flags.flags.items c.resize.new.self.items n _ false c.in_ok-flags.ensures.items c.in_ok-flags.ensures.len c.in_ok-resize.ensures.items in
    let count : length c.resize.new.self.items ≡ n = (all_up_to_repeats c.resize.new.self.items n false all).0 in
    all ∙ sym (unset-empty n) ∙ ap (listed_flags (Some [])) (sym count)

pub returns : goal.returns
returns c =
    let n = c.len-2.result in
    let all : c.resize.new.self.items ≡ replicate n false =
    resized c.in_ok-flags.flags.items c.resize.new.self.items n _ false c.in_ok-flags.ensures.items c.in_ok-flags.ensures.len c.in_ok-resize.ensures.items in
    let count : length c.resize.new.self.items ≡ n = (all_up_to_repeats c.resize.new.self.items n false all).0 in
    let sources : n ≡ length (map cow_str_bytes c.args.map.now.sources.items) =
    (let m = length-map c.args.map.now.sources.items cow_str_bytes in omega (arith, m, c.len-2.ensures, c.args.map.now.sources.ok.0)) in
    elim c.match-map.branch [
      | in-Some w ↦ (
          ap (λ (v : Vec Bool Global). v.items) w.flags-is ∙ w.set_flags.ensures
          ∙ ap (λ is. listed_flags (Some is) (length c.resize.new.self.items)) w.as_slice.ensures.value
          ∙ ap (listed_flags (Some w.in-Some.ids.items)) (count ∙ sources)
          ∙ sym (ap (λ l. listed_flags (ids_of l) (length (map cow_str_bytes c.args.map.now.sources.items))) w.in-Some.is))
      | in_default w ↦ (
          ap (λ (v : Vec Bool Global). v.items) w.flags-is ∙ all ∙ sym (unset n) ∙ ap (listed_flags None) sources
          ∙ sym (ap (λ l. listed_flags (ids_of l) (length (map cow_str_bytes c.args.map.now.sources.items))) w.in_default.is))
    ]
