use Rattle.std.proofs.Common.{◌≡◌, false, sym, ap, ◌∙◌, true≢false, string_bytes}
use Rattle.oxc_sourcemap_parts.specs.Record.{Text}
use Rattle.std.proofs.lemmas.Result.{IfOk-weaker}
use Rattle.oxc_sourcemap_tokens.specs.Results.{lent_items}
use Rattle.sourcemap_texts.specs.Paths.{is_in_folder, place_of}
use Rattle.sourcemap_texts.specs.Paths.{Way, climbed_along, way_of, way}
use Rattle.sourcemap_texts.specs.declared.paths.Place.{Place}
use Rattle.sourcemap_texts.proofs.Climbs.{way_place}
use Rattle.sourcemap_texts.proofs.Moves.{absolute_kept, same_kept, moved}
use Rattle.sourcemap_texts.proofs.paths.relative_path.Goals as goal
use Rattle.sourcemap_texts.proofs.paths.relative_path.Goals.{then-not-is_in_folder-via-then-not-is_in_folder}
use Rattle.sourcemap_texts.proofs.paths.relative_path.Goals.{then-not-is_in_folder-via-else-not-is_in_folder+then-are_same}

parts_there : (place : Place) (current folder : Text) → way place ≡ way_of current folder → lent_items place.parts.items ≡ place_of current folder
parts_there place current folder e = ap (λ (w : Way). w.1) e ∙ way_place current folder

pub returns-then-not-is_in_folder : goal.returns-then-not-is_in_folder
returns-then-not-is_in_folder c =
    let current = c.args.current.now in
    let path = c.args.path.now in
    elim c.then-not-is_in_folder.branch [
      | then-not-is_in_folder-via-then-not-is_in_folder w ↦
          let alone : is_in_folder path ≡ false = sym c.is_in_folder.ensures ∙ w.if-not-is_in_folder.true in
          IfOk-weaker c.from_str.result _ _ (λ text is. rw is (absolute_kept current c.args.from.now c.args.to.now path alone)) c.from_str.ensures.ok
      | then-not-is_in_folder-via-else-not-is_in_folder+then-are_same w ↦
          let same : place_of current c.args.to.now ≡ place_of current c.args.from.now =
          sym (parts_there c.in_ok-base.base current c.args.to.now c.in_ok-base.ensures) ∙ ap lent_items (sym w.as_slice.ensures.value)
          ∙ w.are_same.ensures.yes w.if-are_same.true ∙ ap lent_items w.as_slice-else-not-is_in_folder.ensures.value
          ∙ parts_there c.in_ok-place.place current c.args.from.now c.in_ok-place.ensures in
          IfOk-weaker c.from_str.result _ _ (λ text is. rw is (same_kept current c.args.from.now c.args.to.now path same)) c.from_str.ensures.ok
    ]

pub returns : goal.returns
returns c =
    let current = c.args.current.now in
    let from = c.args.from.now in
    let to = c.args.to.now in
    let path = c.args.path.now in
    let there = parts_there c.in_ok-base.base current to c.in_ok-base.ensures in
    let here = parts_there c.in_ok-place.place current from c.in_ok-place.ensures in
    let base = ap lent_items c.as_slice-2.ensures.value ∙ there in
    let place = c.in_ok-follow.ensures ∙ ap (λ (w : Way). climbed_along w path) c.in_ok-place.ensures in
    let inside = sym c.is_in_folder.ensures ∙ c.if-not-is_in_folder.false in
    let differ = λ (e : place_of current to ≡ place_of current from).
    true≢false
    (sym (c.are_same.ensures.no
    (ap lent_items c.as_slice.ensures.value ∙ there ∙ e ∙ sym here ∙ ap lent_items (sym c.as_slice-else-not-is_in_folder.ensures.value)))
    ∙ c.if-are_same.false) in
    IfOk-weaker c.path_from.result _ _
    (λ text leads. moved current from to path (string_bytes text) _ (way c.follow.new.self) inside differ base place leads) c.path_from.ensures
