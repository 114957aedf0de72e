use Rattle.std.proofs.Common.{◌∙◌, ap, sym}
use Rattle.std.specs.List.{list_all}
use Rattle.sourcemap_texts.specs.Words.{is_name, written, joined}
use Rattle.sourcemap_texts.proofs.Ways.{join_texts}
use Rattle.sourcemap_texts.proofs.placing.Placed.path_below.Goals as goal

pub returns-clause-text : goal.returns-clause-text
returns-clause-text c =
    let names = ap (λ l. joined (written l)) c.as_slice.ensures.value ∙ ap joined c.self.view_is in
    let text = c.as_str.ensures.value ∙ c.in_ok-join.ensures.ok ∙ join_texts c.as_slice.result.now ∙ names in
    rw (c.in_ok-path.ensures.ok, text) at c.in_ok-push_str.ensures.bytes

pub returns-clause-below : goal.returns-clause-below
returns-clause-below c =
    let names = ap (λ l. joined (written l)) c.as_slice.ensures.value ∙ ap joined c.self.view_is in
    let text = c.as_str.ensures.value ∙ c.in_ok-join.ensures.ok ∙ join_texts c.as_slice.result.now ∙ names in
    record {
      names = c.args.self.now;
      are_names = ap (list_all is_name) (sym c.self.view_is) ∙ c.self.invariant;
      is_path = rw (c.in_ok-path.ensures.ok, text) at c.in_ok-push_str.ensures.bytes;
    }
