use Rattle.std.proofs.Common.{◌≡◌, ◌++◌, ◌∷◌, [], None, length, map, rules, ◌∙◌, ap}
use Rattle.std.proofs.lemmas.List.{map_push}
use Rattle.oxc_sourcemap_scopes.specs.declared.scopes.RangeInfo.{RangeInfo}
use Rattle.oxc_sourcemap_scopes.specs.Trees.{started}
use Rattle.oxc_sourcemap_scopes.specs.Items.{State, IsDefined}
use Rattle.oxc_sourcemap_scopes.proofs.States.{range-added}
use Rattle.oxc_sourcemap_scopes.proofs.items.Read.start_range.Goals as goal

pub invariant_of-self : goal.invariant_of-self
invariant_of-self c =
    let r = c.self.inside in
    let s : State = record { scopes = r.scopes; scope_infos = r.scope_infos.items; variables = map (λ v. v.items) r.variables.items; ranges = r.ranges; range_infos = r.range_infos.items; values = map (λ v. v.items) r.values.items; pieces = map (λ v. v.items) r.pieces.items; name = r.name; kind = r.kind; variable = r.variable; definition = r.definition } in
    let info : RangeInfo = record { definition = c.in_ok-definition.definition; is_stack_frame = c.has_flag-2.result; is_hidden = c.has_flag-3.result; call_site = None } in
    let tree : c.start.new.self ≡ started s.ranges c.in_ok-here.here = search rules in
    let infos : c.push.new.self.items ≡ s.range_infos ++ info ∷ [] = c.in_ok-push.ensures.items in
    let defined : IsDefined (length s.scopes.spans) info = search rules in
    let pushed : c.push-2.new.self.items ≡ r.values.items ++ c.new.result ∷ [] = c.in_ok-push-2.ensures.items in
    let lists : map (λ v. v.items) c.push-2.new.self.items ≡ map (λ v. v.items) r.values.items ++ [] ∷ [] = rw pushed (map_push (λ v. v.items) r.values.items c.new.result ∙ ap (λ xs. map (λ v. v.items) r.values.items ++ xs ∷ []) c.new.ensures.items) in
    let pushed-pieces : c.push-3.new.self.items ≡ r.pieces.items ++ c.new-2.result ∷ [] = c.in_ok-push-3.ensures.items in
    let pieces : map (λ v. v.items) c.push-3.new.self.items ≡ map (λ v. v.items) r.pieces.items ++ [] ∷ [] = rw pushed-pieces (map_push (λ v. v.items) r.pieces.items c.new-2.result ∙ ap (λ xs. map (λ v. v.items) r.pieces.items ++ xs ∷ []) c.new-2.ensures.items) in
    rw (tree, infos, lists, pieces) (range-added s c.in_ok-here.here info c.unwrap_or.result c.self.invariant defined)
