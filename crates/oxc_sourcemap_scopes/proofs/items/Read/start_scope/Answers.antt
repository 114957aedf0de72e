use Rattle.std.proofs.Common.{◌≡◌, ◌++◌, ◌∷◌, [], map, rules, ◌∙◌, ap}
use Rattle.std.proofs.lemmas.List.{map_push}
use Rattle.oxc_sourcemap_scopes.specs.declared.scopes.ScopeInfo.{ScopeInfo}
use Rattle.oxc_sourcemap_scopes.specs.Trees.{started}
use Rattle.oxc_sourcemap_scopes.specs.Items.{State}
use Rattle.oxc_sourcemap_scopes.proofs.States.{scope-added}
use Rattle.oxc_sourcemap_scopes.proofs.items.Read.start_scope.Goals as goal

pub invariant_of-self : goal.invariant_of-self
invariant_of-self c =
    let r = c.self.inside in
    let s : State = record { scopes = r.scopes; scope_infos = r.scope_infos.items; variables = map (λ v. v.items) r.variables.items; ranges = r.ranges; range_infos = r.range_infos.items; values = map (λ v. v.items) r.values.items; pieces = map (λ v. v.items) r.pieces.items; name = r.name; kind = r.kind; variable = r.variable; definition = r.definition } in
    let info : ScopeInfo = record { name = c.in_ok-name.name; kind = c.in_ok-kind.kind; is_stack_frame = c.has_flag-2.result } in
    let tree : c.start.new.self ≡ started s.scopes c.in_ok-here.here = search rules in
    let infos : c.push.new.self.items ≡ s.scope_infos ++ info ∷ [] = search rules in
    let pushed : c.push-2.new.self.items ≡ r.variables.items ++ c.new.result ∷ [] = search rules in
    let lists : map (λ v. v.items) c.push-2.new.self.items ≡ map (λ v. v.items) r.variables.items ++ [] ∷ [] = rw pushed (map_push (λ v. v.items) r.variables.items c.new.result ∙ ap (λ xs. map (λ v. v.items) r.variables.items ++ xs ∷ []) (search rules)) in
    rw (tree, infos, lists) (scope-added s c.in_ok-here.here info c.unwrap_or.result c.unwrap_or-2.result c.self.invariant)
