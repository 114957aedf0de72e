use Rattle.std.proofs.Common.{◌-◌, take, ap, sym, ◌∙◌, arith}
use Rattle.std.specs.Option.{is_some}
use Rattle.sourcemap_texts.proofs.Climbs.{leaves_folder, leaves_root, none_left}
use Rattle.sourcemap_texts.proofs.paths.Place.leave.Goals as goal

pub returns-then-is_some : goal.returns-then-is_some
returns-then-is_some c =
    let old = c.args.self.now.parts in
    let some = c.pop.ensures.variant.0 (sym c.is_some.ensures ∙ c.if-is_some.true) in
    leaves_folder c.args.self.now.above.len old.items c.pop.new.self.items (omega (arith, some, old.ok.0))
    (c.pop.ensures.rest ∙ ap (λ n. take (n - 1) old.items) old.ok.0)

pub returns : goal.returns
returns c =
    let old = c.args.self.now.parts in
    let none = none_left (is_some c.pop.result) old.len c.pop.ensures.variant.1 (sym c.is_some.ensures ∙ c.if-is_some.false) in
    leaves_root c.args.self.now.above.len c.push.new.self.len old.items c.pop.new.self.items (omega (arith, none, old.ok.0))
    (c.pop.ensures.rest ∙ ap (λ n. take (n - 1) old.items) old.ok.0) c.in_ok-push.ensures.len
