use Rattle.std.proofs.Common.{◌≡◌, ◌++◌, ◌∷◌, ◌∙◌, [], Ok, drop, sym, rules}
use Rattle.oxc_sourcemap_scopes.specs.declared.scopes.ValuePiece.{ValuePiece}
use Rattle.oxc_sourcemap_scopes.specs.Items.{first_piece}
use Rattle.oxc_sourcemap_scopes.proofs.Appended.{one_piece}
use Rattle.oxc_sourcemap_scopes.proofs.lists.push_pieces.Goals as goal

pub loop-rest-preserved : goal.loop-rest-preserved
loop-rest-preserved c =
    let p : ValuePiece = c.in_ok-piece.piece in
    let rest = c.loop-rest.rest.now in
    let read : first_piece c.args.at c.args.variable c.loop-rest.from c.args.count rest ≡ Ok p = search rules in
    let pushed : c.push.new.self.items ≡ c.loop-rest.list.items ++ p ∷ [] = search rules in
    let left : c.after_three-rest.result.now ≡ drop 3 rest = c.after_three-rest.ensures in
    rw (pushed, left) (sym (one_piece c.loop-rest.list.items c.args.at c.args.variable c.args.count c.loop-rest.from p rest read) ∙ c.loop-rest.invariant)
