use Rattle.std.proofs.Common.{◌≡◌, ◌≤◌, ◌+◌, ◌++◌, length, take, subst, sym, ap, ◌∙◌, arith}
use Rattle.std.specs.Io.KnownBytes.{Consumes}
use Rattle.std.proofs.lemmas.Grind.{common_steps}
use Rattle.std.proofs.KnownBytes.{Consumes-trans}
use Rattle.smap_run.proofs.Pieces.{piece_read}
use Rattle.smap_run.proofs.running.read_all.Goals as goal

pub loop-input-preserved : goal.loop-input-preserved
loop-input-preserved g c =
    let n = c.in-Ok.n in
    let used = c.loop-input.used in
    let room = c.deref_mut.result.now in
    let piece = c.read.new.buf in
    let few : n ≤ length piece = c.in-Ok.ensures.bound.0 in
    let fits : used + n ≤ c.make_room.new.input.len = grind (arith, common_steps, few, c.read.auto.buf, c.deref_mut.ensures, c.in_ok-make_room.ensures.room) in
    let inside : used ≤ length room = grind (arith, common_steps, c.deref_mut.ensures, c.in_ok-make_room.ensures.room) in
    let kept : take used room ≡ take used c.loop-input.input.items = ap (take used) c.deref_mut.ensures.value ∙ c.make_room.ensures.kept in
    let read = piece_read room piece _ _ used n c.make_room.new.input.len inside few fits ∙ ap (λ xs. xs ++ take n piece) kept in
    let before = g.R.Read.remaining c.args.reader.now.inner in
    let after = g.R.Read.remaining c.read.new.self.inner in (
      grind (arith, common_steps, c.loop-input.invariant.0, c.in-Ok.ensures.flag),
      fits,
      subst (Consumes before after) (sym read)
          (Consumes-trans before (g.R.Read.remaining c.loop-input.reader.inner) after (take used c.loop-input.input.items) (take n piece) c.loop-input.invariant.2 c.in-Ok.ensures.bytes.0),
    )
