use Rattle.oxc_sourcemap_compiled.specs.Words.{ignored_in}
use Rattle.oxc_sourcemap_compiled.proofs.Taken.{made-more}
use Rattle.oxc_sourcemap_compiled.proofs.opened.Opened.ignore_list.Goals as goal

pub loop-i-preserved : goal.loop-i-preserved
loop-i-preserved c =
    let o = c.args.self.now in
    made-more (ignored_in o.bytes.now o.header) c.loop-i.ids.items c.push.new.self.items c.ignored_at.result c.loop-i.i c.in_ok-push.ensures.items c.loop-i.invariant c.ignored_at.ensures
