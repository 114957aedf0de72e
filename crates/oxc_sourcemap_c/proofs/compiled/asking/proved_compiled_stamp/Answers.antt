use Rattle.oxc_sourcemap_c.proofs.compiled.asking.proved_compiled_stamp.Goals as goal

pub returns : goal.returns
returns c = (c.stamp.result, c.stamp.ensures, c.write_found.ensures)
