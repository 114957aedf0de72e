use Rattle.oxc_sourcemap_c.proofs.compiled.asking.proved_compiled_is_ignored.Goals as goal

pub returns : goal.returns
returns c = (c.is_ignored.result, c.is_ignored.ensures, c.write_found.ensures)
