use Rattle.oxc_sourcemap_c.proofs.compiled.asking.proved_compiled_text.Goals as goal

pub returns : goal.returns
returns c = (c.text.result, c.text.ensures, c.write_found.ensures)
