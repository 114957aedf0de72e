use Rattle.oxc_sourcemap_c.proofs.compiled.asking.proved_compiled_token.Goals as goal

pub returns : goal.returns
returns c = (c.token.result, c.token.ensures, c.write_found.ensures)
