-- The messages of errors, as bytes.
use Rattle.std.specs.Prelude.{ℕ, List, ◌++◌, codes}
use Rattle.std.specs.Fmt.{decimal}
use Rattle.oxc_sourcemap_compiled.specs.declared.errors.CompiledError.{CompiledError}
use Rattle.oxc_sourcemap_compiled.specs.declared.errors.CompiledError.TheVariants.{NotCompiled}
use Rattle.oxc_sourcemap_compiled.specs.declared.errors.CompiledError.TheVariants.{Version, Length}
use Rattle.oxc_sourcemap_compiled.specs.declared.errors.CompiledError.TheVariants.{Sizes}

-- the message of an error
abbrev pub compiled_error_text : CompiledError → List ℕ
compiled_error_text NotCompiled = codes "not a compiled source map"
compiled_error_text (Version n) = codes "unsupported version of a compiled source map: " ++ decimal n
compiled_error_text Length = codes "a compiled source map has another length than it says"
compiled_error_text Sizes = codes "the sizes in a compiled source map do not add up"
