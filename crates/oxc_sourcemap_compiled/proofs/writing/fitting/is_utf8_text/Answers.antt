use Rattle.std.proofs.Common.{ap, ◌∙◌, sym}
use Rattle.std.specs.Str.{is_utf8}
use Rattle.std.proofs.lemmas.Str.{is_utf8-from_IsUtf8}
use Rattle.oxc_sourcemap_parts.specs.Views.{text_of}
use Rattle.oxc_sourcemap_compiled.specs.Decompiled.{is_optional_utf8}
use Rattle.oxc_sourcemap_compiled.proofs.writing.fitting.is_utf8_text.Goals as goal

pub returns-in-Some : goal.returns-in-Some
returns-in-Some c = ap (λ t. is_optional_utf8 (text_of t)) c.in-Some.is ∙ sym (ap is_utf8 c.as_str.ensures.value) ∙ is_utf8-from_IsUtf8 c.as_str.result.now c.as_str.utf8
