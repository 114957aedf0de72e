use Rattle.std.proofs.Common.{◌≡◌, map, option_map, take, true}
use Rattle.std.specs.Cow.{cow_str_bytes}
use Rattle.std.specs.List.{list_all}
use Rattle.oxc_sourcemap_compiled.specs.Decompiled.{is_optional_utf8}
use Rattle.oxc_sourcemap_compiled.proofs.writing.fitting.are_utf8_contents.Given as goal

abbrev pub invariant-loop-text : goal.invariant-loop-text
invariant-loop-text l = list_all is_optional_utf8 (take l.text-index (map (option_map cow_str_bytes) l.texts)) ≡ true
