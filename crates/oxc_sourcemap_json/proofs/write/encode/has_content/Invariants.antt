use Rattle.std.proofs.Common.{◌≡◌, map, drop, option_map}
use Rattle.std.specs.Cow.{cow_str_bytes}
use Rattle.std.specs.List.{list_any}
use Rattle.std.specs.Option.{is_some}
use Rattle.oxc_sourcemap_json.proofs.write.encode.has_content.Given as goal

abbrev pub invariant-loop-content : goal.invariant-loop-content
invariant-loop-content l = list_any is_some (map (option_map cow_str_bytes) (drop l.content-index l.contents)) ≡ list_any is_some (map (option_map cow_str_bytes) l.contents)
