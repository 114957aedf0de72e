use Rattle.std.specs.Str.{IsUtf8}
use Rattle.oxc_sourcemap_mappings.proofs.Letters.{is_ok-text}
use Rattle.oxc_sourcemap_json.proofs.write.json_string.push_gathered.Goals as goal

pub unwrap-requires : goal.unwrap-requires
unwrap-requires c = is_ok-text c.from_utf8.result _ (IsUtf8 c.args.bytes.now) _ c.from_utf8.ensures.cases c.requires
