use Rattle.std.proofs.Common.{codes, IfSome, subst}
use Rattle.serde_json.specs.Data.{Members, object}
use Rattle.oxc_sourcemap_json.specs.Words.{IsAll, AreHeld, HaveIds}
use Rattle.oxc_sourcemap_json.proofs.Tokens.{of_both, text_is}
use Rattle.oxc_sourcemap_json.proofs.object.usual.fields_of.Goals as goal

pub returns : goal.returns
returns c =
    let found = subst (λ o. IfSome o (λ m. (ms : Members) × IsAll c.args.reader.now (object ms) × AreHeld m ms × HaveIds m)) c.in-Some.is c.in_ok-members.ensures in
    of_both (λ map fields ignored text is. (
      object found.0,
      text_is text (object found.0) (subst (λ ts. IsAll ts (object found.0)) is found.1),
      found.2 (codes "sections"),
      fields found.0 found.2 found.3,
      ignored found.0 found.2,
    )) c.into_map.result c.into_map.ensures.fields c.into_map.ensures.ignored
