use Rattle.std.proofs.Common.{◌≡◌, ◌≤◌, ◌++◌, ◌-◌, ◌∙◌, ap, sym, map, take, replicate, append_assoc}
use Rattle.std.proofs.Common.{None, length, min, vec_len, arith}
use Rattle.std.proofs.lemmas.Grind.{common_steps}
use Rattle.std.specs.Option.{option_map}
use Rattle.std.specs.Cow.{cow_str_bytes}
use Rattle.std.proofs.lemmas.List.{length-take, take_all, take_min}
use Rattle.oxc_sourcemap_parts.specs.Views.{contents_of}
use Rattle.oxc_sourcemap_join.proofs.Moving.{fitted-cut, take-take}
use Rattle.oxc_sourcemap_join.proofs.lists.push_copies_fitted.Goals as goal

pub returns-clause-copied : goal.returns-clause-copied
returns-clause-copied c =
    let f = option_map cow_str_bytes in
    let added = c.args.added.now in
    let old = contents_of c.args.contents.now in
    let known : c.min-known.result ≡ min c.args.count (length added) = grind (arith, common_steps) in
    let same : take c.min-known.result added ≡ take c.args.count added = ap (λ k. take k added) known ∙ take_min c.args.count added in
    let all : take c.loop-content.content-index (take c.min-known.result added) ≡ take c.min-known.result added =
    take_all c.loop-content.content-index (take c.min-known.result added) (omega (arith, c.loop-content-test.false)) in
    let more = replicate (c.args.count - c.min-known.result) None in
    c.push_unknown.ensures.added ∙ ap (λ cs. cs ++ more) (c.loop-content.invariant.items ∙ ap (λ xs. old ++ map f xs) (all ∙ same))
    ∙ append_assoc old (map f (take c.args.count added)) more
    ∙ ap (λ cs. old ++ cs) (fitted-cut f c.args.count c.min-known.result added (known ∙ sym (length-take c.args.count added)))

pub returns-clause-front : goal.returns-clause-front
returns-clause-front c =
    let old = vec_len c.args.contents.now in
    let now = vec_len c.loop-content.contents in
    let le : old ≤ now = omega (arith, c.loop-content.invariant.len) in
    sym (take-take old now c.push_unknown.new.contents.items le) ∙ ap (take old) c.push_unknown.ensures.front ∙ c.loop-content.invariant.front
