use Rattle.std.proofs.Common.{rules, arith, ◌≡◌, ◌∷◌, [], ◌++◌, ◌+◌, ◌-◌, ◌∙◌, suc, ap, sym, map}
use Rattle.std.proofs.Common.{take, vec_len}
use Rattle.std.proofs.Common.{append_assoc}
use Rattle.std.specs.Option.{option_map}
use Rattle.std.specs.Cow.{cow_str_bytes}
use Rattle.std.proofs.lemmas.List.{map-append}
use Rattle.oxc_sourcemap_join.specs.Joined.{fitted}
use Rattle.oxc_sourcemap_join.proofs.Moving.{fitted-next, take-before}
use Rattle.oxc_sourcemap_join.proofs.lists.push_lent_fitted.Goals as goal

pub loop-id-preserved : goal.loop-id-preserved
loop-id-preserved c =
    let left = c.args.count - (c.loop-id.id + 1) in
    let count : c.args.count - c.loop-id.id ≡ suc left = omega (arith, c.loop-id-test.true) in
    let f = option_map cow_str_bytes in
    let front = c.loop-id.contents.items in
    let more = fitted left c.next.new.self in
    let next : fitted (c.args.count - c.loop-id.id) c.loop-id.lent ≡ f c.lent_content.result ∷ more =
    ap (λ n. fitted n c.loop-id.lent) count ∙ fitted-next (option_map (λ text. text.now)) left c.loop-id.lent c.next.new.self c.next.result c.next.ensures.steps
    ∙ ap (λ x. x ∷ more) (sym c.lent_content.ensures) in
    record {
      items = ap (λ cs. map f cs ++ more) c.push_reserved.ensures.items
          ∙ ap (λ cs. cs ++ more) (map-append f front (c.lent_content.result ∷ []))
          ∙ append_assoc (map f front) (f c.lent_content.result ∷ []) more
          ∙ ap (λ cs. map f front ++ cs) (sym next) ∙ c.loop-id.invariant.items;
      front = ap (take (vec_len c.args.contents.now)) c.push_reserved.ensures.items ∙ take-before (vec_len c.args.contents.now) front (c.lent_content.result ∷ []) (omega (arith, c.loop-id.invariant.len)) ∙ c.loop-id.invariant.front;
      len = search rules;
      capacity = search rules;
    }
