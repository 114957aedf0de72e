use Rattle.std.proofs.Common.{◌≡◌, ◌≤◌, ◌++◌, ◌-◌, ◌∙◌, ap, sym, map, take, replicate, append_assoc}
use Rattle.std.proofs.Common.{None}
use Rattle.std.proofs.Common.{length, arith, vec_len}
use Rattle.std.specs.Option.{option_map}
use Rattle.std.specs.Cow.{cow_str_bytes}
use Rattle.std.proofs.lemmas.List.{map-append, length-append}
use Rattle.oxc_sourcemap_parts.specs.Views.{contents_of}
use Rattle.oxc_sourcemap_join.proofs.Moving.{fitted-cut, take-take, take-front}
use Rattle.oxc_sourcemap_join.proofs.lists.push_fitted.Goals as goal

pub returns-clause-added : goal.returns-clause-added
returns-clause-added c =
    let f = option_map cow_str_bytes in
    let taken = take c.args.count c.args.added.items in
    let more = replicate (c.args.count - c.len.result) None in
    let items : c.append-appended.new.self.items ≡ c.args.contents.now.items ++ c.truncate.new.self.items = rw c.unwrap.ensures at c.append-appended.ensures.items in
    let count : c.len.result ≡ length (take c.args.count c.args.added.items) = omega (arith, c.len.ensures, ap length c.truncate.ensures.items) in
    c.push_unknown.ensures.added ∙ ap (λ cs. map f cs ++ more) (items ∙ ap (λ cs. c.args.contents.now.items ++ cs) c.truncate.ensures.items)
    ∙ ap (λ cs. cs ++ more) (map-append f c.args.contents.now.items taken)
    ∙ append_assoc (contents_of c.args.contents.now) (map f taken) more
    ∙ ap (λ cs. contents_of c.args.contents.now ++ cs) (fitted-cut f c.args.count c.len.result c.args.added.items count)

pub returns-clause-front : goal.returns-clause-front
returns-clause-front c =
    let old = c.args.contents.now.items in
    let n = vec_len c.args.contents.now in
    let all = c.append-appended.new.self in
    let items : all.items ≡ old ++ c.truncate.new.self.items = rw c.unwrap.ensures at c.append-appended.ensures.items in
    let le : n ≤ vec_len all = omega (arith, ap length items, length-append old c.truncate.new.self.items) in
    let start : n ≡ length old = omega arith in
    sym (take-take n (vec_len all) c.push_unknown.new.contents.items le) ∙ ap (take n) c.push_unknown.ensures.front
    ∙ take-front n old c.truncate.new.self.items all.items start items
