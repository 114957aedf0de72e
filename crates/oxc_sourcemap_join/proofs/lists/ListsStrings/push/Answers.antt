use Rattle.std.proofs.Common.{◌≡◌, ◌++◌, ◌∙◌, ap, map, length, arith, vec_len}
use Rattle.std.specs.Cow.{cow_str_bytes}
use Rattle.std.proofs.lemmas.List.{map-append}
use Rattle.oxc_sourcemap_parts.specs.Views.{texts_of, contents_of}
use Rattle.oxc_sourcemap_join.specs.Joined.{fitted}
use Rattle.oxc_sourcemap_join.proofs.Moving.{length-mapped, take-front}
use Rattle.oxc_sourcemap_join.proofs.lists.ListsStrings.push.Goals as goal

pub returns-clause-names : goal.returns-clause-names
returns-clause-names c = ap (map cow_str_bytes) (rw c.unwrap.ensures at c.append.ensures.items) ∙ map-append cow_str_bytes c.args.lists.now.names.items c.args.self.names.items

pub returns-clause-sources : goal.returns-clause-sources
returns-clause-sources c = ap (map cow_str_bytes) (rw c.unwrap-2.ensures at c.append-2.ensures.items) ∙ map-append cow_str_bytes c.args.lists.now.sources.items c.args.self.sources.items

pub returns-clause-contents : goal.returns-clause-contents
returns-clause-contents c =
    let count : c.len-count.result ≡ length (texts_of c.args.self.sources) = omega (arith, c.len-count.ensures, length-mapped cow_str_bytes c.args.self.sources.items) in
    c.push_fitted.ensures.added ∙ ap (λ n. contents_of c.args.lists.now.contents ++ fitted n (contents_of c.args.self.contents)) count

pub returns-clause-names_front : goal.returns-clause-names_front
returns-clause-names_front c = take-front (vec_len c.args.lists.now.names) c.args.lists.now.names.items c.args.self.names.items _ (omega arith) (rw c.unwrap.ensures at c.append.ensures.items)

pub returns-clause-sources_front : goal.returns-clause-sources_front
returns-clause-sources_front c = take-front (vec_len c.args.lists.now.sources) c.args.lists.now.sources.items c.args.self.sources.items _ (omega arith) (rw c.unwrap-2.ensures at c.append-2.ensures.items)
