use Rattle.std.proofs.Common.{◌≡◌, [], ◌∷◌, ◌++◌, IfSome, ◌<◌, length, map, option_map}
use Rattle.std.proofs.Common.{string_bytes, sym, ap, ◌∙◌, subst, arith}
use Rattle.std.proofs.lemmas.List.{map-append}
use Rattle.std.specs.Cow.{cow_str_bytes}
use Rattle.oxc_sourcemap_json.specs.Words.{contents_of, content_data, BeginsAny}
use Rattle.oxc_sourcemap_json.proofs.Tokens.{AreReadSoFar, one_more_read, all_read}
use Rattle.oxc_sourcemap_json.proofs.object.usual.rest_of_contents.Goals as goal

pub contents-preserved : goal.contents-preserved
contents-preserved c =
    let l = c.contents in
    let same : c.take_end_array.new.self ≡ l.reader = grind arith in
    let rest = c.next_content.new.reader in
    let found = subst (λ found. IfSome found (λ content. BeginsAny c.take_end_array.new.self (content_data (option_map string_bytes content)) rest)) c.in-Some.is c.in_ok-content.ensures.content in
    let begins = subst (λ ts. BeginsAny ts (content_data ((option_map string_bytes) c.in-Some.content)) rest) same found in
    let less = subst (λ found. IfSome found (λ _. length rest < length c.take_end_array.new.self)) c.in-Some.is c.in_ok-content.ensures.shorter in
    let pushed : map content_data (contents_of c.push_item.new.list) ≡ map content_data (contents_of l.contents) ++ content_data ((option_map string_bytes) c.in-Some.content) ∷ [] =
    ap (λ items. map content_data (map (option_map cow_str_bytes) items)) c.in_ok-push_item.ensures
    ∙ ap (map content_data) (map-append (option_map cow_str_bytes) l.contents.items (c.from_string.result ∷ []))
    ∙ ap (λ content. map content_data (contents_of l.contents ++ content ∷ [])) c.from_string.ensures
    ∙ map-append content_data (contents_of l.contents) ((option_map string_bytes) c.in-Some.content ∷ []) in
    subst (λ ds. AreReadSoFar c.args.reader.now ds rest) (sym pushed)
    (one_more_read c.args.reader.now l.reader rest (map content_data (contents_of l.contents)) (content_data ((option_map string_bytes) c.in-Some.content)) l.invariant begins
    (subst (λ ts. length rest < length ts) same less))

pub returns-clause-contents : goal.returns-clause-contents
returns-clause-contents c =
    all_read c.args.reader.now c.contents.reader c.take_end_array.new.self (map content_data (contents_of c.contents.contents)) c.contents.invariant (grind arith)
