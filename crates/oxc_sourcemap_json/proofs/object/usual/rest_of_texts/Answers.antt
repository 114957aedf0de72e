use Rattle.std.proofs.Common.{◌≡◌, [], ◌∷◌, ◌++◌, IfSome, ◌<◌, length, map, string_bytes, sym, ap}
use Rattle.std.proofs.Common.{◌∙◌, subst, arith}
use Rattle.std.proofs.lemmas.List.{map-append}
use Rattle.std.specs.Cow.{cow_str_bytes}
use Rattle.std.specs.declared.borrow.CowStr.TheVariants.{Owned}
use Rattle.oxc_sourcemap_json.specs.Words.{texts_of, string, text_data, BeginsAny}
use Rattle.oxc_sourcemap_json.proofs.Tokens.{AreReadSoFar, one_more_read, all_read}
use Rattle.oxc_sourcemap_json.proofs.object.usual.rest_of_texts.Goals as goal

pub texts-preserved : goal.texts-preserved
texts-preserved c =
    let l = c.texts in
    let same : c.take_end_array.new.self ≡ l.reader = grind arith in
    let rest = c.next_text.new.reader in
    let found = subst (λ found. IfSome found (λ text. BeginsAny c.take_end_array.new.self (text_data text) rest)) c.in-Some.is c.in_ok-text.ensures.text in
    let begins = subst (λ ts. BeginsAny ts (string (string_bytes c.in-Some.text)) rest) same found in
    let less = subst (λ found. IfSome found (λ _. length rest < length c.take_end_array.new.self)) c.in-Some.is c.in_ok-text.ensures.shorter in
    let pushed : map string (texts_of c.push_item.new.list) ≡ map string (texts_of l.texts) ++ string (string_bytes c.in-Some.text) ∷ [] =
    ap (λ items. map string (map cow_str_bytes items)) c.in_ok-push_item.ensures
    ∙ ap (map string) (map-append cow_str_bytes l.texts.items (Owned c.in-Some.text ∷ []))
    ∙ map-append string (texts_of l.texts) (string_bytes c.in-Some.text ∷ []) in
    subst (λ ds. AreReadSoFar c.args.reader.now ds rest) (sym pushed)
    (one_more_read c.args.reader.now l.reader rest (map string (texts_of l.texts)) (string (string_bytes c.in-Some.text)) l.invariant begins
    (subst (λ ts. length rest < length ts) same less))

pub returns-clause-texts : goal.returns-clause-texts
returns-clause-texts c =
    all_read c.args.reader.now c.texts.reader c.take_end_array.new.self (map string (texts_of c.texts.texts)) c.texts.invariant (grind arith)
