use Rattle.std.proofs.Common.{◌≡◌, ◌<◌, ℕ, [], ◌∷◌, IfSome, length, map, sym, subst, arith}
use Rattle.std.specs.List.{All}
use Rattle.std.proofs.lemmas.List.{map-append}
use Rattle.std.proofs.lemmas.List.Elements.{All-append}
use Rattle.serde_json.specs.Data.{Data}
use Rattle.oxc_sourcemap_json.specs.Words.{number, unsigned, BeginsAny}
use Rattle.oxc_sourcemap_json.proofs.Tokens.{AreReadSoFar, one_more_read, all_read, all_of_one}
use Rattle.oxc_sourcemap_json.proofs.object.usual.rest_of_ids.Goals as goal

abbrev id_data : ℕ → Data
id_data id = number (unsigned id)

pub ids-preserved : goal.ids-preserved
ids-preserved c =
    let l = c.ids in
    let same : c.take_end_array.new.self ≡ l.reader = grind arith in
    let rest = c.next_id.new.reader in
    let id = c.in-Some.id in
    let found = subst (λ found. IfSome found (λ id. BeginsAny c.take_end_array.new.self (id_data id) rest)) c.in-Some.is c.next_id.ensures.id in
    let begins = subst (λ ts. BeginsAny ts (id_data id) rest) same found in
    let less = subst (λ found. IfSome found (λ _. length rest < length c.take_end_array.new.self)) c.in-Some.is c.next_id.ensures.shorter in
    let small = subst (λ found. IfSome found (λ id. id < 4294967296)) c.in-Some.is c.next_id.ensures.small in
    let pushed = c.in_ok-push.ensures.items in (
      subst (λ ids. AreReadSoFar c.args.reader.now (map id_data ids) rest) (sym pushed)
          (subst (λ ds. AreReadSoFar c.args.reader.now ds rest) (sym (map-append id_data l.ids.items (id ∷ [])))
          (one_more_read c.args.reader.now l.reader rest (map id_data l.ids.items) (id_data id) l.invariant.0 begins (subst (λ ts. length rest < length ts) same less))),
      subst (All (λ id. id < 4294967296)) (sym pushed) (All-append (λ id. id < 4294967296) l.ids.items (id ∷ []) l.invariant.1 (all_of_one id small)),
    )

pub returns-clause-ids : goal.returns-clause-ids
returns-clause-ids c = all_read c.args.reader.now c.ids.reader c.take_end_array.new.self (map id_data c.ids.ids.items) c.ids.invariant.0 (grind arith)
