use Rattle.std.proofs.Common.{◌≡◌, ◌≢◌, ◌≤◌, ◌∙◌, ap, subst, length, Ok, Err}
use Rattle.std.proofs.lemmas.Result.{err_from_is_err_and}
use Rattle.oxc_sourcemap.specs.Error.TheVariants.{OutOfMemory}
use Rattle.oxc_sourcemap.specs.Token.{AreInBounds}
use Rattle.oxc_sourcemap.specs.Canonical.{as_written}
use Rattle.oxc_sourcemap.specs.DecodedMap.{decoded_map_of}
use Rattle.oxc_sourcemap.specs.Sound.{IsSound}
use Rattle.oxc_sourcemap.specs.Decoded.{decoded}
use Rattle.oxc_sourcemap.specs.JsonRecord.{json_record}
use Rattle.callers.proofs.Back.{back-is, back-error, no-error, only-memory, if_ok, if_err}
use Rattle.callers.proofs.rewrite.Goals as goal

pub returns-in_err-json-clause-only_memory : goal.returns-in_err-json-clause-only_memory
returns-in_err-json-clause-only_memory c =
    let p = err_from_is_err_and c.from_residual.result c.from_residual.ensures.1 in
    rw (p.1, p.2) (λ s l. only-memory _ (λ n. no-error c.args.map.now _ (c.canonical_unique.ensures.sound_is_written c.args.map.now s l) (c.in_err-json.ensures.1 n)))

pub returns-clause-decoded_map : goal.returns-clause-decoded_map
returns-clause-decoded_map c =
    let r = c.args.map.now in
    let json = json_record c.in_ok-json.json in
    let bounds : AreInBounds r.tokens = subst AreInBounds (c.as_slice.ensures ∙ c.get_tokens.ensures) c.tokens_in_bounds.ensures in
    let law = λ (s : IsSound r). c.canonical_unique.ensures.sound_reads_back r s bounds in
    if_ok (λ back. decoded json ≡ Ok back) (λ back. IsSound r → decoded_map_of back ≡ decoded_map_of r) c.from_json.result
    (λ back e s. ap decoded_map_of (back-is r json c.in_ok-json.ensures.0 (law s) back e) ∙ (law s).decoded_map) c.from_json.ensures.map.0

pub returns-clause-names : goal.returns-clause-names
returns-clause-names c =
    let r = c.args.map.now in
    let json = json_record c.in_ok-json.json in
    let bounds : AreInBounds r.tokens = subst AreInBounds (c.as_slice.ensures ∙ c.get_tokens.ensures) c.tokens_in_bounds.ensures in
    let law = λ (s : IsSound r). c.canonical_unique.ensures.sound_reads_back r s bounds in
    if_ok (λ back. decoded json ≡ Ok back) (λ back. IsSound r → back.names ≡ r.names) c.from_json.result
    (λ back e s. ap (λ b. b.names) (back-is r json c.in_ok-json.ensures.0 (law s) back e) ∙ (law s).names) c.from_json.ensures.map.0

pub returns-clause-tokens : goal.returns-clause-tokens
returns-clause-tokens c =
    let r = c.args.map.now in
    let json = json_record c.in_ok-json.json in
    let bounds : AreInBounds r.tokens = subst AreInBounds (c.as_slice.ensures ∙ c.get_tokens.ensures) c.tokens_in_bounds.ensures in
    let law = λ (s : IsSound r). c.canonical_unique.ensures.sound_reads_back r s bounds in
    if_ok (λ back. decoded json ≡ Ok back) (λ back. IsSound r → as_written back.tokens ≡ as_written r.tokens) c.from_json.result
    (λ back e s. ap (λ b. as_written b.tokens) (back-is r json c.in_ok-json.ensures.0 (law s) back e) ∙ (law s).tokens) c.from_json.ensures.map.0

pub returns-clause-only_memory : goal.returns-clause-only_memory
returns-clause-only_memory c =
    let r = c.args.map.now in
    let json = json_record c.in_ok-json.json in
    let bounds : AreInBounds r.tokens = subst AreInBounds (c.as_slice.ensures ∙ c.get_tokens.ensures) c.tokens_in_bounds.ensures in
    let law = λ (s : IsSound r). c.canonical_unique.ensures.sound_reads_back r s bounds in
    if_err (λ e. (e ≢ OutOfMemory) → decoded json ≡ Err e) (λ e. IsSound r → length r.tokens ≤ 4294967295 → e ≡ OutOfMemory) c.from_json.result
    (λ e h s l. only-memory e (λ n. back-error r json c.in_ok-json.ensures.0 (law s) e (h n))) c.from_json.ensures.map.1
