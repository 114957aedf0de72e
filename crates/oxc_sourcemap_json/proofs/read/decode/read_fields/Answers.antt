use Rattle.std.proofs.Common.{◌≡◌, ◌==◌, ◌∙◌, ℕ, Bool, true, false, Option, None, Some, cond, subst}
use Rattle.std.proofs.Common.{sym, ap, refl, arith, option_map}
use Rattle.oxc_sourcemap_tokens.specs.declared.errors.fault.Fault.{Fault}
use Rattle.oxc_sourcemap_json.specs.JsonRecord.{JsonRecord}
use Rattle.oxc_sourcemap_json.specs.Words.{Error, BadSourceReference, record_of_parts, json_record}
use Rattle.oxc_sourcemap_json.specs.Words.{decoded, json_fault, Reads}
use Rattle.oxc_sourcemap_json.specs.Decoded.{ignore_list_fault}
use Rattle.oxc_sourcemap_json.proofs.ReadPlaces.{at-entry}
use Rattle.oxc_sourcemap_json.proofs.read.decode.read_fields.Goals as goal

three-by : (v : ℕ) (b : Bool) (o : Option Error) (fault : Error) → (v == 3) ≡ b → cond b o (Some fault) ≡ None → v ≡ 3
three-by v true o fault is e = grind (arith)
three-by v false o fault is e = cc

-- a version that is no fault is 3
three : (j : JsonRecord) → json_fault j ≡ None → j.version ≡ 3
three j clean = three-by j.version (j.version == 3) (option_map BadSourceReference (ignore_list_fault j)) _ refl clean

with-three : (j : JsonRecord) → j.version ≡ 3 → decoded (record j { version = 3 }) ≡ decoded j
with-three j is = ap (λ v. decoded (record j { version = v })) (sym is)

pub returns-clause-map : goal.returns-clause-map
returns-clause-map c =
    let j = json_record c.args.json in
    subst (Reads record_of_parts c.read_usual.result) (with-three j (three j (sym c.json_fault.ensures.error ∙ ap (option_map (λ (f : Fault). f.error)) c.in_default.is)))
    (rw (c.in_ok-lists.ensures.names, c.in_ok-lists.ensures.sources, c.in_ok-lists.ensures.contents, c.as_str.ensures.value) at c.read_usual.ensures.map)

pub returns-clause-place : goal.returns-clause-place
returns-clause-place c = λ _.
    rw (c.in_ok-lists.ensures.names, c.in_ok-lists.ensures.sources, c.as_str.ensures.value) at c.read_usual.ensures.place

pub returns-in-Some-clause-place : goal.returns-in-Some-clause-place
returns-in-Some-clause-place c = λ three. (
  tt,
  λ n. (
    at-entry c.args.ignored (json_record c.args.json) _ c.in-Some.fault.place refl (c.in-Some.ensures.place three) c.in-Some.ensures.told,
    c.in-Some.ensures.told,
  ),
)
