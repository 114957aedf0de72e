-- Where places of a text that was opened are counted.
use Rattle.std.proofs.Common.{◌≡◌, ◌≤◌, ◌+◌, ◌<◌, ◌-◌, ℕ, Bool, true, false, codes, length, drop}
use Rattle.std.proofs.Common.{arith, sym, ap, subst, ◌==◌}
use Rattle.std.proofs.Common.{Some, None, if◌then◌else◌, nat_eq, ◌∙◌}
use Rattle.std.specs.List.{starts_with, after_first, position_or_len}
use Rattle.std.specs.Option.{unwrap_or}
use Rattle.std.proofs.lemmas.List.{length-drop}
use Rattle.oxc_sourcemap_parts.specs.Record.{Text}
use Rattle.oxc_sourcemap_found.specs.Opening.{Opened, as_given, byte_order_mark, past_mark}
use Rattle.oxc_sourcemap_found.specs.Opening.{found_by}
use Rattle.oxc_sourcemap_found.specs.Opening.{without_mark, without_prefix, past_front, opened}
use Rattle.oxc_sourcemap_found.specs.Opening.{counted_text, data_in, behind_url}
use Rattle.oxc_sourcemap_found.specs.declared.mending.mend.MendKind.TheVariants.{JsonPrefix}

mark-shorter : (o : Opened) → length (without_mark o).text ≤ length o.text
mark-shorter o =
    elim (starts_with nat_eq o.text byte_order_mark) as (λ v. length (past_mark o (if v then Some (drop 3 o.text) else None)).text ≤ length o.text) [
      | true ↦ omega (arith, length-drop 3 o.text)
      | false ↦ omega arith
    ]

prefix-shorter : (o : Opened) → length (without_prefix o).text ≤ length o.text
prefix-shorter o =
    elim (starts_with nat_eq o.text (codes ")]}'")) as (λ v. length (if v then found_by o (after_first (λ b. b == 10) o.text) JsonPrefix else o).text ≤ length o.text) [
      | true ↦ omega (arith, length-drop (position_or_len (λ (b : ℕ). b == 10) o.text + 1) o.text)
      | false ↦ omega arith
    ]

-- what is left behind what is passed over is no longer than the text
pub front-shorter : (text : Text) → length (past_front text).text ≤ length text
front-shorter text = omega (arith, mark-shorter (as_given text), prefix-shorter (without_mark (as_given text)))

-- a text that is no data URL behind what is passed over is lent, and places are counted in the whole text
pub lent-json : (text rest : Text) (o : Opened) → o ≡ past_front text → o.text ≡ rest → data_in rest ≡ None
    → (rest ≡ (opened text).text) × ((counted_text text ≡ text) × (length rest ≤ length text))
unfolding opened counted_text
lent-json text rest o is at none =
    let here : data_in (past_front text).text ≡ None = ap (λ (p : Opened). data_in p.text) (sym is) ∙ ap data_in at ∙ none in
    let same : rest ≡ (past_front text).text = sym at ∙ ap (λ (p : Opened). p.text) is in (
      same ∙ ap (λ inner. (behind_url (past_front text) inner).text) (sym here),
      (ap (λ inner. unwrap_or inner text) here, rw same (front-shorter text)),
    )
