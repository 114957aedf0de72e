-- What is found in a text, by the steps of the reader.
use Rattle.std.proofs.Common.{◌≡◌, List, sym, ap, ◌∙◌, Some, None, Result, Ok}
use Rattle.serde_json.specs.Data.{Data}
use Rattle.serde_json.specs.Read.{read}
use Rattle.oxc_sourcemap_tokens.specs.declared.errors.error.Error.{Error}
use Rattle.oxc_sourcemap_parts.specs.Record.{Text}
use Rattle.oxc_sourcemap_json.specs.Shape.{◌>>=◌}
use Rattle.oxc_sourcemap_found.specs.declared.mending.mend.Mend.{Mend}
use Rattle.oxc_sourcemap_found.specs.MendedMaps.{mends_in}
use Rattle.oxc_sourcemap_found.specs.FoundMaps.{FoundRecord, found_value, found_opened, in_order}
use Rattle.oxc_sourcemap_found.specs.FoundMaps.{found}
use Rattle.oxc_sourcemap_found.specs.Opening.{Opened, opened}

pub found-by : (text : Text) (o : Opened) (d : Data) (mends : List Mend) (r : Result FoundRecord Error) → o ≡ opened text → read o.text ≡ Some d → mends ≡ mends_in None o.kinds
    → found_value mends d ≡ r → found text ≡ (r >>= (λ f. Ok (in_order f)))
unfolding found
found-by text o d mends r is value told answer =
    ap (λ (q : Result FoundRecord Error). q >>= (λ f. Ok (in_order f))) (ap found_opened (sym is) ∙ rw value (ap (λ ms. found_value ms d) (sym told) ∙ answer))
