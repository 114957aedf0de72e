use Rattle.std.proofs.Common.{◌≡◌, ◌==◌, ◌^◌, get_or, false, true, Some, nat_lt, sym, ap, ◌∙◌}
use Rattle.std.proofs.Common.{arith}
use Rattle.fast_float.specs.Text.{scan, digits_of}
use Rattle.serde_json.specs.Read.{number_of, number_from, is_integer}
use Rattle.serde_json.specs.Data.{unsigned}
use Rattle.oxc_sourcemap_json.proofs.object.usual.id_of.Goals as goal

pub returns : goal.returns
unfolding number_of
returns c =
    let s = c.args.digits.now in
    let without_sign : (get_or s 0 0 == 45) ≡ false = grind arith in
    let parts : c.scan.result ≡ scan s = c.scan.ensures.parts in
    let found = c.in_ok-number.ensures in
    let whole : is_integer c.scan.result ≡ true = grind (arith, found) in
    let small : nat_lt (digits_of c.scan.result) (2 ^ 64) ≡ true = grind (arith, found) in
    let is : digits_of c.scan.result ≡ c.in_ok-number.number = grind (arith, found) in
    let read : number_from false (scan s) ≡ number_of s = rw without_sign in
    let number : number_from false c.scan.result ≡ Some (unsigned (digits_of c.scan.result)) = rw (whole, small) in
    sym read ∙ ap (number_from false) (sym parts) ∙ number ∙ ap (λ n. Some (unsigned n)) is
