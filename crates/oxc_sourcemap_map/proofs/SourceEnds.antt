-- The source column at which a part ends, token by token.
use Rattle.std.proofs.Common.{◌≡◌, ℕ, true, false, List, ◌∷◌, nat_lt}
use Rattle.std.proofs.lemmas.List.Sums.{take_while-cons}
use Rattle.oxc_sourcemap_tokens.specs.Token.{TokenRecord}
use Rattle.oxc_sourcemap_map.specs.VisualText.{is_on_source_line, src_end}

pub src_end-stops : (len id : ℕ) (t u : TokenRecord) (us : List TokenRecord) → is_on_source_line id t.src_line u ≡ false → src_end len id t (u ∷ us) ≡ len
src_end-stops len id t u us e = rw (take_while-cons (is_on_source_line id t.src_line) u us, e)

pub src_end-found : (len id : ℕ) (t u : TokenRecord) (us : List TokenRecord) → is_on_source_line id t.src_line u ≡ true → nat_lt t.src_col u.src_col ≡ true → src_end len id t (u ∷ us) ≡ u.src_col
src_end-found len id t u us e g = rw (take_while-cons (is_on_source_line id t.src_line) u us, e, g)

pub src_end-further : (len id : ℕ) (t u : TokenRecord) (us : List TokenRecord) → is_on_source_line id t.src_line u ≡ true → nat_lt t.src_col u.src_col ≡ false → src_end len id t (u ∷ us) ≡ src_end len id t us
src_end-further len id t u us e g = rw (take_while-cons (is_on_source_line id t.src_line) u us, e, g)
