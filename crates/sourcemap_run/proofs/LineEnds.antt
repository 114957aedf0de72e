-- The text of its positions.
use Rattle.std.proofs.Common.{◌≡◌, ℕ, List, Bool, true, false, cond, nat_lt, ◌<◌, ◌≤◌, length, Ok}
use Rattle.std.proofs.Common.{Err}
use Rattle.std.proofs.Common.{Result, arith, refl}
use Rattle.oxc_sourcemap_tokens.specs.declared.errors.error.Error.{Error}
use Rattle.oxc_sourcemap_tokens.specs.declared.errors.error.Error.TheVariants.{TooLarge}
use Rattle.oxc_sourcemap_text.specs.TextLines.{units_of}
use Rattle.oxc_sourcemap_text.specs.Positions.{in_size}
use Rattle.sourcemap_run.specs.Bundled.{IsInSize}

by_test : (b : Bool) (text t : List ℕ) → (let fault : Result (List ℕ) Error = Err TooLarge in cond b fault (Ok text) ≡ Ok t) → text ≡ t
by_test true text t e = cc
by_test false text t e = cc

pub sized : (text t : List ℕ) → in_size text ≡ Ok t → text ≡ t
unfolding in_size
sized text t e = by_test (nat_lt 4294967295 (length (units_of text))) text t e

fits_by : (b : Bool) (n : ℕ) (text t : List ℕ) → nat_lt 4294967295 n ≡ b → (let fault : Result (List ℕ) Error = Err TooLarge in cond b fault (Ok text) ≡ Ok t) → n ≤ 4294967295
fits_by true n text t p e = absurd cc
fits_by false n text t p e = grind (arith, p)

pub fits : (text t : List ℕ) → in_size text ≡ Ok t → IsInSize text
unfolding in_size
fits text t e = fits_by _ (length (units_of text)) text t refl e

too_large_by : (b : Bool) (n : ℕ) (text : List ℕ) (e : Error) → nat_lt 4294967295 n ≡ b → (let fault : Result (List ℕ) Error = Err TooLarge in cond b fault (Ok text) ≡ Err e) → (e ≡ TooLarge) × ¬ (n ≤ 4294967295)
too_large_by true n text e p h = (cc, λ le. grind (arith, p, le))
too_large_by false n text e p h = absurd cc

-- the one error of a text's size
pub size_error : (text : List ℕ) (e : Error) → in_size text ≡ Err e → (e ≡ TooLarge) × ¬ (IsInSize text)
unfolding in_size
size_error text e h = too_large_by _ (length (units_of text)) text e refl h

pub too_long : (text : List ℕ) (n : ℕ) → n ≡ length (units_of text) → 4294967295 < n → ¬ (IsInSize text)
too_long text n e h = λ le. omega (arith, e, h, le)
