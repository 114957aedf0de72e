-- Numbers as bytes.
use Rattle.std.proofs.Common.{◌≡◌, ℕ, zero, suc, ◌-◌, ◌/◌, ◌%◌, ◌<◌, [], ◌∷◌, length, arith, refl}
use Rattle.std.proofs.Common.{ap}
use Rattle.oxc_sourcemap_compiled.specs.Compiled.{bytes_of}

-- the lowest byte, and the others
pub bytes-more : (width n : ℕ) → 0 < width → bytes_of width n ≡ n % 256 ∷ bytes_of (width - 1) (n / 256)
unfolding bytes_of
bytes-more zero n h = absurd (omega (arith, h))
bytes-more (suc width) n h =
    let back : width ≡ suc width - 1 = omega arith in
    ap (λ w. n % 256 ∷ bytes_of w (n / 256)) back

pub bytes-none : (n : ℕ) → bytes_of 0 n ≡ []
unfolding bytes_of
bytes-none n = refl

pub bytes-length : (width n : ℕ) → length (bytes_of width n) ≡ width
unfolding bytes_of
bytes-length zero n = refl
bytes-length (suc width) n = ap suc (bytes-length width (n / 256))
