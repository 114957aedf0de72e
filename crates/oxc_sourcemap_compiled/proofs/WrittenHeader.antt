-- The header of a compiled map: where its numbers lie, and what is read of it.
use Rattle.std.proofs.Common.{◌≡◌, ℕ, ◌+◌, ◌<◌, ◌≤◌, Bool, true, false, not, ◌==◌, List, [], ◌∷◌}
use Rattle.std.proofs.Common.{◌++◌, length, take, drop, refl, ap, ◌∙◌, arith, subst, append-nil}
use Rattle.std.proofs.Common.{length-append}
use Rattle.oxc_sourcemap_compiled.specs.Compiled.{bytes_of, table, flag_of, header_bytes}
use Rattle.oxc_sourcemap_compiled.specs.Numbers.{number_at}
use Rattle.oxc_sourcemap_compiled.specs.Layout.{header_in, AreCounts}
use Rattle.oxc_sourcemap_compiled.specs.declared.layout.Header.{Header}
use Rattle.oxc_sourcemap_compiled.proofs.Bytes.{bytes-length}
use Rattle.oxc_sourcemap_compiled.proofs.Parts.{LiesAt, lies-front, lies-next, lies-take}
use Rattle.oxc_sourcemap_compiled.proofs.ReadNumbers.{number-read, table-length, entry-read}

-- the numbers of a header that count something
abbrev counts_of : Header → List ℕ
counts_of h = h.tokens ∷ h.lines ∷ h.sources ∷ h.names ∷ h.ignored ∷ flag_of h.has_ignore_list ∷ flag_of h.has_line_numbers ∷ h.group_bytes ∷ []

header-is : (h : Header) (size text_length : ℕ) (stamp : List ℕ) → header_bytes h size text_length stamp
    ≡ bytes_of 4 1885433203 ++ (bytes_of 4 1 ++ (bytes_of 8 size ++ (bytes_of 8 text_length ++ (stamp ++ table (counts_of h)))))
header-is h size text_length stamp = simp append-nil

header-sum : (a b c d s t : List ℕ) → length (a ++ (b ++ (c ++ (d ++ (s ++ t))))) ≡ length a + (length b + (length c + (length d + (length s + length t))))
header-sum a b c d s t =
    omega (arith, length-append a (b ++ (c ++ (d ++ (s ++ t)))), length-append b (c ++ (d ++ (s ++ t))), length-append c (d ++ (s ++ t)), length-append d (s ++ t), length-append s t)

pub header-length : (h : Header) (size text_length : ℕ) (stamp : List ℕ) → length stamp ≡ 32 → length (header_bytes h size text_length stamp) ≡ 88
header-length h size text_length stamp long =
    let sum = header-sum (bytes_of 4 1885433203) (bytes_of 4 1) (bytes_of 8 size) (bytes_of 8 text_length) stamp (table (counts_of h)) in
    omega (arith, ap length (header-is h size text_length stamp), sum, bytes-length 4 1885433203, bytes-length 4 1, bytes-length 8 size, bytes-length 8 text_length, long, table-length (counts_of h))

-- headers with the same counts
same-header : {t t' l l' s s' n n' i i' g g' : ℕ} {a a' b b' : Bool} → t ≡ t' → l ≡ l' → s ≡ s' → n ≡ n' → i ≡ i' → a ≡ a' → b ≡ b' → g ≡ g'
    → ◌≡◌ {A = Header} (record { tokens = t; lines = l; sources = s; names = n; ignored = i; has_ignore_list = a; has_line_numbers = b; group_bytes = g })
    (record { tokens = t'; lines = l'; sources = s'; names = n'; ignored = i'; has_ignore_list = a'; has_line_numbers = b'; group_bytes = g' })
same-header {t} {t'} {l} {l'} {s} {s'} {n} {n'} {i} {i'} {g} {g'} {a} {a'} {b} {b'} et el es en ei ea eb eg =
    ap (λ x. record { tokens = x; lines = l; sources = s; names = n; ignored = i; has_ignore_list = a; has_line_numbers = b; group_bytes = g }) et
    ∙ ap (λ x. record { tokens = t'; lines = x; sources = s; names = n; ignored = i; has_ignore_list = a; has_line_numbers = b; group_bytes = g }) el
    ∙ ap (λ x. record { tokens = t'; lines = l'; sources = x; names = n; ignored = i; has_ignore_list = a; has_line_numbers = b; group_bytes = g }) es
    ∙ ap (λ x. record { tokens = t'; lines = l'; sources = s'; names = x; ignored = i; has_ignore_list = a; has_line_numbers = b; group_bytes = g }) en
    ∙ ap (λ x. record { tokens = t'; lines = l'; sources = s'; names = n'; ignored = x; has_ignore_list = a; has_line_numbers = b; group_bytes = g }) ei
    ∙ ap (λ x. record { tokens = t'; lines = l'; sources = s'; names = n'; ignored = i'; has_ignore_list = x; has_line_numbers = b; group_bytes = g }) ea
    ∙ ap (λ x. record { tokens = t'; lines = l'; sources = s'; names = n'; ignored = i'; has_ignore_list = a'; has_line_numbers = x; group_bytes = g }) eb
    ∙ ap (λ x. record { tokens = t'; lines = l'; sources = s'; names = n'; ignored = i'; has_ignore_list = a'; has_line_numbers = b'; group_bytes = x }) eg

flag-small : (b : Bool) → flag_of b ≤ 4294967295
flag-small true = omega arith
flag-small false = omega arith

flag-read : (b : Bool) → not (flag_of b == 0) ≡ b
flag-read true = refl
flag-read false = refl

-- What is read of bytes that begin with a header.
pub record HeaderRead (h : Header) (size text_length : ℕ) (stamp bytes : List ℕ) : Type 0 where
  pub magic : number_at 4 bytes 0 ≡ 1885433203
  pub version : number_at 4 bytes 4 ≡ 1
  pub says_size : number_at 8 bytes 8 ≡ size
  pub says_text_length : number_at 8 bytes 16 ≡ text_length
  pub says_stamp : take 32 (drop 24 bytes) ≡ stamp
  pub header : header_in bytes ≡ h

pub header-read : (h : Header) (size text_length : ℕ) (stamp bytes : List ℕ) → LiesAt 0 (header_bytes h size text_length stamp) bytes → AreCounts h → size < 18446744073709551616
    → text_length < 18446744073709551616 → length stamp ≡ 32 → HeaderRead h size text_length stamp bytes
unfolding header_in
header-read h size text_length stamp bytes lies counts small_size small_length long =
    let a = bytes_of 4 1885433203 in
    let b = bytes_of 4 1 in
    let c = bytes_of 8 size in
    let d = bytes_of 8 text_length in
    let t = table (counts_of h) in
    let h0 : LiesAt 0 (a ++ (b ++ (c ++ (d ++ (stamp ++ t))))) bytes = subst (λ part. LiesAt 0 part bytes) (header-is h size text_length stamp) lies in
    let h1 : LiesAt 4 (b ++ (c ++ (d ++ (stamp ++ t)))) bytes = lies-next 0 4 a (b ++ (c ++ (d ++ (stamp ++ t)))) bytes h0 (bytes-length 4 1885433203) in
    let h2 : LiesAt 8 (c ++ (d ++ (stamp ++ t))) bytes = lies-next 4 4 b (c ++ (d ++ (stamp ++ t))) bytes h1 (bytes-length 4 1) in
    let h3 : LiesAt 16 (d ++ (stamp ++ t)) bytes = lies-next 8 8 c (d ++ (stamp ++ t)) bytes h2 (bytes-length 8 size) in
    let h4 : LiesAt 24 (stamp ++ t) bytes = lies-next 16 8 d (stamp ++ t) bytes h3 (bytes-length 8 text_length) in
    let h5 : LiesAt 56 t bytes = lies-next 24 32 stamp t bytes h4 long in
    let xs = counts_of h in
    record {
      magic = number-read 4 1885433203 0 bytes (lies-front 0 a (b ++ (c ++ (d ++ (stamp ++ t)))) bytes h0) (omega arith);
      version = number-read 4 1 4 bytes (lies-front 4 b (c ++ (d ++ (stamp ++ t))) bytes h1) (omega arith);
      says_size = number-read 8 size 8 bytes (lies-front 8 c (d ++ (stamp ++ t)) bytes h2) small_size;
      says_text_length = number-read 8 text_length 16 bytes (lies-front 16 d (stamp ++ t) bytes h3) small_length;
      says_stamp = lies-take 24 32 stamp bytes (lies-front 24 stamp t bytes h4) long;
      header = same-header (entry-read 0 56 xs bytes h5 (omega arith) counts.tokens) (entry-read 1 56 xs bytes h5 (omega arith) counts.lines)
          (entry-read 2 56 xs bytes h5 (omega arith) counts.sources) (entry-read 3 56 xs bytes h5 (omega arith) counts.names) (entry-read 4 56 xs bytes h5 (omega arith) counts.ignored)
          (ap (λ n. not (n == 0)) (entry-read 5 56 xs bytes h5 (omega arith) (flag-small h.has_ignore_list)) ∙ flag-read h.has_ignore_list)
          (ap (λ n. not (n == 0)) (entry-read 6 56 xs bytes h5 (omega arith) (flag-small h.has_line_numbers)) ∙ flag-read h.has_line_numbers)
          (entry-read 7 56 xs bytes h5 (omega arith) counts.group_bytes);
    }
